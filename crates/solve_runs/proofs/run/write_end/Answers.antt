use Rattle.solve_runs.proofs.Common.{◌∙◌, inl, inr, sym, false≢true}
use Rattle.solve_runs.proofs.run.write_end.Goals as goal

pub returns-then-not-is_reported-clause-status : goal.returns-then-not-is_reported-clause-status
returns-then-not-is_reported-clause-status g c =
    let none = sym c.is_reported.ensures ∙ c.if-not-is_reported.true in
    inl (c.status_at.ensures, λ some. absurd (false≢true (sym none ∙ some)))

pub returns-in-Ok-clause-status : goal.returns-in-Ok-clause-status
returns-in-Ok-clause-status g c = inl (c.status_at-in-Ok.ensures, λ some. c.in-Ok.ensures.ok)

pub returns-in-Err-clause-status : goal.returns-in-Err-clause-status
returns-in-Err-clause-status g c =
    let some = sym c.is_reported.ensures ∙ c.if-not-is_reported.false in
    inr (some, c.in-Err.ensures.err)
