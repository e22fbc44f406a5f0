use Rattle.planning_runs.proofs.Common.{List, ℕ, subst, sym, Spells, written}
use Rattle.planning_runs.proofs.judging.report_of.Goals as goal

pub returns : goal.returns
returns c =
    let cert = c.args.cert.now in
    subst (λ (bytes : List ℕ). Spells bytes cert) (sym c.in_ok-text.ensures.text) (written cert c.in_ok-text.ensures.has)
