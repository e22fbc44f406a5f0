use Rattle.plan_tables.proofs.Common.{List, ℕ, codes, ◌++◌, cond, ap, sym, ◌∙◌, append_assoc, decimal, ne_eqb, IfOk-weaker, wanted_employees}
use Rattle.plan_tables.proofs.summary_lines.wanted_employees.Goals as goal

pub returns-else-least-most : goal.returns-else-least-most
unfolding wanted_employees
returns-else-least-most c =
    let s = c.args.slot.now in
    let one : List ℕ = decimal s.wanted in
    let two : List ℕ = decimal s.wanted ++ codes "-" ++ decimal s.wanted_max in
    let range = append_assoc (decimal s.wanted) (codes "-") (decimal s.wanted_max) in
    IfOk-weaker c.format-else-least-most.result _ _ (λ text e. e ∙ sym range ∙ sym (ap (λ (same : _). cond same one two) (ne_eqb s.wanted s.wanted_max c.if-least-most.false))) c.format-else-least-most.ensures.ok
