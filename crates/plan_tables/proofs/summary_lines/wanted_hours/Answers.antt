use Rattle.plan_tables.proofs.Common.{List, ℕ, codes, ◌++◌, cond, ap, sym, ◌∙◌, append_assoc, ne_eqb, IfOk-weaker, wanted_hours}
use Rattle.plan_tables.specs.Times.{hours_text, span_minutes, span_text}
use Rattle.plan_tables.proofs.summary_lines.wanted_hours.Goals as goal

pub returns-else-totals : goal.returns-else-totals
unfolding wanted_hours
returns-else-totals c =
    let i = c.args.instance.now in
    let t = c.args.totals.now in
    let one : List ℕ = span_text i t.wanted in
    let two : List ℕ = span_text i t.wanted ++ codes "-" ++ span_text i t.wanted_max in
    let range = append_assoc (hours_text c.of_slots-least.result.minutes) (codes "-") (hours_text c.of_slots-most.result.minutes) in
    IfOk-weaker c.format-else-totals.result _ _
    (λ text e.
    e ∙ sym range ∙ ap (λ (m : ℕ). hours_text m ++ codes "-" ++ hours_text c.of_slots-most.result.minutes) c.of_slots-least.ensures
    ∙ ap (λ (m : ℕ). hours_text (span_minutes i t.wanted) ++ codes "-" ++ hours_text m) c.of_slots-most.ensures
    ∙ sym (ap (λ (same : _). cond same one two) (ne_eqb t.wanted t.wanted_max c.if-totals.false)))
    c.format-else-totals.ensures.ok
