use Rattle.break_rules.proofs.Common.{sym, ◌∙◌}
use Rattle.break_rules.proofs.Reaching.{live_legal, live_by_first}
use Rattle.break_rules.proofs.living.leads_on.Goals as goal

pub returns-then-ends : goal.returns-then-ends
returns-then-ends c = λ list walk is.
    c.if-ends.true ∙ sym (live_legal c.args.rule.now c.args.len list (sym (c.ends.ensures list walk is) ∙ c.if-ends.true))

pub returns-else-ends : goal.returns-else-ends
returns-else-ends c = λ list walk is.
    c.is_some.ensures ∙ sym (live_by_first c.args.rule.now c.args.len list c.args.spot c.first_live.result is (sym (c.ends.ensures list walk is) ∙ c.if-ends.false) (c.first_live.ensures list walk is))
