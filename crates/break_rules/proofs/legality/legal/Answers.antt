use Rattle.break_rules.proofs.Common.{sym, ◌∙◌, and_left, at_drop_more, at_drop_all, is_walk_from}
use Rattle.break_rules.proofs.Walk.{not_legal, legal_by_end}
use Rattle.break_rules.proofs.legality.legal.Goals as goal

pub returns-then-not-follows : goal.returns-then-not-follows
returns-then-not-follows c =
    let walk = is_walk_from c.args.rule.now c.args.len c.loop-b.offset c.loop-b.used in
    sym (not_legal c.args.rule.now c.args.len c.args.list.now
    (sym c.loop-b.invariant.walk ∙ at_drop_more walk c.args.list.now c.loop-b.b-index (record { start = 0; len = 0 }) c.loop-b-test.true
    ∙ and_left _ _ (sym c.follows.ensures ∙ c.if-not-follows.true)))

pub returns : goal.returns
returns c =
    c.may_finish.ensures ∙ sym (legal_by_end c.args.rule.now c.args.len c.args.list.now
    (sym c.loop-b.invariant.walk ∙ at_drop_all (is_walk_from c.args.rule.now c.args.len c.loop-b.offset c.loop-b.used) c.args.list.now c.loop-b.b-index c.loop-b-test.false))
