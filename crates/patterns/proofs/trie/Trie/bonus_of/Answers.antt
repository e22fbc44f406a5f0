use Rattle.patterns.proofs.Common.{refl, ap, sym, ◌∙◌, ◌≤◌, arith, length, w128, to_z-of_z, take_all, bonus_of}
use Rattle.patterns.proofs.Additions.{sum_more, sum_fits, all_small}
use Rattle.patterns.proofs.trie.Trie.bonus_of.Goals as goal

pub overflow_add-sum : goal.overflow_add-sum
overflow_add-sum c =
    sum_fits c.args.self.now.entries c.args.self.now.additions c.args.list.now c.loop-end.end _ _ c.number_of-sum-in-loop-end.ensures.small c.loop-end-test.true c.loop-end.invariant
    (to_z-of_z w128 c.number_of-sum-in-loop-end.result (record { sfits = c.number_of-sum-in-loop-end.type_inv })) c.number_of-sum-in-loop-end.ensures.more

pub loop-end-init : goal.loop-end-init
loop-end-init c = to_z-of_z w128 c.number_of-sum.result (record { sfits = c.number_of-sum.type_inv }) ∙ sym (c.number_of-sum.ensures.empty refl)

pub loop-end-preserved : goal.loop-end-preserved
loop-end-preserved c =
    sum_more c.args.self.now.entries c.args.self.now.additions c.args.list.now c.loop-end.end _ _ c.number_of-sum-in-loop-end.ensures.small c.loop-end-test.true c.loop-end.invariant
    (to_z-of_z w128 c.number_of-sum-in-loop-end.result (record { sfits = c.number_of-sum-in-loop-end.type_inv })) c.number_of-sum-in-loop-end.ensures.more

pub returns-clause-sum : goal.returns-clause-sum
returns-clause-sum c =
    let all : length c.args.list.now ≤ c.loop-end.end = omega arith in
    c.loop-end.invariant ∙ ap (bonus_of c.args.self.now.entries) (take_all c.loop-end.end c.args.list.now all)

pub returns-clause-small : goal.returns-clause-small
returns-clause-small c = all_small c.args.self.now.entries c.args.self.now.additions _ _ c.number_of-sum.ensures.small c.loop-end.invariant
