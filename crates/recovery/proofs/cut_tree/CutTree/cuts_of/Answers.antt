use Rattle.recovery.proofs.Common.{◌≡◌, List, [], arith, rules, subst, Cut, cuts_at}
use Rattle.recovery.proofs.CutTrees.{root_is, whole_cuts}
use Rattle.recovery.proofs.cut_tree.CutTree.cuts_of.Goals as goal

pub returns-clause-cuts : goal.returns-clause-cuts
returns-clause-cuts c =
    let root : cuts_at c.args.self.now 0 ≡ [] = subst (λ (v : List (List Cut)). cuts_at v 0 ≡ []) c.self.view_is (root_is c.self.inside.divisions.items) in
    let none : c.loop-at.at ≡ 0 = omega arith in
    let whole = whole_cuts c.args.self.now c.args.node c.loop-at.at c.loop-at.list.items root none c.loop-at.invariant.cuts in
    search rules
