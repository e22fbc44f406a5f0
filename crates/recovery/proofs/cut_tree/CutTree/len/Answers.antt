use Rattle.recovery.proofs.Common.{List, length, ap, arith, Cut}
use Rattle.recovery.proofs.CutTrees.{count_is}
use Rattle.recovery.proofs.cut_tree.CutTree.len.Goals as goal

pub returns : goal.returns
returns c = omega (arith, count_is c.self.inside.divisions.items, ap (λ (l : List (List Cut)). length l) c.self.view_is)
