use Rattle.break_rules.proofs.Common.{refl}
use Rattle.break_rules.proofs.NextLaws.{walk_step}
use Rattle.break_rules.proofs.Walk.{legal_is_walk}
use Rattle.break_rules.proofs.laws.walks_reach_the_legal_lists.Goals as goal

pub returns : goal.returns
returns c = record { opening = λ rule len. refl; step = walk_step; legal = legal_is_walk }
