-- What settling the cuts of a node gives.
use Rattle.std.specs.Prelude.{◌≡◌, ⊤, ◌+◌, ◌/◌, ◌<◌, ◌≤◌, List, Some, IsTrue, IsFalse}
use Rattle.shift_instance.specs.Problem.{Problem}
use Rattle.head_splits.specs.declared.Cut.{Cut}
use Rattle.head_splits.specs.Cuts.{low, high}
use Rattle.head_splits.specs.Settled.{is_live_class, is_settled, split_class}
use Rattle.dual_bound.specs.Settling.{IsSettledNode}
use Rattle.dual_bound.specs.declared.settling.Fixing.{Fixing}
use Rattle.dual_bound.specs.declared.settling.Fixing.TheVariants.{Open, Done}

-- a node that isn't settled has its class to split and the number by which; a settled one is sealed
abbrev pub IsFixing : Problem → List Cut → Fixing → Type 0
IsFixing i cuts (Open class m) = IsFalse (is_settled i cuts) × (split_class i cuts ≡ Some class) × (m ≡ (low cuts class + high i cuts class) / 2)
IsFixing i cuts (Done node) = (node.instance ≡ i) × (node.cuts ≡ cuts) × IsSettledNode node

-- the class to split is live, and the number by which is in its range and less than the greatest there
abbrev pub SplitsLive : Problem → List Cut → Fixing → Type 0
SplitsLive i cuts (Open class m) = IsTrue (is_live_class i class) × (low cuts class ≤ m) × (m < high i cuts class)
SplitsLive i cuts (Done node) = ⊤
