-- What a look at a node finds: the class to split, or what its cuts leave.
use Rattle.std.specs.Prelude.{◌≡◌, ◌+◌, ◌/◌, List, Some, IsTrue, IsFalse}
use Rattle.shift_instance.specs.Problem.{Problem}
use Rattle.head_splits.specs.declared.Cut.{Cut}
use Rattle.head_splits.specs.declared.Settle.{Settle}
use Rattle.head_splits.specs.declared.Settle.TheVariants.{Unsettled, Plan, Empty}
use Rattle.head_splits.specs.Cuts.{low, high}
use Rattle.head_splits.specs.Settled.{is_settled, is_empty, split_class, settled_rows}

-- a node that isn't settled has its class to split and the number by which; a settled one has its plan, or it is empty
abbrev pub IsSettle : Problem → List Cut → Settle → Type 0
IsSettle i cuts (Unsettled class m) = IsFalse (is_settled i cuts) × (split_class i cuts ≡ Some class) × (m ≡ (low cuts class + high i cuts class) / 2)
IsSettle i cuts (Plan rows) = IsTrue (is_settled i cuts) × IsFalse (is_empty i cuts) × (rows ≡ settled_rows i cuts)
IsSettle i cuts Empty = IsTrue (is_settled i cuts) × IsTrue (is_empty i cuts)
