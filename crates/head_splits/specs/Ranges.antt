-- A table of the ranges that cuts leave to their classes.
use Rattle.std.specs.Prelude.{◌≡◌, ℕ, Bool, ◌&&◌, ◌==◌, List}
use Rattle.std.specs.Option.{unwrap_or}
use Rattle.indexmap.specs.IndexMap.{get}
use Rattle.break_rules.specs.Breaks.{same_list}
use Rattle.shift_instance.specs.Problem.{Problem}
use Rattle.head_splits.specs.declared.table.Place.{Place}
use Rattle.head_splits.specs.declared.table.RangeTable.{RangeTable}
use Rattle.head_splits.specs.declared.Class.{Class}
use Rattle.head_splits.specs.declared.Cut.{Cut}
use Rattle.head_splits.specs.Cuts.{low, high}
use Rattle.head_splits.specs.Settled.{class_of}

-- the class of a place
abbrev pub class_at : Place → Class
class_at p = class_of p.shift p.day p.prefix.items

-- whether two places are the same
abbrev pub same_place : Place → Place → Bool
same_place p q = (p.shift == q.shift) && ((p.day == q.day) && same_list p.prefix.items q.prefix.items)

-- the range that a table has at a place, and that of no cut where it has none
abbrev pub range_in : RangeTable → Place → ℕ × ℕ
range_in t p = unwrap_or (get same_place t.ranges p) (0, t.heads)

-- a table has at each place the range that cuts leave to its class
abbrev pub AreRanges : Problem → List Cut → RangeTable → Type 0
AreRanges i cuts t = (p : Place) → range_in t p ≡ (low cuts (class_at p), high i cuts (class_at p))
