use Rattle.instance_tables.proofs.Common.{◌≡◌, ◌++◌, take, flat_map, type_row}
use Rattle.instance_tables.proofs.export.with_types.Given as goal

abbrev pub invariant-loop-kind : goal.invariant-loop-kind
invariant-loop-kind l = l.records ≡ l.fn.records ++ flat_map (type_row l.slot_minutes) (take l.kind-index l.kinds)
