use Rattle.instance_warnings.proofs.Common.{◌≡◌, ◌++◌, drop, flat_map, parted}
use Rattle.instance_warnings.proofs.oddities.push_parts.Given as goal

abbrev pub invariant-loop-entry : goal.invariant-loop-entry
invariant-loop-entry l = l.list.items ++ flat_map (parted (l.number, l.kind)) (drop l.entry-index l.totals) ≡ l.fn.list.items ++ flat_map (parted (l.number, l.kind)) l.totals
