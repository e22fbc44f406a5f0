use Rattle.instance_warnings.proofs.Common.{◌≡◌, ◌++◌, drop, flat_map, odd_lunch}
use Rattle.instance_warnings.proofs.oddities.push_lunches.Given as goal

abbrev pub invariant-loop-lunch : goal.invariant-loop-lunch
invariant-loop-lunch l = l.list.items ++ flat_map (odd_lunch l.kinds (l.number, l.kind)) (drop l.lunch-index l.lunches) ≡ l.fn.list.items ++ flat_map (odd_lunch l.kinds (l.number, l.kind)) l.lunches
