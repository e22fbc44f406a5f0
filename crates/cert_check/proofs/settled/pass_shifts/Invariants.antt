use Rattle.cert_check.proofs.Common.{None, flat_map, below, IsWalked, shift_duties}
use Rattle.cert_check.proofs.settled.pass_shifts.Given as goal

abbrev pub invariant-loop-shift : goal.invariant-loop-shift
invariant-loop-shift l = IsWalked l.instance l.cuts (flat_map (shift_duties l.instance) (below l.shift)) None l.fn.rows.items l.rows.items
