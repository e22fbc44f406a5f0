use Rattle.shift_instance.proofs.Common.{◌≡◌, ◌≤◌, ◌+◌, ◌*◌, ◌^◌, drop, length, enumerate_from, flat_map, shifts_of_kind}
use Rattle.shift_instance.proofs.judging.count_shifts.Given as goal

abbrev pub invariant-loop-kind : goal.invariant-loop-kind
invariant-loop-kind l = record {
  total : l.count + length (flat_map shifts_of_kind (enumerate_from l.kind-index (drop l.kind-index l.kinds))) ≡ length (flat_map shifts_of_kind (enumerate_from 0 l.kinds));
  few : l.count ≤ l.kind-index * 2 ^ 32;
}
