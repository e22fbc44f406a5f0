use Rattle.worker_gate.proofs.Common.{◌≤◌, ◌-◌, vec_len, vec_capacity}
use Rattle.worker_gate.proofs.running.readers_of.Given as goal

abbrev pub invariant-loop-readers : goal.invariant-loop-readers
invariant-loop-readers g l = record {
  few : vec_len l.readers ≤ l.count;
  room : l.count ≤ vec_capacity l.readers;
}

abbrev pub decreases-loop-readers : goal.decreases-loop-readers
decreases-loop-readers g l = l.count - vec_len l.readers
