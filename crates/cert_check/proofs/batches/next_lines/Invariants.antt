use Rattle.cert_check.proofs.Common.{◌≡◌, ◌-◌, ◌≤◌, ◌++◌, length}
use Rattle.cert_check.proofs.batches.next_lines.Given as goal

abbrev pub invariant-loop-alloc : goal.invariant-loop-alloc
invariant-loop-alloc l = record {
  all : l.initial.reader ≡ l.batch.items ++ l.reader;
  few : length l.batch.items ≤ 2048;
}

abbrev pub decreases-loop-alloc : goal.decreases-loop-alloc
decreases-loop-alloc l = 2048 - length l.batch.items
