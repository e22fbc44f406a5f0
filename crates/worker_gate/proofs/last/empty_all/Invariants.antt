use Rattle.worker_gate.proofs.Common.{◌≡◌, ◌<◌, ◌+◌, ◌^◌, ℕ, None, length, slice_index_or, hand, root_at, IsToldLast}
use Rattle.worker_gate.proofs.last.empty_all.Given as goal

abbrev pub invariant-loop-place : goal.invariant-loop-place
invariant-loop-place g l = record {
  root : root_at l.noted.held.opened l.noted.held.workers ≡ root_at l.initial.noted.held.opened l.initial.noted.held.workers;
  passed : (g.B.Board.seen l.noted.held.board).shut ≡ None → (w : ℕ) → w < l.place-index → hand (g.B.Board.seen l.noted.held.board).hands w ≡ None;
  buffers : l.buffers ≡ l.initial.buffers;
  keeps : l.noted.keeps ≡ l.initial.noted.keeps;
  numbers : (i : ℕ) (d : _) → i < length l.bench → (slice_index_or l.bench i d).number ≡ i;
  told : (i : ℕ) (d : _) → i < length l.bench
      → (goal.Adviser-dyn g ((slice_index_or l.initial.bench i d).seat.adviser.vtable, (slice_index_or l.initial.bench i d).seat.adviser.value)).told (slice_index_or l.initial.bench i d).seat.adviser.value < 2 ^ 63 + (slice_index_or l.initial.bench i d).seat.told
      → (goal.Adviser-dyn g ((slice_index_or l.bench i d).seat.adviser.vtable, (slice_index_or l.bench i d).seat.adviser.value)).told (slice_index_or l.bench i d).seat.adviser.value + (slice_index_or l.initial.bench i d).seat.told
      ≡ (goal.Adviser-dyn g ((slice_index_or l.initial.bench i d).seat.adviser.vtable, (slice_index_or l.initial.bench i d).seat.adviser.value)).told (slice_index_or l.initial.bench i d).seat.adviser.value + (slice_index_or l.bench i d).seat.told;
  last : (i : ℕ) (d : _) → i < length l.bench
      → IsToldLast l.initial.noted.held.workers (g.B.Board.seen l.initial.noted.held.opened.value) i (slice_index_or l.initial.bench i d).seat.told (slice_index_or l.bench i d).seat.told
      ((goal.Adviser-dyn g ((slice_index_or l.initial.bench i d).seat.adviser.vtable, (slice_index_or l.initial.bench i d).seat.adviser.value)).last (slice_index_or l.initial.bench i d).seat.adviser.value)
      ((goal.Adviser-dyn g ((slice_index_or l.bench i d).seat.adviser.vtable, (slice_index_or l.bench i d).seat.adviser.value)).last (slice_index_or l.bench i d).seat.adviser.value);
}
