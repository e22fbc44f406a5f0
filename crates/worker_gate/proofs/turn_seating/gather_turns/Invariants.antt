use Rattle.worker_gate.proofs.Common.{◌≡◌, ◌<◌, ◌≤◌, ℕ, All, Some, length, slice_index_or, vec_len, vec_capacity, HasTurns}
use Rattle.worker_gate.proofs.turn_seating.gather_turns.Given as goal

abbrev pub invariant-loop-place : goal.invariant-loop-place
invariant-loop-place g l = record {
  count : vec_len l.made ≡ l.place-index;
  room : vec_capacity l.made ≡ vec_capacity l.initial.made;
  lock : All (λ s. s.lock ≡ l.lock.name) l.made.items;
  root : All (λ s. s.root ≡ Some l.root) l.made.items;
  there : (i : ℕ) (d : _) → i < length l.bench → l.place-index ≤ i → HasTurns l.lock (slice_index_or l.bench i d).number l.root (slice_index_or l.bench i d).chair;
  seats : (i : ℕ) (d : _) → i < length l.bench → (slice_index_or l.bench i d).seat ≡ (slice_index_or l.initial.bench i d).seat;
  numbers : (i : ℕ) (d : _) → i < length l.bench → (slice_index_or l.bench i d).number ≡ (slice_index_or l.initial.bench i d).number;
  asked : (i : ℕ) (d : _) → i < length l.bench → (slice_index_or l.bench i d).asked ≡ (slice_index_or l.initial.bench i d).asked;
}
