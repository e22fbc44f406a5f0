use Rattle.worker_gate.proofs.Common.{false, ◌≡◌, ◌<◌, ◌+◌, ◌++◌, ℕ, All, length, map, slice_index_or, vec_len, Some, vec_capacity, new_seats, HasTurns}
use Rattle.worker_gate.proofs.turn_seating.seat_turns.Given as goal

abbrev pub invariant-loop-seats : goal.invariant-loop-seats
invariant-loop-seats g l = record {
  made : l.made.items ≡ new_seats l.lock.name (Some l.root) (vec_len l.bench) (vec_len l.seats);
  many : vec_len l.made ≡ vec_len l.seats;
  given : vec_capacity l.made ≡ vec_capacity l.initial.made;
  parts : l.all.parts + vec_len l.bench ≡ l.initial.all.parts;
  amount : l.all.amount ≡ 0;
  lens : vec_len l.bench + vec_len l.seats ≡ vec_len l.initial.seats;
  moved : map (λ p. p.seat) l.bench.items ++ l.seats.items ≡ l.initial.seats.items;
  numbers : (i : ℕ) (d : _) → i < length l.bench.items → (slice_index_or l.bench.items i d).number ≡ i;
  unasked : All (λ p. p.asked ≡ false) l.bench.items;
  rest : All (λ p. HasTurns l.lock p.number l.root p.chair) l.bench.items;
  readers : vec_len l.readers ≡ vec_len l.seats;
  new : All (λ s. (s.told ≡ 0) × (s.share ≡ 0)) l.seats.items;
  room : vec_capacity l.bench ≡ vec_capacity l.initial.bench;
  kept : vec_capacity l.seats ≡ vec_capacity l.initial.seats;
}

abbrev pub decreases-loop-seats : goal.decreases-loop-seats
decreases-loop-seats g l = vec_len l.seats
