use Rattle.worker_gate.proofs.Common.{false, ◌≡◌, ◌<◌, ◌+◌, ◌++◌, ℕ, All, length, map, slice_index_or, vec_len, vec_capacity, root_of, IsOutside, HasBadge}
use Rattle.worker_gate.proofs.seating.seat_all.Given as goal

abbrev pub invariant-loop-seats : goal.invariant-loop-seats
invariant-loop-seats g l = record {
  first : IsOutside l.lock l.first;
  root : root_of l.first ≡ root_of l.initial.first;
  parts : l.all.parts + vec_len l.bench ≡ l.initial.all.parts;
  amount : l.all.amount ≡ 0;
  lens : vec_len l.bench + vec_len l.seats ≡ vec_len l.initial.seats;
  moved : map (λ p. p.seat) l.bench.items ++ l.seats.items ≡ l.initial.seats.items;
  numbers : (i : ℕ) (d : _) → i < length l.bench.items → (slice_index_or l.bench.items i d).number ≡ i;
  unasked : All (λ p. p.asked ≡ false) l.bench.items;
  rest : All (λ p. HasBadge l.lock (root_of l.initial.first) p.chair) l.bench.items;
  readers : vec_len l.readers ≡ vec_len l.seats;
  new : All (λ s. (s.told ≡ 0) × (s.share ≡ 0)) l.seats.items;
  room : vec_capacity l.bench ≡ vec_capacity l.initial.bench;
  kept : vec_capacity l.seats ≡ vec_capacity l.initial.seats;
}

abbrev pub decreases-loop-seats : goal.decreases-loop-seats
decreases-loop-seats g l = vec_len l.seats
