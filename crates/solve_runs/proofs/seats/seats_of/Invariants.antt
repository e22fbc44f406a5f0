use Rattle.solve_runs.proofs.Common.{◌≡◌, ◌+◌, ◌++◌, All, map, vec_len, vec_capacity}
use Rattle.solve_runs.proofs.seats.seats_of.Given as goal

abbrev pub invariant-loop-advisers : goal.invariant-loop-advisers
invariant-loop-advisers g l = record {
  lens : vec_len l.seats + vec_len l.advisers ≡ vec_len l.initial.advisers;
  moved : map (λ s. s.adviser) l.seats.items ++ l.advisers.items ≡ l.initial.advisers.items;
  new : All (λ s. (s.told ≡ 0) × (s.share ≡ 0)) l.seats.items;
  room : vec_capacity l.seats ≡ vec_capacity l.initial.seats;
  kept : vec_capacity l.advisers ≡ vec_capacity l.initial.advisers;
}

abbrev pub decreases-loop-advisers : goal.decreases-loop-advisers
decreases-loop-advisers g l = vec_len l.advisers
