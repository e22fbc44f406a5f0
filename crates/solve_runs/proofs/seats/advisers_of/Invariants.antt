use Rattle.solve_runs.proofs.Common.{◌≡◌, ◌+◌, ◌++◌, map, vec_len, vec_capacity}
use Rattle.solve_runs.proofs.seats.advisers_of.Given as goal

abbrev pub invariant-loop-seats : goal.invariant-loop-seats
invariant-loop-seats g l = record {
  lens : vec_len l.seats + vec_len l.advisers ≡ vec_len l.initial.seats;
  moved : l.advisers.items ++ map (λ s. s.adviser) l.seats.items ≡ map (λ s. s.adviser) l.initial.seats.items;
  room : vec_capacity l.advisers ≡ vec_capacity l.initial.advisers;
}

abbrev pub decreases-loop-seats : goal.decreases-loop-seats
decreases-loop-seats g l = vec_len l.seats
