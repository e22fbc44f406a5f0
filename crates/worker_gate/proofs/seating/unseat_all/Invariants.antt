use Rattle.worker_gate.proofs.Common.{◌≡◌, ◌+◌, ◌++◌, All, map, sum_by, vec_len, vec_capacity}
use Rattle.worker_gate.proofs.seating.unseat_all.Given as goal

abbrev pub invariant-loop-bench : goal.invariant-loop-bench
invariant-loop-bench g l = record {
  parts : l.all.parts + vec_len l.bench ≡ l.initial.all.parts + vec_len l.initial.bench;
  lens : vec_len l.bench + vec_len l.seats ≡ vec_len l.initial.bench;
  moved : l.seats.items ++ map (λ p. p.seat) l.bench.items ≡ map (λ p. p.seat) l.initial.bench.items;
  each : All (λ s. s.told ≡ s.share) l.seats.items;
  amount : l.all.amount ≡ l.initial.all.amount + sum_by (λ s. s.share) l.seats.items;
  room : vec_capacity l.seats ≡ vec_capacity l.initial.seats;
}

abbrev pub decreases-loop-bench : goal.decreases-loop-bench
decreases-loop-bench g l = vec_len l.bench
