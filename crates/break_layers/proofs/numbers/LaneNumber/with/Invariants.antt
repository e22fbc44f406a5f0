use Rattle.break_layers.proofs.Common.{◌≡◌, ◌≢◌, ◌<◌, ◌+ℤ◌, ℕ, length, FitsSigned, w64, sum_at, NOTHING}
use Rattle.break_layers.proofs.numbers.LaneNumber.with.Given as goal

abbrev pub invariant-loop-k : goal.invariant-loop-k
invariant-loop-k l = record {
  many : length l.total ≡ 8;
  nothing : (day : ℕ) → day < l.k → sum_at l.self day ≡ NOTHING → sum_at l.total day ≡ NOTHING;
  done : (day : ℕ) → day < l.k → sum_at l.self day ≢ NOTHING → FitsSigned w64 (sum_at l.self day +ℤ sum_at l.sum day) → sum_at l.total day ≡ sum_at l.self day +ℤ sum_at l.sum day;
}
