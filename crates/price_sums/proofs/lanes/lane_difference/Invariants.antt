use Rattle.price_sums.proofs.Common.{◌≡◌, ◌<◌, ◌-ℤ◌, ℕ, length, FitsSigned, w64, sum_at}
use Rattle.price_sums.proofs.lanes.lane_difference.Given as goal

abbrev pub invariant-loop-k : goal.invariant-loop-k
invariant-loop-k l = record {
  many : length l.less ≡ 8;
  done : (day : ℕ) → day < l.k → FitsSigned w64 (sum_at l.a day -ℤ sum_at l.b day) → sum_at l.less day ≡ sum_at l.a day -ℤ sum_at l.b day;
}
