use Rattle.price_sums.proofs.Common.{◌≡◌, ◌<◌, ◌≤◌, ℕ, length, int_max, sum_at}
use Rattle.price_sums.proofs.lanes.raise_lane.Given as goal

abbrev pub invariant-loop-k : goal.invariant-loop-k
invariant-loop-k l = record {
  many : length l.most ≡ 8;
  done : (day : ℕ) → day < l.k → sum_at l.most day ≡ int_max (sum_at l.fn.most day) (sum_at l.a day);
  left : (day : ℕ) → l.k ≤ day → sum_at l.most day ≡ sum_at l.fn.most day;
}
