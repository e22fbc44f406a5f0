use Rattle.price_sums.proofs.Common.{◌≡◌, ℕ, ◌+◌, ◌*◌, ◌%◌, ◌<◌, ◌+ℤ◌, length, price_of, sum_at}
use Rattle.price_sums.proofs.days.next_lane.Given as goal

abbrev pub invariant-loop-day : goal.invariant-loop-day
invariant-loop-day l = record {
  many : length l.next ≡ 8;
  inside : l.slot < length l.prices;
  slot : l.slot ≡ (l.day * l.day_slots + l.first) % length l.prices;
  done : (day : ℕ) → day < l.day → sum_at l.next day ≡ sum_at l.last day +ℤ price_of l.prices ((day * l.day_slots + l.first) % length l.prices);
}
