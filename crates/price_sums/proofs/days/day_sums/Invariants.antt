use Rattle.price_sums.proofs.Common.{◌≡◌, ℕ, ◌+◌, ◌*◌, ◌%◌, ◌<◌, ◌≤◌, length, unsigned_abs, day_slots, slots, price_of, sum_at, price_in, sums_on}
use Rattle.price_sums.proofs.days.day_sums.Given as goal

abbrev pub invariant-loop : goal.invariant-loop
invariant-loop l = record {
  many : length l.lanes.items ≡ l.counter + 1;
  first : l.first ≡ l.counter % slots l.instance;
  last : (day : ℕ) → day < l.instance.days → sum_at l.last day ≡ sum_at (sums_on day l.lanes.items) l.counter;
  size : (day : ℕ) → day < l.instance.days → unsigned_abs (sum_at l.last day) ≤ 10000000000 * l.counter;
  sizes : (day : ℕ) → day < l.instance.days → (o : ℕ) → unsigned_abs (sum_at (sums_on day l.lanes.items) o) ≤ 10000000000 * 65536;
  done : (day : ℕ) → day < l.instance.days → (o : ℕ) → o < l.counter → price_in (sums_on day l.lanes.items) o ≡ price_of l.prices ((day * day_slots l.instance + o) % slots l.instance);
}
