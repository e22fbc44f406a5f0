use Rattle.price_sums.proofs.Common.{◌≡◌, ◌+◌, ◌*◌, ◌<◌, ◌≤◌, ℕ, length, Some, slice_get, unsigned_abs, Rule, Shift, shift_list, slot_of, price_of, sum_at, price_in}
use Rattle.price_sums.proofs.sums.price_sums.Given as goal

abbrev pub invariant-loop : goal.invariant-loop
invariant-loop l = record {
  many : length l.sums.items ≡ l.counter + 1;
  last : l.sum ≡ sum_at l.sums.items l.counter;
  size : unsigned_abs l.sum ≤ 10000000000 * l.counter;
  sizes : (o : ℕ) → unsigned_abs (sum_at l.sums.items o) ≤ 10000000000 * 65536;
  inside : l.slot < length l.prices;
  slot : (x : Shift × Rule) → slice_get (shift_list l.instance) l.shift ≡ Some x → l.slot ≡ slot_of l.instance x.0 l.day l.counter;
  done : (x : Shift × Rule) → slice_get (shift_list l.instance) l.shift ≡ Some x → (o : ℕ) → o < l.counter → price_in l.sums.items o ≡ price_of l.prices (slot_of l.instance x.0 l.day o);
}
