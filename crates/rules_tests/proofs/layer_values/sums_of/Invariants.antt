use Rattle.std.proofs.Common.{◌≡◌, ◌+◌, ◌*◌, ◌<◌, ◌≤◌, ℕ, length}
use Rattle.std.specs.Int.RustNames.{unsigned_abs}
use Rattle.price_sums.specs.Along.{sum_at, price_in}
use Rattle.rules_tests.proofs.layer_values.sums_of.Given as goal

abbrev pub invariant-loop-offset : goal.invariant-loop-offset
invariant-loop-offset l = record {
  many : length l.sums.items ≡ l.offset + 1;
  last : l.sum ≡ sum_at l.sums.items l.offset;
  size : unsigned_abs l.sum ≤ 10000000000 * l.offset;
  sizes : (o : ℕ) → unsigned_abs (sum_at l.sums.items o) ≤ 10000000000 * 65536;
  small : (o : ℕ) → o < l.offset → unsigned_abs (price_in l.sums.items o) ≤ 10000000000;
}
