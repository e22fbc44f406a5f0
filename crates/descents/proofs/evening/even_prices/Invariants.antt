use Rattle.descents.proofs.Common.{◌≡◌, ◌≤◌, length, All, unsigned_abs}
use Rattle.descents.proofs.evening.even_prices.Given as goal

abbrev pub invariant-loop-t : goal.invariant-loop-t
invariant-loop-t l = record {
  count : length l.prices.items ≡ l.t;
  small : All (λ p. unsigned_abs p ≤ 10000000000) l.prices.items;
}
