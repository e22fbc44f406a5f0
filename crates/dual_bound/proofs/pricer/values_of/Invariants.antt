use Rattle.dual_bound.proofs.Common.{◌≡◌, ◌<◌, ℕ, pos, length, get_or, best_at}
use Rattle.dual_bound.proofs.pricer.values_of.Given as goal

abbrev pub invariant-loop-day : goal.invariant-loop-day
invariant-loop-day l = record {
  many : length l.values ≡ 8;
  done : (day : ℕ) → day < l.day → get_or l.values day (pos 0) ≡ (best_at l.bests day).1;
}
