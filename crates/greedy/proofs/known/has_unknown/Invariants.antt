use Rattle.greedy.proofs.Common.{◌≡◌, ◌<◌, ℕ, get_or, true, None, is_some}
use Rattle.greedy.proofs.known.has_unknown.Given as goal

abbrev pub invariant-loop-day : goal.invariant-loop-day
invariant-loop-day l = (day : ℕ) → day < l.day → is_some (get_or l.known day None) ≡ true
