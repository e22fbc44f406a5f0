use Rattle.short_cover.proofs.Common.{◌≡◌, ℕ, ◌<◌, length, IsSomeAnd, slice_get, IsLeastOn}
use Rattle.short_cover.proofs.least.least_covers.Given as goal

abbrev pub invariant-loop-day : goal.invariant-loop-day
invariant-loop-day l = record {
  count : length l.list.items ≡ l.day;
  each : (k : ℕ) → k < l.day → IsSomeAnd (slice_get l.list.items k) (IsLeastOn l.instance l.attendance.duties k);
}
