use Rattle.std.proofs.Common.{◌≡◌, ℕ, ◌<◌, length}
use Rattle.std.specs.Prelude.{IsSomeAnd, slice_get}
use Rattle.rule_sentences.specs.Needs.{IsNeedOn}
use Rattle.rule_sentences.proofs.needs.day_needs.Given as goal

abbrev pub invariant-loop-day : goal.invariant-loop-day
invariant-loop-day l = record {
  count : length l.list.items ≡ l.day;
  each : (k : ℕ) → k < l.day → IsSomeAnd (slice_get l.list.items k) (IsNeedOn l.instance k);
}
