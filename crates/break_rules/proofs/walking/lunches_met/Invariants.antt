use Rattle.break_rules.proofs.Common.{◌≡◌, ◌<◌, ◌^◌, take, is_lunch, bits_of}
use Rattle.break_rules.proofs.walking.lunches_met.Given as goal

abbrev pub invariant-loop-entry : goal.invariant-loop-entry
invariant-loop-entry l = record {
  bit : l.bit ≡ 2 ^ l.entry-index;
  small : l.bits < l.bit;
  bits : l.bits ≡ bits_of (λ e. is_lunch e l.b) (take l.entry-index l.entries);
}
