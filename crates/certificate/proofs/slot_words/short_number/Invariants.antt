use Rattle.certificate.proofs.Common.{◌≡◌, ◌++◌, ◌<◌, ◌^◌, length, decimal}
use Rattle.certificate.proofs.slot_words.short_number.Given as goal

abbrev pub invariant-loop-rest : goal.invariant-loop-rest
invariant-loop-rest l = record {
  spelled : l.text ≡ decimal l.number ++ l.rest;
  small : l.number < 10 ^ 18;
}

abbrev pub decreases-loop-rest : goal.decreases-loop-rest
decreases-loop-rest l = length l.rest
