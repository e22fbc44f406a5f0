use Rattle.break_layers.proofs.Common.{◌≡◌, Bool, drop, Lunch, bits_of}
use Rattle.break_layers.proofs.sizes.has_time.Given as goal

abbrev pub invariant-loop-entry : goal.invariant-loop-entry
invariant-loop-entry l = record { left : (met : Lunch → Bool) → l.layer.lunches ≡ bits_of met l.entries → l.rest ≡ bits_of met (drop l.entry-index l.entries) }
