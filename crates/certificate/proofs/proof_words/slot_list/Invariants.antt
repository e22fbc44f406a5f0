use Rattle.certificate.proofs.Common.{length, slot_price_in}
use Rattle.certificate.proofs.Loops.{Lists}
use Rattle.certificate.proofs.proof_words.slot_list.Given as goal

abbrev pub invariant-loop-word : goal.invariant-loop-word
invariant-loop-word l = Lists slot_price_in l.text l.list.items l.rest

abbrev pub decreases-loop-word : goal.decreases-loop-word
decreases-loop-word l = length l.rest
