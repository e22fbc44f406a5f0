use Rattle.certificate.proofs.Common.{length, break_in}
use Rattle.certificate.proofs.Loops.{Lists}
use Rattle.certificate.proofs.words.break_list.Given as goal

abbrev pub invariant-loop-word : goal.invariant-loop-word
invariant-loop-word l = Lists break_in l.text l.list.items l.rest

abbrev pub decreases-loop-word : goal.decreases-loop-word
decreases-loop-word l = length l.rest
