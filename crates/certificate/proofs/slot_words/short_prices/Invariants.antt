use Rattle.certificate.proofs.Common.{length}
use Rattle.certificate.proofs.Short.{AreBefore}
use Rattle.certificate.proofs.slot_words.short_prices.Given as goal

abbrev pub invariant-loop-price : goal.invariant-loop-price
invariant-loop-price l = AreBefore l.text l.list.items l.rest

abbrev pub decreases-loop-price : goal.decreases-loop-price
decreases-loop-price l = length l.rest
