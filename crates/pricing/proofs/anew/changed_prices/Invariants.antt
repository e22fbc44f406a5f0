use Rattle.pricing.proofs.Common.{◌≡◌, take, repriced}
use Rattle.pricing.proofs.anew.changed_prices.Given as goal

abbrev pub invariant-loop-slot : goal.invariant-loop-slot
invariant-loop-slot l = l.list.items ≡ repriced l.prices (take l.slot-index l.changes)
