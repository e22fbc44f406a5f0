use Rattle.short_slots.proofs.OneMore.{not_short}
use Rattle.short_slots.proofs.laws.no_slot_stays_short.Goals as goal

pub returns : goal.returns
returns c = not_short
