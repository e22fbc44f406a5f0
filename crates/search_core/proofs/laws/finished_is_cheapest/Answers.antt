use Rattle.search_core.proofs.Floors.{finished_best, finished_closed}
use Rattle.search_core.proofs.laws.finished_is_cheapest.Goals as goal

pub returns : goal.returns
returns c = record { cheapest = finished_best; floor = finished_closed }
