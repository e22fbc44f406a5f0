use Rattle.search_core.proofs.Floors.{least_floor, floor_least, open_below}
use Rattle.search_core.proofs.laws.floor_is_least.Goals as goal

pub returns : goal.returns
returns c = record { least = least_floor; bound = floor_least; cheaper = open_below }
