use Rattle.search_core.proofs.Boards.{others_held, others_held_after}
use Rattle.search_core.proofs.laws.others_stay_held.Goals as goal

pub returns : goal.returns
returns c = record { posts = others_held; step = others_held_after }
