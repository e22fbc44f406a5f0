use Rattle.search_core.proofs.Origins.{opened_begins, opened_crash, opened_sound}
use Rattle.search_core.proofs.laws.runs_begin_at_any_posts.Goals as goal

pub returns : goal.returns
returns c = record { sound = opened_sound; begins = opened_begins; crash = opened_crash }
