use Rattle.search_core.proofs.Runs.{event_sound}
use Rattle.search_core.proofs.laws.events_keep_sound.Goals as goal

pub returns : goal.returns
returns c = event_sound
