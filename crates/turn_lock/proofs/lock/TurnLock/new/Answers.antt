use Rattle.turn_lock.proofs.Common.{rules}
use Rattle.turn_lock.proofs.Steps.{opens_as}
use Rattle.turn_lock.proofs.lock.TurnLock.new.Goals as goal

pub new-requires : goal.new-requires
new-requires g c = opens_as g.T.Passed.root g.T.Passed.passes _ c.args.value c.args.seats _ (search rules) (search rules) c.requires.no_passes c.requires.some_seats c.requires.sixteen
