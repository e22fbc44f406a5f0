use Rattle.worker_gate.proofs.Common.{Some, refl}
use Rattle.worker_gate.proofs.turn_seating.seat_turn.Goals as goal

pub returns-clause-rests : goal.returns-clause-rests
returns-clause-rests g c = (record { seat = Some c.args.turns; root = c.of.result }, refl, (c.args.turns, refl, c.requires.lock, c.requires.same, c.requires.root), c.of.ensures)
