use Rattle.worker_gate.proofs.Common.{◌∙◌, refl}
use Rattle.worker_gate.proofs.seating.seat_one.Goals as goal

pub returns-clause-rests : goal.returns-clause-rests
returns-clause-rests g c =
    let seat = c.another-pass.ensures.new_seat in
    (c.into_badge.result, refl, (c.into_badge.ensures.0 ∙ seat.0, (c.another-pass.result.me.0, c.into_badge.ensures.2, seat.2, c.another-pass.ensures.new_root)))
