use Rattle.worker_gate.proofs.Common.{refl, subst, ◌∙◌}
use Rattle.worker_gate.proofs.News.{told_at}
use Rattle.worker_gate.proofs.worker.work.Goals as goal

pub returns-clause-last : goal.returns-clause-last
returns-clause-last g c =
    λ root rests.
    told_at g.B.Board.seen root (g.K.Taking.root c.sit-pass.result) c.args.place.now.number c.args.place.now.number c.args.place.now.seat.told c.rounds.new.place.seat.told
    ((goal.Adviser-dyn g (c.args.place.now.seat.adviser.vtable, c.args.place.now.seat.adviser.value)).last c.args.place.now.seat.adviser.value)
    ((goal.Adviser-dyn g (c.rounds.new.place.seat.adviser.vtable, c.rounds.new.place.seat.adviser.value)).last c.rounds.new.place.seat.adviser.value)
    (c.sit-pass.ensures.root c.args.place.now.number root rests) refl c.rounds.ensures.last

pub rise-requires : goal.rise-requires
rise-requires g c = record { outside = (c.args.place.now.number, c.rounds.ensures.pass) }

pub returns-clause-rests : goal.returns-clause-rests
returns-clause-rests g c =
    λ root rests.
    let back = c.rise.ensures c.args.place.now.number c.rounds.ensures.pass in
    subst (λ r. g.K.Taking.rests c.args.lock.now c.args.place.now.number r c.rise.new.chair) (c.rounds.ensures.root ∙ c.sit-pass.ensures.root c.args.place.now.number root rests) back
