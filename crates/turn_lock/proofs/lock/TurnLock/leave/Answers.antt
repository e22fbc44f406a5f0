use Rattle.turn_lock.proofs.Common.{arith, ap, sym, ◌∙◌, rest}
use Rattle.turn_lock.proofs.Histories.{added}
use Rattle.turn_lock.proofs.Seated.{leave_adds}
use Rattle.turn_lock.proofs.Steps.{advances_as}
use Rattle.turn_lock.proofs.lock.TurnLock.leave.Goals as goal

pub fetch_add-requires : goal.fetch_add-requires
fetch_add-requires g c =
    let e = c.exchange-before.ensures in
    let sized = c.self.invariant in
    let inv = c.inside.invariant in
    let seen = c.inside.view_is in
    let new = added _ _ _ (leave_adds c.inside.inside.seat.me.0 _ _ _ _ _ seen inv.4 c.requires.passes) in (
      e.0 ∙ ap (λ s. s.lock) seen ∙ c.requires.lock ∙ sym (ap (λ l. l.name) c.self.view_is),
      omega (arith, sized.0),
      advances_as g.T.Passed.root g.T.Passed.passes _ _ _ _ _ _ c.args.turn.value _ new.0 sized.1 e.3 (ap rest inv.0) inv.1 inv.2 (ap (λ s. s.root) seen ∙ sym c.requires.root) new.1 new.2,
    )
