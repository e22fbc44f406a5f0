use Rattle.turn_lock.proofs.Common.{arith, ◌∷◌, Some, ap, sym, ◌∙◌, rest, first_of}
use Rattle.turn_lock.proofs.Steps.{draws_as, looks_as}
use Rattle.turn_lock.proofs.lock.TurnLock.enter.Goals as goal

pub fetch_add-ticket-requires : goal.fetch_add-ticket-requires
fetch_add-ticket-requires g c =
    let sized = c.self.invariant in
    let inv = c.seat.invariant in
    let f = c.into_seat-place.ensures in
    let same = ap first_of f.2 in (
      f.0 ∙ ap (λ s. s.lock) c.seat.view_is ∙ c.requires.lock ∙ sym (ap (λ l. l.name) c.self.view_is),
      omega (arith, sized.0),
      draws_as g.T.Passed.root g.T.Passed.passes _ _ _ _ _ sized.1 f.3 (ap (λ v. v.kind) (sym same) ∙ inv.1) (ap (λ v. v.stage) (sym same) ∙ inv.2)
          (omega (arith, ap (λ v. v.left) same, inv.5, ap (λ s. s.left) c.seat.view_is, c.requires.turns)),
    )

pub load-served-requires : goal.load-served-requires
load-served-requires g c =
    let sized = c.self.invariant in
    let inv = c.seat.invariant in
    let i = c.loop.invariant in
    let f = c.into_seat-place.ensures in
    let same = ap first_of f.2 in
    let drew = c.fetch_add-ticket.ensures in
    let m = i.same ∙ drew.2 in (
      i.lock ∙ drew.0 ∙ f.0 ∙ ap (λ s. s.lock) c.seat.view_is ∙ c.requires.lock ∙ sym (ap (λ l. l.name) c.self.view_is),
      omega (arith, sized.0),
      looks_as g.T.Passed.root g.T.Passed.passes _ _ _ _ _ sized.1 (ap (λ x. x.1) m) (ap (λ x. x.0.kind) m ∙ ap (λ v. v.kind) (sym same) ∙ inv.1) (ap (λ x. x.0.stage) m),
    )

pub exchange-requires : goal.exchange-requires
exchange-requires g c =
    let i = c.loop.invariant in
    let f = c.into_seat-place.ensures in
    let drew = c.fetch_add-ticket.ensures in
    let m = i.same ∙ drew.2 in
    let e = c.load-served.ensures in
    let t = e.2.0 (c.if-served-ticket.true ∙ sym (ap (λ x. x.0.ticket) m)) in
    let out = ap (λ x. x.1) t.1 in (
      e.0 ∙ i.lock ∙ drew.0 ∙ f.0 ∙ ap (λ s. s.lock) c.seat.view_is ∙ c.requires.lock ∙ sym (ap (λ l. l.name) c.self.view_is),
      (Some t.0, out ∙ ap (λ l. (0, Some t.0) ∷ rest l) (sym out)),
    )
