use Rattle.board_lock.proofs.Common.{arith, ◌∷◌, Some, ap, sym, ◌∙◌, rest}
use Rattle.board_lock.proofs.Keeps.{tries_as}
use Rattle.board_lock.proofs.lock.Lock.enter.Goals as goal

pub compare_exchange-found-requires : goal.compare_exchange-found-requires
compare_exchange-found-requires g c =
    let i = c.loop.invariant in
    let sized = c.self.invariant in
    (i.2 ∙ c.requires.0 ∙ sym c.self.view_is, omega (arith, sized.0), tries_as g.T.Rooted.root _ _ _ _ sized.1 (ap (λ m. m.1) i.3 ∙ c.requires.1) (ap (λ m. m.0.stage) i.3 ∙ c.requires.2))

pub exchange-requires : goal.exchange-requires
exchange-requires g c =
    let e = c.compare_exchange-found.ensures in
    let t = e.2.0 c.if-found-eq0.true in
    (e.0 ∙ c.loop.invariant.2 ∙ c.requires.0 ∙ sym c.self.view_is, (Some t.1.0, t.1.1 ∙ ap (λ l. (0, Some t.1.0) ∷ rest l) (sym t.1.1)))
