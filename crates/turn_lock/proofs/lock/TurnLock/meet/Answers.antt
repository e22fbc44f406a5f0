use Rattle.turn_lock.proofs.Common.{arith, ap, sym, ◌∙◌, first_of, hears}
use Rattle.turn_lock.proofs.Steps.{compares_as, joins_as, notes}
use Rattle.turn_lock.proofs.lock.TurnLock.meet.Goals as goal

pub split_seat-note-requires : goal.split_seat-note-requires
split_seat-note-requires g c =
    let f = c.into_seat-first.ensures in
    let same = ap first_of f.2 in (
      f.0 ∙ ap (λ s. s.lock) c.a.view_is ∙ c.requires.first ∙ sym (ap (λ l. l.name) c.self.view_is),
      omega (arith, c.self.invariant.0),
      notes g.T.Passed.root g.T.Passed.passes _ _ _ _ (ap (λ v. v.kind) (sym same) ∙ c.a.invariant.1),
    )

pub join_seat-requires : goal.join_seat-requires
join_seat-requires g c =
    let f = c.into_seat-first.ensures in
    let h = c.into_seat-second.ensures in
    let same = ap first_of h.2 in
    let n = c.split_seat-note.ensures in (
      h.0 ∙ ap (λ s. s.lock) c.b.view_is ∙ c.requires.second ∙ sym (ap (λ l. l.name) c.self.view_is),
      n.3 ∙ f.0 ∙ ap (λ s. s.lock) c.a.view_is ∙ c.requires.first ∙ sym (ap (λ l. l.name) c.self.view_is),
      ap (λ m. m.1) n.4,
      omega (arith, c.self.invariant.0),
      joins_as g.T.Passed.root g.T.Passed.passes _ _ _ _ _ _ c.into_seat-first.result.me.0 (ap (λ v. v.kind) (sym same) ∙ c.b.invariant.1) (ap (λ v. v.stage) (sym same) ∙ c.b.invariant.2) (ap (λ m. m.0) n.4),
    )

pub load-requires : goal.load-requires
load-requires g c =
    let h = c.into_seat-second.ensures in
    let same = ap first_of h.2 in
    let j = c.join_seat.ensures in
    let both = hears c.into_seat-second.result.me.0 c.split_seat-note.result.me.0 in
    let sized = c.self.invariant in (
      j.0 ∙ h.0 ∙ ap (λ s. s.lock) c.b.view_is ∙ c.requires.second ∙ sym (ap (λ l. l.name) c.self.view_is),
      omega (arith, sized.0),
      compares_as g.T.Passed.root g.T.Passed.passes _ _ _ _ _ both sized.1 (j.2 ∙ ap (λ l. (both, l)) h.3) (ap (λ v. v.kind) (sym same) ∙ c.b.invariant.1) (ap (λ v. v.stage) (sym same) ∙ c.b.invariant.2),
    )
