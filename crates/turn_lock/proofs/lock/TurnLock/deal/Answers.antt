use Rattle.turn_lock.proofs.Common.{arith, ◌∷◌, [], ◌+◌, ◌-◌, ◌^◌, ap, sym, ◌∙◌, new_seats, dealer, first_of}
use Rattle.turn_lock.proofs.Seated.{dealt_on, dealt_outside, dealt_seen, last_seen, made_more, seen_at}
use Rattle.turn_lock.proofs.Steps.{deals_as}
use Rattle.turn_lock.proofs.lock.TurnLock.deal.Goals as goal

pub split_seat-seat-requires : goal.split_seat-seat-requires
split_seat-seat-requires g c =
    let i = c.loop-number.invariant in (
      i.lock ∙ c.requires.lock ∙ sym (ap (λ l. l.name) c.self.view_is),
      omega (arith, c.self.invariant.0),
      deals_as g.T.Passed.root g.T.Passed.passes _ _ _ _ c.args.first.me.0.root c.args.others c.loop-number.number (c.args.others - c.loop-number.number) (c.args.others - (c.loop-number.number + 1)) (ap (λ m. m.0) i.maker)
          (omega (arith, c.loop-number-test.true)),
    )

pub invariant_of-push_reserved : goal.invariant_of-push_reserved
invariant_of-push_reserved g c =
    dealt_outside c.args.first.me.0.root c.args.others c.loop-number.number (c.args.others - c.loop-number.number) (c.args.others - (c.loop-number.number + 1)) c.loop-number.first.me.0 _ (ap (λ m. m.0) c.loop-number.invariant.maker)
    (omega (arith, c.loop-number-test.true)) (c.into_badge.ensures.2 ∙ ap (λ m. m.0 ∷ []) c.split_seat-seat.ensures.4)

pub loop-number-preserved : goal.loop-number-preserved
loop-number-preserved g c =
    let i = c.loop-number.invariant in
    let s = c.split_seat-seat.ensures in
    let b = c.into_badge.ensures in
    let p = c.push_reserved.ensures in
    record {
      lock = s.0 ∙ i.lock;
      maker = s.2 ∙ ap (λ m. (dealer m.0, m.1)) i.maker
          ∙ ap (λ v. (v, [])) (dealt_on c.args.first.me.0.root c.args.others c.loop-number.number (c.args.others - c.loop-number.number) (c.loop-number.number + 1) (c.args.others - (c.loop-number.number + 1)) (omega arith) (omega (arith, c.loop-number-test.true)));
      made = made_more c.args.first.table_id c.args.first.me.0.root c.loop-number.number (c.loop-number.number + 1) _ _ _ (omega arith) i.made p.items
          (seen_at c.into_badge.result.table_id c.args.first.table_id c.loop-number.number (2 ^ 56) (first_of c.into_badge.result.views) (b.0 ∙ s.3 ∙ i.lock)
          ∙ dealt_seen c.args.first.table_id c.args.first.me.0.root c.args.others c.loop-number.number (c.args.others - c.loop-number.number) (c.args.others - (c.loop-number.number + 1)) c.loop-number.first.me.0 _ (ap (λ m. m.0) i.maker)
          (omega (arith, c.loop-number-test.true)) (b.2 ∙ ap (λ m. m.0 ∷ []) s.4));
      count = omega (arith, p.len, i.count);
      room = p.capacity ∙ i.room;
      within = omega (arith, c.loop-number-test.true);
    }

pub returns : goal.returns
returns g c =
    let i = c.loop-number.invariant in
    let b = c.into_badge-2.ensures in
    made_more c.args.self.now.name c.args.first.me.0.root c.args.others (c.args.others + 1) _ _ _ (omega arith)
    (i.made ∙ ap (λ k. new_seats c.args.first.table_id c.args.first.me.0.root 0 k) (omega (arith, c.loop-number-test.false, i.within)) ∙ ap (λ t. new_seats t c.args.first.me.0.root 0 c.args.others) c.requires.lock)
    c.push_reserved-2.ensures.items
    (seen_at c.into_badge-2.result.table_id c.args.self.now.name c.args.others (2 ^ 56) (first_of c.into_badge-2.result.views) (b.0 ∙ i.lock ∙ c.requires.lock)
    ∙ last_seen c.args.self.now.name c.args.first.me.0.root c.args.others c.loop-number.number (c.args.others - c.loop-number.number) c.loop-number.first.me.0 _ (ap (λ m. m.0) i.maker) (omega (arith, c.loop-number-test.false, i.within)) b.2)
