use Rattle.turn_lock.proofs.Common.{arith, ◌++◌, ap, sym, ◌∙◌, option_to_list, first_of}
use Rattle.turn_lock.proofs.Closing.{closed_all, never_empty, nothing_left}
use Rattle.turn_lock.proofs.Seated.{agree_known, agree_mine, agree_root, gather_first, gather_next_as, part_is, popped_lock}
use Rattle.turn_lock.proofs.Steps.{gathers_in}
use Rattle.turn_lock.proofs.lock.TurnLock.close.Goals as goal

pub loop-seat-init : goal.loop-seat-init
loop-seat-init g c =
    let f = c.into_seat-all.ensures in
    let inv = c.last.invariant in
    let same = ap first_of f.2 in
    let order = c.pop.ensures.items ∙ ap (λ r. c.pop.new.self.items ++ option_to_list r) c.in-Some.is in
    record {
      lock = f.0 ∙ ap (λ s. s.lock) c.last.view_is ∙ popped_lock c.args.self.name c.args.seats.items c.pop.new.self.items c.in-Some.last order c.requires.lock;
      free = f.3;
      gathered = gather_first c.args.self.name c.args.self.seats c.args.seats.items c.pop.new.self.items c.in-Some.last c.into_seat-all.result.me.0 order c.requires.all c.requires.lock (ap (λ v. v.kind) (sym same) ∙ inv.1) (ap (λ v. v.stage) (sym same) ∙ inv.2)
          (ap (λ v. v.parts) (sym same) ∙ inv.3) (part_is _ _ _ _ _ _ same inv.4 c.last.view_is);
    }

pub join_seat-requires : goal.join_seat-requires
join_seat-requires g c =
    let i = c.loop-seat.invariant in
    let h = c.into_seat-other.ensures in
    let inv = c.seat.invariant in
    let same = ap first_of h.2 in
    let order = c.pop-in-loop-seat.ensures.items ∙ ap (λ r. c.pop-in-loop-seat.new.self.items ++ option_to_list r) c.in-Some-pop.is in (
      i.lock ∙ sym (ap (λ l. l.name) c.self.view_is),
      h.0 ∙ ap (λ s. s.lock) c.seat.view_is ∙ popped_lock c.args.self.name c.loop-seat.seats.items c.pop-in-loop-seat.new.self.items c.in-Some-pop.seat order i.gathered.locks ∙ sym (ap (λ l. l.name) c.self.view_is),
      h.3,
      omega (arith, c.self.invariant.0),
      gathers_in g.T.Passed.root g.T.Passed.passes _ _ _ _ _ _ i.gathered.kind i.gathered.stage (ap (λ v. v.kind) (sym same) ∙ inv.1) (ap (λ v. v.stage) (sym same) ∙ inv.2),
    )

pub loop-seat-preserved : goal.loop-seat-preserved
loop-seat-preserved g c =
    let i = c.loop-seat.invariant in
    let h = c.into_seat-other.ensures in
    let inv = c.seat.invariant in
    let same = ap first_of h.2 in
    let order = c.pop-in-loop-seat.ensures.items ∙ ap (λ r. c.pop-in-loop-seat.new.self.items ++ option_to_list r) c.in-Some-pop.is in
    let j = c.join_seat.ensures in
    record {
      lock = j.0 ∙ i.lock;
      free = ap (λ m. m.1) j.2 ∙ i.free;
      gathered = gather_next_as c.args.self.name c.args.self.seats c.args.seats.items c.loop-seat.seats.items c.pop-in-loop-seat.new.self.items c.in-Some-pop.seat c.loop-seat.all.me.0 c.into_seat-other.result.me.0 _ (ap (λ m. m.0) j.2) i.gathered order
          (ap (λ v. v.parts) (sym same) ∙ inv.3) (part_is _ _ _ _ _ _ same inv.4 c.seat.view_is);
    }

pub unreachable-requires-in_default-take : goal.unreachable-requires-in_default-take
unreachable-requires-in_default-take g c =
    let nothing = nothing_left _ _ _ _ c.pop-in-loop-seat.ensures.cases c.in_default-pop.is c.loop-seat.seats.ok.0 in
    let found = never_empty g.T.Passed.root g.T.Passed.passes (g.T.Passed.root c.self.inside.table.shared.key.value.value) c.self.inside.table.shared.key.seats c.loop-seat.all.id _ _ _ _ _ _ _ _ c.loop-seat.invariant.gathered nothing (ap (λ l. l.seats) c.self.view_is) c.close_with-closed.ensures.values.2 c.take.ensures.value in
    c.in_default-take.not-Some found.0 found.1

pub returns-clause-root : goal.returns-clause-root
returns-clause-root g c =
    let nothing = nothing_left _ _ _ _ c.pop-in-loop-seat.ensures.cases c.in_default-pop.is c.loop-seat.seats.ok.0 in
    agree_root _ _ _ (closed_all g.T.Passed.root g.T.Passed.passes (g.T.Passed.root c.self.inside.table.shared.key.value.value) c.self.inside.table.shared.key.seats c.loop-seat.all.id _ _ _ _ _ _ _ _ _ c.loop-seat.invariant.gathered nothing (ap (λ l. l.seats) c.self.view_is) c.close_with-closed.ensures.values.2 c.take.ensures.value c.in-Some-take.is)

pub returns-clause-mine : goal.returns-clause-mine
returns-clause-mine g c =
    let nothing = nothing_left _ _ _ _ c.pop-in-loop-seat.ensures.cases c.in_default-pop.is c.loop-seat.seats.ok.0 in
    agree_mine _ _ _ (closed_all g.T.Passed.root g.T.Passed.passes (g.T.Passed.root c.self.inside.table.shared.key.value.value) c.self.inside.table.shared.key.seats c.loop-seat.all.id _ _ _ _ _ _ _ _ _ c.loop-seat.invariant.gathered nothing (ap (λ l. l.seats) c.self.view_is) c.close_with-closed.ensures.values.2 c.take.ensures.value c.in-Some-take.is)

pub returns-clause-known : goal.returns-clause-known
returns-clause-known g c =
    let nothing = nothing_left _ _ _ _ c.pop-in-loop-seat.ensures.cases c.in_default-pop.is c.loop-seat.seats.ok.0 in
    agree_known _ _ _ (closed_all g.T.Passed.root g.T.Passed.passes (g.T.Passed.root c.self.inside.table.shared.key.value.value) c.self.inside.table.shared.key.seats c.loop-seat.all.id _ _ _ _ _ _ _ _ _ c.loop-seat.invariant.gathered nothing (ap (λ l. l.seats) c.self.view_is) c.close_with-closed.ensures.values.2 c.take.ensures.value c.in-Some-take.is)
