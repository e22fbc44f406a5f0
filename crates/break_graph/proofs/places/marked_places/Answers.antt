use Rattle.break_graph.proofs.Common.{◌≡◌, inl, inr, ◌+◌, ◌-◌, ◌*◌, [], length, arith, refl, sym, ap, subst, ◌∙◌, true, false, slice_index_or, false≢true, place_of, spot_of}
use Rattle.break_graph.proofs.Marks.{AreMarkedBehind, none_marked, marked_more, all_marked, none_behind, place_small}
use Rattle.break_graph.proofs.places.marked_places.Goals as goal

pub loop-done-init : goal.loop-done-init
loop-done-init c =
    let many : length c.mark.new.table.items ≡ 256 * (c.args.len + 1) = omega (arith, c.mark.ensures.len, c.in_ok-table.ensures.len, c.from.ensures) in
    let at : c.place.result ≡ place_of c.args.len (spot_of c.args.rule.now []) = c.place.ensures ∙ ap (place_of c.args.len) (c.opening.ensures c.args.rule.now) in
    let small = place_small c.args.rule.now c.args.len [] c.requires refl in
    record {
      many = many;
      opening = subst (λ k. slice_index_or c.mark.new.table.items k false ≡ true) at (c.mark.ensures.marked (omega (arith, c.mark.ensures.len, many)));
      reached = λ place m. elim (c.mark.ensures.others place m) [
        | inl same ↦ ([], refl, sym (same ∙ at))
        | inr before ↦ absurd (false≢true (sym (none_marked (λ x y. y ≡ x) c.in_ok-table.table.items (λ y e. e) c.in_ok-table.ensures.items place) ∙ before))
      ];
      behind = subst (λ k. AreMarkedBehind c.args.rule.now c.args.len k c.mark.new.table.items) (let e : 256 * (c.args.len + 1) ≡ 256 * (c.args.len + 1) - 0 = omega arith in e) (none_behind c.args.rule.now c.args.len c.mark.new.table.items c.requires);
    }

pub loop-done-preserved : goal.loop-done-preserved
loop-done-preserved c =
    let rule = c.args.rule.now in
    let len = c.args.len in
    let done = c.loop-done.done in
    let table = c.loop-done.table.items in
    let place = 256 * (len + 1) - (done + 1) in
    let same : (place + 1) ≡ 256 * (len + 1) - done = omega (arith, c.loop-done-test.true, c.from.ensures) in
    let here : place ≡ 256 * (c.from.result + 1) - 1 - done = omega (arith, c.from.ensures) in
    record {
      many = c.mark_behind.ensures.len ∙ c.loop-done.invariant.many;
      opening = c.mark_behind.ensures.kept (place_of len (spot_of rule [])) c.loop-done.invariant.opening;
      reached = c.mark_behind.ensures.reached c.loop-done.invariant.reached;
      behind = marked_more rule len place table c.mark_behind.new.table.items c.requires c.loop-done.invariant.opening (subst (λ k. AreMarkedBehind rule len k table) (sym same) c.loop-done.invariant.behind)
          c.mark_behind.ensures.kept (λ list b at. c.mark_behind.ensures.marked list b (at ∙ here));
    }

pub returns-clause-marked : goal.returns-clause-marked
returns-clause-marked c =
    let none : 256 * (c.args.len + 1) - c.loop-done.done ≡ 0 = omega (arith, c.loop-done-test.false, c.from.ensures) in
    all_marked c.args.rule.now c.args.len c.loop-done.table.items c.loop-done.invariant.opening (subst (λ k. AreMarkedBehind c.args.rule.now c.args.len k c.loop-done.table.items) none c.loop-done.invariant.behind)
