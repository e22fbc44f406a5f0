use Rattle.rota_cost.proofs.Common.{ℕ, ◌+◌, ◌≤◌, List, get_or, arith, ap, refl, sym, ◌∙◌, subst, changed, slots_cost}
use Rattle.rota_cost.proofs.Marks.{IsFor, IsMarked, marked_skip, marked_more, marked_most, marked_all}
use Rattle.rota_cost.proofs.Counts.{changed_grows}
use Rattle.rota_cost.proofs.cover.change_slots.Goals as goal
use Rattle.rota_cost.proofs.cover.change_slots.Goals.{then-works, else-works}

pub change_slot-changing-requires-clause-few : goal.change_slot-changing-requires-clause-few
change_slot-changing-requires-clause-few c =
    let i = c.args.instance.now in
    let d = c.args.duty.now in
    let h : IsFor i d c.shift-len.result c.rule_of-rule.result.now d.breaks = record { valid = c.shift-len.ensures.valid; known = c.requires.shift; is_shift = c.shift-len.ensures.shift; is_rule = c.rule_of-rule.ensures.rule; breaks = refl } in
    λ t small.
    let most : get_or c.loop-offset.working t 0 ≤ 2147483648 + 1 = marked_most i d (changed c.args.change) _ _ _ c.args.working.now c.loop-offset.working c.loop-offset.offset 2147483648 h (changed_grows c.args.change) c.requires.few c.loop-offset.invariant.marked t small in
    omega arith

pub loop-offset-preserved : goal.loop-offset-preserved
loop-offset-preserved c =
    let i = c.args.instance.now in
    let d = c.args.duty.now in
    let f = changed c.args.change in
    let old = c.args.working.now in
    let new = c.loop-offset.working in
    let o = c.loop-offset.offset in
    let h : IsFor i d c.shift-len.result c.rule_of-rule.result.now c.as_slice.result.now = record { valid = c.shift-len.ensures.valid; known = c.requires.shift; is_shift = c.shift-len.ensures.shift; is_rule = c.rule_of-rule.ensures.rule; breaks = c.as_slice.ensures } in
    elim c.if-works.branch [
      | then-works w ↦ record {
        marked =
            subst (λ (xs : List ℕ). IsMarked i d f old xs (o + 1)) (sym (w.working-is ∙ w.change_slot-changing.ensures.working))
            (marked_more i d f _ _ _ old new o w.slot_of-slot.result _ h c.loop-offset-test.true w.slot_of-slot.ensures.below (omega (arith, c.requires.slots, c.loop-offset.auto.working)) w.slot_of-slot.ensures.slot
            (sym c.works.ensures ∙ w.if-works.true) refl c.loop-offset.invariant.marked);
        cost = w.changing-is ∙ w.change_slot-changing.ensures.cost ∙ ap (slots_cost i) (sym w.working-is);
      }
      | else-works w ↦ record {
        marked = subst (λ (xs : List ℕ). IsMarked i d f old xs (o + 1)) (sym w.working-is) (marked_skip i d f _ _ _ old new o h (sym c.works.ensures ∙ w.if-works.false) c.loop-offset.invariant.marked);
        cost = w.changing-is ∙ c.loop-offset.invariant.cost ∙ ap (slots_cost i) (sym w.working-is);
      }
    ]

pub returns-clause-working : goal.returns-clause-working
returns-clause-working c =
    let i = c.args.instance.now in
    let d = c.args.duty.now in
    let h : IsFor i d c.shift-len.result c.rule_of-rule.result.now d.breaks = record { valid = c.shift-len.ensures.valid; known = c.requires.shift; is_shift = c.shift-len.ensures.shift; is_rule = c.rule_of-rule.ensures.rule; breaks = refl } in
    marked_all i d (changed c.args.change) _ _ _ c.args.working.now c.loop-offset.working c.loop-offset.offset h (omega arith) c.loop-offset.invariant.marked
