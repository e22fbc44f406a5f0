use Rattle.advisers.proofs.Common.{◌≡◌, Bool, true, false, cond, ℕ, ◌+◌, ◌≤◌, ◌^◌, arith, refl, sym, ◌∙◌, get_or, subst, duty_of, works, IsFor, IsMarked, unmarked, marked_skip, marked_more, marked_all}
use Rattle.advisers.proofs.stepping.add_duties.Goals as goal
use Rattle.advisers.proofs.stepping.add_duties.Goals.{then-works, else-works}

added_where : (b : Bool) (n k : ℕ) → cond b (n + k) n ≡ n + cond b k 0
added_where true n k = refl
added_where false n k = omega arith

pub overflow_add-counts : goal.overflow_add-counts
overflow_add-counts c =
    let i = c.args.instance.now in
    let r = c.args.row.now in
    let slot = c.slot_of-slot.result in
    let f : IsFor i (duty_of r) c.shift-len.result c.rule_of-rule.result.now c.as_slice.result.now = record { valid = c.shift-len.ensures.valid; known = c.requires.shift; is_shift = c.shift-len.ensures.shift; is_rule = c.rule_of-rule.ensures.rule; breaks = c.as_slice.ensures } in
    let same : get_or c.loop-offset.counts slot 0 ≡ get_or c.args.counts.now slot 0 = unmarked i (duty_of r) (λ n. n + c.args.count) _ _ _ c.args.counts.now c.loop-offset.counts c.loop-offset.offset slot f c.loop-offset-test.true c.slot_of-slot.ensures.below c.slot_of-slot.ensures.slot c.loop-offset.invariant in
    let room : get_or c.args.counts.now slot 0 ≤ 2 ^ 31 = c.requires.room slot c.slot_of-slot.ensures.below in
    omega arith

pub loop-offset-preserved : goal.loop-offset-preserved
loop-offset-preserved c =
    let i = c.args.instance.now in
    let r = c.args.row.now in
    let old = c.args.counts.now in
    let new = c.loop-offset.counts in
    let o = c.loop-offset.offset in
    let f : IsFor i (duty_of r) c.shift-len.result c.rule_of-rule.result.now c.as_slice.result.now = record { valid = c.shift-len.ensures.valid; known = c.requires.shift; is_shift = c.shift-len.ensures.shift; is_rule = c.rule_of-rule.ensures.rule; breaks = c.as_slice.ensures } in
    elim c.if-works.branch [
      | then-works w ↦
          subst (λ xs. IsMarked i (duty_of r) (λ n. n + c.args.count) old xs (o + 1)) (sym w.counts-is)
          (marked_more i (duty_of r) (λ n. n + c.args.count) _ _ _ old new o w.slot_of-slot.result _ f c.loop-offset-test.true w.slot_of-slot.ensures.below (omega (arith, c.requires.slots, c.loop-offset.auto.counts)) w.slot_of-slot.ensures.slot
          (sym c.works.ensures ∙ w.if-works.true) refl c.loop-offset.invariant)
      | else-works w ↦
          subst (λ xs. IsMarked i (duty_of r) (λ n. n + c.args.count) old xs (o + 1)) (sym w.counts-is)
          (marked_skip i (duty_of r) (λ n. n + c.args.count) _ _ _ old new o f (sym c.works.ensures ∙ w.if-works.false) c.loop-offset.invariant)
    ]

pub returns : goal.returns
returns c =
    let i = c.args.instance.now in
    let r = c.args.row.now in
    let f : IsFor i (duty_of r) c.shift-len.result c.rule_of-rule.result.now r.breaks = record { valid = c.shift-len.ensures.valid; known = c.requires.shift; is_shift = c.shift-len.ensures.shift; is_rule = c.rule_of-rule.ensures.rule; breaks = refl } in
    λ t small.
    marked_all i (duty_of r) (λ n. n + c.args.count) _ _ _ c.args.counts.now c.loop-offset.counts c.loop-offset.offset f (omega arith) c.loop-offset.invariant t small
    ∙ added_where (works i (duty_of r) t) (get_or c.args.counts.now t 0) c.args.count
