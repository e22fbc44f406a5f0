use Rattle.plan_tables.proofs.Common.{List, ◌∷◌, [], ◌++◌, sym, ap, ◌∙◌, CostlySlot}
use Rattle.plan_tables.proofs.Steps.{cheap_more, costly_more}
use Rattle.plan_tables.proofs.costliest.costly_slots.Goals as goal
use Rattle.plan_tables.proofs.costliest.costly_slots.Goals.{then-slot-gt0+in_ok-push, else-slot-gt0}

pub loop-t-preserved : goal.loop-t-preserved
loop-t-preserved c =
    let i = c.args.instance.now in
    let rota = c.args.attendance.now.duties in
    let s = c.costly_slot-slot.result in
    elim c.if-slot-gt0.branch [
      | then-slot-gt0+in_ok-push w ↦
          ap (λ v. v.items) w.found-is ∙ w.in_ok-push.ensures.items ∙ ap (λ (xs : List CostlySlot). xs ++ s ∷ []) c.loop-t.invariant
          ∙ sym (costly_more i rota c.loop-t.t s c.costly_slot-slot.ensures w.if-slot-gt0.true)
      | else-slot-gt0 w ↦
          ap (λ v. v.items) w.found-is ∙ c.loop-t.invariant ∙ sym (cheap_more i rota c.loop-t.t s c.costly_slot-slot.ensures w.if-slot-gt0.false)
    ]
