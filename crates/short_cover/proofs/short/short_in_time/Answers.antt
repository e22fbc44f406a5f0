use Rattle.short_cover.proofs.Common.{List, ◌∷◌, [], ◌++◌, sym, ap, ◌∙◌, ShortSlot}
use Rattle.short_cover.proofs.Steps.{enough_more, short_more}
use Rattle.short_cover.proofs.short.short_in_time.Goals as goal
use Rattle.short_cover.proofs.short.short_in_time.Goals.{then-slot+in_ok-push, else-slot}

pub loop-t-preserved : goal.loop-t-preserved
loop-t-preserved c =
    let i = c.args.instance.now in
    let rota = c.args.attendance.now.duties in
    let s = c.short_slot-slot.result in
    elim c.if-slot.branch [
      | then-slot+in_ok-push w ↦
          ap (λ v. v.items) w.found-is ∙ w.in_ok-push.ensures.items ∙ ap (λ (xs : List ShortSlot). xs ++ s ∷ []) c.loop-t.invariant
          ∙ sym (short_more i rota c.loop-t.t s c.short_slot-slot.ensures w.if-slot.true)
      | else-slot w ↦
          ap (λ v. v.items) w.found-is ∙ c.loop-t.invariant ∙ sym (enough_more i rota c.loop-t.t s c.short_slot-slot.ensures w.if-slot.false)
    ]
