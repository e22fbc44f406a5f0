use Rattle.rota_sheets.proofs.Common.{◌≡◌, ◌==◌, List, [], ◌∷◌, ◌++◌, sym, ap, ◌∙◌, list_any, Row, is_used, rota_of, UsedShift}
use Rattle.plan_tables.proofs.Steps.{used_row}
use Rattle.rota_sheets.proofs.UsedMore.{unused_more, used_more}
use Rattle.rota_sheets.proofs.heads.used_by_number.Goals as goal
use Rattle.rota_sheets.proofs.heads.used_by_number.Goals.{then-has_row+in_ok-push, else-has_row}

pub loop-number-preserved : goal.loop-number-preserved
loop-number-preserved c =
    let i = c.args.instance.now in
    let rows = c.args.rows.now in
    let n = c.loop-number.number in
    let asked : is_used (rota_of rows) n ≡ c.has_row.result =
    used_row i rows n c.requires ∙ ap (λ (rs : List Row). list_any (λ r. r.shift == n) rs) (sym c.as_slice.ensures) ∙ sym c.has_row.ensures in
    elim c.if-has_row.branch [
      | then-has_row+in_ok-push w ↦
          ap (λ v. v.items) w.found-is ∙ w.in_ok-push.ensures.items
          ∙ ap (λ (us : List UsedShift). us ++ record { number = n; shift = w.shift-shift.result } ∷ []) c.loop-number.invariant
          ∙ sym (used_more i (rota_of rows) n w.shift-shift.result (asked ∙ w.if-has_row.true) w.shift-shift.ensures.shift)
      | else-has_row w ↦
          ap (λ v. v.items) w.found-is ∙ c.loop-number.invariant ∙ sym (unused_more i (rota_of rows) n (asked ∙ w.if-has_row.false))
    ]
