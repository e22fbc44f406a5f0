use Rattle.plan_tables.proofs.Common.{◌≡◌, ◌+◌, ◌==◌, Bool, List, cond, count_by, sym, ap, ◌∙◌, arith, list_any, Row, below, is_used, rota_of}
use Rattle.plan_tables.proofs.Steps.{used_row, used_more}
use Rattle.plan_tables.proofs.tallies.shifts_used.Goals as goal
use Rattle.plan_tables.proofs.tallies.shifts_used.Goals.{then-has_row, else-has_row}

pub loop-shift-preserved : goal.loop-shift-preserved
loop-shift-preserved c =
    let rows = c.args.rows.now in
    let s = c.loop-shift.shift in
    let before = count_by (is_used (rota_of rows)) (below s) in
    let more : count_by (is_used (rota_of rows)) (below (s + 1)) ≡ before + cond (is_used (rota_of rows) s) 1 0 = used_more (rota_of rows) s in
    let asked : is_used (rota_of rows) s ≡ c.has_row.result =
    used_row c.args.instance.now rows s c.requires ∙ ap (λ (rs : List Row). list_any (λ r. r.shift == s) rs) (sym c.as_slice.ensures) ∙ sym c.has_row.ensures in
    elim c.if-has_row.branch [
      | then-has_row w ↦
          let m : count_by (is_used (rota_of rows)) (below (s + 1)) ≡ before + 1 = more ∙ ap (λ (b : Bool). before + cond b 1 0) (asked ∙ w.if-has_row.true) in
          record { used = omega arith; few = omega arith }
      | else-has_row w ↦
          let m : count_by (is_used (rota_of rows)) (below (s + 1)) ≡ before + 0 = more ∙ ap (λ (b : Bool). before + cond b 1 0) (asked ∙ w.if-has_row.false) in
          record { used = omega arith; few = omega arith }
    ]
