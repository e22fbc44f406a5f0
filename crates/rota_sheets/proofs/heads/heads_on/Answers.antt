use Rattle.rota_sheets.proofs.Common.{◌≡◌, ◌+◌, Bool, cond, count_by, take, sym, ap, ◌∙◌, arith, rota_of, starts_with}
use Rattle.rota_sheets.proofs.Counting.{counts_row}
use Rattle.rota_sheets.proofs.heads.heads_on.Goals as goal
use Rattle.rota_sheets.proofs.heads.heads_on.Goals.{then-row_starts_with, else-row_starts_with}

pub row_starts_with-requires : goal.row_starts_with-requires
row_starts_with-requires c = (counts_row c.args.instance.now (starts_with c.args.instance.now c.args.shift c.args.day) c.as_slice-row-items.result.now c.args.rows.now c.loop-row.row-index c.row-item.result c.as_slice-row-items.ensures c.slots-valid.ensures.valid c.requires c.loop-row-test.true c.row-item.is).shift

pub loop-row-preserved : goal.loop-row-preserved
loop-row-preserved c =
    let i = c.args.instance.now in
    let rows = c.args.rows.now in
    let k = c.loop-row.row-index in
    let x = c.row-item.result in
    let p = starts_with i c.args.shift c.args.day in
    let before = count_by p (rota_of (take k rows)) in
    let r = counts_row i p c.as_slice-row-items.result.now rows k x c.as_slice-row-items.ensures c.slots-valid.ensures.valid c.requires c.loop-row-test.true c.row-item.is in
    elim c.if-row_starts_with.branch [
      | then-row_starts_with w ↦
          let more : count_by p (rota_of (take (k + 1) rows)) ≡ before + x.count =
          r.more ∙ ap (λ (b : Bool). before + cond b x.count 0) (sym c.row_starts_with.ensures ∙ w.if-row_starts_with.true) in
          record { heads = omega (arith, more, c.loop-row.invariant); few = omega (arith, r.few, c.loop-row.invariant) }
      | else-row_starts_with w ↦
          let more : count_by p (rota_of (take (k + 1) rows)) ≡ before + 0 =
          r.more ∙ ap (λ (b : Bool). before + cond b x.count 0) (sym c.row_starts_with.ensures ∙ w.if-row_starts_with.false) in
          record { heads = omega (arith, more, c.loop-row.invariant); few = omega (arith, c.loop-row.invariant) }
    ]
