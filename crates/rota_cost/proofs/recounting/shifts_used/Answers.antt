use Rattle.rota_cost.proofs.Common.{ℕ, ◌+◌, ◌≤◌, arith, refl, sym, subst, Bool, List, length}
use Rattle.rota_cost.proofs.Counting.{row_at}
use Rattle.rota_cost.proofs.Seen.{IsSeen, seen_none, skipped, marked, few_used, seen_all}
use Rattle.rota_cost.proofs.recounting.shifts_used.Goals as goal
use Rattle.rota_cost.proofs.recounting.shifts_used.Goals.{then-not-seen-shift, else-not-seen-shift}

pub loop-row-init : goal.loop-row-init
loop-row-init c = seen_none _ _ _ refl

pub bounds-seen-shift : goal.bounds-seen-shift
bounds-seen-shift c =
    let r = row_at c.args.instance.now c.args.rows.now c.as_slice-row-items.result.now c.loop-row.row-index c.row-item.result c.requires.valid c.requires.legal c.as_slice-row-items.ensures c.loop-row-test.true c.row-item.is in
    omega (arith, r.shift, c.requires.valid.shifts, c.from-shift.ensures)

pub bounds-seen-shift-then-not-seen-shift : goal.bounds-seen-shift-then-not-seen-shift
bounds-seen-shift-then-not-seen-shift c =
    let r = row_at c.args.instance.now c.args.rows.now c.as_slice-row-items.result.now c.loop-row.row-index c.row-item.result c.requires.valid c.requires.legal c.as_slice-row-items.ensures c.loop-row-test.true c.row-item.is in
    omega (arith, r.shift, c.requires.valid.shifts, c.from-shift.ensures)

pub overflow_add-used : goal.overflow_add-used
overflow_add-used c =
    let few : c.loop-row.used ≤ 1024 = few_used c.args.instance.now c.args.rows.now _ _ _ c.requires.valid c.loop-row.invariant in
    omega arith

pub loop-row-preserved : goal.loop-row-preserved
loop-row-preserved c =
    let i = c.args.instance.now in
    let rows = c.args.rows.now in
    let k = c.loop-row.row-index in
    let r = row_at i rows c.as_slice-row-items.result.now k c.row-item.result c.requires.valid c.requires.legal c.as_slice-row-items.ensures c.loop-row-test.true c.row-item.is in
    elim c.if-not-seen-shift.branch [
      | then-not-seen-shift w ↦
          subst (λ (n : ℕ). IsSeen i rows (k + 1) c.if-not-seen-shift.seen n) (sym w.used-is)
          (subst (λ (xs : List Bool). IsSeen i rows (k + 1) xs (c.loop-row.used + 1)) (sym w.seen-is)
          (marked i rows k c.loop-row.seen c.loop-row.used c.row-item.result c.from-shift.result r c.requires.valid c.from-shift.ensures w.if-not-seen-shift.true c.loop-row.invariant))
      | else-not-seen-shift w ↦
          subst (λ (n : ℕ). IsSeen i rows (k + 1) c.if-not-seen-shift.seen n) (sym w.used-is)
          (subst (λ (xs : List Bool). IsSeen i rows (k + 1) xs c.loop-row.used) (sym w.seen-is)
          (skipped i rows k c.loop-row.seen c.loop-row.used c.row-item.result c.from-shift.result r c.requires.valid c.from-shift.ensures w.if-not-seen-shift.false c.loop-row.invariant))
    ]

pub returns-clause-used : goal.returns-clause-used
returns-clause-used c =
    let far : length c.args.rows.now ≤ c.loop-row.row-index = subst (λ xs. length xs ≤ c.loop-row.row-index) c.as_slice-row-items.ensures c.loop-row-test.false in
    seen_all c.args.instance.now c.args.rows.now c.loop-row.row-index c.loop-row.seen c.loop-row.used c.requires.legal far c.loop-row.invariant

pub returns-clause-few : goal.returns-clause-few
returns-clause-few c = few_used c.args.instance.now c.args.rows.now _ _ _ c.requires.valid c.loop-row.invariant
