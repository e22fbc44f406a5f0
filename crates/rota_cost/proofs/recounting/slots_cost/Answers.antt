use Rattle.rota_cost.proofs.Common.{◌≡◌, ℕ, ◌+◌, ◌≤◌, arith, ap, ◌∙◌, sym, sum_by, get_or, below, slot_cost, sum_below_more}
use Rattle.rota_cost.proofs.recounting.slots_cost.Goals as goal

pub overflow_add-total : goal.overflow_add-total
overflow_add-total c =
    let low : get_or c.args.counts.now c.loop-t.t 0 ≤ 204800 = c.requires.few c.loop-t.t (omega (arith, c.slots-t-end.ensures.slots)) in
    omega arith

pub loop-t-preserved : goal.loop-t-preserved
loop-t-preserved c =
    let i = c.args.instance.now in
    let f = λ (t : ℕ). slot_cost i t (get_or c.args.counts.now t 0) in
    let more = sum_below_more f c.loop-t.t in
    let here : c.slot_cost-total.result ≡ f c.loop-t.t = c.slot_cost-total.ensures.cost in
    let total : c.loop-t.total ≡ sum_by f (below c.loop-t.t) = c.loop-t.invariant.total in
    let low : get_or c.args.counts.now c.loop-t.t 0 ≤ 204800 = c.requires.few c.loop-t.t (omega (arith, c.slots-t-end.ensures.slots)) in
    record { total = ap (λ (n : ℕ). n + c.slot_cost-total.result) total ∙ ap (λ (n : ℕ). sum_by f (below c.loop-t.t) + n) here ∙ sym more; few = omega arith }
