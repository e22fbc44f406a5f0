use Rattle.rota_cost.proofs.Common.{ℕ, ◌≤◌, arith, ap, ◌∙◌, get_or-replicate, slots, rota_of}
use Rattle.rota_cost.proofs.Counting.{cost_from}
use Rattle.rota_cost.proofs.recounting.recount.Goals as goal

pub add_rows-requires-clause-blank : goal.add_rows-requires-clause-blank
add_rows-requires-clause-blank c =
    λ t small.
    let few : slots c.args.instance.now ≤ 2016 = c.weights-shift.ensures.valid.few_slots in
    get_or-replicate 2016 t 0 0 (omega arith)

pub returns-clause-cost : goal.returns-clause-cost
returns-clause-cost c =
    cost_from c.args.instance.now (rota_of c.args.rows.now) _ c.slots_cost.result c.from.result c.shifts_used.result c.slots_cost.ensures.cost c.add_rows.ensures.cover
    (c.from.ensures ∙ ap (λ (w : ℕ × ℕ × ℕ). w.2) c.weights-shift.ensures.weights) c.shifts_used.ensures.used
