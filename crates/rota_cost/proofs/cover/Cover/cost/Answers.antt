use Rattle.rota_cost.proofs.Common.{◌≤◌, ◌+◌, ◌∙◌, ap, arith, cost, Covering}
use Rattle.rota_cost.proofs.Counts.{counted_cost, parts_fit}
use Rattle.rota_cost.proofs.cover.Cover.cost.Goals as goal

pub overflow_add-result : goal.overflow_add-result
overflow_add-result c =
    let fit : c.self.inside.slot_part + c.self.inside.shift_part ≤ 5000000000000000000 = parts_fit _ _ _ _ _ _ c.self.invariant in
    omega arith

pub returns : goal.returns
returns c = counted_cost _ _ _ _ _ _ c.self.invariant ∙ ap (λ (v : Covering). cost v.instance v.duties) c.self.view_is
