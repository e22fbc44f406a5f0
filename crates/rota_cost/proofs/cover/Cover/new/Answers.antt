use Rattle.rota_cost.proofs.Common.{rules}
use Rattle.rota_cost.proofs.Counts.{counted_new}
use Rattle.rota_cost.proofs.cover.Cover.new.Goals as goal

pub invariant_of-result : goal.invariant_of-result
invariant_of-result c =
    counted_new c.args.instance.now _ _ _ _ _ c.slots.ensures.valid c.none.ensures.0 c.none.ensures.1 (search rules) (search rules) (search rules)
