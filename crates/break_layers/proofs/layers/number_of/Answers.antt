use Rattle.break_layers.proofs.Common.{List, ℤ, ap, ◌∙◌, arith, w64, to_z-of_z, map-id, number_in}
use Rattle.break_layers.proofs.layers.number_of.Goals as goal

pub returns : goal.returns
returns c =
    to_z-of_z w64 c.number_at.result (record { sfits = c.number_at.type_inv }) ∙ c.number_at.ensures 0 (omega arith) ∙ ap (λ (l : List ℤ). number_in l c.place.result) (map-id c.args.table.now) ∙ ap (number_in c.args.table.now) c.place.ensures
