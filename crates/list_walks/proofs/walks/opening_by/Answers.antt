use Rattle.std.proofs.Common.{[], refl}
use Rattle.break_layers.proofs.Following.{most_live}
use Rattle.list_walks.proofs.walks.opening_by.Goals as goal

pub returns-in-Some : goal.returns-in-Some
returns-in-Some c =
    let v = c.args.values.now in
    let spot = c.opening-spot.ensures v.rule in
    record { live = most_live v.rule v.len v.sums [] c.in-Some.field-0 (c.in-Some.ensures [] refl spot); spot = spot }
