use Rattle.break_layers.proofs.Common.{◌≡◌, sym, ap, subst, ◌∙◌, to_z, of_z, w64, to_z-of_z, NOTHING, number_in, IsValueOrNothing, layer_place}
use Rattle.break_layers.proofs.Ending.{value_some, value_none, layer_known}
use Rattle.break_layers.proofs.layers.value_in.Goals as goal

pub returns-then-value : goal.returns-then-value
returns-then-value c = λ sums list s layers walk is.
    let rule = c.args.rule.now in
    let r = c.requires in
    let none : c.number_of-value.result ≡ NOTHING = sym (to_z-of_z w64 c.number_of-value.result (record { sfits = c.number_of-value.type_inv })) ∙ ap (to_z w64) c.if-value.true in
    let at : number_in c.args.table.now (layer_place rule c.args.len c.args.spot) ≡ NOTHING = sym c.number_of-value.ensures ∙ none in
    value_none rule c.args.len sums list r s (subst (IsValueOrNothing rule c.args.len sums list) at (layer_known rule c.args.len sums list r c.args.table.now c.args.spot layers walk is))

pub returns-else-value : goal.returns-else-value
returns-else-value c = λ sums list s layers walk is.
    let rule = c.args.rule.now in
    let r = c.requires in
    let x = to_z w64 (of_z w64 c.number_of-value.result) in
    let back : x ≡ c.number_of-value.result = to_z-of_z w64 c.number_of-value.result (record { sfits = c.number_of-value.type_inv }) in
    let at : x ≡ number_in c.args.table.now (layer_place rule c.args.len c.args.spot) = back ∙ c.number_of-value.ensures in
    value_some rule c.args.len sums list r s x (λ none. c.if-value.false (ap (of_z w64) (sym back ∙ none)))
    (subst (IsValueOrNothing rule c.args.len sums list) (sym at) (layer_known rule c.args.len sums list r c.args.table.now c.args.spot layers walk is))
