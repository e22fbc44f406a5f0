use Rattle.break_layers.proofs.Common.{◌≡◌, ◌+ℤ◌, ℤ, true, [], ◌∷◌, ◌++◌, sym, ap, subst, ◌∙◌, to_z, of_z, FitsSigned, w64, to_z-of_z, Spot, is_walk, nexts_of, spot_of, Has, walk_on, from_next, sum_at, number_in, IsValueOrNothing, layer_place}
use Rattle.break_layers.proofs.Ending.{layer_known}
use Rattle.break_layers.proofs.Reach.{reach_by}
use Rattle.break_layers.proofs.lists.reach_at.Goals as goal

pub returns : goal.returns
returns c = λ list walk is has.
    let rule = c.args.rule.now in
    let len = c.args.len in
    let sums = c.args.sums.now in
    let r = c.requires.rule in
    let s = c.requires.sums in
    let b = c.args.next in
    let after : c.after.result ≡ spot_of rule (list ++ b ∷ []) = c.after.ensures list is (len, c.ranges.len.fits, from_next rule len c.args.spot b has) in
    let on : is_walk rule len (list ++ b ∷ []) ≡ true = walk_on rule len list b walk (subst (λ (p : Spot). Has (nexts_of rule len p) b) is has) in
    let x = to_z w64 (of_z w64 c.number_of.result) in
    let at : x ≡ number_in c.args.table.now (layer_place rule len c.after.result) =
    to_z-of_z w64 c.number_of.result (record { sfits = c.number_of.type_inv }) ∙ c.number_of.ensures in
    let behind : IsValueOrNothing rule len sums (list ++ b ∷ []) x =
    subst (IsValueOrNothing rule len sums (list ++ b ∷ [])) (sym at) (layer_known rule len sums (list ++ b ∷ []) r c.args.table.now c.after.result c.requires.layers on after) in
    let sum : to_z w64 (of_z w64 c.sum_before.result) ≡ sum_at sums b.start =
    to_z-of_z w64 c.sum_before.result (record { sfits = c.sum_before.type_inv }) ∙ c.sum_before.ensures ∙ ap (sum_at sums) c.from.ensures in
    let whole : to_z w64 (of_z w64 c.plus.result) ≡ c.plus.result = to_z-of_z w64 c.plus.result (record { sfits = c.plus.type_inv }) in
    reach_by rule len sums list r s b x (to_z w64 (of_z w64 c.plus.result)) behind
    (λ none. whole ∙ c.plus.ensures.nothing none)
    (λ some fits. whole ∙ c.plus.ensures.total some (subst (λ (z : ℤ). FitsSigned w64 (x +ℤ z)) (sym sum) fits) ∙ ap (λ (z : ℤ). x +ℤ z) sum)
