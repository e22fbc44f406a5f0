use Rattle.break_layers.proofs.Common.{◌≡◌, ◌≢◌, ◌+ℤ◌, ℤ, sym, ap, subst, ◌∙◌, to_z, of_z, FitsSigned, w64, false≢true, to_z-of_z, Spot, end_of_all, live_walks, sum_at, resumes, NOTHING, IsMostEarned, number_in, IsValueOrNothing, layer_place}
use Rattle.break_layers.proofs.Ending.{layer_known, value_none, value_some}
use Rattle.break_layers.proofs.Following.{earned_fits}
use Rattle.break_layers.proofs.lists.next_best.Goals as goal

pub returns : goal.returns
returns c = λ list live is.
    let rule = c.args.rule.now in
    let len = c.args.len in
    let sums = c.args.sums.now in
    let r = c.requires.rule in
    let s = c.requires.sums in
    let walk = live_walks rule len list live in
    let x = to_z w64 (of_z w64 c.number_of-value.result) in
    let at : x ≡ number_in c.args.table.now (layer_place rule len c.args.spot) =
    to_z-of_z w64 c.number_of-value.result (record { sfits = c.number_of-value.type_inv }) ∙ c.number_of-value.ensures in
    let known : IsValueOrNothing rule len sums list x = subst (IsValueOrNothing rule len sums list) (sym at) (layer_known rule len sums list r c.args.table.now c.args.spot c.requires.layers walk is) in
    let some : x ≢ NOTHING = λ none. false≢true (sym (value_none rule len sums list r s (subst (IsValueOrNothing rule len sums list) none known)) ∙ live) in
    let most : IsMostEarned rule len sums list x = value_some rule len sums list r s x some known in
    let from : c.resumption.result ≡ resumes rule (end_of_all list) = c.resumption.ensures ∙ ap (λ (p : Spot). resumes rule p.offset) is in
    let sum : to_z w64 (of_z w64 c.sum_before-before.result) ≡ sum_at sums (resumes rule (end_of_all list)) =
    to_z-of_z w64 c.sum_before-before.result (record { sfits = c.sum_before-before.type_inv }) ∙ c.sum_before-before.ensures ∙ ap (sum_at sums) from in
    let whole : to_z w64 (of_z w64 c.plus.result) ≡ x +ℤ sum_at sums (resumes rule (end_of_all list)) =
    to_z-of_z w64 c.plus.result (record { sfits = c.plus.type_inv })
    ∙ c.plus.ensures.total some (subst (λ (z : ℤ). FitsSigned w64 (x +ℤ z)) (sym sum) (earned_fits rule len sums list r s x most)) ∙ ap (λ (z : ℤ). x +ℤ z) sum in
    c.first_reaching.ensures list x walk is most whole
