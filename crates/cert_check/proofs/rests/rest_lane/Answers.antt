use Rattle.cert_check.proofs.Common.{◌≡◌, ℤ, ◌-ℤ◌, sym, ap, subst, ◌∙◌, arith, FitsSigned, w64, fits_signed_from_abs, Spot, end_of_all, sum_at, resumes, Completes, sums_on, rest_worth, IsGreatest}
use Rattle.cert_check.proofs.Values.{greatest_small}
use Rattle.cert_check.proofs.WithStart.{less_start}
use Rattle.cert_check.proofs.rests.rest_lane.Goals as goal

pub returns : goal.returns
returns c = λ day less small known list st.
    let rule = c.args.rule.now in
    let len = c.args.len in
    let nodes = c.args.graph.now in
    let sums = sums_on day c.args.sums.now in
    let start : ℤ = sum_at sums (resumes rule (end_of_all list)) in
    let from : sum_at c.lane_at.result.now day ≡ start = c.lane_at.ensures day ∙ ap (sum_at sums) (c.resumption.ensures ∙ ap (λ (s : Spot). resumes rule s.offset) (c.spot.ensures ∙ st.spot)) in
    let most : ℤ = sum_at c.most_with_start-most.result day in
    let g : IsGreatest (Completes rule len list) (rest_worth sums rule len list) (most -ℤ start) = less_start sums rule len list most (c.most_with_start-most.ensures day less small known list st) in
    let size = greatest_small sums rule len list (most -ℤ start) small g in
    let step : most -ℤ sum_at c.lane_at.result.now day ≡ most -ℤ start = ap (λ (z : ℤ). most -ℤ z) from in
    let fit : FitsSigned w64 (most -ℤ start) = fits_signed_from_abs w64 _ (omega (arith, size)) in
    subst (IsGreatest (Completes rule len list) (rest_worth sums rule len list)) (sym (c.lane_difference.ensures day less (subst (FitsSigned w64) (sym step) fit) ∙ step)) g
