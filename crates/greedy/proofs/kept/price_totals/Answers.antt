use Rattle.greedy.proofs.Common.{◌≡◌, ◌≤◌, ◌-ℤ◌, ◌∙◌, ℤ, List, sym, ap, subst, arith, FitsSigned, w64, Shift, sum_at, sums_on}
use Rattle.price_sums.proofs.Prices.{some_at}
use Rattle.greedy.proofs.Keeping.{total_between, total_fits}
use Rattle.greedy.proofs.kept.price_totals.Goals as goal

pub returns : goal.returns
returns c = λ x is day less.
    let i = c.args.instance.now in
    let lanes = c.along-lanes.result.now in
    let sums : List ℤ = sums_on day lanes in
    let own : c.shift.result ≡ x.0 = some_at _ x (λ y. c.shift.result ≡ y.0) is c.shift.ensures.shift in
    let len : c.from-len.result ≡ x.0.len = c.from-len.ensures ∙ ap (λ (s : Shift). s.len) own in
    let along = c.along-lanes.ensures x is in
    let last : sum_at c.lane_at.result.now day ≡ sum_at sums x.0.len = c.lane_at.ensures day ∙ ap (sum_at sums) len in
    let first : sum_at c.lane_at-2.result.now day ≡ sum_at sums 0 = c.lane_at-2.ensures day in
    let both : sum_at c.lane_at.result.now day -ℤ sum_at c.lane_at-2.result.now day ≡ sum_at sums x.0.len -ℤ sum_at sums 0 =
    ap (λ (z : ℤ). z -ℤ sum_at c.lane_at-2.result.now day) last ∙ ap (λ (z : ℤ). sum_at sums x.0.len -ℤ z) first in
    let week : i.days ≤ 7 = c.shift.ensures.valid.days in
    c.lane_difference.ensures day (omega (arith, less, week)) (subst (FitsSigned w64) (sym both) (total_fits x.1 x.0.len sums (along.small day less)))
    ∙ both ∙ total_between i x.0 c.args.sums.now.prices lanes day along less
