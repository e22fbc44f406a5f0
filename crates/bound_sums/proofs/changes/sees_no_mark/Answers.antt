use Rattle.bound_sums.proofs.Common.{◌≡◌, ℤ, List, sym, ap, ◌∙◌, Decides-int_eq, slice_eq-Decides, Shift, sum_at, sums_on}
use Rattle.price_sums.proofs.Prices.{some_at}
use Rattle.bound_sums.proofs.Keeping.{unmarked_between}
use Rattle.bound_sums.proofs.changes.sees_no_mark.Goals as goal

pub returns : goal.returns
returns c = record {
  unmarked = λ yes x is day less offset inside.
      let i = c.args.instance.now in
      let marks = c.args.marks.now.prices in
      let lanes = c.along-lanes.result.now in
      let own : c.shift.result ≡ x.0 = some_at _ x (λ y. c.shift.result ≡ y.0) is c.shift.ensures.shift in
      let len : c.from-len.result ≡ x.0.len = c.from-len.ensures ∙ ap (λ (s : Shift). s.len) own in
      let equal : c.lane_at.result.now ≡ c.lane_at-2.result.now = (slice_eq-Decides Decides-int_eq _ _ _ c.eq.ensures).0 yes in
      let same : sum_at (sums_on day lanes) 0 ≡ sum_at (sums_on day lanes) x.0.len =
      sym (c.lane_at.ensures day) ∙ ap (λ (lane : List ℤ). sum_at lane day) equal ∙ c.lane_at-2.ensures day ∙ ap (sum_at (sums_on day lanes)) len in
      unmarked_between i x.0 marks lanes day offset (c.along-lanes.ensures x is) c.requires.marks less same inside;
}
