use Rattle.cert_check.proofs.Common.{◌≡◌, ◌+◌, ◌++◌, ◌∷◌, [], ℤ, List, length, sym, ap, subst, ◌∙◌, arith, sum_at, sums_on, AreValues, length-map}
use Rattle.std.proofs.Common.{length-append}
use Rattle.price_sums.proofs.Windows.{sums_more}
use Rattle.cert_check.proofs.WithStart.{values_more}
use Rattle.cert_check.proofs.rests.set_rest_lanes.Goals as goal

pub loop-k-init : goal.loop-k-init
loop-k-init c = record { many = ap length c.in_ok-reserve.ensures.items ∙ ap length c.clear.ensures.items; known = λ day less small k list none st. absurd (omega (arith, none)) }

pub loop-k-preserved : goal.loop-k-preserved
loop-k-preserved c =
    let values = c.loop-k.lanes.items in
    let x = c.rest_lane-value.result in
    let i = c.loop-k.invariant in
    let items : c.push.new.self.items ≡ values ++ x ∷ [] = c.in_ok-push.ensures.items in
    record {
      many = ap length items ∙ length-append values (x ∷ []) ∙ omega (arith, i.many);
      known = λ day less small.
          let sums = sums_on day c.args.sums.now in
          let kept : c.deref.result.now ≡ values = c.deref.ensures.value in
          let own = subst (λ (vs : List (List ℤ)). AreValues c.args.rule.now c.args.len sums c.args.graph.now c.loop-k.k (sums_on day vs)) (sym kept) (i.known day less small) in
          subst (AreValues c.args.rule.now c.args.len sums c.args.graph.now (c.loop-k.k + 1)) (sym (ap (sums_on day) items ∙ sums_more values x day))
          (values_more c.args.rule.now c.args.len sums c.args.graph.now c.loop-k.k (sums_on day values) (sum_at x day) (length-map values (λ (lane : List ℤ). sum_at lane day) ∙ i.many) (i.known day less small) (c.rest_lane-value.ensures day less small own));
    }

pub returns : goal.returns
returns c = λ day less small k list inside st. c.loop-k.invariant.known day less small k list (omega (arith, inside, c.loop-k-test.false)) st
