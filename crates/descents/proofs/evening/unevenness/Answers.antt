use Rattle.descents.proofs.Common.{◌≡◌, ℕ, ◌+◌, arith, ap, ◌∙◌, sym, sum_by, below, cover, rota_of, squared_distance}
use Rattle.shift_instance.proofs.Ranges.{sum_below_more}
use Rattle.descents.proofs.evening.unevenness.Goals as goal

pub loop-t-preserved : goal.loop-t-preserved
loop-t-preserved c =
    let i = c.args.instance.now in
    let rota = rota_of c.args.draft.now.rows in
    let f = λ (t : ℕ). squared_distance i t (cover i rota t) in
    let t = c.loop-t.t in
    let square = c.squared_distance-sum.result in
    let works : c.working.result ≡ cover i rota t = c.working.ensures ∙ ap (λ j. cover j rota t) c.requires in
    let here : square ≡ f t = c.squared_distance-sum.ensures.square ∙ ap (λ n. squared_distance i t n) works in
    let total : c.loop-t.sum ≡ sum_by f (below t) = c.loop-t.invariant.sum in
    record {
      sum = ap (λ (n : ℕ). n + square) total ∙ ap (λ (n : ℕ). sum_by f (below t) + n) here ∙ sym (sum_below_more f t);
      few = omega (arith, c.loop-t.invariant.few, c.squared_distance-sum.ensures.small);
    }
