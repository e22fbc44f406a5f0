use Rattle.plan_page.proofs.Common.{◌≡◌, ◌+◌, ℕ, [], ◌∷◌, max, fold, ap, sym, ◌∙◌, arith, Problem, below, need_max_at, cover, below_next}
use Rattle.std.proofs.lemmas.List.Sums.{fold-append}
use Rattle.plan_page.proofs.chart.most_employees.Goals as goal

pub loop-t-preserved : goal.loop-t-preserved
loop-t-preserved c =
    let i = c.args.instance.now in
    let rota = c.args.attendance.now.duties in
    let t = c.loop-t.t in
    let step : ℕ → ℕ → ℕ = λ most t. max most (max (need_max_at i t) (cover i rota t)) in
    let before : ℕ = fold step 1 (below t) in
    let more : fold step 1 (below (t + 1)) ≡ max before (max (need_max_at i t) (cover i rota t)) = ap (fold step 1) (below_next t) ∙ fold-append step 1 (below t) (t ∷ []) in
    record {
      most =
          c.greatest-most.ensures
          ∙ ap (λ (m : ℕ). max m (max c.need_max.result c.working.result)) c.loop-t.invariant.most
          ∙ ap (λ (n : ℕ). max before (max n c.working.result)) c.need_max.ensures.need_max
          ∙ ap (λ (n : ℕ). max before (max (need_max_at i t) n)) c.working.ensures
          ∙ ap (λ (p : Problem). max before (max (need_max_at i t) (cover p rota t))) c.requires
          ∙ sym more;
      some = omega (arith, c.greatest-most.ensures, c.loop-t.invariant.some);
    }
