use Rattle.pricing.proofs.Common.{◌≡◌, ◌++◌, ◌∷◌, [], ℕ, ℤ, pos, List, length, length-append, sym, ap, subst, ◌∙◌, arith, Break, sums_on, IsBestBy, best_at}
use Rattle.pricing.proofs.Followed.{each_more}
use Rattle.pricing.proofs.day_lists.bests_on.Goals as goal

pub loop-day-preserved : goal.loop-day-preserved
loop-day-preserved c =
    let rests = c.args.rests.now in
    let bests = c.loop-day.bests.items in
    let i = c.loop-day.invariant in
    let best = c.in_ok-best.best in
    let items : c.push.new.self.items ≡ bests ++ best ∷ [] = c.in_ok-push.ensures.items in
    let P : ℕ → List Break × ℤ → Type 0 = λ day b. IsBestBy rests.rule.now rests.len (sums_on day rests.sums.now) b in
    let here : P c.loop-day.day best = subst (λ n. P n best) c.from-in-loop-day.ensures c.in_ok-best.ensures in
    record {
      many = ap length items ∙ length-append bests (best ∷ []) ∙ omega (arith, i.many);
      done = λ day less. subst (λ (xs : List (List Break × ℤ)). P day (best_at xs day)) (sym items) (each_more P ([], pos 0) bests best c.loop-day.day i.many i.done here day less);
    }
