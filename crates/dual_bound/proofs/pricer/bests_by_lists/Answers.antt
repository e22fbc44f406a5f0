use Rattle.dual_bound.proofs.Common.{◌≡◌, ◌++◌, ◌∷◌, [], ℕ, ℤ, pos, List, length, length-append, sym, ap, subst, ◌∙◌, arith, Break, best_at, each_more, IsBestOn, AreBests}
use Rattle.dual_bound.proofs.Values.{at_some, none_at}
use Rattle.dual_bound.proofs.pricer.bests_by_lists.Goals as goal

pub returns-in-None : goal.returns-in-None
returns-in-None c = none_at c.in_ok-best.field-0 _ _ c.in-None.is c.in_ok-best.ensures.best

pub loop-day-preserved : goal.loop-day-preserved
loop-day-preserved c =
    let bests = c.loop-day.bests.items in
    let best = c.in-Some.best in
    let inv = c.loop-day.invariant in
    let items : c.push.new.self.items ≡ bests ++ best ∷ [] = c.in_ok-push.ensures.items in
    let P : ℕ → List Break × ℤ → Type 0 = λ day b. IsBestOn c.args.instance.now c.args.cuts.now c.args.prices.now c.args.shift day b.0 b.1 in
    let own : P c.loop-day.day best = at_some c.in_ok-best.field-0 best _ _ c.in-Some.is c.in_ok-best.ensures.best in
    record {
      count = ap length items ∙ length-append bests (best ∷ []) ∙ omega (arith, inv.count);
      each = λ day less. subst (λ (xs : List (List Break × ℤ)). P day (best_at xs day)) (sym items) (each_more P ([], pos 0) bests best c.loop-day.day inv.count inv.each own day less);
    }

pub returns : goal.returns
returns c =
    let last = c.loop-day-test.false in
    let first = c.loop-day.auto.day-end in
    let all : c.loop-day.day ≡ c.args.days = omega arith in
    subst (λ n. AreBests c.args.instance.now c.args.cuts.now c.args.prices.now c.args.shift n c.new.result) all
    (subst (AreBests c.args.instance.now c.args.cuts.now c.args.prices.now c.args.shift c.loop-day.day) (sym c.new.ensures) c.loop-day.invariant)
