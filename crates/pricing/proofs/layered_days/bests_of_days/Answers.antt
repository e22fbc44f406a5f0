use Rattle.pricing.proofs.Common.{◌≡◌, ◌++◌, ◌∷◌, [], ℕ, ℤ, pos, false, List, Option, length, length-append, sym, ap, subst, ◌∙◌, arith, MatchOption, Break, is_legal, AreSums, sums_on, IsBestBy, best_at}
use Rattle.pricing.proofs.Followed.{each_more}
use Rattle.pricing.proofs.layered_days.bests_of_days.Goals as goal

pub best_by_layers-requires-clause-sums : goal.best_by_layers-requires-clause-sums
best_by_layers-requires-clause-sums c =
    subst (AreSums c.args.len) (sym (c.in_ok-sums.ensures ∙ ap (λ d. sums_on d c.args.lanes.now) c.from-in-loop-day.ensures)) (c.requires.sums c.loop-day.day (omega (arith, c.loop-day-test.true)))

pub loop-day-preserved : goal.loop-day-preserved
loop-day-preserved c =
    let rule = c.args.rule.now in
    let bests = c.loop-day.bests.items in
    let i = c.loop-day.invariant in
    let best : List Break × ℤ = c.in-Some.best in
    let items : c.push.new.self.items ≡ bests ++ best ∷ [] = c.in_ok-push.ensures.items in
    let P : ℕ → List Break × ℤ → Type 0 = λ day b. IsBestBy rule c.args.len (sums_on day c.args.lanes.now) b in
    let sums = c.in_ok-sums.sums.items in
    let of : sums ≡ sums_on c.loop-day.day c.args.lanes.now = c.in_ok-sums.ensures ∙ ap (λ d. sums_on d c.args.lanes.now) c.from-in-loop-day.ensures in
    let found : IsBestBy rule c.args.len sums best =
    subst (λ (o : Option (List Break × ℤ)). MatchOption o ((list : List Break) → is_legal rule c.args.len list ≡ false) (IsBestBy rule c.args.len sums)) c.in-Some.is c.in_ok-best.ensures in
    let here : P c.loop-day.day best = subst (λ (s : List ℤ). IsBestBy rule c.args.len s best) of found in
    record {
      many = ap length items ∙ length-append bests (best ∷ []) ∙ omega (arith, i.many);
      done = λ day less. subst (λ (xs : List (List Break × ℤ)). P day (best_at xs day)) (sym items) (each_more P ([], pos 0) bests best c.loop-day.day i.many i.done here day less);
    }
