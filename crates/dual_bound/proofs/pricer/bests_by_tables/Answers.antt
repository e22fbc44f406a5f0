use Rattle.dual_bound.proofs.Common.{◌≡◌, ◌++◌, ◌∷◌, [], ℕ, ℤ, pos, List, length, length-append, sym, ap, subst, ◌∙◌, arith, Break, best_at, each_more, IsBestOn, IsKept, IsAt, place_of, AreBests}
use Rattle.dual_bound.proofs.KeptTables.{best_of_kept, none_of_kept, kept_count, place_at}
use Rattle.dual_bound.proofs.Values.{at_some, none_at}
use Rattle.dual_bound.proofs.pricer.bests_by_tables.Goals as goal

pub returns-in-None : goal.returns-in-None
returns-in-None c =
    let i = c.args.instance.now in
    let s = c.args.shift in
    let k = c.loop-day.day-index in
    let t = c.day-item.result in
    let kept : IsKept i t = subst (IsKept i) (sym c.day-item.is) (c.requires.tables.kept.each k t c.loop-day-test.true) in
    let at : IsAt c.args.cuts.now c.args.prices.now t = subst (IsAt c.args.cuts.now c.args.prices.now) (sym c.day-item.is) (c.requires.tables.at k t c.loop-day-test.true) in
    let place : place_of t ≡ (s, k) = ap place_of c.day-item.is ∙ place_at i s i.days c.args.tables.now k t c.requires.tables.kept c.loop-day-test.true in
    none_of_kept i c.args.cuts.now c.args.prices.now s k t kept at place (none_at c.in_ok-best.field-0 _ _ c.in-None.is c.in_ok-best.ensures)

pub loop-day-preserved : goal.loop-day-preserved
loop-day-preserved c =
    let i = c.args.instance.now in
    let s = c.args.shift in
    let k = c.loop-day.day-index in
    let t = c.day-item.result in
    let kept : IsKept i t = subst (IsKept i) (sym c.day-item.is) (c.requires.tables.kept.each k t c.loop-day-test.true) in
    let at : IsAt c.args.cuts.now c.args.prices.now t = subst (IsAt c.args.cuts.now c.args.prices.now) (sym c.day-item.is) (c.requires.tables.at k t c.loop-day-test.true) in
    let place : place_of t ≡ (s, k) = ap place_of c.day-item.is ∙ place_at i s i.days c.args.tables.now k t c.requires.tables.kept c.loop-day-test.true in
    let bests = c.loop-day.bests.items in
    let best = c.in-Some.best in
    let inv = c.loop-day.invariant in
    let items : c.push.new.self.items ≡ bests ++ best ∷ [] = c.in_ok-push.ensures.items in
    let P : ℕ → List Break × ℤ → Type 0 = λ day b. IsBestOn i c.args.cuts.now c.args.prices.now s day b.0 b.1 in
    let own : P k best = best_of_kept i c.args.cuts.now c.args.prices.now s k t kept at place best.0 best.1 c.requires.valid c.requires.passes c.requires.few (at_some c.in_ok-best.field-0 best _ _ c.in-Some.is c.in_ok-best.ensures) in
    record {
      count = ap length items ∙ length-append bests (best ∷ []) ∙ omega (arith, inv.count);
      each = λ day less. subst (λ (xs : List (List Break × ℤ)). P day (best_at xs day)) (sym items) (each_more P ([], pos 0) bests best k inv.count inv.each own day less);
    }

pub returns : goal.returns
returns c =
    let i = c.args.instance.now in
    let last = c.loop-day-test.false in
    let first = c.loop-day.auto.day-index-end in
    let count = kept_count i c.args.shift i.days c.args.tables.now c.requires.tables.kept in
    let all : c.loop-day.day-index ≡ i.days = omega arith in
    subst (λ n. AreBests i c.args.cuts.now c.args.prices.now c.args.shift n c.new.result) all
    (subst (AreBests i c.args.cuts.now c.args.prices.now c.args.shift c.loop-day.day-index) (sym c.new.ensures) c.loop-day.invariant)
