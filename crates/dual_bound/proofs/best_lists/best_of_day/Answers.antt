use Rattle.dual_bound.proofs.Common.{◌≤◌, ℕ, ℤ, List, All, length, get_or, ◌^◌, subst, sym, arith, w128, unsigned_abs, to_z-of_z, Break, priced, cut_small, slots_small, fits, IsBestOn}
use Rattle.dual_bound.proofs.Entries.{entry_small, entries_few, all_from_has, same_entries}
use Rattle.dual_bound.proofs.BestLists.{best_on, none_on}
use Rattle.dual_bound.proofs.best_lists.best_of_day.Goals as goal

pub entries-requires-clause-small : goal.entries-requires-clause-small
entries-requires-clause-small c k =
    subst (λ (xs : List ℕ). get_or xs k 0 ≤ 1000000000000) (sym c.as_slice-2.ensures) (cut_small c.args.instance.now c.args.cuts.now c.args.prices.now c.requires.passes k)

pub best_pattern-requires-clause-prices : goal.best_pattern-requires-clause-prices
best_pattern-requires-clause-prices c = subst (λ (xs : List ℤ). All (λ z. unsigned_abs z ≤ 10000000000) xs) (sym c.as_slice-slots.ensures) (slots_small c.args.instance.now c.args.cuts.now c.args.prices.now c.requires.valid c.requires.passes)

pub best_pattern-requires-clause-few : goal.best_pattern-requires-clause-few
best_pattern-requires-clause-few c =
    let e = same_entries c.as_slice-3.result.now c.in_ok-entries.entries.items c.as_slice.result.now c.args.cuts.now c.as_slice-2.result.now c.args.prices.now.cuts c.args.shift c.args.day c.as_slice-3.ensures.value c.in_ok-entries.ensures c.as_slice.ensures c.as_slice-2.ensures in
    let some = entries_few c.args.cuts.now c.args.prices.now.cuts c.args.shift c.args.day in
    let few = c.requires.few in
    subst (λ (es : List (List Break × ℤ)). length es ≤ 2 ^ 33) (sym e) (omega arith)

pub best_pattern-requires-clause-small : goal.best_pattern-requires-clause-small
best_pattern-requires-clause-small c =
    let e = same_entries c.as_slice-3.result.now c.in_ok-entries.entries.items c.as_slice.result.now c.args.cuts.now c.as_slice-2.result.now c.args.prices.now.cuts c.args.shift c.args.day c.as_slice-3.ensures.value c.in_ok-entries.ensures c.as_slice.ensures c.as_slice-2.ensures in
    let p = priced c.args.instance.now c.args.cuts.now c.args.prices.now c.requires.passes in
    subst (λ (es : List (List Break × ℤ)). All (λ (x : List Break × ℤ). unsigned_abs x.1 ≤ 1000000000000) es) (sym e)
    (all_from_has _ _ (entry_small c.args.cuts.now c.args.prices.now.cuts c.args.shift c.args.day p.cut_prices))

pub returns-in-Some : goal.returns-in-Some
returns-in-Some c =
    let e = same_entries c.as_slice-3.result.now c.in_ok-entries.entries.items c.as_slice.result.now c.args.cuts.now c.as_slice-2.result.now c.args.prices.now.cuts c.args.shift c.args.day c.as_slice-3.ensures.value c.in_ok-entries.ensures c.as_slice.ensures c.as_slice-2.ensures in
    let i = c.args.instance.now in
    let v = c.in-Some.value in
    let b : IsBestOn i c.args.cuts.now c.args.prices.now c.args.shift c.args.day c.in-Some.pattern.list v =
    best_on i c.args.cuts.now c.args.prices.now c.args.shift c.args.day c.as_slice-slots.result.now c.as_slice-3.result.now c.requires.valid c.requires.passes c.requires.few c.as_slice-slots.ensures e
    c.in_ok-pattern.field-0 c.in-Some.pattern v _ c.in-Some.is c.in_ok-pattern.ensures.best in
    record { best = subst (λ (z : ℤ). IsBestOn i c.args.cuts.now c.args.prices.now c.args.shift c.args.day c.in-Some.pattern.list z) (sym (to_z-of_z w128 v (fits v (2 ^ 74) b.valued.small (omega arith)))) b }

pub returns : goal.returns
returns c = record { best = none_on c.args.instance.now c.args.shift c.in_ok-pattern.field-0 _ c.in-None.is c.in_ok-pattern.ensures.best }
