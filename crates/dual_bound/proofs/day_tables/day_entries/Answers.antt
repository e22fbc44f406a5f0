use Rattle.dual_bound.proofs.Common.{◌≤◌, ℕ, ℤ, List, All, length, get_or, ◌^◌, subst, sym, arith, refl, unsigned_abs, Break, priced, map_ok, cut_small}
use Rattle.dual_bound.proofs.Entries.{entry_small, entries_few, all_from_has, same_entries}
use Rattle.dual_bound.proofs.day_tables.day_entries.Goals as goal

pub entries-requires-clause-small : goal.entries-requires-clause-small
entries-requires-clause-small c k =
    subst (λ (xs : List ℕ). get_or xs k 0 ≤ 1000000000000) (sym c.as_slice-2.ensures) (cut_small c.args.instance.now c.args.cuts.now c.args.prices.now c.requires.passes k)

pub returns-clause-few : goal.returns-clause-few
returns-clause-few c =
    map_ok c.entries.result _ _ c.entries.ensures (λ list is.
    let e = same_entries list.items list.items c.as_slice.result.now c.args.cuts.now c.as_slice-2.result.now c.args.prices.now.cuts c.args.shift c.args.day refl is c.as_slice.ensures c.as_slice-2.ensures in
    let some = entries_few c.args.cuts.now c.args.prices.now.cuts c.args.shift c.args.day in
    let few = c.requires.few in
    subst (λ (es : List (List Break × ℤ)). length es ≤ 2 ^ 33) (sym e) (omega arith))

pub returns-clause-small : goal.returns-clause-small
returns-clause-small c =
    map_ok c.entries.result _ _ c.entries.ensures (λ list is.
    let e = same_entries list.items list.items c.as_slice.result.now c.args.cuts.now c.as_slice-2.result.now c.args.prices.now.cuts c.args.shift c.args.day refl is c.as_slice.ensures c.as_slice-2.ensures in
    let p = priced c.args.instance.now c.args.cuts.now c.args.prices.now c.requires.passes in
    subst (λ (es : List (List Break × ℤ)). All (λ (x : List Break × ℤ). unsigned_abs x.1 ≤ 1000000000000) es) (sym e)
    (all_from_has _ _ (entry_small c.args.cuts.now c.args.prices.now.cuts c.args.shift c.args.day p.cut_prices)))
