use Rattle.dual_bound.proofs.Common.{◌≡◌, ◌≤◌, ◌++◌, ◌∷◌, [], ℤ, List, Option, None, All, get_or, length, length-append, sym, ap, subst, ◌∙◌, arith, unsigned_abs, Break, slots_small, each_more, Vec, Global, DayTables, AreKeptOrNone, IsAt, AreBestsOf}
use Rattle.std.specs.Prelude.{◌<◌}
use Rattle.dual_bound.proofs.pricer.all_bests.Goals as goal

pub new-requires-clause-prices : goal.new-requires-clause-prices
new-requires-clause-prices c =
    subst (λ (xs : List ℤ). All (λ z. unsigned_abs z ≤ 10000000000) xs) (sym c.as_slice.ensures) (slots_small c.args.instance.now c.args.cuts.now c.args.prices.now c.requires.valid c.requires.passes)

pub loop-shift-preserved : goal.loop-shift-preserved
loop-shift-preserved c =
    let shifts = c.loop-shift.shifts.items in
    let bests = c.in_ok-bests.bests in
    let i = c.loop-shift.invariant in
    let items : c.push.new.self.items ≡ shifts ++ bests ∷ [] = c.in_ok-push.ensures.items in
    let P = AreBestsOf c.args.instance.now c.args.cuts.now c.args.prices.now in
    record {
      count = ap length items ∙ length-append shifts (bests ∷ []) ∙ omega (arith, i.count);
      each = λ s less. subst (λ (xs : List (Option (List (List Break × ℤ)))). P s (get_or xs s None)) (sym items) (each_more P None shifts bests c.loop-shift.shift i.count i.each c.in_ok-bests.ensures.bests s less);
    }

pub shift_bests-requires-clause-kept : goal.shift_bests-requires-clause-kept
shift_bests-requires-clause-kept c =
    let i = c.args.instance.now in
    let s = c.loop-shift.shift in
    let all = c.args.tables.now in
    let v = c.index-tables-from.result in
    let test = c.loop-shift-test.true in
    let end = c.loop-shift.auto.shift-end in
    let few = c.requires.tables.kept.count in
    let inside : s < length all = omega (arith, c.shifts-2.ensures.count) in
    let is : v ≡ get_or all s v = c.index-tables-from.is ∙ ap (λ n. get_or all n v) c.from.ensures in
    let own : AreKeptOrNone i s v.items = subst (λ (w : Vec DayTables Global). AreKeptOrNone i s w.items) (sym is) (c.requires.tables.kept.each s v inside) in
    subst (AreKeptOrNone i s) (sym c.as_slice-days.ensures.value) own

pub shift_bests-requires-clause-at : goal.shift_bests-requires-clause-at
shift_bests-requires-clause-at c =
    let P = IsAt c.args.cuts.now c.args.prices.now in
    let s = c.loop-shift.shift in
    let all = c.args.tables.now in
    let v = c.index-tables-from.result in
    let test = c.loop-shift-test.true in
    let end = c.loop-shift.auto.shift-end in
    let few = c.requires.tables.kept.count in
    let inside : s < length all = omega (arith, c.shifts-2.ensures.count) in
    let is : v ≡ get_or all s v = c.index-tables-from.is ∙ ap (λ n. get_or all n v) c.from.ensures in
    let own : All P v.items = subst (λ (w : Vec DayTables Global). All P w.items) (sym is) (c.requires.tables.at s v inside) in
    subst (λ (xs : List DayTables). All P xs) (sym c.as_slice-days.ensures.value) own
