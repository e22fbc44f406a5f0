use Rattle.dual_bound.proofs.Common.{◌≡◌, ◌<◌, List, All, length, map, get_or, ap, sym, subst, ◌∙◌, arith, Vec, Global, with_items, AllWithin-more_set, DayTables, IsKept, IsAt, place_of}
use Rattle.dual_bound.proofs.KeptTables.{items_of_changed, kept_changed}
use Rattle.dual_bound.proofs.day_tables.reprice_tables.Goals as goal

pub reprice_days-requires-clause-kept : goal.reprice_days-requires-clause-kept
reprice_days-requires-clause-kept g c =
    let i = c.args.instance.now in
    let s = c.loop-days.days-index in
    let test = c.loop-days-test.true in
    let long = c.loop-days.auto.all in
    let inside : s < length c.loop-days.all = omega arith in
    let own = c.loop-days.invariant.0.each s c.days-item.result inside in
    subst (λ (xs : List DayTables). All (IsKept i) xs) (sym c.deref_mut.ensures.value) own.2.each

pub returns-in_err-reprice_days-clause-kept : goal.returns-in_err-reprice_days-clause-kept
returns-in_err-reprice_days-clause-kept g c =
    let i = c.args.instance.now in
    let s = c.loop-days.days-index in
    let test = c.loop-days-test.true in
    let long = c.loop-days.auto.all in
    let inside : s < length c.loop-days.all = omega arith in
    let places : map place_of c.reprice_days.new.days ≡ map place_of (get_or c.loop-days.all s c.days-item.result).items = c.reprice_days.ensures.places ∙ ap (map place_of) c.deref_mut.ensures.value in
    kept_changed i _ s c.loop-days.all c.days-item.result c.reprice_days.new.days c.loop-days.invariant.0 inside places c.reprice_days.ensures.kept

pub loop-days-preserved : goal.loop-days-preserved
loop-days-preserved g c =
    let i = c.args.instance.now in
    let s = c.loop-days.days-index in
    let test = c.loop-days-test.true in
    let long = c.loop-days.auto.all in
    let inside : s < length c.loop-days.all = omega arith in
    let P = IsAt c.args.cuts.now c.args.prices.now in
    let days = c.reprice_days.new.days in
    let places : map place_of days ≡ map place_of (get_or c.loop-days.all s c.days-item.result).items = c.reprice_days.ensures.places ∙ ap (map place_of) c.deref_mut.ensures.value in
    let at : All P (with_items (get_or c.loop-days.all s c.days-item.result) days).items =
    subst (λ (xs : List DayTables). All P xs) (sym (items_of_changed i 0 s c.loop-days.all c.days-item.result days places)) c.in_ok-reprice_days.ensures.at in (
      kept_changed i _ s c.loop-days.all c.days-item.result days c.loop-days.invariant.0 inside places c.reprice_days.ensures.kept,
      AllWithin-more_set c.loop-days.all s (with_items (get_or c.loop-days.all s c.days-item.result) days) inside (λ (w : Vec DayTables Global). All P w.items) c.loop-days.invariant.1 at,
    )
