use Rattle.dual_bound.proofs.Common.{◌≡◌, ◌++◌, ◌∷◌, [], ◌+◌, List, All, sym, subst, DayTables, AreKept, IsAt}
use Rattle.dual_bound.proofs.KeptTables.{kept_more, all_more}
use Rattle.dual_bound.proofs.day_tables.shift_tables.Goals as goal

pub loop-day-preserved : goal.loop-day-preserved
loop-day-preserved g c =
    let i = c.args.instance.now in
    let tables = c.loop-day.tables.items in
    let t = c.in_ok-new.field-0 in
    let items : c.push.new.self.items ≡ tables ++ t ∷ [] = c.in_ok-push.ensures.items in (
      subst (λ (xs : List DayTables). AreKept i c.args.shift (c.loop-day.day + 1) xs) (sym items)
          (kept_more i c.args.shift c.loop-day.day tables t c.loop-day.invariant.0 c.in_ok-new.ensures.place c.in_ok-new.ensures.kept),
      subst (λ (xs : List DayTables). All (IsAt c.args.cuts.now c.args.prices.now) xs) (sym items)
          (all_more (IsAt c.args.cuts.now c.args.prices.now) tables t c.loop-day.invariant.1 c.in_ok-new.ensures.at),
    )
