use Rattle.dual_bound.proofs.Common.{◌<◌, length, ◌∙◌, arith, map-set_same, All-set, AllWithin-more_set, IsKept, IsAt, place_of}
use Rattle.dual_bound.proofs.day_tables.reprice_days.Goals as goal

pub returns-in_err-reprice-clause-places : goal.returns-in_err-reprice-clause-places
returns-in_err-reprice-clause-places g c =
    map-set_same place_of c.loop-day.days c.loop-day.day-index c.reprice.new.self c.day-item.result c.reprice.ensures.place ∙ c.loop-day.invariant.0

pub loop-day-preserved : goal.loop-day-preserved
loop-day-preserved g c =
    let test = c.loop-day-test.true in
    let long = c.loop-day.auto.days in
    let inside : c.loop-day.day-index < length c.loop-day.days = omega arith in (
      map-set_same place_of c.loop-day.days c.loop-day.day-index c.reprice.new.self c.day-item.result c.reprice.ensures.place ∙ c.loop-day.invariant.0,
      All-set (IsKept c.args.instance.now) c.loop-day.days c.loop-day.day-index c.reprice.new.self c.reprice.ensures.kept c.loop-day.invariant.1,
      AllWithin-more_set c.loop-day.days c.loop-day.day-index c.reprice.new.self inside (IsAt c.args.cuts.now c.args.prices.now) c.loop-day.invariant.2 c.in_ok-reprice.ensures.at,
    )
