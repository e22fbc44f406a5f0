use Rattle.cert_check.proofs.Common.{◌-◌, map, take, end_of_all, sums_on, Through, IsGreatestOf, whole_worth}
use Rattle.cert_check.proofs.below.+best_below.Given as goal

abbrev pub decreases-best_below : goal.decreases-best_below
decreases-best_below g l = l.work.now.len - end_of_all l.list.now

abbrev pub invariant-loop-way : goal.invariant-loop-way
invariant-loop-way g l =
    IsGreatestOf (Through l.work.rule.now l.work.len l.list (map (λ w. w.0) (take l.way-index l.way-items)))
    (whole_worth l.duties.cuts.now l.duties.prices.now l.duties.shift l.duties.day (sums_on l.duties.day l.work.sums.now) l.work.rule.now l.work.len l.list) l.best
