use Rattle.cert_check.proofs.Common.{◌≡◌, map, take, sum_at}
use Rattle.cert_check.proofs.terms.sums_of_day.Given as goal

abbrev pub invariant-loop-lane : goal.invariant-loop-lane
invariant-loop-lane l = l.sums.items ≡ map (λ lane. sum_at lane l.day) (take l.lane-index l.lanes)
