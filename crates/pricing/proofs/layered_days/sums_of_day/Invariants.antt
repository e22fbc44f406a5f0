use Rattle.pricing.proofs.Common.{◌≡◌, sum_at}
use Rattle.std.specs.Prelude.{map, take}
use Rattle.pricing.proofs.layered_days.sums_of_day.Given as goal

abbrev pub invariant-loop-lane : goal.invariant-loop-lane
invariant-loop-lane l = l.sums.items ≡ map (λ lane. sum_at lane l.day) (take l.lane-index l.lanes)
