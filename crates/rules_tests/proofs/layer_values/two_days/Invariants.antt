use Rattle.std.proofs.Common.{◌≡◌}
use Rattle.std.specs.Prelude.{map, take}
use Rattle.price_sums.specs.Along.{sum_at}
use Rattle.rules_tests.proofs.layer_values.two_days.Given as goal

abbrev pub invariant-loop-sum : goal.invariant-loop-sum
invariant-loop-sum l = map (λ lane. sum_at lane 0) l.lanes.items ≡ take l.sum-index l.sums
