-- Which of two plans is worth more beside an older one.
-- Source: this project's profile.
use Rattle.std.specs.Prelude.{ℕ, ◌+◌, ◌*◌, ◌≤◌, List}
use Rattle.shift_instance.specs.declared.Row.{Row}
use Rattle.shift_instance.specs.Problem.{Problem}
use Rattle.shift_instance.specs.Rota.{cost, rota_of}
use Rattle.plan_comparison.specs.Changes.{kept_duties}

-- one plan costs no more than another when `change` is taken off for each wanted duty that a plan keeps; said without a difference
abbrev pub WeighsNoMore : Problem → List Row → ℕ → List Row → List Row → Type 0
WeighsNoMore i wanted change one other =
    cost i (rota_of one) + change * kept_duties wanted other ≤ cost i (rota_of other) + change * kept_duties wanted one
