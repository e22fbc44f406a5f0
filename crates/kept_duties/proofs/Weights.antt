-- Which plan weighs no more than which.
use Rattle.std.proofs.Common.{◌≡◌, ◌+◌, ◌*◌, ◌-◌, ◌≤◌, ℕ, List, subst, arith}
use Rattle.shift_instance.specs.declared.Row.{Row}
use Rattle.shift_instance.specs.Problem.{Problem}
use Rattle.shift_instance.specs.Rota.{cost, rota_of}
use Rattle.plan_comparison.specs.Changes.{kept_duties}
use Rattle.kept_duties.specs.Weighing.{WeighsNoMore}

raised : (a b c k d : ℕ) → a ≤ b + c * d → a + c * k ≤ b + c * (k + d)
raised a b c k d less = omega (arith, less)

-- a plan that keeps no fewer and is dearer by at most `change` for each that it keeps more weighs no more
pub kept_outweigh : (i : Problem) (wanted : List Row) (change : ℕ) (new old : List Row)
    → cost i (rota_of new) ≤ cost i (rota_of old) + change * (kept_duties wanted new - kept_duties wanted old)
    → kept_duties wanted old ≤ kept_duties wanted new → WeighsNoMore i wanted change new old
kept_outweigh i wanted change new old cheap kept =
    let back : kept_duties wanted old + (kept_duties wanted new - kept_duties wanted old) ≡ kept_duties wanted new = omega (arith, kept) in
    subst (λ (n : ℕ). cost i (rota_of new) + change * kept_duties wanted old ≤ cost i (rota_of old) + change * n) back
    (raised (cost i (rota_of new)) (cost i (rota_of old)) change (kept_duties wanted old) (kept_duties wanted new - kept_duties wanted old) cheap)

through : (a b d x y z : ℕ) → a + y ≤ b + x → b + z ≤ d + y → a + z ≤ d + x
through a b d x y z one other = omega (arith, one, other)

-- what weighs no more than a plan that weighs no more than another weighs no more than that
pub weighs_through : (i : Problem) (wanted : List Row) (change : ℕ) (one other last : List Row)
    → WeighsNoMore i wanted change one other → WeighsNoMore i wanted change other last → WeighsNoMore i wanted change one last
weighs_through i wanted change one other last first second =
    through (cost i (rota_of one)) (cost i (rota_of other)) (cost i (rota_of last))
    (change * kept_duties wanted one) (change * kept_duties wanted other) (change * kept_duties wanted last) first second
