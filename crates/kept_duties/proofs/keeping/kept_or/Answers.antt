use Rattle.std.proofs.Common.{◌≡◌, ◌+◌, ◌*◌, ◌-◌, ◌≤◌, ℕ, List, sym, ap, ◌∙◌, subst, arith}
use Rattle.shift_instance.specs.declared.Row.{Row}
use Rattle.shift_instance.specs.Problem.{Problem}
use Rattle.shift_instance.specs.Rota.{cost, rota_of}
use Rattle.plan_comparison.specs.Changes.{kept_duties}
use Rattle.kept_duties.proofs.keeping.kept_or.Goals as goal

pub returns-clause-cheap : goal.returns-clause-cheap
returns-clause-cheap c =
    let i = c.args.instance.now in
    let wanted = c.args.wanted.now in
    let new = c.into_rows.result in
    let old = c.args.rows in
    let change = c.args.change in
    let counted : cost i (rota_of new) ≡ c.cost.result =
    ap (λ (rows : List Row). cost i (rota_of rows)) c.into_rows.ensures.rows
    ∙ ap (λ (j : Problem). cost j (rota_of c.in-Ok.plan.rows)) (sym c.in-Ok.ensures.ok.0)
    ∙ sym c.into_rows.ensures.costed.exact
    ∙ sym c.cost.ensures.cost in
    let more : c.kept_duties-more.result ≡ kept_duties wanted new =
    c.kept_duties-more.ensures.kept ∙ ap (λ (rows : List Row). kept_duties wanted rows) (c.rows-2.ensures.rows ∙ sym c.into_rows.ensures.rows) in
    let paid : c.cost.result ≤ c.most_paid.result = omega arith in
    let most : c.cost.result ≤ c.recount-cost.result + change * (c.kept_duties-more.result - c.kept_duties-kept.result) = omega (arith, paid, c.most_paid.ensures) in
    subst (λ (n : ℕ). n ≤ cost i (rota_of old) + change * (kept_duties wanted new - kept_duties wanted old)) (sym counted)
    (subst (λ (n : ℕ). c.cost.result ≤ cost i (rota_of old) + change * (n - kept_duties wanted old)) more
    (subst (λ (n : ℕ). c.cost.result ≤ cost i (rota_of old) + change * (c.kept_duties-more.result - n)) c.kept_duties-kept.ensures.kept
    (subst (λ (n : ℕ). c.cost.result ≤ n + change * (c.kept_duties-more.result - c.kept_duties-kept.result)) c.recount-cost.ensures.cost most)))
