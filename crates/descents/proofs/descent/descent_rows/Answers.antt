use Rattle.descents.proofs.Common.{◌≤◌, List, subst, arith, Row, cost, rota_of, greedy_rows, IsLocalOptimum}
use Rattle.descents.proofs.Evener.{from_dearer}
use Rattle.descents.proofs.descent.descent_rows.Goals as goal

pub returns : goal.returns
returns c =
    let i = c.args.instance.now in
    let rows = c.in_ok-rows.rows in
    let even = c.in_ok-even.even in
    let first : cost i (rota_of c.in_ok-low.low) ≤ cost i (rota_of (greedy_rows i)) =
    subst (λ (start : List Row). cost i (rota_of c.in_ok-low.low) ≤ cost i (rota_of start)) c.in_ok-greedy.ensures.rows c.in_ok-low.ensures.cheaper in
    let second : cost i (rota_of even) ≤ cost i (rota_of c.in_ok-low.low) = c.in_ok-even.ensures.cheap in
    let third : cost i (rota_of rows) ≤ cost i (rota_of even) = c.in_ok-rows.ensures.cheaper in
    record {
      legal = c.in_ok-rows.ensures.legal;
      cheaper = omega arith;
      optimum = ∣ from_dearer (IsLocalOptimum i (rota_of rows)) (cost i (rota_of rows)) (cost i (rota_of even)) (cost i (rota_of (greedy_rows i))) c.args.rounds (omega arith) c.in_ok-rows.ensures.optimum ∣₁;
    }
