use Rattle.planning_runs.proofs.Common.{ℕ, List, IsTrue, Some, sym, subst, Row, are_legal_rows, Cert, is_accepted, Spells, Agrees, written}
use Rattle.planning_runs.proofs.Rows.{accepted, agrees, is_with_rows, rows_of_plan}
use Rattle.planning_runs.proofs.other_rows.with_rows.Goals as goal

pub report-requires : goal.report-requires
report-requires c =
    let plan = c.args.plan in
    subst Agrees (sym (is_with_rows plan.instance plan.cert c.args.rows c.status_beside.result c.recount-cost.result c.status_beside.ensures c.recount-cost.ensures.cost))
    (agrees plan.instance plan.cert c.args.rows plan.report.items c.heads-heads.ensures.valid plan.spelled plan.accepted c.requires.legal)

pub invariant_of-result : goal.invariant_of-result
invariant_of-result c =
    let plan = c.args.plan in
    let made : Cert = record { status = c.status_beside.result; plan = Some (c.recount-cost.result, c.args.rows); bound = plan.cert.bound; lines = plan.cert.lines } in
    let same = is_with_rows plan.instance plan.cert c.args.rows c.status_beside.result c.recount-cost.result c.status_beside.ensures c.recount-cost.ensures.cost in
    record {
      spelled = ∣ subst (λ (bytes : List ℕ). Spells bytes made) (sym c.in_ok-text.ensures.text) (written made c.in_ok-text.ensures.has) ∣₁;
      accepted = subst (λ (cert : Cert). IsTrue (is_accepted plan.instance cert)) (sym same) (accepted plan.instance plan.cert c.args.rows plan.accepted c.requires.legal);
      legal = λ cost rows is. subst (λ (some : List Row). IsTrue (are_legal_rows plan.instance some)) (rows_of_plan c.recount-cost.result cost c.args.rows rows is) c.requires.legal;
    }
