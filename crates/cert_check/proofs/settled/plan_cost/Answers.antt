use Rattle.cert_check.proofs.Common.{sym, ◌∙◌, are_legal_rows}
use Rattle.cert_check.proofs.Passing.{floor_illegal, floor_unmet, floor_cost, refused, granted}
use Rattle.cert_check.proofs.settled.plan_cost.Goals as goal

pub returns-then-is_err : goal.returns-then-is_err
returns-then-is_err c =
    floor_illegal c.args.instance.now c.args.cuts.now c.args.rows.now c.requires
    (refused c.legal_rows.result (are_legal_rows c.args.instance.now c.args.rows.now) c.legal_rows.ensures.legal (sym c.is_err.ensures.value ∙ c.if-is_err.true))

pub returns-then-not-meets : goal.returns-then-not-meets
returns-then-not-meets c =
    floor_unmet c.args.instance.now c.args.cuts.now c.args.rows.now c.requires
    (granted c.legal_rows.result (are_legal_rows c.args.instance.now c.args.rows.now) c.legal_rows.ensures.legal (sym c.is_err.ensures.value ∙ c.if-is_err.false)) (sym c.meets.ensures ∙ c.if-not-meets.true)

pub returns : goal.returns
returns c =
    c.recount.ensures.cost
    ∙ floor_cost c.args.instance.now c.args.cuts.now c.args.rows.now c.requires
    (granted c.legal_rows.result (are_legal_rows c.args.instance.now c.args.rows.now) c.legal_rows.ensures.legal (sym c.is_err.ensures.value ∙ c.if-is_err.false)) (sym c.meets.ensures ∙ c.if-not-meets.false)
