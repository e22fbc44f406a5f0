use Rattle.cert_check.proofs.Common.{[], Bool, List, Some, None, cond, sym, ap, subst, ◌∙◌, Row, all_duties, settled_floor, IsPassed}
use Rattle.cert_check.proofs.Passing.{is_settled_passed, not_settled_passed}
use Rattle.cert_check.proofs.settled.settled_floor.Goals as goal

pub returns-then-not-fixed : goal.returns-then-not-fixed
returns-then-not-fixed c =
    let i = c.args.instance.now in
    let cuts = c.args.cuts.now in
    let passed : IsPassed i cuts (all_duties i) c.in_ok-fixed.fixed [] c.pass_shifts.new.rows.items =
    subst (λ (rs : List Row). IsPassed i cuts (all_duties i) c.in_ok-fixed.fixed rs c.pass_shifts.new.rows.items) c.new-rows.ensures.items c.in_ok-fixed.ensures in
    sym (ap (λ (b : Bool). cond b (Some (settled_floor i cuts)) None) (not_settled_passed i cuts c.in_ok-fixed.fixed c.pass_shifts.new.rows.items passed c.if-not-fixed.true))

pub returns : goal.returns
returns c =
    let i = c.args.instance.now in
    let cuts = c.args.cuts.now in
    let passed : IsPassed i cuts (all_duties i) c.in_ok-fixed.fixed [] c.pass_shifts.new.rows.items =
    subst (λ (rs : List Row). IsPassed i cuts (all_duties i) c.in_ok-fixed.fixed rs c.pass_shifts.new.rows.items) c.new-rows.ensures.items c.in_ok-fixed.ensures in
    ap Some c.plan_cost-2.ensures
    ∙ sym (ap (λ (b : Bool). cond b (Some (settled_floor i cuts)) None) (is_settled_passed i cuts c.in_ok-fixed.fixed c.pass_shifts.new.rows.items passed c.if-not-fixed.false).0)
