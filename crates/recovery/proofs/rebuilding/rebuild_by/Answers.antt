use Rattle.recovery.proofs.Common.{◌≤◌, ℕ, Vec, Global, arith, length, map, rules}
use Rattle.recovery.proofs.Folds.{all_made, front_starts, none_rejected}
use Rattle.recovery.proofs.rebuilding.rebuild_by.Goals as goal

pub parts-init : goal.parts-init
parts-init g c = front_starts c.args.width c.args.instance.now c.args.records.now c.in_ok-new.field-0 c.root.result c.in_ok-new.ensures c.root.ensures

pub parts-preserved : goal.parts-preserved
parts-preserved g c = (c.in_ok-from.ensures.instance, c.in_ok-from.ensures.further.1, c.in_ok-from.ensures.made, c.in_ok-from.ensures.tree)

pub returns-in_err-from-clause-only : goal.returns-in_err-from-clause-only
returns-in_err-from-clause-only g c = none_rejected c.args.width c.args.instance.now (map (λ (r : Vec ℕ Global). r.items) c.args.records.now) c.from_residual-in_err-from.result (search rules)

pub returns-clause-history : goal.returns-clause-history
returns-clause-history g c =
    let done : length c.args.records.now ≤ c.parts.from = omega (arith, c.parts-test.false) in
    all_made c.args.width c.args.instance.now c.args.records.now c.parts.from c.parts.front.state.history c.parts.front.state.book done c.parts.invariant.2
