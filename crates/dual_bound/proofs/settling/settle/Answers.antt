use Rattle.dual_bound.proofs.Common.{subst, IsSettle}
use Rattle.head_splits.specs.declared.Settle.{Settle}
use Rattle.dual_bound.proofs.Splitting.{splits_live}
use Rattle.dual_bound.proofs.settling.settle.Goals as goal

pub returns-in-Unsettled-clause-split : goal.returns-in-Unsettled-clause-split
returns-in-Unsettled-clause-split c =
    splits_live c.args.instance.now c.args.cuts c.in-Unsettled.class c.in-Unsettled.m (subst (λ (s : Settle). IsSettle c.args.instance.now c.args.cuts s) c.in-Unsettled.is c.in_ok-class.ensures)
