use Rattle.carried_rows.proofs.Common.{◌∙◌, sym, length, is_like}
use Rattle.carried_rows.proofs.Steps.{find_past}
use Rattle.carried_rows.proofs.carrying.like_of.Goals as goal

pub loop-before-preserved : goal.loop-before-preserved
loop-before-preserved c =
    sym (find_past (λ s. is_like c.args.old.now c.args.new.now s c.args.shift) c.loop-before.before (length c.shifts.result.now) c.loop-before-test.true (sym c.is_like.ensures ∙ c.if-is_like.false)) ∙ c.loop-before.invariant
