use Rattle.advisers.proofs.Common.{sym, ap, ◌∙◌, rota_of}
use Rattle.head_splits.proofs.Walked.{map_ok}
use Rattle.advisers.proofs.Choices.{all_used, unused}
use Rattle.advisers.proofs.choosing.shift_rows.Goals as goal

pub returns-then-is_used-clause-duties : goal.returns-then-is_used-clause-duties
returns-then-is_used-clause-duties c =
    map_ok c.used_rows.result _ _ c.used_rows.ensures.duties
    (λ rows are. all_used c.args.instance.now c.args.cuts.now c.args.pricer.now.prices c.args.shift (sym c.is_used.ensures ∙ c.if-is_used.true) (rota_of rows.items) are)

pub returns-else-is_used-clause-duties : goal.returns-else-is_used-clause-duties
returns-else-is_used-clause-duties c =
    ap rota_of c.new.ensures.items ∙ unused c.args.instance.now c.args.cuts.now c.args.pricer.now.prices c.args.shift (sym c.is_used.ensures ∙ c.if-is_used.false)
