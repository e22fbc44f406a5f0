use Rattle.break_layers.proofs.Common.{sym, ◌∙◌}
use Rattle.break_layers.proofs.Lunched.{none_met}
use Rattle.break_layers.proofs.sizes.lunches_of.Goals as goal

pub returns-else-some_has-clause-bits : goal.returns-else-some_has-clause-bits
returns-else-some_has-clause-bits c = λ stop is. sym (none_met c.args.entries.now c.args.size stop (sym c.some_has.ensures ∙ c.if-some_has.false) is)
