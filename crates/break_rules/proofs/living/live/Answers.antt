use Rattle.break_rules.proofs.Common.{sym}
use Rattle.break_rules.proofs.Reaching.{not_live}
use Rattle.break_rules.proofs.living.live.Goals as goal

pub returns-in-None : goal.returns-in-None
returns-in-None c = sym (not_live c.args.rule.now c.args.len c.args.list.now c.in-None.ensures)
