use Rattle.break_rules.proofs.Common.{sym}
use Rattle.break_rules.proofs.Ranges.{ranges_from_none}
use Rattle.break_rules.proofs.Rule.check.Goals as goal

pub returns-in-None-clause-within : goal.returns-in-None-clause-within
returns-in-None-clause-within c = ranges_from_none c.args.self.now (sym c.in-None.ensures)
