use Rattle.shift_instance.proofs.Common.{rule_causes}
use Rattle.shift_instance.proofs.Judged.{rule_fault, no_rule_fault}
use Rattle.shift_instance.proofs.judging.judge_rule.Goals as goal

pub returns-in-Ok : goal.returns-in-Ok
returns-in-Ok c = no_rule_fault c.args.number (rule_causes c.args.rule.now) c.in-Ok.ensures.first

pub returns-in-Err : goal.returns-in-Err
returns-in-Err c = rule_fault c.args.number (rule_causes c.args.rule.now) c.in-Err.why c.in-Err.ensures.first
