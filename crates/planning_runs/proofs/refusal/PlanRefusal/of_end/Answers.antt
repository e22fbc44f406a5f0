use Rattle.planning_runs.proofs.Common.{ap, Journal, System, Words, end_cause}
use Rattle.planning_runs.proofs.Causes.{said_for}
use Rattle.planning_runs.proofs.refusal.PlanRefusal.of_end.Goals as goal

pub returns-in-Refused : goal.returns-in-Refused
returns-in-Refused c = (Journal, ap end_cause c.in-Refused.is, said_for c.unopened_sentence.result Journal c.said.result c.said.ensures)

pub returns-in-DiskFault : goal.returns-in-DiskFault
returns-in-DiskFault c = (System, ap end_cause c.in-DiskFault.is, said_for c.disk_sentence.result System c.said-in-DiskFault.result c.said-in-DiskFault.ensures)

pub returns-in-TooFewAdvisers : goal.returns-in-TooFewAdvisers
returns-in-TooFewAdvisers c = (Words, ap end_cause c.in-TooFewAdvisers.is, said_for c.format.result Words c.said-in-TooFewAdvisers.result c.said-in-TooFewAdvisers.ensures)
