use Rattle.certificate.proofs.Acceptance.{bounds, plans}
use Rattle.certificate.proofs.laws.acceptance_is_enough.Goals as goal

pub returns-clause-bound : goal.returns-clause-bound
returns-clause-bound c = bounds

pub returns-clause-plan : goal.returns-clause-plan
returns-clause-plan c = plans
