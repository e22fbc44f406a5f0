use Rattle.worker_gate.proofs.worker.decide.Goals as goal

pub returns-clause-decision : goal.returns-clause-decision
returns-clause-decision g c = (c.in_ok-advice.advice, c.in_ok-step.ensures.decision)
