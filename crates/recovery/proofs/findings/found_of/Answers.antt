use Rattle.recovery.proofs.findings.found_of.Goals as goal

pub returns-in-Settled-clause-found : goal.returns-in-Settled-clause-found
returns-in-Settled-clause-found c = rw (c.in-Settled.is) c.floor_found.ensures
