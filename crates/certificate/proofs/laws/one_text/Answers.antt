use Rattle.certificate.proofs.Alone.{written, certs, notes}
use Rattle.certificate.proofs.laws.one_text.Goals as goal

pub returns-clause-written : goal.returns-clause-written
returns-clause-written c = written

pub returns-clause-certs : goal.returns-clause-certs
returns-clause-certs c = certs

pub returns-clause-notes : goal.returns-clause-notes
returns-clause-notes c = notes
