use Rattle.certificate.proofs.Alone.{departures}
use Rattle.certificate.proofs.laws.one_departure.Goals as goal

pub returns : goal.returns
returns c = departures
