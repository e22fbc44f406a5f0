use Rattle.certificate.proofs.First.{first_place}
use Rattle.certificate.proofs.words.place.Goals as goal

pub returns-clause-place : goal.returns-clause-place
returns-clause-place c = first_place c.args.by c.args.text.now c.memchr.result c.memchr.ensures
