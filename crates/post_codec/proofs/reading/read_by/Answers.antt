use Rattle.post_codec.proofs.Common.{ap, subst, ◌∙◌, arith, reading, IsRead}
use Rattle.post_codec.proofs.Formats.{found, reads_spelling}
use Rattle.post_codec.proofs.Departing.{fault_of, gives_posts}
use Rattle.post_codec.proofs.reading.read_by.Goals as goal

pub returns-clause-found : goal.returns-clause-found
returns-clause-found c = found c.args.width c.args.bytes.now c.posts_or_offset.result (λ i. omega (arith, c.type_inv.bytes i)) c.posts_or_offset.ensures

pub returns-clause-only : goal.returns-clause-only
returns-clause-only c = λ ps spells. gives_posts c.posts_or_offset.result ps (subst (λ r. IsRead c.posts_or_offset.result r) (ap (reading c.args.width) spells.is ∙ reads_spelling c.args.width ps spells.fits) c.posts_or_offset.ensures)

pub returns-clause-fault : goal.returns-clause-fault
returns-clause-fault c = fault_of c.args.width c.args.bytes.now c.posts_or_offset.result (λ i. omega (arith, c.type_inv.bytes i)) c.posts_or_offset.ensures
