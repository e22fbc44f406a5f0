use Rattle.certificate.proofs.Kept.{front_short, front_lines, front_read}
use Rattle.certificate.proofs.reading.proof_lines.Goals as goal

pub slice_bounds-from_slice-count : goal.slice_bounds-from_slice-count
slice_bounds-from_slice-count c = front_short c.args.count c.args.bytes.now c.in_ok-rest.rest.now c.in_ok-rest.ensures

pub of_text-requires : goal.of_text-requires
of_text-requires c = rw c.in_ok-text.ensures.items (front_lines c.args.count c.args.bytes.now c.in_ok-rest.rest.now c.in_ok-rest.ensures)

pub returns : goal.returns
returns c = rw (c.of_text.ensures, c.in_ok-text.ensures.items) (front_read c.args.count c.args.bytes.now c.in_ok-rest.rest.now c.in_ok-rest.ensures)
