use Rattle.certificate.proofs.Common.{◌<◌, length, sym, ◌∙◌, arith, err_from_is_err_and}
use Rattle.certificate.proofs.Loops.{pass_none, pass_note, end_notes, other_notes, a_note, cut_line, cut_shorter}
use Rattle.certificate.proofs.reading.notes.Goals as goal

pub loop-rest-init : goal.loop-rest-init
loop-rest-init c = pass_none c.args.bytes.now

pub loop-rest-smaller : goal.loop-rest-smaller
loop-rest-smaller c = cut_shorter 10 c.loop-rest.rest.now (c.in_ok-line.line.now, c.in_ok-line.after.now) c.in_ok-line.ensures

pub loop-rest-preserved : goal.loop-rest-preserved
loop-rest-preserved c =
    let is_line = cut_line c.loop-rest.rest.now (c.in_ok-line.line.now, c.in_ok-line.after.now) c.in_ok-line.ensures in
    pass_note c.args.bytes.now c.loop-rest.rest.now (c.in_ok-line.line.now, c.in_ok-line.after.now) c.in_ok-line.ensures (a_note c.in_ok-line.line.now is_line (sym c.is_note.ensures ∙ c.if-not-is_note.false)) c.loop-rest.invariant

pub returns-in_err-line : goal.returns-in_err-line
returns-in_err-line c =
    let p = err_from_is_err_and c.from_residual.result c.from_residual.ensures.1 in
    let some : 0 < length c.loop-rest.rest.now = grind (arith, c.is_empty.ensures, c.loop-rest-test.true) in
    rw (p.1, p.2) (end_notes c.args.bytes.now c.loop-rest.rest.now c.in_err-line.field-0.0 some c.in_err-line.ensures c.loop-rest.invariant)

pub returns-then-not-is_note : goal.returns-then-not-is_note
returns-then-not-is_note c =
    let some : 0 < length c.loop-rest.rest.now = grind (arith, c.is_empty.ensures, c.loop-rest-test.true) in
    other_notes c.args.bytes.now c.loop-rest.rest.now (c.in_ok-line.line.now, c.in_ok-line.after.now) some c.in_ok-line.ensures (sym c.is_note.ensures ∙ c.if-not-is_note.true) c.loop-rest.invariant
