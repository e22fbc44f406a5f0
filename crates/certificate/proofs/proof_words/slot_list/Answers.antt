use Rattle.certificate.proofs.Common.{sym, err_from_is_err_and, w64, to_z-of_z, slot_price_in}
use Rattle.certificate.proofs.Steps.{slot_exact}
use Rattle.certificate.proofs.Loops.{next_word, stops_word, last_word, stops_last, cut_shorter}
use Rattle.certificate.proofs.proof_words.slot_list.Goals as goal

pub returns-in_err-slot_price_of : goal.returns-in_err-slot_price_of
returns-in_err-slot_price_of c =
    let p = err_from_is_err_and c.from_residual.result c.from_residual.ensures.1 in
    rw (p.1, p.2) (stops_word slot_price_in c.args.text.now c.loop-word.list.items c.loop-word.rest.now (c.in-Some.word.now, c.in-Some.after.now) c.args.left c.in_err-slot_price_of.field-0.0 (sym c.in-Some.ensures) c.in_err-slot_price_of.ensures c.loop-word.invariant)

pub loop-word-smaller : goal.loop-word-smaller
loop-word-smaller c = cut_shorter 44 c.loop-word.rest.now (c.in-Some.word.now, c.in-Some.after.now) (sym c.in-Some.ensures)

pub loop-word-preserved : goal.loop-word-preserved
loop-word-preserved c = rw (c.in_ok-push.ensures.items, to_z-of_z w64 c.in_ok-slot_price_of.field-0 (slot_exact.takes c.in-Some.word.now c.in_ok-slot_price_of.field-0 c.in_ok-slot_price_of.ensures).1) (next_word slot_price_in c.args.text.now c.loop-word.list.items c.loop-word.rest.now (c.in-Some.word.now, c.in-Some.after.now) c.in_ok-slot_price_of.field-0 (sym c.in-Some.ensures) c.in_ok-slot_price_of.ensures c.loop-word.invariant)

pub returns-in_err-slot_price_of-2 : goal.returns-in_err-slot_price_of-2
returns-in_err-slot_price_of-2 c =
    let p = err_from_is_err_and c.from_residual-in_err-slot_price_of-2.result c.from_residual-in_err-slot_price_of-2.ensures.1 in
    rw (p.1, p.2) (stops_last slot_price_in c.args.text.now c.loop-word.list.items c.loop-word.rest.now c.args.left c.in_err-slot_price_of-2.field-0.0 (sym c.in_default.ensures) c.in_err-slot_price_of-2.ensures c.loop-word.invariant)

pub returns : goal.returns
returns c = rw (c.in_ok-push-2.ensures.items, to_z-of_z w64 c.in_ok-slot_price_of-2.field-0 (slot_exact.takes c.loop-word.rest.now c.in_ok-slot_price_of-2.field-0 c.in_ok-slot_price_of-2.ensures).1) (last_word slot_price_in c.args.text.now c.loop-word.list.items c.loop-word.rest.now c.in_ok-slot_price_of-2.field-0 (sym c.in_default.ensures) c.in_ok-slot_price_of-2.ensures c.loop-word.invariant)
