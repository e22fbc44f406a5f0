use Rattle.certificate.proofs.Common.{sym, ◌-◌, ◌^◌, err_from_is_err_and, number_in}
use Rattle.certificate.proofs.Loops.{next_word, stops_word, last_word, stops_last, cut_shorter}
use Rattle.certificate.proofs.proof_words.cut_list.Goals as goal

pub returns-in_err-number : goal.returns-in_err-number
returns-in_err-number c =
    let p = err_from_is_err_and c.from_residual.result c.from_residual.ensures.1 in
    rw (p.1, p.2) (stops_word (number_in (2 ^ 64 - 1)) c.args.text.now c.loop-word.list.items c.loop-word.rest.now (c.in-Some.word.now, c.in-Some.after.now) c.args.left c.in_err-number.field-0.0 (sym c.in-Some.ensures) c.in_err-number.ensures.found c.loop-word.invariant)

pub loop-word-smaller : goal.loop-word-smaller
loop-word-smaller c = cut_shorter 44 c.loop-word.rest.now (c.in-Some.word.now, c.in-Some.after.now) (sym c.in-Some.ensures)

pub loop-word-preserved : goal.loop-word-preserved
loop-word-preserved c = rw c.in_ok-push.ensures.items (next_word (number_in (2 ^ 64 - 1)) c.args.text.now c.loop-word.list.items c.loop-word.rest.now (c.in-Some.word.now, c.in-Some.after.now) c.in_ok-number.field-0 (sym c.in-Some.ensures) c.in_ok-number.ensures.found c.loop-word.invariant)

pub returns-in_err-number-2 : goal.returns-in_err-number-2
returns-in_err-number-2 c =
    let p = err_from_is_err_and c.from_residual-in_err-number-2.result c.from_residual-in_err-number-2.ensures.1 in
    rw (p.1, p.2) (stops_last (number_in (2 ^ 64 - 1)) c.args.text.now c.loop-word.list.items c.loop-word.rest.now c.args.left c.in_err-number-2.field-0.0 (sym c.in_default.ensures) c.in_err-number-2.ensures.found c.loop-word.invariant)

pub returns : goal.returns
returns c = rw c.in_ok-push-2.ensures.items (last_word (number_in (2 ^ 64 - 1)) c.args.text.now c.loop-word.list.items c.loop-word.rest.now c.in_ok-number-2.field-0 (sym c.in_default.ensures) c.in_ok-number-2.ensures.found c.loop-word.invariant)
