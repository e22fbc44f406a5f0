use Rattle.certificate.proofs.Common.{err_from_is_err_and}
use Rattle.certificate.proofs.Short.{cuts_missed, cuts_found}
use Rattle.certificate.proofs.slot_words.prices_of.Goals as goal

pub returns-in_err-cuts : goal.returns-in_err-cuts
returns-in_err-cuts c =
    let p = err_from_is_err_and c.from_residual-in_err-cuts.result c.from_residual-in_err-cuts.ensures.1 in
    rw (p.1, p.2) (cuts_missed c.args.text.now c.in-Some.slots.items c.in-Some.cuts.now c.args.left c.in_err-cuts.field-0.0 (rw c.in-Some.is at c.in_ok-slots.ensures) c.in_err-cuts.ensures)

pub returns-in-Some : goal.returns-in-Some
returns-in-Some c =
    cuts_found c.args.text.now c.in-Some.slots.items c.new.result c.in-Some.cuts.now c.in_ok-cuts.cuts (rw c.in-Some.is at c.in_ok-slots.ensures) c.new.ensures c.in_ok-cuts.ensures
