use Rattle.certificate.proofs.Common.{◌-◌, List, ℕ, length, take, drop, arith, refl}
use Rattle.certificate.proofs.Short.{front_digit, front_next}
use Rattle.certificate.proofs.slot_words.short_number.Goals as goal

pub loop-rest-init : goal.loop-rest-init
loop-rest-init c =
    let text : List ℕ = c.args.text.now in
    let digit = c.if-not-is_ascii_digit.ensures.cases in
    record {
      spelled = rw c.from-number.ensures (front_digit text (take (length text - 1) (drop 1 text)) c.in-len1-up.len_at_least refl digit.0 digit.1);
      small = omega (arith, c.from-number.ensures, digit.1);
    }

pub loop-rest-preserved : goal.loop-rest-preserved
loop-rest-preserved c =
    let front : List ℕ = c.loop-rest.rest.now in
    let digit = c.if-not-is_ascii_digit-2.ensures.cases in
    let above = c.if-number-eq0.false in
    record {
      spelled = rw c.from.ensures (front_next c.args.text.now front (take (length front - 1) (drop 1 front)) c.loop-rest.number c.in-len1-up-rest.len_at_least refl digit.0 digit.1 (omega (arith, above)) c.if-number-ge-SHORT_END.false c.loop-rest.invariant.spelled);
      small = omega (arith, c.from.ensures, digit.1, c.if-number-ge-SHORT_END.false);
    }
