use Rattle.break_rules.proofs.Common.{◌≡◌, ◌+◌, ◌<◌, ◌^◌, Bool, take, get_or, arith, sym, ap, ◌∙◌, if◌then◌else◌, take_all, Lunch, is_lunch, bits_of}
use Rattle.break_rules.proofs.Bits.{bits_more, bit_more, bit_small}
use Rattle.break_rules.proofs.walking.lunches_met.Goals as goal
use Rattle.break_rules.proofs.walking.lunches_met.Goals.{then-meets, else-meets}

pub overflow_add-bits : goal.overflow_add-bits
overflow_add-bits c = omega (arith, bit_small c.loop-entry.entry-index (omega arith))

pub overflow_mul-bit : goal.overflow_mul-bit
overflow_mul-bit c = omega (arith, bit_small c.loop-entry.entry-index (omega arith))

pub loop-entry-preserved : goal.loop-entry-preserved
loop-entry-preserved c =
    let i = c.loop-entry.entry-index in
    let es = c.args.entries.now in
    let d : Lunch = record { from_len = 0; size = 0; first = 0; last = 0 } in
    let p : Lunch → Bool = λ e. is_lunch e c.args.b.now in
    let few : i < 2 = omega arith in
    let more : bits_of p (take (i + 1) es) ≡ bits_of p (take i es) + (if p (get_or es i d) then 2 ^ i else 0) = bits_more p es i d c.loop-entry-test.true few in
    let bit : c.loop-entry.bit ≡ 2 ^ i = c.loop-entry.invariant.bit in
    let bits : c.loop-entry.bits ≡ bits_of p (take i es) = c.loop-entry.invariant.bits in
    let next : (2 ^ i) + (2 ^ i) ≡ 2 ^ (i + 1) = omega (arith, bit_more i few) in
    elim c.if-meets.branch [
      | then-meets w ↦
          let is : c.if-meets.bits ≡ c.loop-entry.bits + c.loop-entry.bit = w.bits-is in
          let met : (if p (get_or es i d) then 2 ^ i else 0) ≡ 2 ^ i = ap (λ v. if v then 2 ^ i else 0) (sym c.meets.ensures ∙ w.if-meets.true) in
          record { bit = omega arith; small = omega arith; bits = omega arith }
      | else-meets w ↦
          let is : c.if-meets.bits ≡ c.loop-entry.bits = w.bits-is in
          let met : (if p (get_or es i d) then 2 ^ i else 0) ≡ 0 = ap (λ v. if v then 2 ^ i else 0) (sym c.meets.ensures ∙ w.if-meets.false) in
          record { bit = omega arith; small = omega arith; bits = omega arith }
    ]

pub returns : goal.returns
returns c = record {
  bits = c.loop-entry.invariant.bits ∙ ap (bits_of (λ e. is_lunch e c.args.b.now)) (take_all c.loop-entry.entry-index c.args.entries.now c.loop-entry-test.false);
}
