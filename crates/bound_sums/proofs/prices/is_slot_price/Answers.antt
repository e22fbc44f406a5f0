use Rattle.bound_sums.proofs.Common.{◌≡◌, ℕ, zero, suc, ◌*◌, ◌^◌, ◌<◌, ◌≤◌, ℤ, pos, neg_ℤ, ◌-ℤ◌, ◌*ℤ◌, Bool, true, ◌&&◌, FitsSigned, to_z, of_z, sym, ap, ◌∙◌, subst, arith, int_le, unsigned_abs, mul-le-mul, ints, fits_signed_from_abs, to_z-of_z, w64}
use Rattle.bound_sums.proofs.prices.is_slot_price.Goals as goal

narrow : (z y : ℤ) (n : ℕ) → z ≡ y → unsigned_abs y ≤ n → n < 2 ^ 63 → to_z w64 (of_z w64 z) ≡ y
narrow z y n is small limit = ap (λ (x : ℤ). to_z w64 (of_z w64 x)) is ∙ to_z-of_z w64 y (fits_signed_from_abs w64 y (omega arith))

product : (q e : ℕ) (qr er : ℤ) → q < 2 ^ 16 → e < 2 ^ 32 → qr ≡ pos q → er ≡ pos e → (to_z w64 (of_z w64 (to_z w64 (of_z w64 qr) *ℤ to_z w64 (of_z w64 er))) ≡ pos (q * e)) × (q * e ≤ 2 ^ 48)
product q e qr er small_q small_e is_q is_e =
    let one : q ≤ 2 ^ 16 = omega arith in
    let two : e ≤ 2 ^ 32 = omega arith in
    let size : q * e ≤ 2 ^ 16 * 2 ^ 32 = mul-le-mul one two in
    let inner : to_z w64 (of_z w64 qr) *ℤ to_z w64 (of_z w64 er) ≡ pos (q * e) =
    ap (λ (z : ℤ). z *ℤ to_z w64 (of_z w64 er)) (narrow qr (pos q) (2 ^ 16) is_q (omega arith) (omega arith))
    ∙ ap (λ (z : ℤ). pos q *ℤ z) (narrow er (pos e) (2 ^ 32) is_e (omega arith) (omega arith)) in
    (narrow _ (pos (q * e)) (2 ^ 48) inner (omega arith) (omega arith), omega arith)

neg_is : (n : ℕ) → (pos 0 -ℤ pos n) ≡ neg_ℤ (pos n)
neg_is n = omega (arith, ints)

neg_size : (n : ℕ) → unsigned_abs (pos 0 -ℤ pos n) ≤ n
neg_size n = subst (λ (z : ℤ). unsigned_abs z ≤ n) (sym (neg_is n)) (size n)
  where
    size : (n : ℕ) → unsigned_abs (neg_ℤ (pos n)) ≤ n
    size zero = omega arith
    size (suc n) = omega arith

range_test : (q e s : ℕ) (p qr er sr : ℤ) → q < 2 ^ 16 → e < 2 ^ 32 → s < 2 ^ 32 → FitsSigned w64 p → qr ≡ pos q → er ≡ pos e → sr ≡ pos s
    → int_le (to_z w64 (of_z w64 (pos 0 -ℤ to_z w64 (of_z w64 (to_z w64 (of_z w64 qr) *ℤ to_z w64 (of_z w64 er)))))) (to_z w64 (of_z w64 p)) ≡ true
    → int_le (to_z w64 (of_z w64 p)) (to_z w64 (of_z w64 (to_z w64 (of_z w64 qr) *ℤ to_z w64 (of_z w64 sr)))) ≡ (int_le (neg_ℤ (pos (q * e))) p && int_le p (pos (q * s)))
range_test q e s p qr er sr small_q small_e small_s fit is_q is_e is_s low =
    let one = product q e qr er small_q small_e is_q is_e in
    let two = product q s qr sr small_q small_s is_q is_s in
    let read : to_z w64 (of_z w64 p) ≡ p = to_z-of_z w64 p fit in
    let least : to_z w64 (of_z w64 (pos 0 -ℤ to_z w64 (of_z w64 (to_z w64 (of_z w64 qr) *ℤ to_z w64 (of_z w64 er))))) ≡ neg_ℤ (pos (q * e)) =
    narrow _ (pos 0 -ℤ pos (q * e)) (2 ^ 48) (ap (λ (z : ℤ). pos 0 -ℤ z) one.0) (let n = neg_size (q * e) in let m = one.1 in omega arith) (omega arith) ∙ neg_is (q * e) in
    let first : int_le (neg_ℤ (pos (q * e))) p ≡ true = sym (ap (λ (z : ℤ). int_le z (to_z w64 (of_z w64 p))) least ∙ ap (int_le (neg_ℤ (pos (q * e)))) read) ∙ low in
    ap (λ (z : ℤ). int_le z (to_z w64 (of_z w64 (to_z w64 (of_z w64 qr) *ℤ to_z w64 (of_z w64 sr))))) read ∙ ap (int_le p) two.0
    ∙ sym (ap (λ (b : Bool). b && int_le p (pos (q * s))) first)

pub returns-then-q-from : goal.returns-then-q-from
returns-then-q-from c =
    range_test c.args.q c.args.excess c.args.shortage c.args.price c.from-q.result c.from.result c.from-then-q-from.result c.ranges.q.fits c.ranges.excess.fits c.ranges.shortage.fits c.ranges.price c.from-q.ensures c.from.ensures c.from-then-q-from.ensures c.if-q-from.true
