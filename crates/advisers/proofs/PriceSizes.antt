-- Prices that are worked out in 64 bits are the numbers that they stand for.
use Rattle.advisers.proofs.Common.{◌≡◌, ℕ, zero, suc, ◌+◌, ◌*◌, ◌^◌, ◌<◌, ◌≤◌, ℤ, pos, neg_ℤ, ◌+ℤ◌, ◌-ℤ◌, ◌*ℤ◌, List, [], ◌∷◌, length, get_or, FitsSigned, to_z, of_z, refl, sym, ap, ◌∙◌, subst, arith, int_max, int_min, unsigned_abs, ints, clamps, fits_signed_from_abs, to_z-of_z, unsigned_abs-mul, w64, brought_into}
use Rattle.std.proofs.Math.IntN.{pos-*ℤ-pos, negsuc-*ℤ-pos}
use Rattle.std.proofs.Math.Nat.{mul-le-mul, le-mul_of_pos_right}
use Rattle.break_rules.proofs.Sizes.{abs_add, abs_within}

-- a small number, written and read back
narrow : (z y : ℤ) (n : ℕ) → z ≡ y → unsigned_abs y ≤ n → n < 2 ^ 63 → to_z w64 (of_z w64 z) ≡ y
narrow z y n is small limit = ap (λ (x : ℤ). to_z w64 (of_z w64 x)) is ∙ to_z-of_z w64 y (fits_signed_from_abs w64 y (omega arith))

-- the default is of no matter within a list
pub at_any : {X : Type 0} (xs : List X) (k : ℕ) (a b : X) → k < length xs → get_or xs k a ≡ get_or xs k b
at_any [] k a b h = absurd (omega arith)
at_any (x ∷ xs) zero a b h = refl
at_any (x ∷ xs) (suc k) a b h = at_any xs k a b (omega arith)

-- a price of at most 10^10, read
pub price_read : (r p : ℤ) → r ≡ p → unsigned_abs p ≤ 10000000000 → to_z w64 (of_z w64 r) ≡ p
price_read r p is small = narrow r p 10000000000 is small (omega arith)

-- one that is so small times a scale
pub unscaled_small : (p : ℤ) (q : ℕ) → 1 ≤ q → unsigned_abs (p *ℤ pos q) ≤ 10000000000 → unsigned_abs p ≤ 10000000000
unscaled_small p q some small =
    let size : unsigned_abs p * q ≤ 10000000000 = subst (λ (n : ℕ). n ≤ 10000000000) (unsigned_abs-mul p (pos q)) small in
    let positive : zero < q = omega arith in
    let more : unsigned_abs p ≤ unsigned_abs p * q = le-mul_of_pos_right {m = q} (unsigned_abs p) positive in
    omega arith

-- minus a number, times a number
pub neg_times : (e q : ℕ) → neg_ℤ (pos e) *ℤ pos q ≡ neg_ℤ (pos (e * q))
neg_times zero q = let e : 0 * q ≡ 0 = omega arith in pos-*ℤ-pos 0 q ∙ ap pos e ∙ sym (ap (λ (n : ℕ). neg_ℤ (pos n)) e)
neg_times (suc n) q = negsuc-*ℤ-pos n q

-- ---- a price after a step
difference_small : (a b : ℕ) → a < 2 ^ 32 → b < 2 ^ 32 → unsigned_abs (pos a -ℤ pos b) ≤ 2 ^ 32
difference_small a b ha hb = abs_within (pos a -ℤ pos b) (2 ^ 32) (omega (arith, ints)) (omega (arith, ints))

times_small : (s : ℕ) (z : ℤ) → s < 2 ^ 16 → unsigned_abs z ≤ 2 ^ 32 → unsigned_abs (pos s *ℤ z) ≤ 2 ^ 48
times_small s z hs hz =
    let one : s ≤ 2 ^ 16 = omega arith in
    let size : s * unsigned_abs z ≤ 2 ^ 16 * 2 ^ 32 = mul-le-mul one hz in
    subst (λ (n : ℕ). n ≤ 2 ^ 48) (sym (unsigned_abs-mul (pos s) z)) (let all : s * unsigned_abs z ≤ 2 ^ 48 = omega arith in all)

pub moved_is : (price : ℤ) (step need working : ℕ) (sr nr wr : ℤ) → unsigned_abs price ≤ 10000000000 → step < 2 ^ 16 → need < 2 ^ 32 → working < 2 ^ 32 → sr ≡ pos step → nr ≡ pos need → wr ≡ pos working
    → to_z w64 (of_z w64 (to_z w64 (of_z w64 price) +ℤ to_z w64 (of_z w64 (to_z w64 (of_z w64 sr) *ℤ to_z w64 (of_z w64 (to_z w64 (of_z w64 nr) -ℤ to_z w64 (of_z w64 wr)))))))
    ≡ price +ℤ pos step *ℤ (pos need -ℤ pos working)
moved_is price step need working sr nr wr size small_s small_n small_w is_s is_n is_w =
    let few : unsigned_abs (pos need -ℤ pos working) ≤ 2 ^ 32 = difference_small need working small_n small_w in
    let one : to_z w64 (of_z w64 nr) ≡ pos need = narrow nr (pos need) (2 ^ 32) is_n (omega arith) (omega arith) in
    let two : to_z w64 (of_z w64 wr) ≡ pos working = narrow wr (pos working) (2 ^ 32) is_w (omega arith) (omega arith) in
    let short : to_z w64 (of_z w64 (to_z w64 (of_z w64 nr) -ℤ to_z w64 (of_z w64 wr))) ≡ pos need -ℤ pos working =
    narrow (to_z w64 (of_z w64 nr) -ℤ to_z w64 (of_z w64 wr)) (pos need -ℤ pos working) (2 ^ 32)
    (ap (λ (z : ℤ). z -ℤ to_z w64 (of_z w64 wr)) one ∙ ap (λ (z : ℤ). pos need -ℤ z) two) few (omega arith) in
    let by : to_z w64 (of_z w64 sr) ≡ pos step = narrow sr (pos step) (2 ^ 16) is_s (omega arith) (omega arith) in
    let change : unsigned_abs (pos step *ℤ (pos need -ℤ pos working)) ≤ 2 ^ 48 = times_small step (pos need -ℤ pos working) small_s few in
    let product : to_z w64 (of_z w64 (to_z w64 (of_z w64 sr) *ℤ to_z w64 (of_z w64 (to_z w64 (of_z w64 nr) -ℤ to_z w64 (of_z w64 wr))))) ≡ pos step *ℤ (pos need -ℤ pos working) =
    narrow (to_z w64 (of_z w64 sr) *ℤ to_z w64 (of_z w64 (to_z w64 (of_z w64 nr) -ℤ to_z w64 (of_z w64 wr)))) (pos step *ℤ (pos need -ℤ pos working)) (2 ^ 48)
    (ap (λ (z : ℤ). z *ℤ to_z w64 (of_z w64 (to_z w64 (of_z w64 nr) -ℤ to_z w64 (of_z w64 wr)))) by ∙ ap (λ (z : ℤ). pos step *ℤ z) short) change (omega arith) in
    let read : to_z w64 (of_z w64 price) ≡ price = price_read price price refl size in
    let both : unsigned_abs (price +ℤ pos step *ℤ (pos need -ℤ pos working)) ≤ 10000000000 + 2 ^ 48 = abs_add price (pos step *ℤ (pos need -ℤ pos working)) 10000000000 (2 ^ 48) size change in
    narrow (to_z w64 (of_z w64 price) +ℤ to_z w64 (of_z w64 (to_z w64 (of_z w64 sr) *ℤ to_z w64 (of_z w64 (to_z w64 (of_z w64 nr) -ℤ to_z w64 (of_z w64 wr))))))
    (price +ℤ pos step *ℤ (pos need -ℤ pos working)) (10000000000 + 2 ^ 48)
    (ap (λ (z : ℤ). z +ℤ to_z w64 (of_z w64 (to_z w64 (of_z w64 sr) *ℤ to_z w64 (of_z w64 (to_z w64 (of_z w64 nr) -ℤ to_z w64 (of_z w64 wr)))))) read ∙ ap (λ (z : ℤ). price +ℤ z) product)
    both (omega arith)

-- ---- a price brought into its range
product_is : (q e : ℕ) (qr er : ℤ) → q < 2 ^ 16 → e < 2 ^ 32 → qr ≡ pos q → er ≡ pos e → (to_z w64 (of_z w64 (to_z w64 (of_z w64 qr) *ℤ to_z w64 (of_z w64 er))) ≡ pos (q * e)) × (q * e ≤ 2 ^ 48)
product_is q e qr er small_q small_e is_q is_e =
    let one : q ≤ 2 ^ 16 = omega arith in
    let two : e ≤ 2 ^ 32 = omega arith in
    let size : q * e ≤ 2 ^ 16 * 2 ^ 32 = mul-le-mul one two in
    let inner : to_z w64 (of_z w64 qr) *ℤ to_z w64 (of_z w64 er) ≡ pos (q * e) =
    ap (λ (z : ℤ). z *ℤ to_z w64 (of_z w64 er)) (narrow qr (pos q) (2 ^ 16) is_q (omega arith) (omega arith))
    ∙ ap (λ (z : ℤ). pos q *ℤ z) (narrow er (pos e) (2 ^ 32) is_e (omega arith) (omega arith)) in
    (narrow _ (pos (q * e)) (2 ^ 48) inner (omega arith) (omega arith), omega arith)

neg_is : (n : ℕ) → (pos 0 -ℤ pos n) ≡ neg_ℤ (pos n)
neg_is n = omega (arith, ints)

neg_size : (n : ℕ) → unsigned_abs (pos 0 -ℤ pos n) ≤ n
neg_size n = subst (λ (z : ℤ). unsigned_abs z ≤ n) (sym (neg_is n)) (size n)
  where
    size : (n : ℕ) → unsigned_abs (neg_ℤ (pos n)) ≤ n
    size zero = omega arith
    size (suc n) = omega arith

brought_small : (a b : ℕ) (p : ℤ) → a ≤ 2 ^ 48 → b ≤ 2 ^ 48 → unsigned_abs (brought_into (neg_ℤ (pos a)) (pos b) p) ≤ 2 ^ 48
brought_small a b p ha hb = abs_within (brought_into (neg_ℤ (pos a)) (pos b) p) (2 ^ 48) (omega (arith, ints, clamps)) (omega (arith, ints, clamps))

pub in_range_is : (q e s : ℕ) (p qr er sr r : ℤ) → q < 2 ^ 16 → e < 2 ^ 32 → s < 2 ^ 32 → FitsSigned w64 p → qr ≡ pos q → er ≡ pos e → sr ≡ pos s
    → r ≡ int_max (to_z w64 (of_z w64 (pos 0 -ℤ to_z w64 (of_z w64 (to_z w64 (of_z w64 qr) *ℤ to_z w64 (of_z w64 er))))))
    (int_min (to_z w64 (of_z w64 p)) (to_z w64 (of_z w64 (to_z w64 (of_z w64 qr) *ℤ to_z w64 (of_z w64 sr)))))
    → to_z w64 (of_z w64 r) ≡ brought_into (neg_ℤ (pos (q * e))) (pos (q * s)) p
in_range_is q e s p qr er sr r small_q small_e small_s fit is_q is_e is_s is =
    let one = product_is q e qr er small_q small_e is_q is_e in
    let two = product_is q s qr sr small_q small_s is_q is_s in
    let read : to_z w64 (of_z w64 p) ≡ p = to_z-of_z w64 p fit in
    let least : to_z w64 (of_z w64 (pos 0 -ℤ to_z w64 (of_z w64 (to_z w64 (of_z w64 qr) *ℤ to_z w64 (of_z w64 er))))) ≡ neg_ℤ (pos (q * e)) =
    narrow _ (pos 0 -ℤ pos (q * e)) (2 ^ 48) (ap (λ (z : ℤ). pos 0 -ℤ z) one.0) (let n = neg_size (q * e) in let m = one.1 in omega arith) (omega arith) ∙ neg_is (q * e) in
    let most : to_z w64 (of_z w64 (to_z w64 (of_z w64 qr) *ℤ to_z w64 (of_z w64 sr))) ≡ pos (q * s) = two.0 in
    let value : r ≡ brought_into (neg_ℤ (pos (q * e))) (pos (q * s)) p =
    is
    ∙ ap (λ (z : ℤ). int_max z (int_min (to_z w64 (of_z w64 p)) (to_z w64 (of_z w64 (to_z w64 (of_z w64 qr) *ℤ to_z w64 (of_z w64 sr)))))) least
    ∙ ap (λ (z : ℤ). int_max (neg_ℤ (pos (q * e))) (int_min z (to_z w64 (of_z w64 (to_z w64 (of_z w64 qr) *ℤ to_z w64 (of_z w64 sr)))))) read
    ∙ ap (λ (z : ℤ). int_max (neg_ℤ (pos (q * e))) (int_min p z)) most in
    narrow r (brought_into (neg_ℤ (pos (q * e))) (pos (q * s)) p) (2 ^ 48) value (brought_small (q * e) (q * s) p one.1 two.1) (omega arith)
