-- Sizes of integers and of their sums.
use Rattle.bound_sums.proofs.Common.{◌≡◌, inl, inr, ℕ, ◌+◌, ◌*◌, ◌^◌, ◌<◌, ◌≤◌, ℤ, ◌+ℤ◌, List, [], ◌∷◌, length, refl, sym, ap, ◌∙◌, subst, arith, FitsSigned, to_z, of_z, w128, unsigned_abs, fits_signed_from_abs, to_z-of_z, int_sum_by, abs_add, int_sum_by-cons}
use Rattle.break_rules.specs.Lists.{Has}

-- a small number fits
pub fits : (z : ℤ) (n : ℕ) → unsigned_abs z ≤ n → n < 2 ^ 127 → FitsSigned w128 z
fits z n small limit = fits_signed_from_abs w128 z (omega arith)

-- the size of a sum of numbers of one size
pub sum_size : {X : Type 0} (f : X → ℤ) (xs : List X) (n : ℕ) → ((x : X) → Has xs x → unsigned_abs (f x) ≤ n) → unsigned_abs (int_sum_by f xs) ≤ length xs * n
sum_size f [] n h = omega arith
sum_size f (x ∷ xs) n h =
    let rest = sum_size f xs n (λ y m. h y (inr m)) in
    let both = abs_add (f x) (int_sum_by f xs) n (length xs * n) (h x (inl refl)) rest in
    subst (λ (z : ℤ). unsigned_abs z ≤ length (x ∷ xs) * n) (sym (int_sum_by-cons f x xs)) (omega arith)

-- a small number that is added to a sum
module _ (sum x y : ℤ) (at w : ℕ) (fit : FitsSigned w128 x) (is : x ≡ y) (one : unsigned_abs x ≤ w) (so_far : unsigned_abs sum ≤ at * w) (limit : (at + 1) * w < 2 ^ 127) where
  sum_small : unsigned_abs (sum +ℤ x) ≤ (at + 1) * w
  sum_small = let both = abs_add sum x (at * w) w so_far one in omega arith

  pub added_fits : FitsSigned w128 (sum +ℤ to_z w128 (of_z w128 x))
  added_fits = subst (λ (z : ℤ). FitsSigned w128 (sum +ℤ z)) (sym (to_z-of_z w128 x fit)) (fits (sum +ℤ x) ((at + 1) * w) sum_small limit)

  kept : to_z w128 (of_z w128 (sum +ℤ to_z w128 (of_z w128 x))) ≡ sum +ℤ x
  kept = to_z-of_z w128 _ added_fits ∙ ap (λ (z : ℤ). sum +ℤ z) (to_z-of_z w128 x fit)

  pub added : to_z w128 (of_z w128 (sum +ℤ to_z w128 (of_z w128 x))) ≡ sum +ℤ y
  added = kept ∙ ap (λ (z : ℤ). sum +ℤ z) is

  pub added_small : unsigned_abs (to_z w128 (of_z w128 (sum +ℤ to_z w128 (of_z w128 x)))) ≤ (at + 1) * w
  added_small = subst (λ (z : ℤ). unsigned_abs z ≤ (at + 1) * w) (sym kept) sum_small

-- three small numbers that are added
module _ (x y z : ℤ) (one : unsigned_abs x ≤ 2 ^ 60) (two : unsigned_abs y ≤ 2 ^ 90) (three : unsigned_abs z ≤ 2 ^ 104) where
  pub three_added : to_z w128 (of_z w128 (to_z w128 (of_z w128 (to_z w128 (of_z w128 x) +ℤ to_z w128 (of_z w128 y))) +ℤ to_z w128 (of_z w128 z))) ≡ x +ℤ y +ℤ z
  three_added =
      let first = abs_add x y (2 ^ 60) (2 ^ 90) one two in
      let whole = abs_add (x +ℤ y) z (2 ^ 60 + 2 ^ 90) (2 ^ 104) first three in
      let xs = to_z-of_z w128 x (fits x (2 ^ 60) one (omega arith)) in
      let ys = to_z-of_z w128 y (fits y (2 ^ 90) two (omega arith)) in
      let zs = to_z-of_z w128 z (fits z (2 ^ 104) three (omega arith)) in
      let both : to_z w128 (of_z w128 x) +ℤ to_z w128 (of_z w128 y) ≡ x +ℤ y = ap (λ (a : ℤ). a +ℤ to_z w128 (of_z w128 y)) xs ∙ ap (λ (b : ℤ). x +ℤ b) ys in
      let kept_both : to_z w128 (of_z w128 (to_z w128 (of_z w128 x) +ℤ to_z w128 (of_z w128 y))) ≡ x +ℤ y =
      ap (λ (a : ℤ). to_z w128 (of_z w128 a)) both ∙ to_z-of_z w128 (x +ℤ y) (fits (x +ℤ y) (2 ^ 60 + 2 ^ 90) first (omega arith)) in
      ap (λ (a : ℤ). to_z w128 (of_z w128 (a +ℤ to_z w128 (of_z w128 z)))) kept_both
      ∙ ap (λ (b : ℤ). to_z w128 (of_z w128 ((x +ℤ y) +ℤ b))) zs
      ∙ to_z-of_z w128 ((x +ℤ y) +ℤ z) (fits ((x +ℤ y) +ℤ z) (2 ^ 60 + 2 ^ 90 + 2 ^ 104) whole (omega arith))
