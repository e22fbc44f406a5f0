-- The numbers below one more: the list of them, sums over them, and tests of some.
use Rattle.shift_instance.proofs.Common.{◌≡◌, ℕ, zero, suc, ◌+◌, ℤ, ◌+ℤ◌, Bool, true, false, ◌||◌, List, [], ◌∷◌, ◌++◌, refl, ap, ◌∙◌, arith, list_any, range_with_len, ints, int_sum_by, int_sum_by-append, below}
use Rattle.std.proofs.Common.{sum_by}
use Rattle.std.proofs.lemmas.List.Folds.{list_any-append}
use Rattle.std.proofs.lemmas.List.Sums.{sum_by_push}

-- one number more
pub range_next : (a n : ℕ) → range_with_len a (suc n) ≡ range_with_len a n ++ (a + n) ∷ []
range_next a zero = ap (λ (k : ℕ). k ∷ []) (omega arith)
range_next a (suc n) = ap (λ (ks : List ℕ). a ∷ ks) (range_next (a + 1) n ∙ ap (λ (k : ℕ). range_with_len (a + 1) n ++ k ∷ []) (omega arith))

pub below_next : (n : ℕ) → below (n + 1) ≡ below n ++ n ∷ []
below_next n =
    let one : n + 1 ≡ suc n = omega arith in
    let two : 0 + n ≡ n = omega arith in
    ap (range_with_len 0) one ∙ range_next 0 n ∙ ap (λ (k : ℕ). below n ++ k ∷ []) two

-- a sum over one more number
pub sum_below_more : (f : ℕ → ℕ) (n : ℕ) → sum_by f (below (n + 1)) ≡ sum_by f (below n) + f n
sum_below_more f n = ap (sum_by f) (below_next n) ∙ sum_by_push f (below n) n

pub int_sum_below_more : (f : ℕ → ℤ) (n : ℕ) → int_sum_by f (below (n + 1)) ≡ int_sum_by f (below n) +ℤ f n
int_sum_below_more f n =
    let one : int_sum_by f (below n ++ n ∷ []) ≡ int_sum_by f (below n) +ℤ int_sum_by f (n ∷ []) = int_sum_by-append f (below n) (n ∷ []) in
    let two : int_sum_by f (n ∷ []) ≡ f n = omega (arith, ints) in
    ap (int_sum_by f) (below_next n) ∙ one ∙ ap (λ (z : ℤ). int_sum_by f (below n) +ℤ z) two

last_alone : (b : Bool) → (b || false) ≡ b
last_alone true = refl
last_alone false = refl

-- whether one more number passes, too
pub any_below_more : (p : ℕ → Bool) (n : ℕ) → list_any p (below (n + 1)) ≡ (list_any p (below n) || p n)
any_below_more p n =
    ap (list_any p) (below_next n) ∙ list_any-append p (below n) (n ∷ []) ∙ ap (λ (b : Bool). list_any p (below n) || b) (last_alone (p n))
