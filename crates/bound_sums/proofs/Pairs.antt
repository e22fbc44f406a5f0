-- Cuts with their prices, from some place on.
use Rattle.bound_sums.proofs.Common.{◌≡◌, ℕ, suc, ◌+◌, List, ◌∷◌, length, drop, get_or, sym, ap, ◌∙◌, arith, ◌<◌, ℤ, ◌+ℤ◌, zip, ints, int_sum_by, int_sum_by-cons, Cut}
use Rattle.std.proofs.Math.Seq.{drop-cons}

-- the cuts from a place on, each with its price
abbrev pub pairs_from : List Cut → List ℕ → ℕ → List (Cut × ℕ)
pairs_from cuts prices k = zip (drop k cuts) (drop k prices)

-- the first of them, and the others
pub pairs_next : (cuts : List Cut) (prices : List ℕ) (k : ℕ) (cut : Cut) → k < length cuts → length prices ≡ length cuts → cut ≡ get_or cuts k cut → pairs_from cuts prices k ≡ (cut, get_or prices k 0) ∷ pairs_from cuts prices (k + 1)
pairs_next cuts prices k cut inside count is =
    let next : suc k ≡ k + 1 = omega arith in
    let one : drop k cuts ≡ get_or cuts k cut ∷ drop (k + 1) cuts = drop-cons cuts k cut inside ∙ ap (λ (n : ℕ). get_or cuts k cut ∷ drop n cuts) next in
    let two : drop k prices ≡ get_or prices k 0 ∷ drop (k + 1) prices = drop-cons prices k 0 (omega arith) ∙ ap (λ (n : ℕ). get_or prices k 0 ∷ drop n prices) next in
    ap (λ (xs : List Cut). zip xs (drop k prices)) one
    ∙ ap (λ (ys : List ℕ). zip (get_or cuts k cut ∷ drop (k + 1) cuts) ys) two
    ∙ ap (λ (c : Cut). (c, get_or prices k 0) ∷ pairs_from cuts prices (k + 1)) (sym is)

-- the sum over one cut more
pub sum_next : (f : Cut × ℕ → ℤ) (cuts : List Cut) (prices : List ℕ) (k : ℕ) (cut : Cut) (sum all : ℤ) → k < length cuts → length prices ≡ length cuts → cut ≡ get_or cuts k cut
    → sum +ℤ int_sum_by f (pairs_from cuts prices k) ≡ all
    → (sum +ℤ f (cut, get_or prices k 0)) +ℤ int_sum_by f (pairs_from cuts prices (k + 1)) ≡ all
sum_next f cuts prices k cut sum all inside count is so_far =
    let one : int_sum_by f (pairs_from cuts prices k) ≡ int_sum_by f ((cut, get_or prices k 0) ∷ pairs_from cuts prices (k + 1)) = ap (int_sum_by f) (pairs_next cuts prices k cut inside count is) in
    let two : int_sum_by f ((cut, get_or prices k 0) ∷ pairs_from cuts prices (k + 1)) ≡ f (cut, get_or prices k 0) +ℤ int_sum_by f (pairs_from cuts prices (k + 1)) =
    int_sum_by-cons f (cut, get_or prices k 0) (pairs_from cuts prices (k + 1)) in
    omega (arith, ints)
