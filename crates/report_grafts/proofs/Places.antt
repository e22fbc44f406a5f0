-- What stands at a place of a list after a write and after a push.
use Rattle.report_grafts.proofs.Common.{◌≡◌, ◌⊎◌, inl, inr, ℕ, zero, suc, ◌<◌, List, [], ◌∷◌, ◌++◌, length, set, refl, sym, ap, ◌∙◌, arith, Some, slice_get, option_map_or, cases_eq}

pub front_get : {X : Type 0} (xs ys : List X) (k : ℕ) → k < length xs → slice_get (xs ++ ys) k ≡ slice_get xs k
front_get [] ys k h = absurd (omega arith)
front_get (x ∷ xs) ys zero h = refl
front_get (x ∷ xs) ys (suc k) h = front_get xs ys k (omega arith)

pub last_get : {X : Type 0} (xs : List X) (x : X) (ys : List X) → slice_get (xs ++ x ∷ ys) (length xs) ≡ Some x
last_get [] x ys = refl
last_get (z ∷ xs) x ys = last_get xs x ys

pub set_same : {X : Type 0} (xs : List X) (k : ℕ) (x y : X) → slice_get xs k ≡ Some x → slice_get (set xs k y) k ≡ Some y
set_same [] k x y e = absurd (cc)
set_same (z ∷ xs) zero x y e = refl
set_same (z ∷ xs) (suc k) x y e = set_same xs k x y e

pub set_other : {X : Type 0} (xs : List X) (k j : ℕ) (y : X) → (j ≡ k → ⊥) → slice_get (set xs k y) j ≡ slice_get xs j
set_other [] k j y h = refl
set_other (z ∷ xs) zero zero y h = absurd (h refl)
set_other (z ∷ xs) zero (suc j) y h = refl
set_other (z ∷ xs) (suc k) zero y h = refl
set_other (z ∷ xs) (suc k) (suc j) y h = set_other xs k j y (λ e. h (ap suc e))

-- what stands in a list after a push stood there, or is new
pub pushed_get : {X : Type 0} (xs : List X) (y : X) (j : ℕ) (x : X) → slice_get (xs ++ y ∷ []) j ≡ Some x → ((y ≡ x) × (j ≡ length xs)) ⊎ ((j < length xs) × (slice_get xs j ≡ Some x))
pushed_get [] y zero x e = let same : y ≡ x = cc in inl (same, refl)
pushed_get [] y (suc j) x e = absurd (cc)
pushed_get (z ∷ xs) y zero x e = inr (omega arith, e)
pushed_get (z ∷ xs) y (suc j) x e = elim (pushed_get xs y j x e) [ inl p ↦ inl (p.0, ap suc p.1) | inr q ↦ inr (omega (arith, q.0), q.1) ]

pub same_some : {X : Type 0} (x y : X) → Some x ≡ Some y → x ≡ y
same_some x y e = cc

-- a part of each element stays where an element with the same part is written over another
pub part_after_set : {X A : Type 0} (f : X → A) (d : A) (xs : List X) (k : ℕ) (x y : X) (j : ℕ) → slice_get xs k ≡ Some x → f y ≡ f x
    → option_map_or f (slice_get (set xs k y) j) d ≡ option_map_or f (slice_get xs j) d
part_after_set f d xs k x y j at e =
    elim (cases_eq j k) [
      | inl same ↦
          ap (λ n. option_map_or f (slice_get (set xs k y) n) d) same ∙ ap (λ o. option_map_or f o d) (set_same xs k x y at) ∙ e
          ∙ sym (ap (λ o. option_map_or f o d) at) ∙ ap (λ n. option_map_or f (slice_get xs n) d) (sym same)
      | inr other ↦ ap (λ o. option_map_or f o d) (set_other xs k j y other)
    ]

pub part_in_front : {X A : Type 0} (f : X → A) (d : A) (xs ys : List X) (k : ℕ) → k < length xs → option_map_or f (slice_get (xs ++ ys) k) d ≡ option_map_or f (slice_get xs k) d
part_in_front f d xs ys k h = ap (λ o. option_map_or f o d) (front_get xs ys k h)
