-- What holds of each element of a list, where one of them is set.
use Rattle.worker_gate.proofs.Common.{◌≡◌, ℕ, zero, suc, ◌<◌, List, [], ◌∷◌, length, get_or, set, refl, arith}

module _ {A : Type 0} where
  pub any_default : (xs : List A) (i : ℕ) (d e : A) → i < length xs → get_or xs i d ≡ get_or xs i e
  any_default [] i d e low = absurd (omega arith)
  any_default (x ∷ xs) zero d e low = refl
  any_default (x ∷ xs) (suc i) d e low = any_default xs i d e (omega arith)

  pub set_each : (P : ℕ → A → A → Type 0) (xs : List A) (at : ℕ) (x : A) → ((d : A) → P at d x) → ((i : ℕ) (d : A) → i < length xs → P i d (get_or xs i d))
      → (i : ℕ) (d : A) → i < length (set xs at x) → P i d (get_or (set xs at x) i d)
  set_each P [] at x here each i d low = absurd (omega arith)
  set_each P (y ∷ ys) zero x here each zero d low = here d
  set_each P (y ∷ ys) zero x here each (suc i) d low = each (suc i) d low
  set_each P (y ∷ ys) (suc at) x here each zero d low = each 0 d (omega arith)
  set_each P (y ∷ ys) (suc at) x here each (suc i) d low = set_each (λ (j : ℕ) (e z : A). P (suc j) e z) ys at x here (λ j e m. each (suc j) e (omega arith)) i d (omega arith)
