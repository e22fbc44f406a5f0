-- The most that one of some edges reaches, one edge after another.
use Rattle.pricing.proofs.Common.{◌≡◌, ◌⊎◌, inl, inr, ℕ, zero, suc, ◌+◌, ◌<◌, ◌≤◌, ℤ, ◌≤ℤ◌, List, [], ◌∷◌, length, take, get_or, refl, sym, ap, ◌∙◌, subst, arith, Some, slice_get, int_max, ints, cond_both, take_more, take_all, Has, Has-append_cases, Edge, IsMostReached}
use Rattle.std.specs.Prelude.{int_lt}

pub has_at : {X : Type 0} (xs : List X) (i : ℕ) (d : X) → i < length xs → Has xs (get_or xs i d)
has_at [] i d h = absurd (omega arith)
has_at (x ∷ xs) zero d h = inl refl
has_at (x ∷ xs) (suc i) d h = inr (has_at xs i d (omega arith))

pub has_got : {X : Type 0} (xs : List X) (i : ℕ) (x : X) → slice_get xs i ≡ Some x → Has xs x
has_got [] i x e = absurd (cc)
has_got (y ∷ ys) zero x e = let s : y ≡ x = cc in inl s
has_got (y ∷ ys) (suc i) x e = inr (has_got ys i x e)

pub max_cases : (x y : ℤ) → (int_max x y ≡ x) ⊎ (int_max x y ≡ y)
max_cases x y = cond_both (int_lt y x) x y (λ z. (z ≡ x) ⊎ (z ≡ y)) (λ t. inl refl) (λ f. inr refl)

-- what some edge reaches, and no edge before a place exceeds
pub record IsMostBefore (reach : Edge → ℤ) (edges : List Edge) (i : ℕ) (most : ℤ) : Type 0 where
  pub reached : (e : Edge) × Has edges e × (reach e ≡ most)
  pub greatest : (e : Edge) → Has (take i edges) e → reach e ≤ℤ most

module _ (reach : Edge → ℤ) (edges : List Edge) where
  pub most_first : (e : Edge) (most : ℤ) → slice_get edges 0 ≡ Some e → reach e ≡ most → IsMostBefore reach edges 0 most
  most_first e most h r = record { reached = (e, has_got edges 0 e h, r); greatest = λ x m. absurd m }

  pub most_more : (i : ℕ) (d : Edge) (most x : ℤ) → i < length edges → reach (get_or edges i d) ≡ x → IsMostBefore reach edges i most → IsMostBefore reach edges (i + 1) (int_max most x)
  most_more i d most x inside r b = record {
    reached = elim (max_cases most x) [
      | inl e ↦ (b.reached.0, b.reached.1, b.reached.2 ∙ sym e)
      | inr e ↦ (get_or edges i d, has_at edges i d inside, r ∙ sym e)
    ];
    greatest = λ e m. elim (Has-append_cases (take i edges) (get_or edges i d ∷ []) e (subst (λ l. Has l e) (take_more edges i d inside) m)) [
      | inl p ↦ let g : reach e ≤ℤ most = b.greatest e p in more most x (reach e) g
      | inr q ↦ elim q [ inl s ↦ let h : reach e ≡ x = ap reach (sym s) ∙ r in last most x (reach e) h | inr none ↦ absurd none ]
    ];
  }
    where
      more : (a b z : ℤ) → z ≤ℤ a → z ≤ℤ int_max a b
      more a b z h = grind (arith, ints)

      last : (a b z : ℤ) → z ≡ b → z ≤ℤ int_max a b
      last a b z h = grind (arith, ints)

  pub most_all : (i : ℕ) (most : ℤ) → length edges ≤ i → IsMostBefore reach edges i most → IsMostReached reach edges most
  most_all i most h b = record { reached = b.reached; greatest = λ e m. b.greatest e (subst (λ l. Has l e) (sym (take_all i edges h)) m) }
