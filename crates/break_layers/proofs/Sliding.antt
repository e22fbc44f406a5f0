-- The greatest numbers of windows that overlap.
use Rattle.break_layers.proofs.Common.{◌≡◌, ◌⊎◌, inl, inr, ℕ, ◌+◌, ◌≤◌, ℤ, ◌≤ℤ◌, List, refl, sym, ap, ◌∙◌, arith, int_lt, int_max, ints, cond_both, cases_lt, number_in, IsMostIn}

pub max_cases : (x y : ℤ) → (int_max x y ≡ x) ⊎ (int_max x y ≡ y)
max_cases x y = cond_both (int_lt y x) x y (λ z. (z ≡ x) ⊎ (z ≡ y)) (λ t. inl refl) (λ f. inr refl)

pub below_left : (a b z : ℤ) → z ≤ℤ a → z ≤ℤ int_max a b
below_left a b z h = grind (arith, ints)

pub below_right : (a b z : ℤ) → z ≤ℤ b → z ≤ℤ int_max a b
below_right a b z h = grind (arith, ints)

pub max_above : (a b : ℤ) → b ≤ℤ a → int_max a b ≡ a
max_above a b h = grind (arith, ints)

-- a window of one number
pub most_one : (row : List ℤ) (k : ℕ) → IsMostIn row k 1 (number_in row k)
most_one row k = record {
  reached = (k, omega arith, omega arith, refl);
  greatest = λ j low high.
      let same : k ≡ j = omega arith in
      let e : number_in row k ≡ number_in row j = ap (number_in row) same in
      omega (arith, ints);
}

-- a window that two others make up
pub most_two : (row : List ℤ) (a w b v n : ℕ) (x y : ℤ) → a ≤ b → b ≤ a + w → a + w ≤ b + v → a + n ≡ b + v → IsMostIn row a w x → IsMostIn row b v y → IsMostIn row a n (int_max x y)
most_two row a w b v n x y first near far whole p q = record {
  reached = elim (max_cases x y) [
    | inl e ↦ (p.reached.0, p.reached.1, omega (arith, p.reached.2), p.reached.3 ∙ sym e)
    | inr e ↦ (q.reached.0, omega (arith, q.reached.1), omega (arith, q.reached.2), q.reached.3 ∙ sym e)
  ];
  greatest = λ k low high. elim (cases_lt k (a + w)) [
    | inl l ↦ below_left x y (number_in row k) (p.greatest k low l)
    | inr g ↦ below_right x y (number_in row k) (q.greatest k (omega arith) (omega arith))
  ];
}
