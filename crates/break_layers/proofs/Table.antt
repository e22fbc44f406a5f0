-- The places of spots in a table of layers.
use Rattle.break_layers.proofs.Common.{◌≡◌, inl, inr, ℕ, take, drop, ◌+◌, ◌-◌, ◌*◌, ◌<◌, ◌≤◌, true, List, [], ◌∷◌, ◌++◌, refl, ap, ◌∙◌, arith, length, bit_or, sum_by, mul-le-mul_right, and_parts, cases_lt, sum_by-cons, take-append_seam, Break, Rule, Spot, end_of, is_lunch, total_of, IsRule, bits_of, is_walk, is_walk_from, may_follow, spot_of, walk_small, bounds, spot_more, spot_with, Layer, layer_of, layer_number, layer_place}

-- a place in an earlier layer
pub earlier_layer : (one two offset len : ℕ) → one < two → offset ≤ len → one * (len + 1) + offset < two * (len + 1)
earlier_layer one two offset len less inside =
    let whole : (one + 1) * (len + 1) ≤ two * (len + 1) = mul-le-mul_right (len + 1) (let h : one + 1 ≤ two = omega arith in h) in
    let product : (one + 1) * (len + 1) ≡ one * (len + 1) + (len + 1) = omega arith in
    omega arith

-- two places are one only in the same layer and at the same offset
pub same_layer : (one two a b len : ℕ) → a ≤ len → b ≤ len → one * (len + 1) + a ≡ two * (len + 1) + b → (one ≡ two) × (a ≡ b)
same_layer one two a b len p q e =
    elim (cases_lt one two) [
      | inl l ↦ let less = earlier_layer one two a len l p in absurd (omega arith)
      | inr g ↦ elim (cases_lt two one) [
        | inl l ↦ let less = earlier_layer two one b len l q in absurd (omega arith)
        | inr h ↦
            let same : one ≡ two = omega arith in
            let product : one * (len + 1) ≡ two * (len + 1) = ap (λ n. n * (len + 1)) same in
            (same, omega arith)
      ]
    ]

-- a walk uses no more than the total
used_from : (rule : Rule) (len offset used : ℕ) (list : List Break) → is_walk_from rule len offset used list ≡ true → used ≤ total_of rule len → used + sum_by (λ b. b.len) list ≤ total_of rule len
used_from rule len offset used [] h u = omega arith
used_from rule len offset used (b ∷ bs) h u =
    let p = and_parts (may_follow rule len offset used b) (is_walk_from rule len (end_of b) (used + b.len) bs) h in
    let f = bounds rule len offset used b p.0 in
    omega (arith, used_from rule len (end_of b) (used + b.len) bs p.1 (omega arith), sum_by-cons (λ (b : Break). b.len) b bs)

pub walk_used : (rule : Rule) (len : ℕ) (list : List Break) → is_walk rule len list ≡ true → (spot_of rule list).used ≤ total_of rule len
walk_used rule len list h = omega (arith, used_from rule len 0 0 list h (omega arith))

module _ (rule : Rule) (len : ℕ) (list : List Break) (b : Break) (r : IsRule rule) where
  -- the spot behind a break lies in an earlier layer
  pub behind_place : (layer : Layer) → layer ≡ layer_of rule list → 1 ≤ b.len → is_walk rule len (list ++ b ∷ []) ≡ true
      → layer_place rule len (spot_of rule (list ++ b ∷ [])) < layer_number rule len layer * (len + 1)
  behind_place layer is some on =
      let small = walk_small rule len (list ++ b ∷ []) r on in
      let used : (spot_of rule (list ++ b ∷ [])).used ≡ (spot_of rule list).used + b.len = ap (λ (s : Spot). s.used) (spot_more rule list b r.few_lunches) in
      let own : layer.used ≡ (spot_of rule list).used = ap (λ (l : Layer). l.used) is in
      let within : (spot_of rule (list ++ b ∷ [])).used ≤ total_of rule len = walk_used rule len (list ++ b ∷ []) on in
      earlier_layer ((total_of rule len - (spot_of rule (list ++ b ∷ [])).used) * 4 + (spot_of rule (list ++ b ∷ [])).lunches) (layer_number rule len layer) (spot_of rule (list ++ b ∷ [])).offset len
      (omega (arith, within, small.lunches)) small.offset

  -- the spot with these numbers is the one behind the list with the break
  pub behind_spot : (layer : Layer) (offset used bits : ℕ) → layer ≡ layer_of rule list → offset ≡ end_of b → used ≡ layer.used + b.len → bits ≡ bits_of (λ e. is_lunch e b) rule.lunches
      → ◌≡◌ {A = Spot} (record { offset = offset; used = used; lunches = bit_or layer.lunches bits }) (spot_of rule (list ++ b ∷ []))
  behind_spot layer offset used bits is at time met =
      ap (λ n. record { offset = offset; used = used; lunches = bit_or n bits }) (ap (λ (l : Layer). l.lunches) is)
      ∙ spot_with rule list (spot_of rule list) b offset used bits r.few_lunches refl at (time ∙ ap (λ (l : Layer). l.used + b.len) is) met

-- a vector behind whose slice other numbers were written
pub written : {X : Type 0} (n : ℕ) (new old : List X) → n ≡ length new → take n (new ++ drop (length new) old) ≡ new
written n new old e = ap (λ k. take k (new ++ drop (length new) old)) e ∙ take-append_seam new (drop (length new) old)
