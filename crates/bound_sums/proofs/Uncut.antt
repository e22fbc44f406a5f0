-- The range of the duties of a shift that no cut bounds.
use Rattle.bound_sums.proofs.Common.{◌≡◌, ◌==◌, ◌∙◌, refl, ℕ, Bool, true, false, cond, ◌&&◌, ◌||◌, List, [], ◌∷◌, fold, ap, sym, false≢true, list_any, same_list, Problem, Cut, raised, lowered, low, high, least_high, same_class, whole_class}

parts : (a b : Bool) → (a || b) ≡ false → (a ≡ false) × (b ≡ false)
parts true b h = absurd (false≢true (sym h))
parts false b h = (refl, h)

module _ (s day : ℕ) where
  -- whether some cut bounds duties of the shift
  abbrev bounds : List Cut → Bool
  bounds cuts = list_any (λ c. c.class.shift == s) cuts

  other : (c : Cut) → (c.class.shift == s) ≡ false → same_class c.class (whole_class s day) ≡ false
  other c h = ap (λ (b : Bool). b && (c.class.day == day) && same_list c.class.prefix []) h

  low_from : (cuts : List Cut) (n : ℕ) → bounds cuts ≡ false → fold (λ n c. cond (same_class c.class (whole_class s day)) (raised c.side c.m n) n) n cuts ≡ n
  low_from [] n h = refl
  low_from (c ∷ cs) n h =
      let split = parts (c.class.shift == s) (bounds cs) h in
      ap (λ (b : Bool). fold (λ n c. cond (same_class c.class (whole_class s day)) (raised c.side c.m n) n) (cond b (raised c.side c.m n) n) cs) (other c split.0)
      ∙ low_from cs n split.1

  high_from : (cuts : List Cut) (n : ℕ) → bounds cuts ≡ false → least_high n cuts (whole_class s day) ≡ n
  high_from [] n h = refl
  high_from (c ∷ cs) n h =
      let split = parts (c.class.shift == s) (bounds cs) h in
      ap (λ (b : Bool). fold (λ n c. cond (same_class c.class (whole_class s day)) (lowered c.side c.m n) n) (cond b (lowered c.side c.m n) n) cs) (other c split.0)
      ∙ high_from cs n split.1

  pub low_uncut : (cuts : List Cut) → bounds cuts ≡ false → low cuts (whole_class s day) ≡ 0
  low_uncut cuts h = low_from cuts 0 h

  pub high_uncut : (i : Problem) (cuts : List Cut) → bounds cuts ≡ false → high i cuts (whole_class s day) ≡ i.heads
  high_uncut i cuts h = high_from cuts i.heads h
