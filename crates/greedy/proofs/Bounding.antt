-- Bounds of gains: they stay bounds while duties are added, and the shift that leads by an exact bound is the next one.
use Rattle.greedy.proofs.Common.{◌≡◌, inl, inr, ℕ, zero, suc, ◌+◌, ◌*◌, ◌<◌, ◌≤◌, ℤ, pos, negsuc, neg_ℤ, ◌+ℤ◌, ◌-ℤ◌, ◌≤ℤ◌, ◌<ℤ◌, Bool, true, false, cond, Option, Some, None, List, [], ◌∷◌, ◌++◌, length, length-set, get_or, set, refl, sym, ap, ◌∙◌, subst, arith, MatchOption, int_lt, replicate, ints, cases_Bool, cases_eq, cases_lt, get_or-replicate, get_or-set_same, get_or-set_other, get_or_past, get_or_read, Duty, Problem, shift_list, is_used, IsValid, AreBounds, bound_at, Leads, counts, gain, marginal_prices, new_duties, next_shift, value_on, IsWithin}
use Rattle.greedy.proofs.BestLists.{sum_within}
use Rattle.greedy.proofs.DayValues.{value_small}
use Rattle.greedy.proofs.Lowering.{counted, gain_is, gain_falls, gain_rises, others_used}
use Rattle.greedy.proofs.Rounding.{prices_small, next_all}
use Rattle.greedy.proofs.Rounds.{lt_true, lt_false}

through : (a b c : ℤ) → a ≤ℤ b → b ≤ℤ c → a ≤ℤ c
through a b c p q = omega (arith, ints)

none_small : (b : ℕ) → IsWithin b (pos 0)
none_small b = record { above = omega (arith, ints); below = omega (arith, ints) }

-- no gain is large
pub gain_small : (i : Problem) (rota : List Duty) (s : ℕ) → IsValid i → IsWithin 14113000000 (gain i rota s)
gain_small i rota s valid =
    let f : ℕ → ℤ = λ day. cond (counts i rota s day) (value_on i rota s day) (pos 0) in
    let days : i.days ≤ 7 = valid.days in
    let weight : i.shift ≤ 1000000 = valid.shift in
    narrow (gain i rota s) (counted i rota s) i.days i.shift (is_used rota s) days weight (gain_is i rota s)
    (sum_within f 2016000000 i.days (λ day. elim (counts i rota s day) as (λ b. IsWithin 2016000000 (cond b (value_on i rota s day) (pos 0))) [
      | true ↦ value_small i (marginal_prices i rota) s day (prices_small i rota (marginal_prices i rota) valid refl)
      | false ↦ none_small 2016000000
    ]))
  where
    narrow : (g c : ℤ) (d w : ℕ) (u : Bool) → d ≤ 7 → w ≤ 1000000 → g ≡ c -ℤ cond u (pos 0) (pos w) → IsWithin (d * 2016000000) c → IsWithin 14113000000 g
    narrow g c d w true few small e h =
        let low : neg_ℤ (pos (d * 2016000000)) ≤ℤ c = h.above in
        let high : c ≤ℤ pos (d * 2016000000) = h.below in
        record { above = omega (arith, ints); below = omega (arith, ints) }
    narrow g c d w false few small e h =
        let low : neg_ℤ (pos (d * 2016000000)) ≤ℤ c = h.above in
        let high : c ≤ℤ pos (d * 2016000000) = h.below in
        record { above = omega (arith, ints); below = omega (arith, ints) }

widened : (z : ℤ) → IsWithin 14113000000 z → IsWithin 14114000000 z
widened z h =
    let low : neg_ℤ (pos 14113000000) ≤ℤ z = h.above in
    let high : z ≤ℤ pos 14113000000 = h.below in
    record { above = omega (arith, ints); below = omega (arith, ints) }

raised : (z : ℤ) (w : ℕ) → w ≤ 1000000 → IsWithin 14113000000 z → IsWithin 14114000000 (z +ℤ pos w)
raised z w few h =
    let low : neg_ℤ (pos 14113000000) ≤ℤ z = h.above in
    let high : z ≤ℤ pos 14113000000 = h.below in
    record { above = omega (arith, ints); below = omega (arith, ints) }

above_all : (z : ℤ) → IsWithin 14113000000 z → z ≤ℤ pos 14114000000
above_all z h = let high : z ≤ℤ pos 14113000000 = h.below in omega (arith, ints)

-- the bounds of the plan with no duties
pub bounds_first : (i : Problem) (n : ℕ) (bounds : List ℤ) → IsValid i → n ≡ length (shift_list i) → bounds ≡ replicate n (pos 14114000000) → AreBounds i [] bounds
bounds_first i n bounds valid e is =
    subst (AreBounds i []) (sym is) (record {
      all = length_copies n ∙ e;
      each = λ s l. subst (λ z. gain i [] s ≤ℤ z) (sym (get_or-replicate n s (pos 14114000000) (pos 0) (omega arith))) (above_all (gain i [] s) (gain_small i [] s valid));
      small = λ s. elim (cases_lt s n) [
        | inl l ↦ subst (IsWithin 14114000000) (sym (get_or-replicate n s (pos 14114000000) (pos 0) l)) (record { above = omega (arith, ints); below = omega (arith, ints) })
        | inr g ↦ subst (IsWithin 14114000000) (sym (get_or_past (replicate n (pos 14114000000)) s (pos 0) (let c : length (replicate n (pos 14114000000)) ≡ n = length_copies n in omega arith))) (none_small 14114000000)
      ];
    })
  where
    length_copies : (n : ℕ) → length {A = ℤ} (replicate n (pos 14114000000)) ≡ n
    length_copies zero = refl
    length_copies (suc n) = omega (arith, length_copies n)

-- bounds with that of one shift set
bounds_set : (i : Problem) (old new : List Duty) (bounds : List ℤ) (s : ℕ) (z : ℤ) → s < length (shift_list i) → AreBounds i old bounds → gain i new s ≤ℤ z → IsWithin 14114000000 z
    → ((k : ℕ) → (k ≡ s → ⊥) → gain i new k ≤ℤ gain i old k) → AreBounds i new (set bounds s z)
bounds_set i old new bounds s z hs h own small others =
    let all : length bounds ≡ length (shift_list i) = h.all in
    let here : bound_at (set bounds s z) s ≡ z = get_or-set_same bounds s z (pos 0) (omega arith) in
    record {
      all = length-set bounds s z ∙ all;
      each = λ k l. elim (cases_eq k s) [
        | inl e ↦ subst (λ (j : ℕ). gain i new j ≤ℤ bound_at (set bounds s z) j) (sym e) (subst (λ y. gain i new s ≤ℤ y) (sym here) own)
        | inr ne ↦ subst (λ y. gain i new k ≤ℤ y) (sym (get_or-set_other bounds s k z (pos 0) ne)) (through (gain i new k) (gain i old k) (bound_at bounds k) (others k ne) (h.each k l))
      ];
      small = λ k. elim (cases_eq k s) [
        | inl e ↦ subst (λ (j : ℕ). IsWithin 14114000000 (bound_at (set bounds s z) j)) (sym e) (subst (IsWithin 14114000000) (sym here) small)
        | inr ne ↦ subst (IsWithin 14114000000) (sym (get_or-set_other bounds s k z (pos 0) ne)) (h.small k)
      ];
    }

same : (z : ℤ) → z ≤ℤ z
same z = omega (arith, ints)

-- a bound that is made exact
pub bounds_exact : (i : Problem) (rota : List Duty) (bounds after : List ℤ) (s : ℕ) (g : ℤ) → IsValid i → s < length (shift_list i) → g ≡ gain i rota s → after ≡ set bounds s g → AreBounds i rota bounds → AreBounds i rota after
bounds_exact i rota bounds after s g valid hs e is h =
    subst (AreBounds i rota) (sym is) (subst (λ z. AreBounds i rota (set bounds s z)) (sym e) (bounds_set i rota rota bounds s (gain i rota s) hs h (same (gain i rota s)) (widened (gain i rota s) (gain_small i rota s valid)) (λ k ne. same (gain i rota k))))

-- the bounds after a round
pub bounds_after : (i : Problem) (rota next : List Duty) (bounds after : List ℤ) (s : ℕ) → IsValid i → s < length (shift_list i) → Some s ≡ next_shift i rota → next ≡ rota ++ new_duties i rota s
    → bound_at bounds s ≡ gain i rota s → after ≡ set bounds s (bound_at bounds s +ℤ pos i.shift) → AreBounds i rota bounds → AreBounds i next after
bounds_after i rota next bounds after s valid hs taken grown exact is h =
    let new = new_duties i rota s in
    let z = gain i rota s +ℤ pos i.shift in
    let to : after ≡ set bounds s z = is ∙ ap (λ b. set bounds s (b +ℤ pos i.shift)) exact in
    subst (λ (ds : List Duty). AreBounds i ds after) (sym grown) (subst (AreBounds i (rota ++ new)) (sym to)
    (bounds_set i rota (rota ++ new) bounds s z hs h (gain_rises i rota new s) (raised (gain i rota s) i.shift valid.shift (gain_small i rota s valid))
    (λ k ne. gain_falls i rota new k (others_used i rota s k (sym taken) ne))))

-- ---- the shift that leads
-- what leads by values that others don't pass leads by these, where its own is the same
leads_below : (f g : ℕ → ℤ) (n : ℕ) (best : Option ℕ) (top : ℤ) → Leads f n best top → ((j : ℕ) → j < n → g j ≤ℤ f j) → MatchOption best (pos 0 ≡ pos 0) (λ b. g b ≡ f b) → Leads g n best top
leads_below f g n None top h less own = record {
  some = h.some;
  bounds = λ j l. through (g j) (f j) top (less j l) (h.bounds j l);
  first = h.first;
}
leads_below f g n (Some b) top h less own =
    let p = h.first in record {
      some = h.some;
      bounds = λ j l. through (g j) (f j) top (less j l) (h.bounds j l);
      first = (p.0, own ∙ p.1, p.2, λ j l. before (g j) (f j) top (less j (let m : b < n = p.0 in omega arith)) (p.3 j l));
    }
  where
    before : (a b c : ℤ) → a ≤ℤ b → b <ℤ c → a <ℤ c
    before a b c p q = omega (arith, ints)

-- where no bound is above 0 no shift is left
pub none_left : (i : Problem) (rota : List Duty) (bounds : List ℤ) (best : Option ℕ) → best ≡ None → AreBounds i rota bounds → (top : ℤ) × Leads (bound_at bounds) (length bounds) best top → None ≡ next_shift i rota
none_left i rota bounds best e h l =
    let all : length bounds ≡ length (shift_list i) = h.all in
    let m = subst (λ (o : Option ℕ). Leads (bound_at bounds) (length bounds) o l.0) e l.1 in
    next_all i rota (length bounds) None l.0 (leads_below (bound_at bounds) (gain i rota) (length bounds) None l.0 m (λ j k. h.each j (omega arith)) refl) all

-- the shift that leads by an exact bound is the next one
pub next_is : (i : Problem) (rota : List Duty) (bounds : List ℤ) (best : Option ℕ) (s : ℕ) → best ≡ Some s → gain i rota s ≡ bound_at bounds s → AreBounds i rota bounds → (top : ℤ) × Leads (bound_at bounds) (length bounds) best top → Some s ≡ next_shift i rota
next_is i rota bounds best s e exact h l =
    let all : length bounds ≡ length (shift_list i) = h.all in
    let m = subst (λ (o : Option ℕ). Leads (bound_at bounds) (length bounds) o l.0) e l.1 in
    next_all i rota (length bounds) (Some s) l.0 (leads_below (bound_at bounds) (gain i rota) (length bounds) (Some s) l.0 m (λ j k. h.each j (omega arith)) exact) all

-- what leads is among the numbers, and above 0
pub leading_shift : (bounds : List ℤ) (best : Option ℕ) (s : ℕ) → best ≡ Some s → (top : ℤ) × Leads (bound_at bounds) (length bounds) best top → (s < length bounds) × (pos 0 <ℤ bound_at bounds s)
leading_shift bounds best s e l =
    let m = subst (λ (o : Option ℕ). Leads (bound_at bounds) (length bounds) o l.0) e l.1 in
    let p = m.first in
    (p.0, above (bound_at bounds s) l.0 p.1 p.2)
  where
    above : (a b : ℤ) → a ≡ b → pos 0 <ℤ b → pos 0 <ℤ a
    above a b e h = omega (arith, ints)

-- ---- the looks come to an end
unfoldable pub above_zero : ℤ → ℕ
above_zero (pos n) = n
above_zero (negsuc n) = 0

-- the bounds above 0 together
unfoldable pub all_above_zero : List ℤ → ℕ
all_above_zero [] = 0
all_above_zero (z ∷ zs) = above_zero z + all_above_zero zs

-- fall where one of them does
pub looks_end : (bounds : List ℤ) (s : ℕ) (z : ℤ) → s < length bounds → pos 0 <ℤ bound_at bounds s → z <ℤ bound_at bounds s → all_above_zero (set bounds s z) < all_above_zero bounds
unfolding all_above_zero above_zero
looks_end [] s z l some less = absurd (omega arith)
looks_end (b ∷ bs) zero z l some less = let k : above_zero z < above_zero b = one z b some less in omega arith
  where
    one : (z b : ℤ) → pos 0 <ℤ b → z <ℤ b → above_zero z < above_zero b
    one (pos n) (pos m) h g = omega (arith, ints)
    one (negsuc n) (pos m) h g = omega (arith, ints)
    one (pos n) (negsuc m) h g = absurd (omega (arith, ints))
    one (negsuc n) (negsuc m) h g = absurd (omega (arith, ints))
looks_end (b ∷ bs) (suc s) z l some less = let k : all_above_zero (set bs s z) < all_above_zero bs = looks_end bs s z (omega arith) some less in omega arith

-- a gain that isn't its bound is less
pub falls_short : (g b : ℤ) → g ≤ℤ b → (g ≡ b → ⊥) → g <ℤ b
falls_short g b h ne =
    elim (cases_Bool (int_lt g b)) [
      | inl t ↦ lt_true g b t
      | inr f ↦ let l : b ≤ℤ g = lt_false g b f in absurd (ne (omega (arith, ints)))
    ]

-- a bound that is read
pub bound_read : (bounds : List ℤ) (s at : ℕ) (z : ℤ) → s < length bounds → at ≡ s → z ≡ get_or bounds at z → z ≡ bound_at bounds s
bound_read bounds s at z l e read = get_or_read bounds at z (omega arith) read (pos 0) ∙ ap (bound_at bounds) e

-- a look at a shift whose gain is less than its bound lowers the bounds
pub look_lowers : (bounds : List ℤ) (s at : ℕ) (z g : ℤ) → at ≡ s → z ≡ g → s < length bounds → pos 0 <ℤ bound_at bounds s → g <ℤ bound_at bounds s → all_above_zero (set bounds at z) < all_above_zero bounds
look_lowers bounds s at z g e is l some less =
    subst (λ (j : ℕ). all_above_zero (set bounds j z) < all_above_zero bounds) (sym e) (subst (λ (y : ℤ). all_above_zero (set bounds s y) < all_above_zero bounds) (sym is) (looks_end bounds s g l some less))
