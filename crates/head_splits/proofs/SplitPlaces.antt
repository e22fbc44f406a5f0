-- The shortest prefix of a list whose number is open.
use Rattle.head_splits.proofs.Common.{◌≡◌, inl, inr, ℕ, ◌+◌, ◌-◌, ◌<◌, ◌≤◌, Bool, true, false, ◌||◌, List, ◌∷◌, ◌++◌, map, length, take, sym, ap, ◌∙◌, arith, nat_lt, subst, Some, find, range_with_len, cases_Bool, or_parts, not-true, leb-false, lt-ltb, le-ltb, ltb-true, ltb-false, map-append, take_all, Break, from_map, from_below, find_here, Duty, Problem, below, Place, Class, Cut, low, high, prefixes, class_of, is_closed, is_fixed, is_open, class_at}
use Rattle.head_splits.proofs.WholeWalk.{below_split, range_append}

pub first_prefix : (p : Class → Bool) (s day : ℕ) (list : List Break) (k : ℕ) → k ≤ length list → ((n : ℕ) → n < k → p (class_of s day (take n list)) ≡ false) → p (class_of s day (take k list)) ≡ true
    → find p (map (class_of s day) (prefixes list)) ≡ Some (class_of s day (take k list))
first_prefix p s day list k l before here =
    let rest = range_with_len (k + 1) (length list - k) in
    let one : (length list + 1) - k ≡ 1 + (length list - k) = omega arith in
    let numbers : below (length list + 1) ≡ below k ++ k ∷ rest = below_split (length list + 1) k (omega arith) ∙ ap (λ n. below k ++ range_with_len k n) one ∙ ap (λ ns. below k ++ ns) (range_append k 1 (length list - k)) in
    let at : ℕ → List Break = λ n. take n list in
    let all : map (class_of s day) (prefixes list) ≡ map (class_of s day) (map at (below k)) ++ class_of s day (take k list) ∷ map (class_of s day) (map at rest) =
    ap (λ ns. map (class_of s day) (map at ns)) numbers ∙ ap (map (class_of s day)) (map-append at (below k) (k ∷ rest)) ∙ map-append (class_of s day) (map at (below k)) (map at (k ∷ rest)) in
    ap (find p) all
    ∙ find_here p (map (class_of s day) (map at (below k))) (class_of s day (take k list)) (map (class_of s day) (map at rest)) (λ c m.
    let q = from_map (class_of s day) (map at (below k)) c m in
    let n = from_map at (below k) q.0 q.1 in
    ap p (sym q.2) ∙ ap (λ l. p (class_of s day l)) (sym n.2) ∙ before n.0 (from_below k n.0 n.1)) here

-- the whole list of an open duty is one whose number is open
pub whole_open : (i : Problem) (cuts : List Cut) (d : Duty) → is_open i cuts d ≡ true → low cuts (class_of d.shift d.day d.breaks) < high i cuts (class_of d.shift d.day d.breaks)
whole_open i cuts d h = leb-false _ _ (or_parts (is_closed i cuts d) (is_fixed i cuts d) (not-true (is_closed i cuts d || is_fixed i cuts d) h)).1

-- whether cuts leave the number of a class open
abbrev pub is_open_class : Problem → List Cut → Class → Bool
is_open_class i cuts c = nat_lt (low cuts c) (high i cuts c)

-- a place that has so many of an open duty's breaks, where the numbers of the shorter prefixes are fixed
module _ (i : Problem) (cuts : List Cut) (d : Duty) (place : Place) (k : ℕ) (shift : place.shift ≡ d.shift) (day : place.day ≡ d.day) (prefix : place.prefix.items ≡ take k d.breaks)
    (within : k ≤ length d.breaks) (fixed : (n : ℕ) → n < k → is_open_class i cuts (class_of d.shift d.day (take n d.breaks)) ≡ false) where
  place_class : class_at place ≡ class_of d.shift d.day (take k d.breaks)
  place_class = ap (λ s. class_of s place.day place.prefix.items) shift ∙ ap (λ z. class_of d.shift z place.prefix.items) day ∙ ap (class_of d.shift d.day) prefix

  pub place_found : low cuts (class_at place) < high i cuts (class_at place) → find (is_open_class i cuts) (map (class_of d.shift d.day) (prefixes d.breaks)) ≡ Some (class_at place)
  place_found room =
      first_prefix (is_open_class i cuts) d.shift d.day d.breaks k within fixed (ap (is_open_class i cuts) (sym place_class) ∙ lt-ltb _ _ room)
      ∙ ap (λ (c : Class). Some c) (sym place_class)

  pub whole_found : is_open i cuts d ≡ true → length d.breaks ≤ k → find (is_open_class i cuts) (map (class_of d.shift d.day) (prefixes d.breaks)) ≡ Some (class_at place)
  whole_found is all =
      let whole : class_at place ≡ class_of d.shift d.day d.breaks = place_class ∙ ap (class_of d.shift d.day) (take_all k d.breaks all) in
      place_found (subst (λ c. low cuts c < high i cuts c) (sym whole) (whole_open i cuts d is))

  pub fixed_more : high i cuts (class_at place) ≤ low cuts (class_at place) → (n : ℕ) → n < k + 1 → is_open_class i cuts (class_of d.shift d.day (take n d.breaks)) ≡ false
  fixed_more none n l =
      elim (cases_Bool (nat_lt n k)) [
        | inl t ↦ fixed n (ltb-true _ _ t)
        | inr f ↦
            let past : k ≤ n = ltb-false _ _ f in
            let same : n ≡ k = omega arith in
            ap (λ n. is_open_class i cuts (class_of d.shift d.day (take n d.breaks))) same ∙ ap (is_open_class i cuts) (sym place_class) ∙ le-ltb _ _ none
      ]
