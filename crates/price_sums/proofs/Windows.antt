-- Sums of all days side by side: lanes, and windows of them.
use Rattle.price_sums.proofs.Common.{◌≡◌, ◌⊎◌, inl, inr, ℕ, ◌+◌, ◌%◌, ◌*◌, ◌<◌, ◌≤◌, ℤ, pos, ◌+ℤ◌, ◌-ℤ◌, List, [], ◌∷◌, ◌++◌, length, take, drop, set, sym, ap, ◌∙◌, subst, arith, get_or, to_z, of_z, w64, unsigned_abs, fits_signed_from_abs, to_z-of_z, add-mod, mod-mod, get_or-take, get_or-drop, get_or_past, get_or-set_same, get_or-set_other, length-map, length-take, map-append, sum_at, price_in, sums_on}
use Rattle.std.proofs.Math.ListN.{get_or-map}
use Rattle.price_sums.proofs.Prices.{next_sum}

-- so many slots behind a slot
pub behind_slot : (a k n : ℕ) → (a % n + k) % n ≡ (a + k) % n
behind_slot a k n = add-mod (a % n) k n ∙ ap (λ s. (s + k % n) % n) (mod-mod a n) ∙ sym (add-mod a k n)

-- a slot behind so many others
pub before_slot : (a k n : ℕ) → (k + a % n) % n ≡ (k + a) % n
before_slot a k n =
    let e : k + a % n ≡ a % n + k = omega arith in
    let f : a + k ≡ k + a = omega arith in
    ap (λ s. s % n) e ∙ behind_slot a k n ∙ ap (λ s. s % n) f

-- a whole day behind a slot
pub behind_day : (day by first n : ℕ) → ((day * by + first) % n + by) % n ≡ ((day + 1) * by + first) % n
behind_day day by first n =
    let e : (day * by + first) + by ≡ (day + 1) * by + first = grind arith in
    behind_slot (day * by + first) by n ∙ ap (λ s. s % n) e

-- a sum of a day stands in the lane of its offset
pub at_lane : (lanes : List (List ℤ)) (day o : ℕ) → sum_at (sums_on day lanes) o ≡ sum_at (get_or lanes o []) day
at_lane lanes day o =
    let none : sum_at [] day ≡ pos 0 = get_or_past [] day (pos 0) (omega arith) in
    ap (get_or (sums_on day lanes) o) (sym none) ∙ get_or-map (λ (lane : List ℤ). sum_at lane day) lanes o []

module _ (lanes : List (List ℤ)) (from many day : ℕ) where
  window_at : (o : ℕ) → o < many → sum_at (sums_on day (take many (drop from lanes))) o ≡ sum_at (sums_on day lanes) (from + o)
  window_at o l =
      at_lane (take many (drop from lanes)) day o
      ∙ ap (λ (lane : List ℤ). sum_at lane day) (get_or-take many (drop from lanes) o [] l ∙ get_or-drop from lanes o [])
      ∙ sym (at_lane lanes day (from + o))

  -- the prices in a window are those from its first lane on
  pub window_price : (o : ℕ) → o + 1 < many → price_in (sums_on day (take many (drop from lanes))) o ≡ price_in (sums_on day lanes) (from + o)
  window_price o l =
      let e : from + (o + 1) ≡ from + o + 1 = omega arith in
      ap (λ (z : ℤ). z -ℤ sum_at (sums_on day (take many (drop from lanes))) o) (window_at (o + 1) l ∙ ap (sum_at (sums_on day lanes)) e)
      ∙ ap (λ (z : ℤ). sum_at (sums_on day lanes) (from + o + 1) -ℤ z) (window_at o (omega arith))

  -- the sums in a window are no larger
  pub window_size : (most : ℕ) → ((o : ℕ) → unsigned_abs (sum_at (sums_on day lanes) o) ≤ most) → (o : ℕ) → unsigned_abs (sum_at (sums_on day (take many (drop from lanes))) o) ≤ most
  window_size most size o =
      elim (cases o) [
        | inl less ↦ subst (λ (z : ℤ). unsigned_abs z ≤ most) (sym (window_at o less)) (size (from + o))
        | inr past ↦ subst (λ (z : ℤ). unsigned_abs z ≤ most) (sym (get_or_past (sums_on day (take many (drop from lanes))) o (pos 0) (short o past))) (omega arith)
      ]
    where
      cases : (o : ℕ) → (o < many) ⊎ (many ≤ o)
      cases o = grind arith

      short : (o : ℕ) → many ≤ o → length (sums_on day (take many (drop from lanes))) ≤ o
      short o past = let all = length-map (take many (drop from lanes)) (λ (lane : List ℤ). sum_at lane day) in let part = length-take many (drop from lanes) in omega arith

-- the next sum of a day, as it is kept
pub kept_sum : (sum p : ℤ) → unsigned_abs sum ≤ 10000000000 * 65535 → unsigned_abs p ≤ 10000000000 → to_z w64 (of_z w64 (to_z w64 (of_z w64 sum) +ℤ to_z w64 (of_z w64 p))) ≡ sum +ℤ p
kept_sum sum p size small =
    let back : to_z w64 (of_z w64 sum) ≡ sum = to_z-of_z w64 sum (fits_signed_from_abs w64 sum (omega arith)) in
    ap (λ (z : ℤ). to_z w64 (of_z w64 (z +ℤ to_z w64 (of_z w64 p)))) back ∙ next_sum sum p 65535 size (omega arith) small

-- a day more in a lane
pub lane_more : (f : ℕ → ℤ) (lane : List ℤ) (day : ℕ) (x : ℤ) → day < length lane → x ≡ f day → ((d : ℕ) → d < day → sum_at lane d ≡ f d) → (d : ℕ) → d < day + 1 → sum_at (set lane day x) d ≡ f d
lane_more f lane day x inside is before d l =
    elim (cases d l) [
      | inl less ↦ get_or-set_other lane day d x (pos 0) (omega arith) ∙ before d less
      | inr same ↦ ap (sum_at (set lane day x)) same ∙ get_or-set_same lane day x (pos 0) inside ∙ is ∙ ap f (sym same)
    ]
  where
    cases : (d : ℕ) → d < day + 1 → (d < day) ⊎ (d ≡ day)
    cases d l = grind arith

-- a lane more is a sum more of each day
pub sums_more : (lanes : List (List ℤ)) (lane : List ℤ) (day : ℕ) → sums_on day (lanes ++ lane ∷ []) ≡ sums_on day lanes ++ sum_at lane day ∷ []
sums_more lanes lane day = map-append (λ (l : List ℤ). sum_at l day) lanes (lane ∷ [])
