-- The sizes of the prices of a price set.
use Rattle.bound_sums.proofs.Common.{◌≡◌, ℕ, zero, suc, ◌*◌, ◌≤◌, ℤ, pos, neg_ℤ, ◌≤ℤ◌, Bool, true, not, ◌||◌, ◌==◌, nat_le, List, [], ◌∷◌, length, get_or, All, arith, int_le, unsigned_abs, list_all, zip, mul-le-mul, and_parts, leb-true, ints, All-from_get_or, Problem, price_of, IsValid, Cut, Prices, is_nil, signed_price, is_slot_price, is_cut_price, are_prices, le_from_test, priced, abs_within}
use Rattle.head_splits.specs.declared.Side.{Side}
use Rattle.head_splits.specs.declared.Side.TheVariants.{AtMost, AtLeast}
use Rattle.head_splits.specs.declared.TheConstants.{CUT_PRICE_MAX}

slot_range : (i : Problem) (q : ℕ) (p : ℤ) → IsValid i → q ≤ 10000 → is_slot_price i q p ≡ true → unsigned_abs p ≤ 10000000000
slot_range i q p valid limit h =
    let both = and_parts (int_le (neg_ℤ (pos (q * i.excess))) p) (int_le p (pos (q * i.shortage))) h in
    let low : neg_ℤ (pos (q * i.excess)) ≤ℤ p = le_from_test _ _ both.0 in
    let high : p ≤ℤ pos (q * i.shortage) = le_from_test _ _ both.1 in
    let one : q * i.excess ≤ 10000 * 1000000 = mul-le-mul limit valid.excess in
    let two : q * i.shortage ≤ 10000 * 1000000 = mul-le-mul limit valid.shortage in
    abs_within p 10000000000 (omega (arith, ints)) (omega (arith, ints))

-- what holds of each element that passes, and of a default
at_or : {X : Type 0} (p : X → Bool) (P : X → Type 0) (d : X) → ((x : X) → p x ≡ true → P x) → P d → (xs : List X) → list_all p xs ≡ true → (k : ℕ) → P (get_or xs k d)
at_or p P d f default [] h k = default
at_or p P d f default (x ∷ xs) h zero = f x (and_parts (p x) (list_all p xs) h).0
at_or p P d f default (x ∷ xs) h (suc k) = at_or p P d f default xs (and_parts (p x) (list_all p xs) h).1 k

module _ (i : Problem) (cuts : List Cut) (prices : Prices) (valid : IsValid i) (h : are_prices i cuts prices ≡ true) where
  -- the price of each slot is at most 10^10
  pub slot_small : (t : ℕ) → unsigned_abs (price_of prices.slots t) ≤ 10000000000
  slot_small t =
      let p = priced i cuts prices h in
      at_or (is_slot_price i prices.q) (λ z. unsigned_abs z ≤ 10000000000) (pos 0) (λ z e. slot_range i prices.q z valid p.limit e) (omega arith) prices.slots p.slot_prices t

  pub slots_small : All (λ z. unsigned_abs z ≤ 10000000000) prices.slots
  slots_small = All-from_get_or (λ z. unsigned_abs z ≤ 10000000000) prices.slots (pos 0) (λ t inside. slot_small t)

pub cut_limit : (c : Cut × ℕ) → is_cut_price c ≡ true → c.1 ≤ 1000000000000
cut_limit c h = leb-true c.1 CUT_PRICE_MAX (and_parts (nat_le c.1 CUT_PRICE_MAX) (not (is_nil c.0.class.prefix) || (c.1 == 0)) h).0

cuts_within : (cuts : List Cut) (prices : List ℕ) → length prices ≡ length cuts → list_all is_cut_price (zip cuts prices) ≡ true → (k : ℕ) → get_or prices k 0 ≤ 1000000000000
cuts_within cuts [] e h k = omega arith
cuts_within [] (x ∷ xs) e h k = absurd (omega arith)
cuts_within (c ∷ cs) (x ∷ xs) e h zero = cut_limit (c, x) (and_parts (is_cut_price (c, x)) (list_all is_cut_price (zip cs xs)) h).0
cuts_within (c ∷ cs) (x ∷ xs) e h (suc k) = cuts_within cs xs (omega arith) (and_parts (is_cut_price (c, x)) (list_all is_cut_price (zip cs xs)) h).1 k

-- the price of each cut is at most 10^12
pub cut_small : (i : Problem) (cuts : List Cut) (prices : Prices) → are_prices i cuts prices ≡ true → (k : ℕ) → get_or prices.cuts k 0 ≤ 1000000000000
cut_small i cuts prices h = let p = priced i cuts prices h in cuts_within cuts prices.cuts p.cut_count p.cut_prices

pub signed_small : (side : Side) (l n : ℕ) → l ≤ n → unsigned_abs (signed_price side l) ≤ n
signed_small AtMost zero n h = omega arith
signed_small AtMost (suc l) n h = h
signed_small AtLeast l n h = h
