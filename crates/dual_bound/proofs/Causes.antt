-- Prices without a fault are a price set.
use Rattle.dual_bound.proofs.Common.{◌≡◌, ℕ, ◌+◌, Bool, true, false, not, ◌&&◌, ◌==◌, nat_le, List, [], ◌∷◌, ◌++◌, map, length, Some, None, refl, ap, list_all, zip, enumerate_from, not-false, not_from_true, and_parts, first_cause, Problem, slots, Cut, Prices, is_slot_price, is_cut_price, are_prices, size_causes, slot_causes, cut_causes, price_causes}
use Rattle.break_rules.proofs.Causes.{NoCause, no_cause, none_from_no_cause}
use Rattle.shift_instance.proofs.Judged.{causes_of_period, causes_of_needs, causes_of_sizes, causes_of_kinds}
use Rattle.dual_bound.specs.declared.PriceFault.{PriceFault}
use Rattle.dual_bound.specs.declared.PriceFault.TheVariants.{SlotPrice, CutCount, CutPrice}

-- the cause that there are too few or too many prices of cuts
abbrev pub count_causes : List Cut → List ℕ → List (Bool × PriceFault)
count_causes cuts prices = (not (length prices == length cuts), CutCount) ∷ []

module _ (i : Problem) (cuts : List Cut) (prices : Prices) where
  pub of_sizes : (e : PriceFault) → first_cause (size_causes i prices) ≡ Some e → first_cause (price_causes i cuts prices) ≡ Some e
  unfolding price_causes
  of_sizes e h = causes_of_period (size_causes i prices) (slot_causes i prices.q prices.slots) (count_causes cuts prices.cuts) (cut_causes cuts prices.cuts) e h

  pub of_slots : (e : PriceFault) → first_cause (size_causes i prices) ≡ None → first_cause (slot_causes i prices.q prices.slots) ≡ Some e → first_cause (price_causes i cuts prices) ≡ Some e
  unfolding price_causes
  of_slots e a h = causes_of_needs (size_causes i prices) (slot_causes i prices.q prices.slots) (count_causes cuts prices.cuts) (cut_causes cuts prices.cuts) e a h

  pub of_count : first_cause (size_causes i prices) ≡ None → first_cause (slot_causes i prices.q prices.slots) ≡ None → (length prices.cuts == length cuts) ≡ false → first_cause (price_causes i cuts prices) ≡ Some CutCount
  unfolding price_causes
  of_count a b h =
      causes_of_sizes (size_causes i prices) (slot_causes i prices.q prices.slots) (count_causes cuts prices.cuts) (cut_causes cuts prices.cuts) CutCount a b
      (ap (λ (t : Bool). first_cause ((not t, CutCount) ∷ [])) h)

  pub of_cuts : first_cause (size_causes i prices) ≡ None → first_cause (slot_causes i prices.q prices.slots) ≡ None → (length prices.cuts == length cuts) ≡ true → first_cause (price_causes i cuts prices) ≡ first_cause (cut_causes cuts prices.cuts)
  unfolding price_causes
  of_cuts a b h =
      causes_of_kinds (size_causes i prices) (slot_causes i prices.q prices.slots) (count_causes cuts prices.cuts) (cut_causes cuts prices.cuts) a b
      (ap (λ (t : Bool). first_cause ((not t, CutCount) ∷ [])) h)

both : (a b : Bool) → a ≡ true → b ≡ true → (a && b) ≡ true
both true b p q = q
both false b p q = p

-- of no cause among joined lists there is none in each
none_apart : {E : Type 0} (xs ys : List (Bool × E)) → NoCause (xs ++ ys) → NoCause xs × NoCause ys
none_apart [] ys h = (tt, h)
none_apart (x ∷ xs) ys h = let r = none_apart xs ys h.1 in ((h.0, r.0), r.1)

-- without a cause all elements pass
all_pass : {X E : Type 0} (p : X → Bool) (e : ℕ × X → E) (n : ℕ) (xs : List X) → NoCause (map (λ (q : ℕ × X). (not (p q.1), e q)) (enumerate_from n xs)) → list_all p xs ≡ true
all_pass p e n [] h = refl
all_pass p e n (x ∷ xs) h = both (p x) (list_all p xs) (not-false (p x) h.0) (all_pass p e (n + 1) xs h.1)

pub passes : (i : Problem) (cuts : List Cut) (prices : Prices) → first_cause (price_causes i cuts prices) ≡ None → are_prices i cuts prices ≡ true
unfolding price_causes
passes i cuts prices h =
    let n = no_cause (size_causes i prices ++ slot_causes i prices.q prices.slots ++ count_causes cuts prices.cuts ++ cut_causes cuts prices.cuts) h in
    let last = none_apart (size_causes i prices ++ slot_causes i prices.q prices.slots ++ count_causes cuts prices.cuts) (cut_causes cuts prices.cuts) n in
    let third = none_apart (size_causes i prices ++ slot_causes i prices.q prices.slots) (count_causes cuts prices.cuts) last.0 in
    let first = none_apart (size_causes i prices) (slot_causes i prices.q prices.slots) third.0 in
    let scale : (nat_le 1 prices.q && nat_le prices.q 10000) ≡ true = not-false _ first.0.0 in
    let count : (length prices.slots == slots i) ≡ true = not-false _ first.0.1.0 in
    let each : list_all (is_slot_price i prices.q) prices.slots ≡ true = all_pass (is_slot_price i prices.q) (λ q. SlotPrice q.0) 0 prices.slots first.1 in
    let cut_count : (length prices.cuts == length cuts) ≡ true = not-false _ third.1.0 in
    let cut_each : list_all is_cut_price (zip cuts prices.cuts) ≡ true = all_pass is_cut_price (λ q. CutPrice q.0) 0 (zip cuts prices.cuts) last.1 in
    both _ _ (both _ _ (both _ _ (both _ _ scale count) each) cut_count) cut_each

-- without a cause in each of two lists there is none in the joined list
none_joined : {E : Type 0} (xs ys : List (Bool × E)) → NoCause xs → NoCause ys → NoCause (xs ++ ys)
none_joined [] ys h g = g
none_joined (x ∷ xs) ys h g = (h.0, none_joined xs ys h.1 g)

-- where all elements pass there is no cause
none_of_pass : {X E : Type 0} (p : X → Bool) (e : ℕ × X → E) (n : ℕ) (xs : List X) → list_all p xs ≡ true → NoCause (map (λ (q : ℕ × X). (not (p q.1), e q)) (enumerate_from n xs))
none_of_pass p e n [] h = tt
none_of_pass p e n (x ∷ xs) h =
    let parts = and_parts (p x) (list_all p xs) h in
    (not_from_true (p x) parts.0, none_of_pass p e (n + 1) xs parts.1)

-- a price set has no fault
pub faultless : (i : Problem) (cuts : List Cut) (prices : Prices) → are_prices i cuts prices ≡ true → first_cause (price_causes i cuts prices) ≡ None
unfolding price_causes
faultless i cuts prices h =
    let scale = nat_le 1 prices.q && nat_le prices.q 10000 in
    let count = length prices.slots == slots i in
    let each = list_all (is_slot_price i prices.q) prices.slots in
    let cut_count = length prices.cuts == length cuts in
    let cut_each = list_all is_cut_price (zip cuts prices.cuts) in
    let p4 = and_parts (scale && count && each && cut_count) cut_each h in
    let p3 = and_parts (scale && count && each) cut_count p4.0 in
    let p2 = and_parts (scale && count) each p3.0 in
    let p1 = and_parts scale count p2.0 in
    let sizes : NoCause (size_causes i prices) = (not_from_true scale p1.0, (not_from_true count p1.1, tt)) in
    let of_slots : NoCause (slot_causes i prices.q prices.slots) = none_of_pass (is_slot_price i prices.q) (λ q. SlotPrice q.0) 0 prices.slots p2.1 in
    let counts : NoCause (count_causes cuts prices.cuts) = (not_from_true cut_count p3.1, tt) in
    let of_cuts : NoCause (cut_causes cuts prices.cuts) = none_of_pass is_cut_price (λ q. CutPrice q.0) 0 (zip cuts prices.cuts) p4.1 in
    none_from_no_cause (size_causes i prices ++ slot_causes i prices.q prices.slots ++ count_causes cuts prices.cuts ++ cut_causes cuts prices.cuts)
    (none_joined (size_causes i prices ++ slot_causes i prices.q prices.slots ++ count_causes cuts prices.cuts) (cut_causes cuts prices.cuts)
    (none_joined (size_causes i prices ++ slot_causes i prices.q prices.slots) (count_causes cuts prices.cuts)
    (none_joined (size_causes i prices) (slot_causes i prices.q prices.slots) sizes of_slots) counts) of_cuts)
