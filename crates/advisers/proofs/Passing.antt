-- The first prices, and those after a step, keep to their ranges.
use Rattle.advisers.proofs.Common.{◌≡◌, ℕ, ◌*◌, ◌≤◌, ℤ, pos, neg_ℤ, ◌+ℤ◌, ◌-ℤ◌, ◌*ℤ◌, ◌≤ℤ◌, Bool, true, false, cond, not, ◌&&◌, ◌||◌, ◌==◌, nat_lt, nat_le, List, [], ◌∷◌, map, length, replicate, min, refl, ap, ◌∙◌, subst, arith, eq-eqb, int_le, list_all, zip, ints, clamps, and_from, and_parts, length-map, length-replicate, length-range_with_len, all_from, from_map, Duty, Problem, slots, need_at, need_max_at, below, cover, price_of, Cut, Prices, class_count, are_prices, is_cut_price, is_nil, is_slot_price, balance_price, forced_prices, forced_rota, solution, brought_into, first_prices, next_cut_price, next_prices, next_slot_price, stepped, target_at}
use Rattle.break_rules.specs.Lists.{Has}
use Rattle.head_splits.specs.declared.TheConstants.{CUT_PRICE_MAX}
use Rattle.head_splits.proofs.Priced.{priced}
use Rattle.advisers.proofs.PriceSizes.{neg_times}

le_test : (a b : ℤ) → a ≤ℤ b → int_le a b ≡ true
le_test a b h = grind (arith, ints)

in_range : (i : Problem) (q : ℕ) (p : ℤ) → neg_ℤ (pos (q * i.excess)) ≤ℤ p → p ≤ℤ pos (q * i.shortage) → is_slot_price i q p ≡ true
in_range i q p low high = and_from _ _ (le_test (neg_ℤ (pos (q * i.excess))) p low) (le_test p (pos (q * i.shortage)) high)

-- a price set, by its parts
passes : (i : Problem) (cuts : List Cut) (prices : Prices) → nat_le 1 prices.q ≡ true → nat_le prices.q 10000 ≡ true → length prices.slots ≡ slots i → list_all (is_slot_price i prices.q) prices.slots ≡ true
    → length prices.cuts ≡ length cuts → list_all is_cut_price (zip cuts prices.cuts) ≡ true → are_prices i cuts prices ≡ true
passes i cuts prices a b c d e f =
    and_from (nat_le 1 prices.q && nat_le prices.q 10000 && (length prices.slots == slots i) && list_all (is_slot_price i prices.q) prices.slots && (length prices.cuts == length cuts)) (list_all is_cut_price (zip cuts prices.cuts))
    (and_from (nat_le 1 prices.q && nat_le prices.q 10000 && (length prices.slots == slots i) && list_all (is_slot_price i prices.q) prices.slots) (length prices.cuts == length cuts)
    (and_from (nat_le 1 prices.q && nat_le prices.q 10000 && (length prices.slots == slots i)) (list_all (is_slot_price i prices.q) prices.slots)
    (and_from (nat_le 1 prices.q && nat_le prices.q 10000) (length prices.slots == slots i)
    (and_from (nat_le 1 prices.q) (nat_le prices.q 10000) a b)
    (eq-eqb (length prices.slots) (slots i) c))
    d)
    (eq-eqb (length prices.cuts) (length cuts) e))
    f

most_test : (a b : ℕ) → a ≤ b → nat_le a b ≡ true
most_test a b h = grind arith

-- ---- the first prices
scaled_in_range : (i : Problem) (q : ℕ) (t working : ℕ) → is_slot_price i q (balance_price i t working *ℤ pos q) ≡ true
scaled_in_range i q t working = go (nat_lt working (need_at i t)) (nat_lt (need_max_at i t) working)
  where
    go : (few many : Bool) → is_slot_price i q (cond few (pos i.shortage) (cond many (neg_ℤ (pos i.excess)) (pos 0)) *ℤ pos q) ≡ true
    go true many =
        let e : i.shortage * q ≡ q * i.shortage = omega arith in
        let p : pos i.shortage *ℤ pos q ≡ pos (q * i.shortage) = omega (arith, ints) in
        in_range i q (pos i.shortage *ℤ pos q) (omega (arith, ints)) (omega (arith, ints))
    go false true =
        let e : i.excess * q ≡ q * i.excess = omega arith in
        let p : neg_ℤ (pos i.excess) *ℤ pos q ≡ neg_ℤ (pos (q * i.excess)) = neg_times i.excess q ∙ ap (λ (n : ℕ). neg_ℤ (pos n)) e in
        in_range i q (neg_ℤ (pos i.excess) *ℤ pos q) (omega (arith, ints)) (omega (arith, ints))
    go false false =
        let p : pos 0 *ℤ pos q ≡ pos 0 = omega (arith, ints) in
        in_range i q (pos 0 *ℤ pos q) (omega (arith, ints)) (omega (arith, ints))

unpriced : (cuts : List Cut) → list_all is_cut_price (zip cuts (replicate (length cuts) 0)) ≡ true
unpriced [] = refl
unpriced (c ∷ cs) = and_from (is_cut_price (c, 0)) (list_all is_cut_price (zip cs (replicate (length cs) 0))) (free (not (is_nil c.class.prefix))) (unpriced cs)
  where
    free : (b : Bool) → (nat_le 0 CUT_PRICE_MAX && (b || (0 == 0))) ≡ true
    free true = refl
    free false = refl

-- what a price of the forced duties is
pub forced_at : (i : Problem) (cuts : List Cut) (p : ℤ) → Has (forced_prices i cuts) p → (t : ℕ) × (working : ℕ) × (balance_price i t working ≡ p)
unfolding forced_prices
forced_at i cuts p m =
    let f = from_map (λ t. balance_price i t (cover i (forced_rota i cuts) t)) (below (slots i)) p m in
    (f.0, cover i (forced_rota i cuts) f.0, f.2)

pub forced_count : (i : Problem) (cuts : List Cut) → length (forced_prices i cuts) ≡ slots i
unfolding forced_prices
forced_count i cuts = length-map (below (slots i)) (λ t. balance_price i t (cover i (forced_rota i cuts) t)) ∙ length-range_with_len 0 (slots i)

pub first_passes : (i : Problem) (cuts : List Cut) (q : ℕ) → 1 ≤ q → q ≤ 10000 → are_prices i cuts (first_prices i cuts q) ≡ true
unfolding first_prices
first_passes i cuts q some limit =
    passes i cuts (record { q = q; slots = map (λ p. p *ℤ pos q) (forced_prices i cuts); cuts = replicate (length cuts) 0 }) (most_test 1 q some) (most_test q 10000 limit)
    (length-map (forced_prices i cuts) (λ p. p *ℤ pos q) ∙ forced_count i cuts)
    (all_from (is_slot_price i q) (map (λ p. p *ℤ pos q) (forced_prices i cuts)) (λ z m.
    let p = from_map (λ p. p *ℤ pos q) (forced_prices i cuts) z m in
    let t = forced_at i cuts p.0 p.1 in
    subst (λ (y : ℤ). is_slot_price i q y ≡ true) (ap (λ (y : ℤ). y *ℤ pos q) t.2 ∙ p.2) (scaled_in_range i q t.0 t.1)))
    (length-replicate (length cuts) 0)
    (unpriced cuts)

-- ---- prices after a step
brought_in_range : (i : Problem) (q : ℕ) (z : ℤ) → is_slot_price i q (brought_into (neg_ℤ (pos (q * i.excess))) (pos (q * i.shortage)) z) ≡ true
brought_in_range i q z = in_range i q (brought_into (neg_ℤ (pos (q * i.excess))) (pos (q * i.shortage)) z) (omega (arith, ints, clamps)) (omega (arith, ints, clamps))

next_cut_in_range : (step : ℕ) (rota : List Duty) (c : Cut) (price : ℕ) → is_cut_price (c, price) ≡ true → is_cut_price (c, next_cut_price step rota (c, price)) ≡ true
next_cut_in_range step rota c price h = go (is_nil c.class.prefix) h
  where
    go : (b : Bool) → (nat_le price CUT_PRICE_MAX && (not b || (price == 0))) ≡ true
        → (nat_le (cond b price (min CUT_PRICE_MAX (stepped c.side step c.m (class_count rota c.class) price))) CUT_PRICE_MAX
        && (not b || (cond b price (min CUT_PRICE_MAX (stepped c.side step c.m (class_count rota c.class) price)) == 0))) ≡ true
    go true e = e
    go false e = and_from (nat_le (min CUT_PRICE_MAX (stepped c.side step c.m (class_count rota c.class) price)) CUT_PRICE_MAX) true (most_test (min CUT_PRICE_MAX (stepped c.side step c.m (class_count rota c.class) price)) CUT_PRICE_MAX (omega arith)) refl

next_cuts_in_range : (step : ℕ) (rota : List Duty) (cuts : List Cut) (prices : List ℕ) → list_all is_cut_price (zip cuts prices) ≡ true → list_all is_cut_price (zip cuts (map (next_cut_price step rota) (zip cuts prices))) ≡ true
next_cuts_in_range step rota [] prices h = refl
next_cuts_in_range step rota (c ∷ cs) [] h = refl
next_cuts_in_range step rota (c ∷ cs) (p ∷ ps) h =
    let both = and_parts (is_cut_price (c, p)) (list_all is_cut_price (zip cs ps)) h in
    and_from (is_cut_price (c, next_cut_price step rota (c, p))) (list_all is_cut_price (zip cs (map (next_cut_price step rota) (zip cs ps)))) (next_cut_in_range step rota c p both.0) (next_cuts_in_range step rota cs ps both.1)

zip_length : {X Y : Type 0} (xs : List X) (ys : List Y) → length ys ≡ length xs → length (zip xs ys) ≡ length xs
zip_length [] ys e = refl
zip_length (x ∷ xs) [] e = absurd (omega arith)
zip_length (x ∷ xs) (y ∷ ys) e = let r = zip_length xs ys (omega arith) in omega arith

pub next_passes : (i : Problem) (cuts : List Cut) (step : ℕ) (prices : Prices) → are_prices i cuts prices ≡ true → are_prices i cuts (next_prices i cuts step prices) ≡ true
unfolding next_prices
next_passes i cuts step prices h =
    let p = priced i cuts prices h in
    let rota = solution i cuts prices in
    let f : ℕ → ℤ = λ t. next_slot_price i prices.q step rota t (price_of prices.slots t) in
    passes i cuts (record { q = prices.q; slots = map f (below (slots i)); cuts = map (next_cut_price step rota) (zip cuts prices.cuts) })
    (most_test 1 prices.q p.scale) (most_test prices.q 10000 p.limit)
    (length-map (below (slots i)) f ∙ length-range_with_len 0 (slots i))
    (all_from (is_slot_price i prices.q) (map f (below (slots i))) (λ z m.
    let t = from_map f (below (slots i)) z m in
    subst (λ (y : ℤ). is_slot_price i prices.q y ≡ true) t.2 (brought_in_range i prices.q (price_of prices.slots t.0 +ℤ pos step *ℤ (pos (target_at i t.0 (price_of prices.slots t.0) (cover i rota t.0)) -ℤ pos (cover i rota t.0))))))
    (length-map (zip cuts prices.cuts) (next_cut_price step rota) ∙ zip_length cuts prices.cuts p.cut_count)
    (next_cuts_in_range step rota cuts prices.cuts p.cut_prices)
