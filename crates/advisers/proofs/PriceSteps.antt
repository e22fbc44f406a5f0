-- Prices after a step, slot by slot and cut by cut.
use Rattle.advisers.proofs.Common.{◌≡◌, ℕ, zero, suc, ◌+◌, ◌<◌, ◌≤◌, ℤ, pos, ◌*ℤ◌, Bool, true, false, cond, List, [], ◌∷◌, ◌++◌, length, map, take, get_or, replicate, append_assoc, refl, sym, ap, ◌∙◌, subst, arith, sum_by, zip, unsigned_abs, map-append, take_all, take_more, map-range_with_len_more, Duty, Row, Problem, slots, below, cover, duty_of, rota_of, works, price_of, working, Cut, Prices, pairs_from, pairs_next, slot_small, forced_prices, solution, first_prices, next_cut_price, next_prices, next_slot_price}
use Rattle.std.proofs.lemmas.List.Sums.{sum_by_more}
use Rattle.shift_instance.specs.Valid.{IsValid}
use Rattle.shift_instance.proofs.RowCounts.{cover_rows}
use Rattle.advisers.proofs.Passing.{first_passes}

-- ---- counts
pub count_more : (i : Problem) (t : ℕ) (rows : List Row) (k : ℕ) (r : Row) → k < length rows → r ≡ get_or rows k r → sum_by (working i t) (take (k + 1) rows) ≡ sum_by (working i t) (take k rows) + working i t r
count_more i t rows k r inside at = sum_by_more (working i t) rows k r inside ∙ ap (λ (x : Row). sum_by (working i t) (take k rows) + working i t x) (sym at)

pub count_all : (i : Problem) (t : ℕ) (rows : List Row) (k sum : ℕ) → length rows ≤ k → sum ≡ sum_by (working i t) (take k rows) → sum ≡ cover i (rota_of rows) t
count_all i t rows k sum all is = is ∙ ap (sum_by (working i t)) (take_all k rows all) ∙ sym (cover_rows i rows t)

pub works_few : (i : Problem) (t : ℕ) (r : Row) → working i t r ≤ r.count
works_few i t r = few (works i (duty_of r) t)
  where
    few : (b : Bool) → cond b r.count 0 ≤ r.count
    few true = omega arith
    few false = omega arith

-- ---- lists of prices
pub slots_more : (f : ℕ → ℤ) (t : ℕ) (next more : List ℤ) (v : ℤ) → next ≡ map f (below t) → more ≡ next ++ v ∷ [] → v ≡ f t → more ≡ map f (below (t + 1))
slots_more f t next more v are pushed is =
    pushed ∙ ap (λ (l : List ℤ). l ++ v ∷ []) are ∙ ap (λ (z : ℤ). map f (below t) ++ z ∷ []) is ∙ sym (map-range_with_len_more f 0 t t (omega arith))

pub cuts_more : (f : Cut × ℕ → ℕ) (cuts : List Cut) (prices : List ℕ) (k : ℕ) (cut : Cut) (items more : List ℕ) (v : ℕ) (all : List ℕ) → k < length cuts → length prices ≡ length cuts → cut ≡ get_or cuts k cut
    → items ++ map f (pairs_from cuts prices k) ≡ all → more ≡ items ++ v ∷ [] → v ≡ f (cut, get_or prices k 0)
    → more ++ map f (pairs_from cuts prices (k + 1)) ≡ all
cuts_more f cuts prices k cut items more v all inside count at so_far pushed is =
    ap (λ (l : List ℕ). l ++ map f (pairs_from cuts prices (k + 1))) pushed
    ∙ append_assoc items (v ∷ []) (map f (pairs_from cuts prices (k + 1)))
    ∙ ap (λ (n : ℕ). items ++ n ∷ map f (pairs_from cuts prices (k + 1))) is
    ∙ ap (λ (l : List (Cut × ℕ)). items ++ map f l) (sym (pairs_next cuts prices k cut inside count at))
    ∙ so_far

-- ---- whole price sets
pub next_is : (i : Problem) (cuts : List Cut) (step : ℕ) (prices : Prices) (rota : List Duty) (slot_list : List ℤ) (cut_list : List ℕ) → rota ≡ solution i cuts prices
    → slot_list ≡ map (λ t. next_slot_price i prices.q step rota t (price_of prices.slots t)) (below (slots i)) → cut_list ≡ map (next_cut_price step rota) (zip cuts prices.cuts)
    → record { q = prices.q; slots = slot_list; cuts = cut_list } ≡ next_prices i cuts step prices
unfolding next_prices
next_is i cuts step prices rota slot_list cut_list is are_slots are_cuts =
    ap (λ (xs : List ℤ). record { q = prices.q; slots = xs; cuts = cut_list }) (are_slots ∙ ap (λ (r : List Duty). map (λ t. next_slot_price i prices.q step r t (price_of prices.slots t)) (below (slots i))) is)
    ∙ ap (λ (ns : List ℕ). record { q = prices.q; slots = map (λ t. next_slot_price i prices.q step (solution i cuts prices) t (price_of prices.slots t)) (below (slots i)); cuts = ns })
    (are_cuts ∙ ap (λ (r : List Duty). map (next_cut_price step r) (zip cuts prices.cuts)) is)

at_map : {X Y : Type 0} (f : X → Y) (xs : List X) (k : ℕ) (x : X) (y : Y) → k < length xs → get_or (map f xs) k y ≡ f (get_or xs k x)
at_map f [] k x y h = absurd (omega arith)
at_map f (z ∷ zs) zero x y h = refl
at_map f (z ∷ zs) (suc k) x y h = at_map f zs k x y (omega arith)

pub scaled_small : (i : Problem) (cuts : List Cut) (q t : ℕ) (prices : List ℤ) → IsValid i → 1 ≤ q → q ≤ 10000 → prices ≡ forced_prices i cuts → t < length prices → unsigned_abs (get_or prices t (pos 0) *ℤ pos q) ≤ 10000000000
unfolding first_prices
scaled_small i cuts q t prices valid some limit are inside =
    subst (λ (z : ℤ). unsigned_abs z ≤ 10000000000)
    (at_map (λ (p : ℤ). p *ℤ pos q) (forced_prices i cuts) t (pos 0) (pos 0) (subst (λ (xs : List ℤ). t < length xs) are inside) ∙ ap (λ (xs : List ℤ). get_or xs t (pos 0) *ℤ pos q) (sym are))
    (slot_small i cuts (first_prices i cuts q) valid (first_passes i cuts q some limit) t)

-- the same, read through slices
pub next_from : (i : Problem) (cuts : List Cut) (step : ℕ) (prices : Prices) (rows shown : List Row) (ps : List ℤ) (cs : List Cut) (ns : List ℕ) (slot_list : List ℤ) (cut_list : List ℕ) → rota_of rows ≡ solution i cuts prices → shown ≡ rows
    → ps ≡ prices.slots → cs ≡ cuts → ns ≡ prices.cuts → slot_list ≡ map (λ t. next_slot_price i prices.q step (rota_of shown) t (price_of ps t)) (below (slots i)) → cut_list ≡ map (next_cut_price step (rota_of shown)) (zip cs ns)
    → record { q = prices.q; slots = slot_list; cuts = cut_list } ≡ next_prices i cuts step prices
next_from i cuts step prices rows shown ps cs ns slot_list cut_list is show same_slots same_cuts same_prices are_slots are_cuts =
    next_is i cuts step prices (rota_of shown) slot_list cut_list (ap rota_of show ∙ is)
    (are_slots ∙ ap (λ (xs : List ℤ). map (λ t. next_slot_price i prices.q step (rota_of shown) t (price_of xs t)) (below (slots i))) same_slots)
    (are_cuts ∙ ap (λ (xs : List Cut). map (next_cut_price step (rota_of shown)) (zip xs ns)) same_cuts ∙ ap (λ (xs : List ℕ). map (next_cut_price step (rota_of shown)) (zip cuts xs)) same_prices)

-- the first prices, price by price
pub first_is : (i : Problem) (cuts : List Cut) (q t : ℕ) (forced slot_list : List ℤ) (cut_list : List ℕ) → forced ≡ forced_prices i cuts → slot_list ≡ map (λ p. p *ℤ pos q) (take t forced) → length forced ≤ t → cut_list ≡ replicate (length cuts) 0
    → record { q = q; slots = slot_list; cuts = cut_list } ≡ first_prices i cuts q
unfolding first_prices
first_is i cuts q t forced slot_list cut_list is are all none =
    ap (λ (xs : List ℤ). record { q = q; slots = xs; cuts = cut_list }) (are ∙ ap (map (λ p. p *ℤ pos q)) (take_all t forced all ∙ is))
    ∙ ap (λ (ns : List ℕ). record { q = q; slots = map (λ p. p *ℤ pos q) (forced_prices i cuts); cuts = ns }) none

pub scaled_more : (q t : ℕ) (forced slot_list more : List ℤ) (v : ℤ) → t < length forced → slot_list ≡ map (λ p. p *ℤ pos q) (take t forced) → more ≡ slot_list ++ v ∷ [] → v ≡ get_or forced t (pos 0) *ℤ pos q → more ≡ map (λ p. p *ℤ pos q) (take (t + 1) forced)
scaled_more q t forced slot_list more v inside are pushed is =
    let f : ℤ → ℤ = λ p. p *ℤ pos q in
    pushed ∙ ap (λ (l : List ℤ). l ++ v ∷ []) are ∙ ap (λ (z : ℤ). map f (take t forced) ++ z ∷ []) is
    ∙ sym (ap (map f) (take_more forced t (pos 0) inside) ∙ map-append f (take t forced) (get_or forced t (pos 0) ∷ []))
