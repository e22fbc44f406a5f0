-- The prices of a price set have a spelling.
use Rattle.search_core.proofs.Common.{◌≡◌, ℕ, ◌*◌, ◌≤◌, ℤ, pos, negsuc, neg_ℤ, ◌≤ℤ◌, true, not, ◌||◌, ◌==◌, nat_le, List, [], ◌∷◌, length, arith, All, int_le, list_all, zip, AllByRecursion, mul-le-mul, and_parts, leb-true, All-from_recursion, Problem, IsValid, Cut, Prices, is_nil, is_slot_price, is_cut_price, are_prices, le_from_test, FitsSlot, FitsCut}
use Rattle.std.specs.Int.RustNames.{unsigned_abs}
use Rattle.std.proofs.lemmas.Int.{ints}
use Rattle.break_rules.proofs.Sizes.{abs_within}
use Rattle.head_splits.specs.declared.TheConstants.{CUT_PRICE_MAX}
use Rattle.head_splits.proofs.Priced.{priced}
use Rattle.post_codec.specs.declared.price_width.PriceWidth.TheVariants.{Five}

slot_within : (p : ℤ) → unsigned_abs p ≤ 10000000000 → FitsSlot Five p
slot_within (pos n) small = omega (arith, small)
slot_within (negsuc n) small = omega (arith, small)

slot_spells : (i : Problem) (q : ℕ) (p : ℤ) → IsValid i → q ≤ 10000 → is_slot_price i q p ≡ true → FitsSlot Five p
slot_spells i q p valid limit h =
    let both = and_parts (int_le (neg_ℤ (pos (q * i.excess))) p) (int_le p (pos (q * i.shortage))) h in
    let low : neg_ℤ (pos (q * i.excess)) ≤ℤ p = le_from_test _ _ both.0 in
    let high : p ≤ℤ pos (q * i.shortage) = le_from_test _ _ both.1 in
    let one : q * i.excess ≤ 10000 * 1000000 = mul-le-mul limit valid.excess in
    let two : q * i.shortage ≤ 10000 * 1000000 = mul-le-mul limit valid.shortage in
    slot_within p (abs_within p 10000000000 (omega (arith, ints)) (omega (arith, ints)))

slots_spell : (i : Problem) (q : ℕ) (prices : List ℤ) → IsValid i → q ≤ 10000 → list_all (is_slot_price i q) prices ≡ true → AllByRecursion (FitsSlot Five) prices
slots_spell i q [] valid limit h = tt
slots_spell i q (p ∷ prices) valid limit h =
    let parts = and_parts (is_slot_price i q p) (list_all (is_slot_price i q) prices) h in
    (slot_spells i q p valid limit parts.0, slots_spell i q prices valid limit parts.1)

cut_spells : (c : Cut × ℕ) → is_cut_price c ≡ true → FitsCut Five c.1
cut_spells c h =
    let most : c.1 ≤ 1000000000000 = leb-true c.1 CUT_PRICE_MAX (and_parts (nat_le c.1 CUT_PRICE_MAX) (not (is_nil c.0.class.prefix) || (c.1 == 0)) h).0 in
    omega arith

cuts_spell : (cuts : List Cut) (prices : List ℕ) → length prices ≡ length cuts → list_all is_cut_price (zip cuts prices) ≡ true → AllByRecursion (FitsCut Five) prices
cuts_spell cuts [] e h = tt
cuts_spell [] (p ∷ prices) e h = absurd (omega arith)
cuts_spell (c ∷ cs) (p ∷ prices) e h =
    let parts = and_parts (is_cut_price (c, p)) (list_all is_cut_price (zip cs prices)) h in
    (cut_spells (c, p) parts.0, cuts_spell cs prices (omega arith) parts.1)

-- each price of a price set fits five bytes: those of slots are at most 10^10 apart from 0, and those of cuts at most 10^12
pub prices_spell : (i : Problem) (cuts : List Cut) (prices : Prices) → IsValid i → are_prices i cuts prices ≡ true → All (FitsSlot Five) prices.slots × All (FitsCut Five) prices.cuts
prices_spell i cuts prices valid passes =
    let p = priced i cuts prices passes in (
      All-from_recursion (FitsSlot Five) prices.slots (slots_spell i prices.q prices.slots valid p.limit p.slot_prices),
      All-from_recursion (FitsCut Five) prices.cuts (cuts_spell cuts prices.cuts p.cut_count p.cut_prices),
    )
