-- The bound that a price set gives on the cost of the legal rotas below some cuts.
-- Source: weak duality of linear programming, in whole numbers, for the model with a number of duties for each shift, day and break list; such
-- models of shifts with breaks go back to Dantzig 1954. The scale and the cuts' prices are this project's profile.
use Rattle.std.specs.Prelude.{ℕ, ◌*◌, ℤ, pos, neg_ℤ, ◌+ℤ◌, ◌-ℤ◌, ◌*ℤ◌, int_le, Bool, true, false, ◌&&◌, ◌||◌, not, ◌==◌, nat_lt, nat_le, List, [], ◌∷◌, min, map, length, if◌then◌else◌}
use Rattle.std.specs.Int.{int_max, int_min, is_negative}
use Rattle.std.specs.List.{list_all, list_any, zip, filter}
use Rattle.break_rules.specs.declared.Break.{Break}
use Rattle.shift_instance.specs.declared.Duty.{Duty}
use Rattle.shift_instance.specs.Problem.{Problem, slots, need_at, need_max_at, shift_list, below}
use Rattle.shift_instance.specs.Rota.{lists_of}
use Rattle.shift_instance.specs.Worth.{price_of, earned}
use Rattle.shift_instance.specs.declared.TheConstants.{TOP}
use Rattle.head_splits.specs.declared.TheConstants.{CUT_PRICE_MAX}
use Rattle.head_splits.specs.declared.Side.{Side}
use Rattle.head_splits.specs.declared.Side.TheVariants.{AtMost, AtLeast}
use Rattle.head_splits.specs.declared.Cut.{Cut}
use Rattle.head_splits.specs.declared.Prices.{Prices}
use Rattle.head_splits.specs.Cuts.{holds, low, high, whole_class}
use Rattle.break_rules.specs.Sums.{int_sum_by, greatest, rounded_up}

-- whether a list is empty
abbrev pub is_nil : {X : Type 0} → List X → Bool
is_nil [] = true
is_nil (x ∷ xs) = false

-- a cut's price with the sign of its side
abbrev pub signed_price : Side → ℕ → ℤ
signed_price AtLeast l = pos l
signed_price AtMost l = neg_ℤ (pos l)

-- what a cut with its price adds to a duty: its signed price, where its class has a prefix and holds the duty
abbrev pub bonus : Duty → Cut × ℕ → ℤ
bonus d c = if not (is_nil c.0.class.prefix) && holds c.0.class d then signed_price c.0.side c.1 else pos 0

-- the reduced value of a duty: the prices of the slots where it works, and what the cuts add
abbrev pub reduced : Problem → List Cut → Prices → Duty → ℤ
reduced i cuts prices d =
    earned i prices.slots d +ℤ int_sum_by (bonus d) (zip cuts prices.cuts)

-- the prefixes of the cuts of a shift on a day, each with its signed price
abbrev pub entries_of : List (Cut × ℕ) → ℕ → ℕ → List (List Break × ℤ)
entries_of pairs s day =
    map (λ c. (c.0.class.prefix, signed_price c.0.side c.1))
    (filter (λ c. not (is_nil c.0.class.prefix) && (s == c.0.class.shift) && (day == c.0.class.day)) pairs)

-- the greatest reduced value of a duty of a shift on a day, and 0 where no break list is legal
abbrev pub best_value : Problem → List Cut → Prices → ℕ → ℕ → ℤ
best_value i cuts prices s day = greatest (map (λ list. reduced i cuts prices (record { shift = s; day = day; breaks = list })) (lists_of i s))

-- whether some day needs a duty of the shift
abbrev pub is_forced : Problem → List Cut → ℕ → Bool
is_forced i cuts s = list_any (λ day. nat_lt 0 (low cuts (whole_class s day))) (below i.days)

-- the most that a day's duties of a shift are worth, where their number is within the class's range
abbrev pub day_value : Problem → List Cut → Prices → ℕ → ℕ → ℤ
day_value i cuts prices s day =
    let v = best_value i cuts prices s day in
    let c = whole_class s day in
    int_max (v *ℤ pos (low cuts c)) (v *ℤ pos (high i cuts c))

-- the same, where the day may have none
abbrev pub free_day_value : Problem → List Cut → Prices → ℕ → ℕ → ℤ
free_day_value i cuts prices s day = int_max (pos 0) (best_value i cuts prices s day *ℤ pos (high i cuts (whole_class s day)))

-- the term of a shift
abbrev pub term : Problem → List Cut → Prices → ℕ → ℤ
term i cuts prices s =
    if is_nil (lists_of i s) then pos 0
    else if is_forced i cuts s then pos (prices.q * i.shift) -ℤ int_sum_by (day_value i cuts prices s) (below i.days)
    else int_min (pos 0) (pos (prices.q * i.shift) -ℤ int_sum_by (free_day_value i cuts prices s) (below i.days))

-- the wanted employees of a slot for which a price counts: the most of them where it is below 0, and else the need
abbrev pub wanted_at : Problem → ℕ → ℤ → ℕ
wanted_at i t p = if is_negative p then need_max_at i t else need_at i t

-- what a price is worth at a slot
abbrev pub worth_at : Problem → ℕ → ℤ → ℤ
worth_at i t p = p *ℤ pos (wanted_at i t p)

-- what a slot's price is worth, and a cut's price at its number
abbrev pub slot_worth : Problem → Prices → ℕ → ℤ
slot_worth i prices t = worth_at i t (price_of prices.slots t)

abbrev pub cut_worth : Cut × ℕ → ℤ
cut_worth c = signed_price c.0.side c.1 *ℤ pos c.0.m

-- the total of a price set: slots, cuts and shifts
abbrev pub total : Problem → List Cut → Prices → ℤ
total i cuts prices =
    int_sum_by (slot_worth i prices) (below (slots i))
    +ℤ int_sum_by cut_worth (zip cuts prices.cuts)
    +ℤ int_sum_by (term i cuts prices) (below (length (shift_list i)))

-- the bound of a price set: the least whole number that, times the scale, is no less than the total
abbrev pub bound_of : Problem → List Cut → Prices → ℕ
bound_of i cuts prices = min TOP (rounded_up prices.q (total i cuts prices))

-- whether a slot's price keeps to its range
abbrev pub is_slot_price : Problem → ℕ → ℤ → Bool
is_slot_price i q p = int_le (neg_ℤ (pos (q * i.excess))) p && int_le p (pos (q * i.shortage))

-- whether a cut's price keeps to its range: none on a class with the empty prefix
abbrev pub is_cut_price : Cut × ℕ → Bool
is_cut_price c = nat_le c.1 CUT_PRICE_MAX && (not (is_nil c.0.class.prefix) || (c.1 == 0))

-- whether a price set is one for these cuts
abbrev pub are_prices : Problem → List Cut → Prices → Bool
are_prices i cuts prices =
    nat_le 1 prices.q && nat_le prices.q 10000
    && (length prices.slots == slots i) && list_all (is_slot_price i prices.q) prices.slots
    && (length prices.cuts == length cuts) && list_all is_cut_price (zip cuts prices.cuts)
