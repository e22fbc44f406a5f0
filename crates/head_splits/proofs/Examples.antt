-- The definitions, computed on instances whose bounds were found by hand.
use Rattle.head_splits.proofs.Common.{◌≡◌, ℕ, ℤ, pos, negsuc, true, false, List, [], ◌∷◌, ◌++◌, refl, replicate, Some, Break, Problem, AtMost, AtLeast, Side, Cut, Prices, whole_class, meets, low, high, best_value, reduced, total, bound_of, are_prices, class_of, is_settled, settled_plan, is_empty, split_class, span}
use Rattle.shift_instance.proofs.Examples.{one_morning, duty}

abbrev two_heads : Problem
two_heads = record one_morning { heads = 2 }

-- a shift of 8 hours with a break of one hour, and no need in the break's hour
abbrev long_day : Problem
long_day =
    record one_morning {
      need = replicate 8 0 ++ 1 ∷ 1 ∷ 1 ∷ 1 ∷ 0 ∷ 1 ∷ 1 ∷ 1 ∷ replicate 8 0;
      kinds = record { name = 77 ∷ []; start_min = 8; start_max = 8; len_min = 8; len_max = 8; rule = record { lead = 2; tail = 2; work_min = 2; work_max = 5; long_work = 5; long_rest = 1; size_min = 1; size_max = 1; totals = (8, 1) ∷ []; lunches = []; resettle = 0 } } ∷ [];
    }

-- prices of the slots from 8 to 12, and of cuts
abbrev prices : ℤ → List ℕ → Prices
prices p cuts = record { q = 1; slots = replicate 8 (pos 0) ++ p ∷ p ∷ p ∷ p ∷ replicate 12 (pos 0); cuts = cuts }

-- a cut on all duties of the shift, and one on those that begin with a break at 4
abbrev cut : Side → ℕ → Cut
cut side m = record { class = whole_class 0 0; side = side; m = m }

abbrev at_four : List Break
at_four = record { start = 4; len = 1 } ∷ []

abbrev cut_at_four : Side → ℕ → Cut
cut_at_four side m = record { class = class_of 0 0 at_four; side = side; m = m }

prices_within : are_prices one_morning [] (prices (pos 2) []) ≡ true
prices_within = refl

price_above_shortage : are_prices one_morning [] (prices (pos 3) []) ≡ false
price_above_shortage = refl

price_below_excess : are_prices one_morning [] (prices (negsuc 1) []) ≡ false
price_below_excess = refl

price_of_all_duties : are_prices one_morning (cut AtMost 1 ∷ []) (prices (pos 2) (1 ∷ [])) ≡ false
price_of_all_duties = refl

-- 8 for the need, and the shift's 3 less 8 for one duty
one_head : bound_of one_morning [] (prices (pos 2) []) ≡ 3
one_head = refl

-- a shift that costs more than its duty is worth isn't used
dear_shift : bound_of (record one_morning { shift = 9 }) [] (prices (pos 2) []) ≡ 8
dear_shift = refl

-- with room for two the total is below 0, and the bound is 0
two_heads_total : total two_heads [] (prices (pos 2) []) ≡ negsuc 4
two_heads_total = refl

two_heads_bound : bound_of two_heads [] (prices (pos 2) []) ≡ 0
two_heads_bound = refl

at_most_one : bound_of two_heads (cut AtMost 1 ∷ []) (prices (pos 2) (0 ∷ [])) ≡ 3
at_most_one = refl

at_least_two : total two_heads (cut AtLeast 2 ∷ []) (prices (negsuc 0) (0 ∷ [])) ≡ pos 7
at_least_two = refl

-- one duty is worth -4, and at least one is needed: with the worth of two counted, -8, the total would be 7, where a rota with one costs 3
worth_below_zero : best_value two_heads (cut AtLeast 1 ∷ []) (prices (negsuc 0) (0 ∷ [])) 0 0 ≡ negsuc 3
worth_below_zero = refl

at_least_one : total two_heads (cut AtLeast 1 ∷ []) (prices (negsuc 0) (0 ∷ [])) ≡ pos 3
at_least_one = refl

-- a total of 5 halves is rounded up
rounded : bound_of one_morning [] (record { q = 2; slots = replicate 8 (pos 0) ++ pos 1 ∷ pos 1 ∷ pos 1 ∷ pos 2 ∷ replicate 12 (pos 0); cuts = [] }) ≡ 3
rounded = refl

-- a day of 8 hours with a break: two for each of 7 needed hours, and the shift's 3 less 14
with_break : total long_day [] (record { q = 1; slots = replicate 8 (pos 0) ++ pos 2 ∷ pos 2 ∷ pos 2 ∷ pos 2 ∷ pos 0 ∷ pos 2 ∷ pos 2 ∷ pos 2 ∷ replicate 8 (pos 0); cuts = [] }) ≡ pos 3
with_break = refl

-- cuts' prices are earned and paid by the duties that begin so
priced_cuts : reduced long_day (cut_at_four AtLeast 1 ∷ cut_at_four AtMost 3 ∷ []) (prices (pos 1) (5 ∷ 2 ∷ [])) (duty at_four) ≡ pos 7
priced_cuts = refl

lowest : low (cut AtLeast 1 ∷ cut_at_four AtLeast 3 ∷ cut AtLeast 2 ∷ cut AtMost 1 ∷ []) (whole_class 0 0) ≡ 2
lowest = refl

highest : high two_heads (cut AtMost 5 ∷ cut_at_four AtMost 0 ∷ cut AtMost 1 ∷ []) (whole_class 0 0) ≡ 1
highest = refl

met : meets (duty at_four ∷ duty [] ∷ []) (cut_at_four AtMost 1 ∷ cut AtLeast 2 ∷ []) ≡ true
met = refl

not_met : meets (duty at_four ∷ duty [] ∷ []) (cut_at_four AtLeast 2 ∷ []) ≡ false
not_met = refl

first_split : split_class two_heads [] ≡ Some (whole_class 0 0)
first_split = refl

nothing_settled : is_settled one_morning [] ≡ false
nothing_settled = refl

none_settled : is_settled one_morning (cut AtMost 0 ∷ []) ≡ true
none_settled = refl

none_planned : settled_plan one_morning (cut AtMost 0 ∷ []) ≡ []
none_planned = refl

one_settled : is_settled one_morning (cut AtLeast 1 ∷ []) ≡ true
one_settled = refl

one_planned : settled_plan one_morning (cut AtLeast 1 ∷ []) ≡ duty [] ∷ []
one_planned = refl

-- at least one and at most none: no rota lies below
both_empty : is_empty one_morning (cut AtLeast 1 ∷ cut AtMost 0 ∷ []) ≡ true
both_empty = refl

-- two for each of five live lists
span_with_break : span (record long_day { heads = 2 }) [] ≡ 10
span_with_break = refl
