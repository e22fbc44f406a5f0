-- The solution that prices choose, found shift by shift and day by day.
use Rattle.advisers.proofs.Common.{◌≡◌, ℕ, ◌+◌, ◌*◌, ℤ, pos, Bool, true, false, cond, ◌||◌, List, [], ◌∷◌, ◌++◌, length, map, replicate, append-nil, Option, Some, None, refl, sym, ap, ◌∙◌, subst, int_lt, option_map_or, find, flat_map, false≢true, flat_map-append, Break, greatest, int_sum_by, Duty, Row, Problem, shift_list, below, duty_of, lists_of, rota_of, Cut, Prices, low, high, whole_class, are_prices, best_value, free_day_value, is_forced, is_nil, reduced, Pricing, best_list, is_greatest, IsBestOn, duties_of, duties_on, is_chosen, number_of, number_on, solution}
use Rattle.bound_sums.specs.Values.{IsValue}
use Rattle.greedy.specs.Greedy.{duty}
use Rattle.advisers.specs.Chosen.{IsFor}
use Rattle.advisers.proofs.Forcing.{flat_more_alone}

-- ---- rows
rota_append : (rows more : List Row) → rota_of (rows ++ more) ≡ rota_of rows ++ rota_of more
rota_append rows more = flat_map-append (λ (r : Row). replicate r.count (duty_of r)) rows more

duties_on_some : (i : Problem) (cuts : List Cut) (prices : Prices) (s day : ℕ) (list : List Break) → best_list i cuts prices s day ≡ Some list → duties_on i cuts prices s day ≡ replicate (number_on i cuts prices s day) (duty s day list)
unfolding duties_on
duties_on_some i cuts prices s day list e = ap (λ (o : Option (List Break)). option_map_or (λ l. replicate (number_on i cuts prices s day) (duty s day l)) o []) e

-- how many duties a day has, by its value
number_is : (i : Problem) (cuts : List Cut) (prices : Prices) (s day count least most : ℕ) (value : ℤ) → IsValue i cuts prices s day value
    → count ≡ number_of value least most → least ≡ low cuts (whole_class s day) → most ≡ high i cuts (whole_class s day) → count ≡ number_on i cuts prices s day
number_is i cuts prices s day count least most value valued counted is_least is_most =
    counted ∙ ap (λ (z : ℤ). number_of z least most) valued.is ∙ ap (λ (n : ℕ). number_of (best_value i cuts prices s day) n most) is_least
    ∙ ap (λ (n : ℕ). number_of (best_value i cuts prices s day) (low cuts (whole_class s day)) n) is_most

-- the row of a day, where a list is legal
pub row_is : (i : Problem) (cuts : List Cut) (prices : Prices) (s day count least most : ℕ) (list : List Break) (best value : ℤ) → IsBestOn i cuts prices s day list best → IsValue i cuts prices s day value
    → count ≡ number_of value least most → least ≡ low cuts (whole_class s day) → most ≡ high i cuts (whole_class s day)
    → rota_of (record { shift = s; day = day; breaks = list; count = count } ∷ []) ≡ duties_on i cuts prices s day
row_is i cuts prices s day count least most list best value found valued counted is_least is_most =
    append-nil (replicate count (duty s day list)) ∙ ap (λ (n : ℕ). replicate n (duty s day list)) (number_is i cuts prices s day count least most value valued counted is_least is_most)
    ∙ sym (duties_on_some i cuts prices s day list found.best)

-- no row where the number of duties is 0
pub none_is : (i : Problem) (cuts : List Cut) (prices : Prices) (s day count least most : ℕ) (value : ℤ) → IsValue i cuts prices s day value
    → count ≡ number_of value least most → least ≡ low cuts (whole_class s day) → most ≡ high i cuts (whole_class s day) → count ≡ 0 → [] ≡ duties_on i cuts prices s day
unfolding duties_on
none_is i cuts prices s day count least most value valued counted is_least is_most zero_ =
    sym (ap (λ (n : ℕ). option_map_or (λ list. replicate n (duty s day list)) (best_list i cuts prices s day) []) (sym (number_is i cuts prices s day count least most value valued counted is_least is_most) ∙ zero_)
    ∙ none_of (best_list i cuts prices s day))
  where
    none_of : (o : Option (List Break)) → option_map_or (λ list. replicate 0 (duty s day list)) o [] ≡ []
    none_of None = refl
    none_of (Some list) = refl

-- the rows with those of one day more
pub rows_more : (i : Problem) (cuts : List Cut) (prices : Prices) (s day : ℕ) (rows more pushed : List Row) → rota_of rows ≡ flat_map (duties_on i cuts prices s) (below day) → rota_of more ≡ duties_on i cuts prices s day
    → pushed ≡ rows ++ more → rota_of pushed ≡ flat_map (duties_on i cuts prices s) (below (day + 1))
rows_more i cuts prices s day rows more pushed so_far are is =
    flat_more_alone (duties_on i cuts prices s) day (rota_of rows) (rota_of pushed) so_far (ap rota_of is ∙ rota_append rows more ∙ ap (λ (l : List Duty). rota_of rows ++ l) are)

-- where no list is legal there is no duty
nil_is : {X : Type 0} (xs : List X) → is_nil xs ≡ true → xs ≡ []
nil_is [] h = refl
nil_is (x ∷ xs) h = absurd (false≢true h)

pub duties_on_none : (i : Problem) (cuts : List Cut) (prices : Prices) (s day : ℕ) → is_nil (lists_of i s) ≡ true → duties_on i cuts prices s day ≡ []
unfolding duties_on best_list
duties_on_none i cuts prices s day e =
    ap (λ (lists : List (List Break)). option_map_or (λ l. replicate (number_on i cuts prices s day) (duty s day l)) (find (is_greatest i cuts prices s day) lists) []) (nil_is (lists_of i s) e)

-- whether a shift is used, by the sums over its days
pub chosen_is : (i : Problem) (cuts : List Cut) (prices : Prices) (s : ℕ) (used forced : Bool) (paid : ℕ) (free : ℤ) → used ≡ (forced || int_lt (pos paid) free) → forced ≡ is_forced i cuts s → paid ≡ prices.q * i.shift
    → free ≡ int_sum_by (free_day_value i cuts prices s) (below i.days) → used ≡ is_chosen i cuts prices s
chosen_is i cuts prices s used forced paid free is is_needed is_paid is_free =
    is ∙ ap (λ (b : Bool). b || int_lt (pos paid) free) is_needed ∙ ap (λ (n : ℕ). is_forced i cuts s || int_lt (pos n) free) is_paid
    ∙ ap (λ (z : ℤ). is_forced i cuts s || int_lt (pos (prices.q * i.shift)) z) is_free

-- the duties of a shift, by whether it is used
pub unused : (i : Problem) (cuts : List Cut) (prices : Prices) (s : ℕ) → is_chosen i cuts prices s ≡ false → [] ≡ duties_of i cuts prices s
unfolding duties_of
unused i cuts prices s without = sym (ap (λ (b : Bool). cond b (flat_map (duties_on i cuts prices s) (below i.days)) []) without)

pub all_used : (i : Problem) (cuts : List Cut) (prices : Prices) (s : ℕ) → is_chosen i cuts prices s ≡ true → (rota : List Duty) → rota ≡ flat_map (duties_on i cuts prices s) (below i.days) → rota ≡ duties_of i cuts prices s
unfolding duties_of
all_used i cuts prices s with_it rota are = are ∙ sym (ap (λ (b : Bool). cond b (flat_map (duties_on i cuts prices s) (below i.days)) []) with_it)

-- the rows with those of one shift more
pub shifts_more : (i : Problem) (cuts : List Cut) (prices : Prices) (s : ℕ) (rows more : List Row) → rota_of rows ≡ flat_map (duties_of i cuts prices) (below s) → rota_of more ≡ duties_of i cuts prices s
    → rota_of (rows ++ more) ≡ flat_map (duties_of i cuts prices) (below (s + 1))
shifts_more i cuts prices s rows more so_far are =
    flat_more_alone (duties_of i cuts prices) s (rota_of rows) (rota_of (rows ++ more)) so_far (rota_append rows more ∙ ap (λ (l : List Duty). rota_of rows ++ l) are)

pub solution_is : (i : Problem) (cuts : List Cut) (prices : Prices) (n : ℕ) (rota : List Duty) → rota ≡ flat_map (duties_of i cuts prices) (below n) → n ≡ length (shift_list i) → rota ≡ solution i cuts prices
unfolding solution
solution_is i cuts prices n rota are all = are ∙ ap (λ (k : ℕ). flat_map (duties_of i cuts prices) (below k)) all

-- the prices of a pricer are a price set for its cuts
pub passes_of : (p : Pricing) (i : Problem) (cuts : List Cut) → IsFor p i cuts → are_prices p.instance p.cuts p.prices ≡ true → are_prices i cuts p.prices ≡ true
passes_of p i cuts own passes =
    subst (λ (cs : List Cut). are_prices i cs p.prices ≡ true) own.1 (subst (λ (j : Problem). are_prices j p.cuts p.prices ≡ true) own.0 passes)

-- the best list of a pricer's
pub best_of : (p : Pricing) (i : Problem) (cuts : List Cut) → IsFor p i cuts → (s day : ℕ) (list : List Break) (value : ℤ) → IsBestOn p.instance p.cuts p.prices s day list value → IsBestOn i cuts p.prices s day list value
best_of p i cuts own s day list value best =
    subst (λ (cs : List Cut). IsBestOn i cs p.prices s day list value) own.1 (subst (λ (j : Problem). IsBestOn j p.cuts p.prices s day list value) own.0 best)
