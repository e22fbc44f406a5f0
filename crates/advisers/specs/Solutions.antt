-- The solution that prices choose: how many duties of each shift stand on each day, and with which breaks. Source: the inner problem of Lagrangian
-- relaxation, as in Held and Karp 1971, for the bound of this project's profile.
use Rattle.std.specs.Prelude.{ℕ, ◌*◌, ℤ, pos, Bool, ◌||◌, int_lt, List, [], replicate, length, if◌then◌else◌}
use Rattle.std.specs.Option.{option_map_or}
use Rattle.std.specs.List.{flat_map}
use Rattle.break_rules.specs.Sums.{int_sum_by}
use Rattle.shift_instance.specs.declared.Duty.{Duty}
use Rattle.shift_instance.specs.Problem.{Problem, shift_list, below}
use Rattle.head_splits.specs.declared.Cut.{Cut}
use Rattle.head_splits.specs.declared.Prices.{Prices}
use Rattle.head_splits.specs.Cuts.{low, high, whole_class}
use Rattle.head_splits.specs.Bound.{best_value, free_day_value, is_forced}
use Rattle.dual_bound.specs.BestLists.{best_list}
use Rattle.greedy.specs.Greedy.{duty}

-- how many duties a used shift has on a day: as many as the cuts allow where the greatest reduced value is above 0, else as few
abbrev pub number_of : ℤ → ℕ → ℕ → ℕ
number_of value least most = if int_lt (pos 0) value then most else least

abbrev pub number_on : Problem → List Cut → Prices → ℕ → ℕ → ℕ
number_on i cuts prices s day = number_of (best_value i cuts prices s day) (low cuts (whole_class s day)) (high i cuts (whole_class s day))

-- whether a shift is used: some day needs a duty of it, or its duties are worth more than the shift costs
abbrev pub is_chosen : Problem → List Cut → Prices → ℕ → Bool
is_chosen i cuts prices s = is_forced i cuts s || int_lt (pos (prices.q * i.shift)) (int_sum_by (free_day_value i cuts prices s) (below i.days))

-- the duties of a used shift on a day, each with the best list; none where no list is legal
unfoldable pub duties_on : Problem → List Cut → Prices → ℕ → ℕ → List Duty
duties_on i cuts prices s day = option_map_or (λ list. replicate (number_on i cuts prices s day) (duty s day list)) (best_list i cuts prices s day) []

-- the duties of a shift
unfoldable pub duties_of : Problem → List Cut → Prices → ℕ → List Duty
duties_of i cuts prices s = if is_chosen i cuts prices s then flat_map (duties_on i cuts prices s) (below i.days) else []

-- the solution: the duties of all shifts
unfoldable pub solution : Problem → List Cut → Prices → List Duty
solution i cuts prices = flat_map (duties_of i cuts prices) (below (length (shift_list i)))
