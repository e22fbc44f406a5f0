-- The duties that cuts force, and the prices of slots for them. Source: this project's profile.
use Rattle.std.specs.Prelude.{ℕ, ℤ, pos, neg_ℤ, nat_lt, List, [], map, length, replicate, slice_get, if◌then◌else◌}
use Rattle.std.specs.Option.{option_map_or}
use Rattle.std.specs.List.{flat_map}
use Rattle.shift_instance.specs.declared.Duty.{Duty}
use Rattle.shift_instance.specs.Problem.{Problem, slots, need_at, need_max_at, shift_list, below}
use Rattle.shift_instance.specs.Rota.{lists_of, cover}
use Rattle.head_splits.specs.declared.Cut.{Cut}
use Rattle.head_splits.specs.Cuts.{low, whole_class}
use Rattle.greedy.specs.Greedy.{duty}

-- the duties of a shift on a day that cuts force: as many as the class of all its duties there has at least, each with the
-- shift's least legal list; none where no list is legal
abbrev pub forced_on : Problem → List Cut → ℕ → ℕ → List Duty
forced_on i cuts s day = option_map_or (λ list. replicate (low cuts (whole_class s day)) (duty s day list)) (slice_get (lists_of i s) 0) []

-- those of all days, and those of all shifts
abbrev pub forced_of : Problem → List Cut → ℕ → List Duty
forced_of i cuts s = flat_map (forced_on i cuts s) (below i.days)

unfoldable pub forced_rota : Problem → List Cut → List Duty
forced_rota i cuts = flat_map (forced_of i cuts) (below (length (shift_list i)))

-- the price of a slot where that many duties work: the shortage weight below its band, minus the excess weight above it, and
-- 0 within it
abbrev pub balance_price : Problem → ℕ → ℕ → ℤ
balance_price i t working =
    if nat_lt working (need_at i t) then pos i.shortage
    else if nat_lt (need_max_at i t) working then neg_ℤ (pos i.excess)
    else pos 0

-- the prices of all slots, where the forced duties work
unfoldable pub forced_prices : Problem → List Cut → List ℤ
forced_prices i cuts = map (λ t. balance_price i t (cover i (forced_rota i cuts) t)) (below (slots i))
