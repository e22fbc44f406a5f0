-- The greedy plan: it takes shifts one after another, always that which lowers the cost most, each with its best lists. Source: this project's profile.
use Rattle.std.specs.Prelude.{◌≡◌, ℕ, zero, suc, ◌*◌, ℤ, pos, ◌-ℤ◌, neg_ℤ, Bool, not, ◌&&◌, nat_lt, int_lt, List, [], ◌++◌, map, length, Option, unwrap_or, if◌then◌else◌}
use Rattle.std.specs.Option.{option_map_or}
use Rattle.std.specs.List.{list_any, filter, find}
use Rattle.break_rules.specs.declared.Break.{Break}
use Rattle.break_rules.specs.Sums.{int_sum_by}
use Rattle.shift_instance.specs.declared.Duty.{Duty}
use Rattle.shift_instance.specs.declared.Row.{Row}
use Rattle.shift_instance.specs.Problem.{Problem, slots, need_at, need_max_at, shift_list, below}
use Rattle.shift_instance.specs.AllDuties.{all_duties, row_of}
use Rattle.shift_instance.specs.Rota.{lists_of, heads_on, count_of, cover, is_used}
use Rattle.shift_instance.specs.Worth.{earned}

-- a duty of a shift on a day
abbrev pub duty : ℕ → ℕ → List Break → Duty
duty s day list = record { shift = s; day = day; breaks = list }

-- the marginal price of a slot where that many duties work: the shortage weight below its band, 0 from the need to below the most wanted
-- employees, and else minus the excess weight
abbrev pub marginal_price : Problem → ℕ → ℕ → ℤ
marginal_price i t c =
    if nat_lt c (need_at i t) then pos i.shortage
    else if nat_lt c (need_max_at i t) then pos 0
    else neg_ℤ (pos i.excess)

-- the marginal prices of all slots under a plan
unfoldable pub marginal_prices : Problem → List Duty → List ℤ
marginal_prices i rota = map (λ t. marginal_price i t (cover i rota t)) (below (slots i))

-- what a duty of a shift on a day earns with a break list
abbrev pub earned_with : Problem → List ℤ → ℕ → ℕ → List Break → ℤ
earned_with i prices s day list = earned i prices (duty s day list)

-- whether no list of a shift earns more on a day than this one
abbrev pub is_greatest : Problem → List ℤ → ℕ → ℕ → List Break → Bool
is_greatest i prices s day list = not (list_any (λ other. int_lt (earned_with i prices s day list) (earned_with i prices s day other)) (lists_of i s))

-- the best list of a shift on a day, where a list is legal: the least of those that earn most (the lists stand in order)
unfoldable pub best_list : Problem → List ℤ → ℕ → ℕ → Option (List Break)
best_list i prices s day = find (is_greatest i prices s day) (lists_of i s)

-- the value of a shift on a day: what a duty with its best list earns, and 0 where no list is legal
unfoldable pub day_value : Problem → List ℤ → ℕ → ℕ → ℤ
day_value i prices s day = option_map_or (earned_with i prices s day) (best_list i prices s day) (pos 0)

-- the list with which a shift is used on a day: its best list, or the empty one where no list is legal
unfoldable pub used_list : Problem → List ℤ → ℕ → ℕ → List Break
used_list i prices s day = unwrap_or (best_list i prices s day) []

-- the duty with that list
abbrev pub best_duty : Problem → List ℤ → ℕ → ℕ → Duty
best_duty i prices s day = duty s day (used_list i prices s day)

-- a shift's value on a day under a plan's marginal prices
abbrev pub value_on : Problem → List Duty → ℕ → ℕ → ℤ
value_on i rota s day = day_value i (marginal_prices i rota) s day

-- whether there is room for one more duty beside that many, and it has a value above 0
abbrev pub is_wanted : Problem → ℕ → ℤ → Bool
is_wanted i heads value = nat_lt heads i.heads && int_lt (pos 0) value

-- whether a day counts for a shift
unfoldable pub counts : Problem → List Duty → ℕ → ℕ → Bool
counts i rota s day = is_wanted i (heads_on rota s day) (value_on i rota s day)

-- the gain of a shift: the values of the days that count, less the shift weight where the plan doesn't use the shift yet
unfoldable pub gain : Problem → List Duty → ℕ → ℤ
gain i rota s =
    int_sum_by (λ day. if counts i rota s day then value_on i rota s day else pos 0) (below i.days)
    -ℤ (if is_used rota s then pos 0 else pos i.shift)

-- the least number below n whose value is the greatest, where that is above 0
abbrev pub first_greatest : (ℕ → ℤ) → ℕ → Option ℕ
first_greatest f n = find (λ s. int_lt (pos 0) (f s) && not (list_any (λ k. int_lt (f s) (f k)) (below n))) (below n)

-- the shift to take next: that of greatest gain, and of least number among equals, where its gain is above 0
unfoldable pub next_shift : Problem → List Duty → Option ℕ
next_shift i rota = first_greatest (gain i rota) (length (shift_list i))

-- the duties that are added of a shift: one on each day that counts
unfoldable pub new_duties : Problem → List Duty → ℕ → List Duty
new_duties i rota s = map (best_duty i (marginal_prices i rota) s) (filter (counts i rota s) (below i.days))

-- the plan after that many rounds: each takes a shift, and where there is none the plan stays
unfoldable pub greedy_after : Problem → ℕ → List Duty → List Duty
greedy_after i zero rota = rota
greedy_after i (suc rounds) rota = option_map_or (λ s. greedy_after i rounds (rota ++ new_duties i rota s)) (next_shift i rota) rota

-- the plan is the one after some number of rounds from no duties
abbrev pub IsAfterRounds : Problem → List Duty → Type 0
IsAfterRounds i rota = (rounds : ℕ) × (rota ≡ greedy_after i rounds [])

-- the greedy plan: from no duties, as many rounds as a legal plan can have duties
unfoldable pub greedy_rota : Problem → List Duty
greedy_rota i = greedy_after i (length (shift_list i) * i.days * i.heads) []

-- the rows of a legal plan: one for each legal duty that it has, with its count
abbrev pub rows_of : Problem → List Duty → List Row
rows_of i rota = map (λ d. row_of d (count_of rota d)) (filter (λ d. nat_lt 0 (count_of rota d)) (all_duties i))

-- the rows of the greedy plan
unfoldable pub greedy_rows : Problem → List Row
greedy_rows i = rows_of i (greedy_rota i)

-- the rows are those of the plan after some number of rounds
abbrev pub AreRowsAfterRounds : Problem → List Row → Type 0
AreRowsAfterRounds i rows = (rounds : ℕ) × (rows ≡ rows_of i (greedy_after i rounds []))
