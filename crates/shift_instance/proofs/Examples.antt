-- The definitions, computed on instances and rotas whose answers are known.
use Rattle.shift_instance.proofs.Common.{◌≡◌, ℕ, true, false, List, [], ◌∷◌, ◌++◌, refl, map, replicate, Break, Shift, Duty, Row, Kind, Problem, shift_list, slot_of, below, cost, cover, is_legal_rota, are_legal_rows, is_before, rota_of, works}
use Rattle.break_rules.specs.Plain.{plain_rule}

-- a type of shifts without breaks
abbrev pub type_of : ℕ → ℕ → ℕ → ℕ → Kind
type_of start_min start_max len_min len_max = record { name = 77 ∷ []; start_min = start_min; start_max = start_max; len_min = len_min; len_max = len_max; rule = plain_rule }

-- that many employees from 8 to 12, in a day of hours
abbrev pub in_morning : ℕ → List ℕ
in_morning n = replicate 8 0 ++ n ∷ n ∷ n ∷ n ∷ replicate 12 0

-- a day of hours that needs one employee from 8 to 12, and has one shift, from 8 to 12
abbrev pub one_morning : Problem
one_morning = record { slot_minutes = 60; days = 1; need = in_morning 1; need_max = in_morning 1; heads = 1; excess = 1; shortage = 2; shift = 3; kinds = type_of 8 8 4 4 ∷ [] }

abbrev pub duty : List Break → Duty
duty breaks = record { shift = 0; day = 0; breaks = breaks }

abbrev pub row : ℕ → Row
row n = record { shift = 0; day = 0; breaks = []; count = n }

-- the shifts of a list, without their rules
abbrev shifts_of : Problem → List Shift
shifts_of i = map (λ x. x.0) (shift_list i)

abbrev shift : ℕ → ℕ → ℕ → Shift
shift kind start len = record { kind = kind; start = start; len = len }

one_shift : shifts_of one_morning ≡ shift 0 8 4 ∷ []
one_shift = refl

-- by type, then by start, then by length
many_shifts : shifts_of (record one_morning { kinds = type_of 6 7 3 4 ∷ type_of 6 6 3 3 ∷ [] }) ≡ shift 0 6 3 ∷ shift 0 6 4 ∷ shift 0 7 3 ∷ shift 0 7 4 ∷ shift 1 6 3 ∷ []
many_shifts = refl

-- the shortage of four slots, at 2 each
cost_nothing : cost one_morning [] ≡ 8
cost_nothing = refl

-- the shift alone
cost_duty : cost one_morning (duty [] ∷ []) ≡ 3
cost_duty = refl

-- one employee too many in four slots, and the shift counts once
cost_two : cost (record one_morning { heads = 2 }) (duty [] ∷ duty [] ∷ []) ≡ 7
cost_two = refl

-- where one or two employees are wanted, neither one nor two cost more than the shift, and a third costs 1 in each of four slots
abbrev pub banded_morning : Problem
banded_morning = record one_morning { need_max = in_morning 2; heads = 3 }

costs_in_band : map (cost banded_morning) ([] ∷ replicate 1 (duty []) ∷ replicate 2 (duty []) ∷ replicate 3 (duty []) ∷ []) ≡ 8 ∷ 3 ∷ 3 ∷ 7 ∷ []
costs_in_band = refl

legal_duty : is_legal_rota one_morning (duty [] ∷ []) ≡ true
legal_duty = refl

too_many : is_legal_rota one_morning (duty [] ∷ duty [] ∷ []) ≡ false
too_many = refl

no_such_shift : is_legal_rota one_morning (record { shift = 1; day = 0; breaks = [] } ∷ []) ≡ false
no_such_shift = refl

no_such_day : is_legal_rota one_morning (record { shift = 0; day = 1; breaks = [] } ∷ []) ≡ false
no_such_day = refl

breaks_of_plain : is_legal_rota one_morning (duty (record { start = 1; len = 1 } ∷ []) ∷ []) ≡ false
breaks_of_plain = refl

rows_stand_for : rota_of (row 2 ∷ []) ≡ duty [] ∷ duty [] ∷ []
rows_stand_for = refl

rows : are_legal_rows one_morning (row 1 ∷ []) ≡ true
rows = refl

rows_over : are_legal_rows one_morning (row 2 ∷ []) ≡ false
rows_over = refl

rows_empty : are_legal_rows one_morning (row 0 ∷ []) ≡ false
rows_empty = refl

rows_twice : are_legal_rows (record one_morning { heads = 2 }) (row 1 ∷ row 1 ∷ []) ≡ false
rows_twice = refl

-- a proper prefix comes first
prefix_first : is_before (row 1) (record (row 1) { breaks = record { start = 1; len = 1 } ∷ [] }) ≡ true
prefix_first = refl

-- a shift from 22 works over midnight, and with one day in the same day's first hours
abbrev night : Problem
night = record one_morning { kinds = type_of 22 22 4 4 ∷ [] }

slots_of_night : map (slot_of night (shift 0 22 4) 0) (below 4) ≡ 22 ∷ 23 ∷ 0 ∷ 1 ∷ []
slots_of_night = refl

works_at_night : map (works night (duty [])) (21 ∷ 22 ∷ 23 ∷ 0 ∷ 1 ∷ 2 ∷ []) ≡ false ∷ true ∷ true ∷ true ∷ true ∷ false ∷ []
works_at_night = refl

-- with two days the last hours of day 1 lead into day 0
slots_of_two_days : map (slot_of (record night { days = 2 }) (shift 0 22 4) 1) (below 4) ≡ 46 ∷ 47 ∷ 0 ∷ 1 ∷ []
slots_of_two_days = refl

-- one employee from 8 to 16, but for the hour from 12 on
abbrev around_noon : List ℕ
around_noon = replicate 8 0 ++ 1 ∷ 1 ∷ 1 ∷ 1 ∷ 0 ∷ 1 ∷ 1 ∷ 1 ∷ replicate 8 0

-- a shift of 8 hours with one break of an hour, and an hour of resettling after it
abbrev long_day : ℕ → Problem
long_day resettle =
    record one_morning {
      need = around_noon;
      need_max = around_noon;
      kinds = record { name = 77 ∷ []; start_min = 8; start_max = 8; len_min = 8; len_max = 8; rule = record { lead = 2; tail = 2; work_min = 2; work_max = 5; long_work = 5; long_rest = 1; size_min = 1; size_max = 1; totals = (8, 1) ∷ []; lunches = []; resettle = resettle } } ∷ [];
    }

abbrev break_at : ℕ → Duty
break_at start = duty (record { start = start; len = 1 } ∷ [])

cost_break : cost (long_day 0) (break_at 4 ∷ []) ≡ 3
cost_break = refl

cost_resettled : map (λ start. cost (long_day 1) (break_at start ∷ [])) (2 ∷ 3 ∷ 4 ∷ 5 ∷ []) ≡ 8 ∷ 5 ∷ 5 ∷ 8 ∷ []
cost_resettled = refl

cover_resettled : map (cover (long_day 1) (break_at 3 ∷ [])) (10 ∷ 11 ∷ 12 ∷ 13 ∷ []) ≡ 1 ∷ 0 ∷ 0 ∷ 1 ∷ []
cover_resettled = refl
