-- Why rows aren't legal, and at which row. Source: this project's profile.
use Rattle.std.specs.Prelude.{ℕ, Bool, true, not, nat_lt, List, [], ◌∷◌, ◌++◌, length, sum_by, Option, None, if◌then◌else◌}
use Rattle.std.specs.Option.{option_or}
use Rattle.break_rules.specs.Causes.{first_cause}
use Rattle.shift_instance.specs.declared.Row.{Row}
use Rattle.shift_instance.specs.Problem.{Problem, shift_list}
use Rattle.shift_instance.specs.Rota.{is_list_of, is_on, duty_of, is_before}
use Rattle.rota_cost.specs.declared.RowFault.{RowFault}
use Rattle.rota_cost.specs.declared.RowFault.TheVariants.{UnknownShift, Day, Breaks, ZeroCount, HeadsOver, NotSorted}

-- the counts of the rows of a shift and a day
abbrev pub heads_of : List Row → ℕ → ℕ → ℕ
heads_of rows s day = sum_by (λ r. if is_on s day (duty_of r) then r.count else 0) rows

-- whether a row comes after the last of those before it
abbrev pub is_in_order : List Row → Row → Bool
is_in_order [] r = true
is_in_order (p ∷ []) r = is_before p r
is_in_order (p ∷ q ∷ rows) r = is_in_order (q ∷ rows) r

-- what may be wrong with a row, in the order in which it is answered, the rows before it given
abbrev pub row_causes : Problem → List Row → Row → ℕ → List (Bool × RowFault)
row_causes i before r at =
    (not (nat_lt r.shift (length (shift_list i))), UnknownShift at)
    ∷ (not (nat_lt r.day i.days), Day at)
    ∷ (not (is_list_of i r.shift r.breaks), Breaks at)
    ∷ (not (nat_lt 0 r.count), ZeroCount at)
    ∷ (nat_lt i.heads (heads_of (before ++ r ∷ []) r.shift r.day), HeadsOver at)
    ∷ (not (is_in_order before r), NotSorted at)
    ∷ []

-- the first fault of the rows from some of them on
abbrev pub fault_from : Problem → List Row → List Row → Option RowFault
fault_from i before [] = None
fault_from i before (r ∷ rows) = option_or (first_cause (row_causes i before r (length before))) (fault_from i (before ++ r ∷ []) rows)

-- the first fault of the first bad row
abbrev pub row_fault : Problem → List Row → Option RowFault
row_fault i rows = fault_from i [] rows

-- the row of a fault
abbrev pub row_of : RowFault → ℕ
row_of (UnknownShift row) = row
row_of (Day row) = row
row_of (Breaks row) = row
row_of (ZeroCount row) = row
row_of (HeadsOver row) = row
row_of (NotSorted row) = row
