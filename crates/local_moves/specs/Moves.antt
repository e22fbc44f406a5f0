-- Moves on plans: what each makes of a plan, and when it is refused.
-- Source: the moves on shifts are those of the local search of Musliu, Schaerf and Slany 2004; refusals and their order are this project's profile.
use Rattle.std.specs.Prelude.{◌≡◌, ℕ, ◌+◌, max, Bool, not, ◌&&◌, ◌||◌, ◌==◌, nat_lt, List, [], ◌∷◌, ◌++◌, map, length, slice_get, Option, Some, unwrap_or, if◌then◌else◌}
use Rattle.std.specs.Option.{option_map_or, is_some}
use Rattle.break_rules.specs.declared.Break.{Break}
use Rattle.shift_instance.specs.declared.Duty.{Duty}
use Rattle.shift_instance.specs.declared.Shift.{Shift}
use Rattle.shift_instance.specs.Problem.{Problem, shift_list, below}
use Rattle.shift_instance.specs.Rota.{is_list_of, lists_of, count_of, heads_on, is_used}
use Rattle.rota_cost.specs.Cover.{without}
use Rattle.greedy.specs.Greedy.{duty}
use Rattle.local_moves.specs.declared.moves.Move.{Move}
use Rattle.local_moves.specs.declared.moves.Move.TheVariants.{Add, Drop, Rebreak, Reshift}
use Rattle.local_moves.specs.declared.moves.MoveFault.{MoveFault}
use Rattle.local_moves.specs.declared.moves.MoveFault.TheVariants.{UnknownShift, Day, Breaks, Absent, HeadsOver, OtherKind, NotNear, NoMemory}

-- a number of a shift, and 0 where there is no such shift
abbrev pub of_shift : Problem → ℕ → (Shift → ℕ) → ℕ
of_shift i s f = option_map_or (λ x. f x.0) (slice_get (shift_list i) s) 0

-- the break list of a duty that goes over to another shift: its own where the lengths are equal, else the least legal one
abbrev pub list_after : Problem → ℕ → ℕ → List Break → List Break
list_after i from to list = if of_shift i from (λ x. x.len) == of_shift i to (λ x. x.len) then list else unwrap_or (slice_get (lists_of i to) 0) []

-- a duty after all duties of a shift went over to another one
abbrev pub reshifted : Problem → ℕ → ℕ → Duty → Duty
reshifted i from to d = if d.shift == from then duty to d.day (list_after i from to d.breaks) else d

-- a plan after a move
abbrev pub moved : Problem → Move → List Duty → List Duty
moved i (Add s day list) rota = rota ++ duty s day list ∷ []
moved i (Drop s day list) rota = without (duty s day list) rota
moved i (Rebreak s day from to) rota = without (duty s day from) rota ++ duty s day to ∷ []
moved i (Reshift from to) rota = map (reshifted i from to) rota

-- plans with the same duties
abbrev pub AreSameDuties : List Duty → List Duty → Type 0
AreSameDuties a b = (d : Duty) → count_of a d ≡ count_of b d

-- whether a shift is in the shift list
abbrev pub is_known : Problem → ℕ → Bool
is_known i s = nat_lt s (length (shift_list i))

-- whether two shifts differ in exactly one of start and length
abbrev pub is_near : Problem → ℕ → ℕ → Bool
is_near i a b =
    (of_shift i a (λ x. x.start) == of_shift i b (λ x. x.start)) && not (of_shift i a (λ x. x.len) == of_shift i b (λ x. x.len))
    || not (of_shift i a (λ x. x.start) == of_shift i b (λ x. x.start)) && (of_shift i a (λ x. x.len) == of_shift i b (λ x. x.len))

-- the greatest of some numbers, and 0 where there is none
abbrev pub greatest : (ℕ → ℕ) → List ℕ → ℕ
greatest f [] = 0
greatest f (k ∷ ks) = max (f k) (greatest f ks)

-- the most duties that a shift has on a day once all duties of another one went over to it
abbrev pub most_heads : Problem → List Duty → ℕ → ℕ → ℕ
most_heads i rota from to = greatest (λ day. heads_on rota to day + heads_on rota from day) (below i.days)

-- why the duties of a shift can't go over to another one whatever the plan is
abbrev pub pair_causes : Problem → ℕ → ℕ → List (Bool × MoveFault)
pair_causes i from to =
    (not (is_known i from && is_known i to), UnknownShift)
    ∷ (not (of_shift i from (λ x. x.kind) == of_shift i to (λ x. x.kind)), OtherKind)
    ∷ (not (is_near i from to), NotNear)
    ∷ []

-- why a plan doesn't allow that the duties of a shift go over to another one
abbrev pub heads_causes : Problem → List Duty → ℕ → ℕ → List (Bool × MoveFault)
heads_causes i rota from to =
    (not (is_used rota from), Absent)
    ∷ (nat_lt i.heads (most_heads i rota from to), HeadsOver (most_heads i rota from to))
    ∷ []

-- what may be wrong with a move, in the order in which it is answered
abbrev pub move_causes : Problem → List Duty → Move → List (Bool × MoveFault)
move_causes i rota (Add s day list) =
    (not (is_known i s), UnknownShift)
    ∷ (not (nat_lt day i.days), Day)
    ∷ (not (is_list_of i s list), Breaks)
    ∷ (nat_lt i.heads (heads_on rota s day + 1), HeadsOver (heads_on rota s day + 1))
    ∷ []
move_causes i rota (Drop s day list) =
    (not (is_known i s), UnknownShift)
    ∷ (not (nat_lt day i.days), Day)
    ∷ (count_of rota (duty s day list) == 0, Absent)
    ∷ []
move_causes i rota (Rebreak s day from to) =
    (not (is_known i s), UnknownShift)
    ∷ (not (nat_lt day i.days), Day)
    ∷ (not (is_list_of i s to), Breaks)
    ∷ (count_of rota (duty s day from) == 0, Absent)
    ∷ []
move_causes i rota (Reshift from to) =
    pair_causes i from to
    ++ (not (is_some (slice_get (lists_of i to) 0)), Breaks)
    ∷ heads_causes i rota from to

-- what a shift costs that a plan doesn't use yet, and 0 where it uses it
abbrev pub fee : Problem → List Duty → ℕ → ℕ
fee i rota s = if is_used rota s then 0 else i.shift

-- whether a fault is the first cause's, or running out of memory
abbrev pub Answers : MoveFault → Option MoveFault → Type 0
Answers NoMemory cause = Unit {0}
Answers fault cause = cause ≡ Some fault
