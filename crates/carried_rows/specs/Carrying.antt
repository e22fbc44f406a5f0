-- Which rows of a plan of one instance stand in a plan of another.
-- Source: this project's profile.
use Rattle.std.specs.Prelude.{ℕ, ◌-◌, Bool, false, not, ◌&&◌, ◌==◌, nat_lt, nat_le, List, [], ◌∷◌, length, min, filter, slice_get, Option, Some, None, if◌then◌else◌}
use Rattle.std.specs.Option.{option_map_or}
use Rattle.std.specs.List.{find, flat_map}
use Rattle.break_rules.specs.Breaks.{is_legal}
use Rattle.break_rules.specs.Causes.{first_cause}
use Rattle.shift_instance.specs.declared.Shift.{Shift}
use Rattle.shift_instance.specs.declared.Row.{Row}
use Rattle.shift_instance.specs.Kind.{Kind}
use Rattle.shift_instance.specs.Names.{has_name}
use Rattle.shift_instance.specs.Problem.{Problem, shift_list, below}
use Rattle.shift_instance.specs.Rota.{is_list_of}
use Rattle.carried_rows.specs.declared.obstacles.Obstacle.{Obstacle}
use Rattle.carried_rows.specs.declared.obstacles.Obstacle.TheVariants.{Slots, Name, Start, Length, Day, Breaks}

-- the name of a shift's type
abbrev pub name_of : Problem → Shift → List ℕ
name_of i x = option_map_or (λ k. k.name) (slice_get i.kinds x.kind) []

-- what may keep a row of a shift from standing among the shifts of a type, in the order in which it is answered
abbrev pub shift_causes : Problem → Kind → Shift → Row → List (Bool × Obstacle)
shift_causes j k x r =
    (not (nat_le k.start_min x.start && nat_le x.start k.start_max), Start)
    ∷ (not (nat_le k.len_min x.len && nat_le x.len k.len_max), Length)
    ∷ (not (nat_lt r.day j.days), Day)
    ∷ (not (is_legal k.rule x.len r.breaks), Breaks)
    ∷ []

-- what keeps a row of a shift from standing in a plan of another instance, whose type of its name is given, if there is one
abbrev pub obstacle_in : Problem → Shift → Row → Option Kind → Option Obstacle
obstacle_in j x r None = Some Name
obstacle_in j x r (Some k) = first_cause (shift_causes j k x r)

-- what keeps a row of one instance from standing in a plan of another, if anything does
abbrev pub obstacle_of : Problem → Problem → Row → Option Obstacle
obstacle_of i j r =
    if i.slot_minutes == j.slot_minutes
    then option_map_or (λ x. obstacle_in j x.0 r (find (has_name (name_of i x.0)) j.kinds)) (slice_get (shift_list i) r.shift) None
    else Some Slots

-- whether two shifts of two instances with slots of one length have types of one name, and the same start and length
abbrev pub is_same_shift : Problem → Problem → Shift → Shift → Bool
is_same_shift i j x y = (i.slot_minutes == j.slot_minutes) && (x.start == y.start) && (x.len == y.len) && option_map_or (has_name (name_of i x)) (slice_get j.kinds y.kind) false

-- the same of shifts by their numbers
abbrev pub is_like : Problem → Problem → ℕ → ℕ → Bool
is_like i j s t = option_map_or (λ x. option_map_or (λ y. is_same_shift i j x.0 y.0) (slice_get (shift_list j) t) false) (slice_get (shift_list i) s) false

-- the first shift of one instance that is a shift of the other, by their numbers
abbrev pub like_of : Problem → Problem → ℕ → Option ℕ
like_of i j t = find (λ s. is_like i j s t) (below (length (shift_list i)))

-- whether a row is of a shift s of one instance and on a day, and its breaks are legal for a shift t of the other
abbrev pub goes_to : Problem → ℕ → ℕ → ℕ → Row → Bool
goes_to j s t day r = (r.shift == s) && (r.day == day) && is_list_of j t r.breaks

-- a row of a shift, with as many duties as there is room for
abbrev pub moved : ℕ → ℕ → Row → Row
moved t room r = record { shift = t; day = r.day; breaks = r.breaks; count = min r.count room }

-- rows of a shift, one after another, with as many duties as there is room for
abbrev pub fitted : ℕ → ℕ → List Row → List Row
fitted t room [] = []
fitted t room (r ∷ rows) = if room == 0 then [] else moved t room r ∷ fitted t (room - r.count) rows

-- the rows of a shift s on a day, as rows of a shift t of the other instance
abbrev pub carried_on : Problem → List Row → ℕ → ℕ → ℕ → List Row
carried_on j rows s t day = fitted t j.heads (filter (goes_to j s t day) rows)

-- the same day by day
abbrev pub carried_to : Problem → List Row → ℕ → ℕ → List Row
carried_to j rows s t = flat_map (carried_on j rows s t) (below j.days)

-- the rows that become rows of a shift of the other instance
abbrev pub carried_of : Problem → Problem → List Row → ℕ → List Row
carried_of i j rows t = option_map_or (λ s. carried_to j rows s t) (like_of i j t) []

-- the rows of a plan that are carried to another instance, by the shifts of its shift list
abbrev pub carried : Problem → Problem → List Row → List Row
carried i j rows = flat_map (carried_of i j rows) (below (length (shift_list j)))
