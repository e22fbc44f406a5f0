-- Why numbers don't make an instance.
use Rattle.std.specs.Prelude.{◌≡◌, ℕ, ◌*◌, Bool, not, ◌&&◌, ◌||◌, ◌==◌, nat_lt, nat_le, List, [], ◌∷◌, ◌++◌, map, length, take, Option, Some, None}
use Rattle.std.specs.List.{flat_map, enumerate_from, list_any, zip}
use Rattle.break_rules.specs.declared.RuleFault.{RuleFault}
use Rattle.break_rules.specs.RuleFaults.{rule_causes}
use Rattle.shift_instance.specs.declared.InstanceFault.{InstanceFault}
use Rattle.shift_instance.specs.declared.InstanceFault.TheVariants.{SlotMinutes, Days, NeedLength, NeedTooLarge, Weight, Heads, Types, StartRange, LengthRange, Rule, TooManyShifts, Name, BandLength, Band, NoMemory}
use Rattle.shift_instance.specs.Kind.{Kind}
use Rattle.shift_instance.specs.Names.{is_name, is_taken}
use Rattle.shift_instance.specs.Problem.{Problem, day_slots, slots, shift_list}

-- whether a slot may have that many minutes
abbrev pub is_slot_minutes : ℕ → Bool
is_slot_minutes m = list_any (λ k. m == k) (5 ∷ 10 ∷ 15 ∷ 20 ∷ 30 ∷ 60 ∷ [])

-- the causes that concern the planning period
abbrev pub period_causes : Problem → List (Bool × InstanceFault)
period_causes i =
    (not (is_slot_minutes i.slot_minutes), SlotMinutes)
    ∷ (not (nat_le 1 i.days && nat_le i.days 7), Days)
    ∷ (not (length i.need == slots i), NeedLength (length i.need) (slots i))
    ∷ []

-- a need that is too large, by its slot
abbrev pub need_cause : ℕ × ℕ → Bool × InstanceFault
need_cause p = (nat_lt 10000 p.1, NeedTooLarge p.0)

-- a band that ends below the need, or is too large, by its slot
abbrev pub band_cause : ℕ × (ℕ × ℕ) → Bool × InstanceFault
band_cause p = (nat_lt p.1.1 p.1.0 || nat_lt 10000 p.1.1, Band p.0)

-- the causes that concern the bands
abbrev pub band_causes : Problem → List (Bool × InstanceFault)
band_causes i =
    (not (length i.need_max == slots i), BandLength (length i.need_max) (slots i))
    ∷ map band_cause (enumerate_from 0 (zip i.need i.need_max))

-- the causes that concern the wanted employees: first the needs, and then the bands
abbrev pub wanted_causes : Problem → List (Bool × InstanceFault)
wanted_causes i = map need_cause (enumerate_from 0 i.need) ++ band_causes i

-- the causes that concern weights, the most duties of a shift on a day and the number of types
abbrev pub size_causes : Problem → List (Bool × InstanceFault)
size_causes i =
    (nat_lt 1000000 i.excess || nat_lt 1000000 i.shortage || nat_lt 1000000 i.shift, Weight)
    ∷ (not (nat_le 1 i.heads && nat_le i.heads 200), Heads)
    ∷ (not (nat_le 1 (length i.kinds) && nat_le (length i.kinds) 16), Types (length i.kinds))
    ∷ []

-- a cause of a rule's fault, as one of the type of that number
abbrev pub cause_of_kind : ℕ → Bool × RuleFault → Bool × InstanceFault
cause_of_kind k c = (c.0, Rule k c.1)

-- the causes that concern a type, by its number, where a day has that many slots and those types stand before it
abbrev pub kind_causes : ℕ → List Kind → ℕ × Kind → List (Bool × InstanceFault)
kind_causes per_day before k =
    (not (is_name k.1.name) || is_taken before k.1.name, Name k.0)
    ∷ (not (nat_le k.1.start_min k.1.start_max && nat_lt k.1.start_max (2 * per_day)), StartRange k.0)
    ∷ (not (nat_le 1 k.1.len_min && nat_le k.1.len_min k.1.len_max && nat_le k.1.len_max per_day), LengthRange k.0)
    ∷ map (cause_of_kind k.0) (rule_causes k.1.rule)

-- the causes that concern types, one type after another
abbrev pub types_causes : ℕ → List Kind → List (Bool × InstanceFault)
types_causes per_day kinds = flat_map (λ k. kind_causes per_day (take k.0 kinds) k) (enumerate_from 0 kinds)

-- the causes but for the number of shifts, in the order in which they are answered
abbrev pub part_causes : Problem → List (Bool × InstanceFault)
part_causes i = period_causes i ++ wanted_causes i ++ size_causes i ++ types_causes (day_slots i) i.kinds

-- the causes in the order in which they are answered
unfoldable pub instance_causes : Problem → List (Bool × InstanceFault)
instance_causes i = part_causes i ++ (nat_lt 1024 (length (shift_list i)), TooManyShifts (length (shift_list i))) ∷ []

-- whether a fault is the first cause's, or where there is none running out of memory
abbrev pub Answers : InstanceFault → Option InstanceFault → Type 0
Answers NoMemory cause = cause ≡ None
Answers fault cause = cause ≡ Some fault
