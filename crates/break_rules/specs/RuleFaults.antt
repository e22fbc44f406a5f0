-- Which rules are well formed, and the faults of the others. Source: this project's profile.
use Rattle.std.specs.Prelude.{ℕ, ◌+◌, Bool, not, ◌&&◌, ◌||◌, nat_lt, nat_le, List, [], ◌∷◌, length, drop, codes}
use Rattle.std.specs.List.{list_all, list_any, zip}
use Rattle.break_rules.specs.declared.Lunch.{Lunch}
use Rattle.break_rules.specs.declared.Rule.{Rule}
use Rattle.break_rules.specs.declared.RuleFault.{RuleFault}
use Rattle.break_rules.specs.declared.RuleFault.TheVariants.{WorkRange, SizeRange, TotalsOrder, LunchOrder, Resettle, TooLarge}

-- whether two numbers are a range that begins at 1 or above and ends at a limit or below
abbrev pub is_range : ℕ → ℕ → ℕ → Bool
is_range low high limit = nat_le 1 low && nat_le low high && nat_le high limit

-- whether the lengths from which totals count rise strictly
abbrev pub rise_strictly : List (ℕ × ℕ) → Bool
rise_strictly totals = list_all (λ p. nat_lt p.0.0 p.1.0) (zip totals (drop 1 totals))

-- whether a lunch has a size, and room for it between its first and its last offset
abbrev pub has_room : Lunch → Bool
has_room lunch = nat_lt 0 lunch.size && nat_le (lunch.first + lunch.size) lunch.last

-- whether each lunch has room, and begins no earlier than the one before it ends
abbrev pub are_lunches_in_order : List Lunch → Bool
are_lunches_in_order lunches = list_all has_room lunches && list_all (λ p. nat_le p.0.last p.1.first) (zip lunches (drop 1 lunches))

-- whether an entry of the totals has a greater number than an entry may have
abbrev pub is_large_total : ℕ × ℕ → Bool
is_large_total entry = nat_lt 288 entry.0 || nat_lt 48 entry.1

-- whether a lunch has a greater number than a lunch may have
abbrev pub is_large_lunch : Lunch → Bool
is_large_lunch lunch = nat_lt 288 lunch.from_len || nat_lt 288 lunch.last

-- whether a rule has a greater number, or a longer list, than a rule may have
abbrev pub is_too_large : Rule → Bool
is_too_large rule =
    nat_lt 288 rule.lead || nat_lt 288 rule.tail || nat_lt 288 rule.long_work || nat_lt 48 rule.long_rest
    || list_any is_large_total rule.totals || list_any is_large_lunch rule.lunches
    || nat_lt 16 (length rule.totals) || nat_lt 2 (length rule.lunches)

-- the causes of a rule's faults in the order in which they are answered
unfoldable pub rule_causes : Rule → List (Bool × RuleFault)
rule_causes rule =
    (not (is_range rule.work_min rule.work_max 288), WorkRange)
    ∷ (not (is_range rule.size_min rule.size_max 48), SizeRange)
    ∷ (not (rise_strictly rule.totals), TotalsOrder)
    ∷ (not (are_lunches_in_order rule.lunches), LunchOrder)
    ∷ (nat_lt 1 rule.resettle || nat_lt rule.work_min rule.resettle, Resettle)
    ∷ (is_too_large rule, TooLarge)
    ∷ []

-- the number by which a fault is shown
abbrev pub rule_fault_text : RuleFault → List ℕ
rule_fault_text WorkRange = codes "1"
rule_fault_text SizeRange = codes "2"
rule_fault_text TotalsOrder = codes "3"
rule_fault_text LunchOrder = codes "4"
rule_fault_text Resettle = codes "5"
rule_fault_text TooLarge = codes "6"
