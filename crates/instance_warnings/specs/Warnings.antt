-- What a planner is warned of. Source: this project's profile.
use Rattle.std.specs.Prelude.{ℕ, ◌*◌, ◌==◌, Bool, not, ◌&&◌, nat_lt, max, List, [], ◌∷◌, ◌++◌, fold, if◌then◌else◌}
use Rattle.std.specs.List.{list_any, flat_map, enumerate_from}
use Rattle.shift_instance.specs.Kind.{Kind}
use Rattle.shift_instance.specs.Problem.{Problem, slots, need_max_at, below}
use Rattle.rule_sentences.specs.Clauses.{has_no_break}
use Rattle.instance_warnings.specs.declared.telling.Warning.{Warning}
use Rattle.instance_warnings.specs.declared.telling.Warning.TheVariants.{NoBreaks, NoTotals, Breakless, Unreached, Nobody, Heads, NoExcess, NoShortage, NoShift}
use Rattle.instance_warnings.specs.Breaks.{has_lists, culprit, forgets_totals}
use Rattle.instance_warnings.specs.Odd.{warning_if, excess_warnings, few_heads_warnings, greatest_need, short_warnings, hour_warnings, odd_kinds}
use Rattle.instance_warnings.specs.Reached.{unreached, unreached_cost}

-- whether a shift of the type may have a break
abbrev pub has_breaks : Kind → Bool
has_breaks k = not (has_no_break k)

-- the warning of a type without breaks, by its number: where it has a break rule without totals, and where some type has breaks
abbrev pub breakless_warning : Bool → ℕ × Kind → List Warning
breakless_warning others k = if forgets_totals k.1 then NoTotals k.0 ∷ [] else warning_if (others && has_no_break k.1) (Breakless k.0)

-- the warning of a type, by its number, where no length of it has a legal break list, or where it has no breaks
abbrev pub kind_warning : Bool → ℕ × Kind → List Warning
kind_warning others k = if has_lists k.1 k.1.rule then breakless_warning others k else NoBreaks k.0 (culprit k.1) ∷ []

abbrev pub kind_warnings : Problem → List Warning
kind_warnings i = flat_map (kind_warning (list_any has_breaks i.kinds)) (enumerate_from 0 i.kinds)

-- the warning of some slots, where there are any
abbrev pub slot_warning : ℕ → List ℕ → List Warning
slot_warning least [] = []
slot_warning least (t ∷ ts) = Unreached (t ∷ ts) least ∷ []

abbrev pub slot_warnings : Problem → List Warning
slot_warnings i = slot_warning (unreached_cost i) (unreached i)

-- the greatest number of wanted employees of a slot
abbrev pub most_wanted : Problem → ℕ
most_wanted i = fold (λ most t. max most (need_max_at i t)) 0 (below (slots i))

-- the warning of slots none of which wants anybody, and else of a greatest number of duties that is more than twice the greatest number of wanted
-- employees
abbrev pub head_warnings : Problem → List Warning
head_warnings i = if most_wanted i == 0 then Nobody ∷ [] else warning_if (nat_lt (2 * most_wanted i) i.heads) (Heads i.heads (most_wanted i))

-- the warnings of weights that are 0
abbrev pub weight_warnings : Problem → List Warning
weight_warnings i = warning_if (i.excess == 0) NoExcess ++ (warning_if (i.shortage == 0) NoShortage ++ warning_if (i.shift == 0) NoShift)

-- the warnings of what is legal and odd
abbrev pub odd_warnings : Problem → List Warning
odd_warnings i = excess_warnings i ++ (few_heads_warnings i (greatest_need i) ++ (short_warnings i ++ (hour_warnings i ++ odd_kinds i)))

-- all warnings, in their order
abbrev pub warnings_of : Problem → List Warning
warnings_of i = kind_warnings i ++ (slot_warnings i ++ (head_warnings i ++ (weight_warnings i ++ odd_warnings i)))
