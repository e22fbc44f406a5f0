-- Shift types none of whose lengths has a legal break list, and the part of the rule that forbids them; types whose totals say nothing of their
-- shifts. Source: this project's profile.
use Rattle.std.specs.Prelude.{ℕ, Bool, not, ◌&&◌, ◌==◌, nat_lt, List, [], ◌∷◌, length, find, Option, Some, if◌then◌else◌}
use Rattle.std.specs.List.{list_any, list_all}
use Rattle.break_rules.specs.declared.Rule.{Rule}
use Rattle.break_rules.specs.Breaks.{is_live}
use Rattle.break_rules.specs.Plain.{plain_rule}
use Rattle.shift_instance.specs.Kind.{Kind}
use Rattle.shift_instance.specs.Problem.{from_to, below}
use Rattle.instance_warnings.specs.declared.relaxing.Part.{Part}
use Rattle.instance_warnings.specs.declared.relaxing.Part.TheVariants.{Ends, Lunches, Work, Rest, Sizes, Totals}

-- whether some length of a type has a legal break list, by a rule in place of the type's
abbrev pub has_lists : Kind → Rule → Bool
has_lists kind rule = list_any (λ len. is_live rule len []) (from_to kind.len_min kind.len_max)

-- a rule without one of its parts: the numbers of that part are those of the plain rule
abbrev pub relaxed : Rule → Part → Rule
relaxed rule Ends = record rule { lead = 0; tail = 0 }
relaxed rule Lunches = record rule { lunches = [] }
relaxed rule Work = record rule { work_min = 1; work_max = 288 }
relaxed rule Rest = record rule { long_work = 288 }
relaxed rule Sizes = record rule { size_min = 1; size_max = 48 }
relaxed rule Totals = record rule { totals = [] }

-- a rule by which shifts of every length have the same total break time
abbrev pub with_total : Rule → ℕ → Rule
with_total rule total = record rule { totals = (0, total) ∷ [] }

-- whether some total break time, of at most 48 slots, gives one of a type's lengths a legal break list
abbrev pub has_lists_of_total : Kind → Bool
has_lists_of_total kind = list_any (λ total. has_lists kind (with_total kind.rule total)) (below 49)

-- whether some length has a legal break list where one part of the rule is left out
abbrev pub has_lists_without : Kind → Part → Bool
has_lists_without kind Totals = has_lists_of_total kind
has_lists_without kind Ends = has_lists kind (relaxed kind.rule Ends)
has_lists_without kind Lunches = has_lists kind (relaxed kind.rule Lunches)
has_lists_without kind Work = has_lists kind (relaxed kind.rule Work)
has_lists_without kind Rest = has_lists kind (relaxed kind.rule Rest)
has_lists_without kind Sizes = has_lists kind (relaxed kind.rule Sizes)

-- whether an entry of totals holds for no shift of a type
abbrev pub is_out_of_reach : Kind → ℕ × ℕ → Bool
is_out_of_reach kind e = nat_lt kind.len_max e.0

-- whether no entry of totals holds for a shift of a type
abbrev pub lacks_totals : Kind → Bool
lacks_totals kind = list_all (is_out_of_reach kind) kind.rule.totals

-- whether a rule is the plain one, field by field
abbrev pub has_plain_fields : Rule → Bool
has_plain_fields rule =
    (rule.lead == plain_rule.lead) && (rule.tail == plain_rule.tail) && (rule.work_min == plain_rule.work_min) && (rule.work_max == plain_rule.work_max)
    && (rule.long_work == plain_rule.long_work) && (rule.long_rest == plain_rule.long_rest) && (rule.size_min == plain_rule.size_min)
    && (rule.size_max == plain_rule.size_max) && (rule.resettle == plain_rule.resettle) && (length rule.totals == 0) && (length rule.lunches == 0)

-- whether a type has a break rule, and no entry of its totals holds for a shift of the type
abbrev pub forgets_totals : Kind → Bool
forgets_totals kind = lacks_totals kind && not (has_plain_fields kind.rule)

-- the first part without which some length has a legal break list, if one alone does; totals that say nothing of the type's shifts come first
abbrev pub culprit : Kind → Option Part
culprit kind =
    if lacks_totals kind && has_lists_of_total kind then Some Totals
    else find (has_lists_without kind) (Ends ∷ Lunches ∷ Work ∷ Rest ∷ Sizes ∷ Totals ∷ [])
