-- What is said of a shift type, part by part. Source: this project's profile.
use Rattle.std.specs.Prelude.{ℕ, Bool, not, ◌&&◌, ◌||◌, ◌==◌, nat_lt, nat_le, min, List, [], ◌∷◌, ◌++◌, if◌then◌else◌}
use Rattle.std.specs.List.{list_any, flat_map}
use Rattle.break_rules.specs.declared.Lunch.{Lunch}
use Rattle.break_rules.specs.Breaks.{total_of}
use Rattle.shift_instance.specs.Kind.{Kind}
use Rattle.rule_sentences.specs.declared.kinds.Clause.{Clause}
use Rattle.rule_sentences.specs.declared.kinds.Clause.TheVariants.{Starts, Lengths, NoBreaks, Total, TotalFrom, Sizes, AnySize, LunchBreak, LunchBreakFrom, NoLunch, MostWork, AnyMostWork, LeastWork, AnyLeastWork, Rest, NoRest, Ends, AnyEnds, Resettling}

-- whether an entry of totals begins to hold at a length of the type, and not at its least one
abbrev pub is_later : Kind → ℕ × ℕ → Bool
is_later k e = nat_lt k.len_min e.0 && nat_le e.0 k.len_max

-- whether no shift of the type has a break
abbrev pub has_no_break : Kind → Bool
has_no_break k = (total_of k.rule k.len_min == 0) && not (list_any (λ e. is_later k e && nat_lt 0 e.1) k.rule.totals)

-- the break time of the shifts from a length on
abbrev pub later_total : Kind → ℕ × ℕ → List Clause
later_total k e = if is_later k e then TotalFrom e.0 e.1 ∷ [] else []

-- whether a break of the type may have fewer lengths than its break time allows
abbrev pub limits_sizes : Kind → Bool
limits_sizes k = nat_lt 1 k.rule.size_min || nat_lt k.rule.size_max (total_of k.rule k.len_min) || list_any (λ e. is_later k e && nat_lt k.rule.size_max e.1) k.rule.totals

-- the lengths of breaks
abbrev pub sizes : Kind → Clause
sizes k = if limits_sizes k then Sizes k.rule.size_min k.rule.size_max else AnySize

-- whether a lunch entry applies to shifts of the type
abbrev pub applies : Kind → Lunch → Bool
applies k e = nat_le e.from_len k.len_max

-- a lunch, and from which length on it is asked for where not every shift of the type has that length
abbrev pub lunch_clause : Kind → Lunch → Clause
lunch_clause k e = if nat_lt k.len_min e.from_len then LunchBreakFrom e.from_len e.size e.first e.last else LunchBreak e.size e.first e.last

abbrev pub lunch_clauses : Kind → Lunch → List Clause
lunch_clauses k e = if applies k e then lunch_clause k e ∷ [] else []

-- that no lunch is asked for
abbrev pub lunchless : Kind → List Clause
lunchless k = if list_any (applies k) k.rule.lunches then [] else NoLunch ∷ []

-- the longest work without a break, where some shift of the type could have longer work
abbrev pub most_work : Kind → Clause
most_work k = if nat_lt k.rule.work_max k.len_max then MostWork k.rule.work_max else AnyMostWork

-- the shortest work before, between and after breaks
abbrev pub least_work : Kind → Clause
least_work k = if nat_lt 1 k.rule.work_min then LeastWork k.rule.work_min else AnyLeastWork

-- the break after long work, where some work may be that long and some break shorter
abbrev pub rest : Kind → Clause
rest k = if nat_lt k.rule.long_work (min k.rule.work_max k.len_max) && nat_lt k.rule.size_min k.rule.long_rest then Rest k.rule.long_work k.rule.long_rest else NoRest

-- the ends of a shift without a break
abbrev pub ends : Kind → Clause
ends k = if nat_lt 0 k.rule.lead || nat_lt 0 k.rule.tail then Ends k.rule.lead k.rule.tail else AnyEnds

-- the slots behind a break that don't count
abbrev pub resettling : Kind → List Clause
resettling k = if nat_lt 0 k.rule.resettle then Resettling k.rule.resettle ∷ [] else []

-- what is said of work, and of the ends of shifts
abbrev pub work_clauses : Kind → List Clause
work_clauses k = most_work k ∷ rest k ∷ least_work k ∷ ends k ∷ []

-- what is said of breaks, where some shift of the type has one
abbrev pub break_clauses : Kind → List Clause
break_clauses k =
    Total (total_of k.rule k.len_min) ∷ (flat_map (later_total k) k.rule.totals ++ (sizes k ∷ (flat_map (lunch_clauses k) k.rule.lunches ++ (lunchless k ++ (work_clauses k ++ resettling k)))))

-- all that is said of a type
abbrev pub clauses_of : Kind → List Clause
clauses_of k = Starts k.start_min k.start_max ∷ (Lengths k.len_min k.len_max ∷ (if has_no_break k then NoBreaks ∷ [] else break_clauses k))
