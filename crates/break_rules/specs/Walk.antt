-- Break lists built from the front, one break after another.
use Rattle.std.specs.Prelude.{ℕ, ◌+◌, ◌-◌, ◌*◌, Bool, true, ◌&&◌, ◌==◌, nat_lt, nat_le, List, [], ◌∷◌, ◌++◌, sum_by, fold, map, if◌then◌else◌}
use Rattle.std.specs.List.{list_all, list_any, filter, range_with_len}
use Rattle.break_rules.specs.declared.Break.{Break}
use Rattle.break_rules.specs.declared.Lunch.{Lunch}
use Rattle.break_rules.specs.declared.Rule.{Rule}
use Rattle.break_rules.specs.declared.Spot.{Spot}
use Rattle.break_rules.specs.Breaks.{end_of, keeps_ends, has_work, is_rested, has_size, total_of, is_lunch, is_lunched, breaks_between}

-- the first offset behind a list of breaks
abbrev pub end_of_all : List Break → ℕ
end_of_all list = fold (λ at b. end_of b) 0 list

-- the number whose binary digits, from the lowest on, say which lunch entries pass a test
abbrev pub bits_of : (Lunch → Bool) → List Lunch → ℕ
bits_of passes [] = 0
bits_of passes (e ∷ es) = (if passes e then 1 else 0) + 2 * bits_of passes es

-- the spot behind a list of breaks: the end of the last one, the break time, and a bit for each lunch entry that some break meets
abbrev pub spot_of : Rule → List Break → Spot
spot_of rule list = record { offset = end_of_all list; used = sum_by (λ b. b.len) list; lunches = bits_of (λ e. list_any (is_lunch e) list) rule.lunches }

-- whether a break may come next, behind an offset and after that much break time
abbrev pub may_follow : Rule → ℕ → ℕ → ℕ → Break → Bool
may_follow rule len offset used b =
    nat_le offset b.start && nat_lt 0 b.len
    && keeps_ends rule len b
    && has_work rule (offset, b.start)
    && is_rested rule ((offset, b.start), b)
    && has_size rule b
    && nat_le (used + b.len) (total_of rule len)

-- the breaks that may come next at a spot, by start and then by length
abbrev pub nexts_of : Rule → ℕ → Spot → List Break
nexts_of rule len spot = filter (may_follow rule len spot.offset spot.used) (breaks_between spot.offset len)

-- whether each break of a list may come next after those before it, from an offset and a break time on
abbrev pub is_walk_from : Rule → ℕ → ℕ → ℕ → List Break → Bool
is_walk_from rule len offset used [] = true
is_walk_from rule len offset used (b ∷ bs) = may_follow rule len offset used b && is_walk_from rule len (end_of b) (used + b.len) bs

-- whether each break of a list may come next after those before it
abbrev pub is_walk : Rule → ℕ → List Break → Bool
is_walk rule len list = is_walk_from rule len 0 0 list

-- whether a list of breaks may end there: the last work period, the total and each lunch entry
abbrev pub may_end : Rule → ℕ → List Break → Bool
may_end rule len list =
    nat_le (end_of_all list) len && has_work rule (end_of_all list, len)
    && (sum_by (λ b. b.len) list == total_of rule len)
    && list_all (is_lunched len list) rule.lunches

-- every break from a place on that ends by len: those of this start from a length on, and then those of later starts
abbrev pub breaks_left : ℕ → ℕ → ℕ → List Break
breaks_left start size len = map (λ size. record { start = start; len = size }) (range_with_len size (len + 1 - (start + size))) ++ breaks_between (start + 1) len
