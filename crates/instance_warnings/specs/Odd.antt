-- What is legal and odd in the numbers of an instance. Source: this project's profile.
use Rattle.std.specs.Prelude.{ℕ, ◌+◌, ◌-◌, ◌*◌, ◌==◌, Bool, not, ◌&&◌, nat_lt, nat_le, max, List, [], ◌∷◌, ◌++◌, fold, if◌then◌else◌}
use Rattle.std.specs.List.{flat_map, list_any, list_all, enumerate_from}
use Rattle.break_rules.specs.declared.Lunch.{Lunch}
use Rattle.break_rules.specs.Breaks.{total_of}
use Rattle.shift_instance.specs.Kind.{Kind}
use Rattle.shift_instance.specs.Problem.{Problem, slots, day_slots, need_at, from_to, below}
use Rattle.instance_warnings.specs.declared.telling.Limit.{Limit}
use Rattle.instance_warnings.specs.declared.telling.Limit.TheVariants.{WorkMax, LongWork}
use Rattle.instance_warnings.specs.declared.telling.Warning.{Warning}
use Rattle.instance_warnings.specs.declared.telling.Warning.TheVariants.{ExcessAbove, HeadsBelow, Short, LikeHours, TypeLikeHours, Beyond, SizeBeyond, Parted, LunchParted, LunchBeyond, GoesRound}
use Rattle.instance_warnings.specs.Reached.{unreached}

-- a warning where there is cause for it
abbrev pub warning_if : Bool → Warning → List Warning
warning_if cause warning = if cause then warning ∷ [] else []

-- excess that costs more than shortage, where shortage costs anything
abbrev pub excess_warnings : Problem → List Warning
excess_warnings i = warning_if (nat_lt 0 i.shortage && nat_lt i.shortage i.excess) (ExcessAbove i.excess i.shortage)

-- the greatest need of a slot
abbrev pub greatest_need : Problem → ℕ
greatest_need i = fold (λ most t. max most (need_at i t)) 0 (below (slots i))

-- fewer duties of one shift on one day than the greatest need
abbrev pub few_heads_warnings : Problem → ℕ → List Warning
few_heads_warnings i need = warning_if (nat_lt i.heads need) (HeadsBelow i.heads need)

-- the length of the longest shift of some types
abbrev pub longest_of : List Kind → ℕ
longest_of kinds = fold (λ longest k. max longest k.len_max) 0 kinds

-- no shift is as long as two hours
abbrev pub short_warnings : Problem → List Warning
short_warnings i = warning_if (nat_lt (longest_of i.kinds * i.slot_minutes) 120) (Short (longest_of i.kinds))

-- whether the starts and the lengths of a type are such as hours have
abbrev pub has_hours : Kind → Bool
has_hours k = nat_lt k.start_max 24 && nat_le k.len_max 12

-- whether slots are shorter than hours, and all starts and lengths are such as hours have
abbrev pub is_like_hours : Problem → Bool
is_like_hours i = nat_lt i.slot_minutes 60 && list_all has_hours i.kinds

-- times that look like hours, where some needs can't be met
abbrev pub hour_warning : Bool → List ℕ → List Warning
hour_warning like [] = []
hour_warning like (t ∷ ts) = warning_if like LikeHours

abbrev pub hour_warnings : Problem → List Warning
hour_warnings i = hour_warning (is_like_hours i) (unreached i)

-- a type with starts and lengths such as hours have, in slots of 15 minutes at most, where not all types have such
abbrev pub type_like_hours : Problem → ℕ × Kind → List Warning
type_like_hours i k = warning_if (nat_le i.slot_minutes 15 && has_hours k.1 && not (list_all has_hours i.kinds)) (TypeLikeHours k.0)

-- a limit above the longest shift of its type, unless it is 288, which stands for no limit
abbrev pub beyond : ℕ × Kind → Limit → ℕ → List Warning
beyond k limit slots = warning_if (nat_lt k.1.len_max slots && not (slots == 288)) (Beyond k.0 limit slots k.1.len_max)

-- the most break time of a shift of a type
abbrev pub most_break : Kind → ℕ
most_break k = fold (λ most len. max most (total_of k.rule len)) 0 (from_to k.len_min k.len_max)

-- the most break time of a shift of some types
abbrev pub most_break_of : List Kind → ℕ
most_break_of kinds = fold (λ most k. max most (most_break k)) 0 kinds

-- a greatest length of breaks above the most break time of all shifts, where some have any, unless it is 48, which stands for no limit
abbrev pub size_beyond : ℕ → ℕ × Kind → List Warning
size_beyond most k = warning_if (nat_lt 0 most && nat_lt most k.1.rule.size_max && not (k.1.rule.size_max == 48)) (SizeBeyond k.0 k.1.rule.size_max most)

-- an entry of totals between lengths of the type, where it changes the break time
abbrev pub parted : ℕ × Kind → ℕ × ℕ → List Warning
parted k e =
    warning_if (nat_lt k.1.len_min e.0 && nat_le e.0 k.1.len_max && not (total_of k.1.rule (e.0 - 1) == e.1))
    (Parted k.0 e.0 (total_of k.1.rule (e.0 - 1)) e.1)

-- a lunch between lengths of the type
abbrev pub lunch_parted : ℕ × Kind → Lunch → List Warning
lunch_parted k e = warning_if (nat_lt k.1.len_min e.from_len && nat_le e.from_len k.1.len_max) (LunchParted k.0 e.from_len e.size)

-- whether two lunches are the same
abbrev pub same_lunch : Lunch → Lunch → Bool
same_lunch a b = (a.from_len == b.from_len) && (a.size == b.size) && (a.first == b.first) && (a.last == b.last)

-- whether a type has a lunch that is asked for in some of its shifts
abbrev pub uses_lunch : Lunch → Kind → Bool
uses_lunch e k = nat_le e.from_len k.len_max && list_any (same_lunch e) k.rule.lunches

-- a lunch from a length on that no shift of the type has, where no other type uses the same lunch
abbrev pub lunch_beyond : List Kind → ℕ × Kind → Lunch → List Warning
lunch_beyond kinds k e = warning_if (nat_lt k.1.len_max e.from_len && not (list_any (uses_lunch e) kinds)) (LunchBeyond k.0 e.from_len k.1.len_max)

-- what is odd in a lunch of a type
abbrev pub odd_lunch : List Kind → ℕ × Kind → Lunch → List Warning
odd_lunch kinds k e = lunch_parted k e ++ lunch_beyond kinds k e

-- shifts that go on into the next day, and so from the last day into the first
abbrev pub going_round : ℕ → ℕ × Kind → List Warning
going_round per_day k = warning_if (nat_lt per_day (k.1.start_max + k.1.len_max)) (GoesRound k.0 (k.1.start_max + k.1.len_max - per_day))

-- what is odd in a type, by its number, where that is the most break time of all shifts
abbrev pub odd_kind : Problem → ℕ → ℕ × Kind → List Warning
odd_kind i most k =
    type_like_hours i k ++ (beyond k WorkMax k.1.rule.work_max ++ (beyond k LongWork k.1.rule.long_work ++ (size_beyond most k
    ++ (flat_map (parted k) k.1.rule.totals ++ (flat_map (odd_lunch i.kinds k) k.1.rule.lunches ++ going_round (day_slots i) k)))))

-- all that is odd in types
abbrev pub odd_kinds : Problem → List Warning
odd_kinds i = flat_map (odd_kind i (most_break_of i.kinds)) (enumerate_from 0 i.kinds)
