-- Classes of duties, cuts on their numbers, and the range that cuts leave to a class. Source: this project's profile. Branching on the number of
-- duties that begin alike follows branching on sums of columns, as in Barnhart and others 1998 (branch and price).
use Rattle.std.specs.Prelude.{◌≡◌, ◌≢◌, ℕ, Bool, ◌&&◌, ◌==◌, nat_le, List, [], min, max, fold, count_by, take, slice_get, if◌then◌else◌}
use Rattle.std.specs.List.{list_all}
use Rattle.break_rules.specs.Breaks.{begins_with, same_list}
use Rattle.shift_instance.specs.declared.Duty.{Duty}
use Rattle.shift_instance.specs.Problem.{Problem}
use Rattle.shift_instance.specs.Rota.{is_on}
use Rattle.head_splits.specs.declared.Class.{Class}
use Rattle.head_splits.specs.declared.Side.{Side}
use Rattle.head_splits.specs.declared.Side.TheVariants.{AtMost, AtLeast}
use Rattle.head_splits.specs.declared.Cut.{Cut}

-- whether a class holds a duty: it is of the class's shift and day, and its breaks begin with the prefix
abbrev pub holds : Class → Duty → Bool
holds c d = is_on c.shift c.day d && begins_with d.breaks c.prefix

-- the duties of a rota that a class holds
abbrev pub class_count : List Duty → Class → ℕ
class_count rota c = count_by (holds c) rota

-- whether two classes are the same
abbrev pub same_class : Class → Class → Bool
same_class a b = (a.shift == b.shift) && (a.day == b.day) && same_list a.prefix b.prefix

-- whether a number keeps to a side of m
abbrev pub keeps_to : Side → ℕ → ℕ → Bool
keeps_to AtMost m n = nat_le n m
keeps_to AtLeast m n = nat_le m n

-- whether a rota meets a cut, and whether it meets all of them, which is to lie below them
abbrev pub meets_cut : List Duty → Cut → Bool
meets_cut rota c = keeps_to c.side c.m (class_count rota c.class)

abbrev pub meets : List Duty → List Cut → Bool
meets rota cuts = list_all (meets_cut rota) cuts

-- a lower bound after a cut of that side and number, and an upper bound
abbrev pub raised : Side → ℕ → ℕ → ℕ
raised AtMost m n = n
raised AtLeast m n = max n m

abbrev pub lowered : Side → ℕ → ℕ → ℕ
lowered AtMost m n = min n m
lowered AtLeast m n = n

-- the least number of a class's duties: the greatest number of the `at least` cuts on exactly that class, and else 0
abbrev pub low : List Cut → Class → ℕ
low cuts class = fold (λ n c. if same_class c.class class then raised c.side c.m n else n) 0 cuts

-- the least of a number and the numbers of the `at most` cuts on exactly that class
abbrev pub least_high : ℕ → List Cut → Class → ℕ
least_high most cuts class = fold (λ n c. if same_class c.class class then lowered c.side c.m n else n) most cuts

-- the greatest number of a class's duties: the least of the most duties of one shift on one day and the numbers of those `at most` cuts
abbrev pub high : Problem → List Cut → Class → ℕ
high i cuts class = least_high i.heads cuts class

-- the class of all duties of a shift on a day
abbrev pub whole_class : ℕ → ℕ → Class
whole_class s day = record { shift = s; day = day; prefix = [] }

-- the first place at which two lists differ, and the length of the shorter where it begins the other
abbrev pub DifferAt : {A : Type 0} → List A → List A → ℕ → Type 0
DifferAt xs ys at = (take at xs ≡ take at ys) × (slice_get xs at ≢ slice_get ys at)
