-- The breaks that a walk may take.
use Rattle.std.specs.Prelude.{◌≡◌, ℕ, ◌+◌, ◌-◌, ◌<◌, ◌≤◌, ◌^◌, nat_le, min, max, false, IsTrue, if◌then◌else◌}
use Rattle.break_rules.specs.declared.Break.{Break}
use Rattle.break_rules.specs.declared.Rule.{Rule}
use Rattle.break_rules.specs.declared.Spot.{Spot}
use Rattle.break_rules.specs.Breaks.{total_of}
use Rattle.break_rules.specs.Walk.{may_follow}

-- a break that may come next at a spot, in a shift of some length
abbrev pub IsNext : Rule → Spot → Break → Type 0
IsNext rule spot b = (len : ℕ) × (len < 2 ^ 16) × IsTrue (may_follow rule len spot.offset spot.used b)

-- the least length of a break that starts there, behind an offset
abbrev pub shortest_of : Rule → ℕ → ℕ → ℕ
shortest_of rule offset start = (if nat_le (start - offset) rule.long_work then rule.size_min else max rule.size_min rule.long_rest)

-- a place among the breaks that may come next behind an offset and after that much break time: no break may come from a start
-- on, each ends by an offset and has at most a length, and the breaks left are those from a start and a length on
pub record IsAt (rule : Rule) (len offset used stop latest longest start size : ℕ) : Type 0 where
  pub some_size : 1 ≤ rule.size_min
  pub small_size : rule.size_min ≤ 48
  pub small_rest : rule.long_rest ≤ 48
  pub stops : (b : Break) → stop ≤ b.start → may_follow rule len offset used b ≡ false
  pub early : stop ≤ latest
  pub last_work : stop ≤ offset + rule.work_max + 1
  pub end : latest ≡ len - rule.tail
  pub short : latest < 2 ^ 16
  pub most : longest ≡ min rule.size_max (total_of rule len - used)
  pub small_longest : longest < 2 ^ 16
  pub lead : rule.lead ≤ start
  pub first_work : offset + rule.work_min ≤ start
  pub near : start ≤ 2 ^ 17
  pub least : shortest_of rule offset start ≤ size
  pub size_limit : size ≤ 2 ^ 16
