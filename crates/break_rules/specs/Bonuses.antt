-- Numbers that break lists get for what they begin with.
use Rattle.std.specs.Prelude.{ℤ, pos, List, if◌then◌else◌}
use Rattle.break_rules.specs.declared.Break.{Break}
use Rattle.break_rules.specs.Breaks.{begins_with}
use Rattle.break_rules.specs.Sums.{int_sum_by}

-- the number of an entry, if a list begins with its prefix, and else 0
abbrev pub share_of : List Break → List Break × ℤ → ℤ
share_of list entry = if begins_with list entry.0 then entry.1 else pos 0

-- the sum of the numbers of all entries with whose prefix a list begins
abbrev pub bonus_of : List (List Break × ℤ) → List Break → ℤ
bonus_of entries list = int_sum_by (share_of list) entries
