-- Numbers that stand at prefixes of break lists.
use Rattle.std.specs.Prelude.{ℕ, ◌*◌, ◌^◌, ◌≤◌, ℤ, ◌+ℤ◌, List, [], ◌∷◌, sum_by, if◌then◌else◌}
use Rattle.std.specs.Int.RustNames.{unsigned_abs}
use Rattle.break_rules.specs.declared.Break.{Break}
use Rattle.break_rules.specs.Breaks.{same_list}

-- prefixes, each with its number, in the order of their first additions; and how many additions there were
pub record Bonuses : Type 0 where
  pub entries : List (List Break × ℤ)
  pub additions : ℕ

-- the entries after a number is added at a prefix: to the number that the prefix has, and in a new entry at the end where it has none
abbrev pub with_added : List (List Break × ℤ) → List Break → ℤ → List (List Break × ℤ)
with_added [] prefix x = (prefix, x) ∷ []
with_added (e ∷ es) prefix x = if same_list prefix e.0 then (e.0, e.1 +ℤ x) ∷ es else e ∷ with_added es prefix x

-- additions of at most 10^12 each, of which there were few, have made the numbers of these entries
pub record AreSmall (entries : List (List Break × ℤ)) (additions : ℕ) : Type 0 where
  pub few : additions ≤ 2 ^ 33
  pub within : sum_by (λ e. unsigned_abs e.1) entries ≤ additions * 1000000000000
