-- What can still be earned behind the first breaks of a duty.
use Rattle.std.specs.Prelude.{◌≡◌, ℕ, ◌<◌, ℤ, ◌+ℤ◌, ◌≤ℤ◌, List, ◌∷◌, Option, Some, None, MatchOption}
use Rattle.std.specs.Int.{int_max}
use Rattle.break_rules.specs.declared.Break.{Break}
use Rattle.break_rules.specs.declared.Rule.{Rule}
use Rattle.break_rules.specs.Walk.{end_of_all}
use Rattle.break_rules.specs.Lists.{Has}
use Rattle.break_graph.specs.declared.Node.{Node}
use Rattle.break_graph.specs.Graph.{StandsAt}
use Rattle.price_sums.specs.Along.{sum_at, price_in, resumes, earned_from, Completes}

-- what a list's rest earns
abbrev pub rest_worth : List ℤ → Rule → ℕ → List Break → List Break → ℤ
rest_worth sums rule len list rest = earned_from (price_in sums) rule len (resumes rule (end_of_all list)) rest

-- the same, and the sum of the prices before the offset where work counts again behind the list
abbrev pub worth_with_start : List ℤ → Rule → ℕ → List Break → List Break → ℤ
worth_with_start sums rule len list rest = sum_at sums (resumes rule (end_of_all list)) +ℤ rest_worth sums rule len list rest

-- breaks that make a list legal, the first of which is one of some breaks
abbrev pub Through : Rule → ℕ → List Break → List Break → List Break → Type 0
Through rule len list firsts rest = (b : Break) × (bs : List Break) × (rest ≡ b ∷ bs) × Has firsts b × Completes rule len list rest

-- the greatest worth of an allowed list
pub record IsGreatest (Allowed : List Break → Type 0) (worth : List Break → ℤ) (value : ℤ) : Type 0 where
  pub reached : (list : List Break) × Allowed list × (worth list ≡ value)
  pub greatest : (other : List Break) → Allowed other → worth other ≤ℤ value

-- the greatest worth of an allowed list, and none where no list is allowed
abbrev pub IsGreatestOf : (List Break → Type 0) → (List Break → ℤ) → Option ℤ → Type 0
IsGreatestOf Allowed worth best = MatchOption best ((other : List Break) → Allowed other → ⊥) (IsGreatest Allowed worth)

-- for each node before a number, the greatest worth of a rest of the lists that stand there
abbrev pub AreValues : Rule → ℕ → List ℤ → List Node → ℕ → List ℤ → Type 0
AreValues rule len sums nodes before values =
    (k : ℕ) (list : List Break) → k < before → StandsAt rule len nodes k list
    → IsGreatest (Completes rule len list) (rest_worth sums rule len list) (sum_at values k)

-- the greater of two values, the first of which may be none
abbrev pub greater_of : Option ℤ → ℤ → ℤ
greater_of None value = value
greater_of (Some best) value = int_max best value
