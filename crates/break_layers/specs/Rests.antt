-- What the rests of a list of breaks earn.
use Rattle.std.specs.Prelude.{◌≡◌, ℕ, ℤ, ◌≤ℤ◌, List, [], ◌∷◌, ◌++◌, true, false}
use Rattle.break_rules.specs.declared.Break.{Break}
use Rattle.break_rules.specs.declared.Rule.{Rule}
use Rattle.break_rules.specs.Breaks.{is_legal, is_less_list, is_live}
use Rattle.break_rules.specs.Walk.{end_of_all, nexts_of, spot_of}
use Rattle.break_rules.specs.Lists.{Has}
use Rattle.price_sums.specs.Along.{price_in, resumes, earned_from, Completes}

-- what a list's rest earns
abbrev pub rest_worth : List ℤ → Rule → ℕ → List Break → List Break → ℤ
rest_worth sums rule len list rest = earned_from (price_in sums) rule len (resumes rule (end_of_all list)) rest

-- the greatest worth of the lists that are allowed
pub record IsMost (Allowed : List Break → Type 0) (worth : List Break → ℤ) (value : ℤ) : Type 0 where
  pub reached : (rest : List Break) × Allowed rest × (worth rest ≡ value)
  pub greatest : (rest : List Break) → Allowed rest → worth rest ≤ℤ value

-- the most that the rests of a list earn which make it legal
abbrev pub IsMostEarned : Rule → ℕ → List ℤ → List Break → ℤ → Type 0
IsMostEarned rule len sums list value = IsMost (Completes rule len list) (rest_worth sums rule len list) value

-- of the lists that are allowed, the least of those of greatest worth, with its worth
pub record IsBestRest (Allowed : List Break → Type 0) (worth : List Break → ℤ) (value : ℤ) (rest : List Break) : Type 0 where
  pub allowed : Allowed rest
  pub is_worth : worth rest ≡ value
  pub greatest : (other : List Break) → Allowed other → worth other ≤ℤ value
  pub least : (other : List Break) → Allowed other → worth other ≡ value → is_less_list other rest ≡ false

-- a best rest of a list
abbrev pub IsBestTail : Rule → ℕ → List ℤ → List Break → List Break → Type 0
IsBestTail rule len sums list rest = (value : ℤ) × IsBestRest (Completes rule len list) (rest_worth sums rule len list) value rest

-- a list that ends with a best rest of another that it begins with
abbrev pub IsBestFrom : Rule → ℕ → List ℤ → List Break → List Break → Type 0
IsBestFrom rule len sums list whole = (rest : List Break) × (whole ≡ list ++ rest) × IsBestTail rule len sums list rest

-- a legal list of greatest worth, with no lesser list of that worth
abbrev pub IsBestList : Rule → ℕ → List ℤ → List Break × ℤ → Type 0
IsBestList rule len sums best = IsBestRest (λ list. is_legal rule len list ≡ true) (earned_from (price_in sums) rule len 0) best.1 best.0

-- a break that may come next behind a list, with which each best rest behind it makes a best rest
pub record LeadsOn (rule : Rule) (len : ℕ) (sums : List ℤ) (list : List Break) (next : Break) : Type 0 where
  pub follows : Has (nexts_of rule len (spot_of rule list)) next
  pub live : is_live rule len (list ++ next ∷ []) ≡ true
  pub best : (tail : List Break) → IsBestTail rule len sums (list ++ next ∷ []) tail → IsBestTail rule len sums list (next ∷ tail)

-- a rule, the length of the shifts that are meant, and the sums of the prices of their offsets
pub record Priced : Type 0 where
  pub rule : Rule
  pub len : ℕ
  pub sums : List ℤ
