-- Break lists that a search has found, and the lists that they are no worse than.
use Rattle.std.specs.Prelude.{◌≡◌, ℕ, ◌+◌, ◌<◌, ℤ, ◌+ℤ◌, ◌≤ℤ◌, Bool, true, false, ◌&&◌, ◌||◌, int_lt, List, [], ◌∷◌, ◌++◌, take, Option, Some, None, MatchOption}
use Rattle.std.specs.List.{list_any}
use Rattle.std.specs.Ordering.{int_eq}
use Rattle.break_rules.specs.declared.Break.{Break}
use Rattle.break_rules.specs.Breaks.{is_legal, is_live, is_less_list, begins_with}
use Rattle.break_rules.specs.Ranges.{IsRule}
use Rattle.break_rules.specs.Lists.{Has}
use Rattle.break_rules.specs.Bonuses.{bonus_of}
use Rattle.pricing.specs.declared.found.Found.{Found}
use Rattle.price_sums.specs.Along.{price_in, earned_from}
use Rattle.break_layers.specs.Rests.{IsBestRest, IsBestFrom, Priced}

-- whether a list is legal
abbrev pub IsLegal : Priced → List Break → Type 0
IsLegal p list = is_legal p.rule p.len list ≡ true

-- what a duty with some breaks is worth: prices and bonuses
abbrev pub worth_of : Priced → List (List Break × ℤ) → List Break → ℤ
worth_of p entries list = earned_from (price_in p.sums) p.rule p.len 0 list +ℤ bonus_of entries list

-- a list that was found is legal and has its worth
abbrev pub IsFound : Priced → List (List Break × ℤ) → Option Found → Type 0
IsFound p entries None = Unit {0}
IsFound p entries (Some f) = IsLegal p f.list × (f.value ≡ worth_of p entries f.list)

-- what was found is worth more than a list, or as much and the list isn't less
abbrev pub Covers : Priced → List (List Break × ℤ) → Option Found → List Break → Type 0
Covers p entries None list = ⊥
Covers p entries (Some f) list = (worth_of p entries list ≤ℤ f.value) × (worth_of p entries list ≡ f.value → is_less_list list f.list ≡ false)

-- whether a list of some worth is better than what was found: it is worth more, or as much and it is less
abbrev pub is_better : List Break → ℤ → Found → Bool
is_better list value found = int_lt found.value value || (int_eq found.value value && is_less_list list found.list)

-- what is found now covers each list that was covered before
abbrev pub Keeps : Priced → List (List Break × ℤ) → Option Found → Option Found → Type 0
Keeps p entries old new = (list : List Break) → Covers p entries old list → Covers p entries new list

-- whether the prefix of some entry begins with some breaks
abbrev pub leads_further : List (List Break × ℤ) → List Break → Bool
leads_further entries front = list_any (λ e. begins_with e.0 front) entries

-- a rest that is empty, or whose first break leads to no prefix
abbrev pub IsLeaving : List (List Break × ℤ) → List Break → List Break → Type 0
IsLeaving entries front [] = Unit {0}
IsLeaving entries front (b ∷ bs) = leads_further entries (front ++ b ∷ []) ≡ false

-- what was found covers each legal list that leaves all prefixes directly behind some breaks
abbrev pub CoversFrom : Priced → List (List Break × ℤ) → Option Found → List Break → Type 0
CoversFrom p entries found front = (rest : List Break) → IsLegal p (front ++ rest) → IsLeaving entries front rest → Covers p entries found (front ++ rest)

-- the same for the first so many of some breaks, but for none of them
abbrev pub CoversAlong : Priced → List (List Break × ℤ) → Option Found → List Break → ℕ → Type 0
CoversAlong p entries found prefix many = (k : ℕ) → k < many → CoversFrom p entries found (take (k + 1) prefix)

-- the least legal list of greatest worth
abbrev pub IsBestFound : Priced → List (List Break × ℤ) → Option Found → Type 0
IsBestFound p entries found =
    MatchOption found ((list : List Break) → is_legal p.rule p.len list ≡ false) (λ f. IsBestRest (IsLegal p) (worth_of p entries) f.value f.list)

-- legal lists: for each break with which some legal list goes on from some breaks, one that goes on with it by a best rest, and these breaks alone where they are legal
pub record AreBestAround (p : Priced) (front : List Break) (lists : List (List Break)) : Type 0 where
  pub well_formed : IsRule p.rule
  pub legal : (list : List Break) → Has lists list → IsLegal p list
  pub onward : (b : Break) → is_live p.rule p.len (front ++ b ∷ []) ≡ true → (whole : List Break) × Has lists whole × IsBestFrom p.rule p.len p.sums (front ++ b ∷ []) whole
  pub itself : IsLegal p front → Has lists front
