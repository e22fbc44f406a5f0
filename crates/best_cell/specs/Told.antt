-- Pairs that a cell was told, in order: how many posts a search has, and what its best plan costs. Source: this project's profile.
use Rattle.std.specs.Prelude.{◌≡◌, ◌≤◌, ℕ, List, [], ◌∷◌, ◌++◌}

-- posts don't fall, and the cost doesn't rise
abbrev pub Follows : ℕ × ℕ → ℕ × ℕ → Type 0
Follows p q = (p.0 ≤ q.0) × (q.1 ≤ p.1)

-- each of the pairs follows the one before it, and the first of them p
abbrev pub IsOrderlyBehind : ℕ × ℕ → List (ℕ × ℕ) → Type 0
IsOrderlyBehind p [] = Unit {0}
IsOrderlyBehind p (x ∷ xs) = Follows p x × IsOrderlyBehind x xs

-- each pair follows the one before it
abbrev pub IsOrderly : List (ℕ × ℕ) → Type 0
IsOrderly [] = Unit {0}
IsOrderly (x ∷ xs) = IsOrderlyBehind x xs

-- the last pair, and p where there is none
abbrev pub last_behind : ℕ × ℕ → List (ℕ × ℕ) → ℕ × ℕ
last_behind p [] = p
last_behind p (x ∷ xs) = last_behind x xs

-- the last pair
abbrev pub last_of : List (ℕ × ℕ) → ℕ × ℕ
last_of [] = (0, 0)
last_of (x ∷ xs) = last_behind x xs

-- the pairs begin with these
abbrev pub IsFront : List (ℕ × ℕ) → List (ℕ × ℕ) → Type 0
IsFront front pairs = (rest : List (ℕ × ℕ)) × (pairs ≡ front ++ rest)

-- each of the pairs may be told
abbrev pub AreTold : (ℕ → ℕ → Type 0) → List (ℕ × ℕ) → Type 0
AreTold tells [] = Unit {0}
AreTold tells (x ∷ xs) = tells x.0 x.1 × AreTold tells xs
