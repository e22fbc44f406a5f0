-- Histories of passes. Source: this project's profile.
use Rattle.std.specs.Prelude.{◌≡◌, ◌⊎◌, ℕ, List, [], ◌∷◌, ◌++◌, cond, ◌==◌}
use Rattle.turn_lock.specs.declared.pass.Pass.{Pass}

-- the passes that the seat of that number made
abbrev pub of_number : ℕ → List Pass → List Pass
of_number n [] = []
of_number n (p ∷ ps) = cond (p.seat == n) (p ∷ of_number n ps) (of_number n ps)

-- the history begins with these
abbrev pub IsPrefix : List Pass → List Pass → Type 0
IsPrefix first all = (rest : List Pass) × (all ≡ first ++ rest)

-- the history is as it was, or has one pass more, which the seat of that number made
abbrev pub AddsAtMostOne : ℕ → List Pass → List Pass → Type 0
AddsAtMostOne n before after = (after ≡ before) ⊎ ((p : Pass) × (p.seat ≡ n) × (after ≡ before ++ p ∷ []))
