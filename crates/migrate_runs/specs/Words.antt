-- The words of the command line.
use Rattle.std.specs.Prelude.{ℕ, List, [], ◌∷◌, Bool, false, ◌&&◌, not, ◌==◌, if◌then◌else◌, Option, Some, None}
use Rattle.std.specs.Cmp.Lexicographic.{pointwise}

-- whether two words are the same
abbrev pub is_word : List ℕ → List ℕ → Bool
is_word = pointwise (λ a b. a == b)

-- whether a word may name a file: it isn't empty and doesn't begin with `-`
abbrev pub is_file : List ℕ → Bool
is_file [] = false
is_file (first ∷ rest) = not (first == 45)

-- the files that words name: that of the old journal, and that of the new one
pub record Named : Type 0 where
  pub old : List ℕ
  pub new : List ℕ

-- the files of two words, where both may name files and they differ; other words name none
abbrev pub files_of : List (List ℕ) → Option Named
files_of [] = None
files_of (old ∷ []) = None
files_of (old ∷ new ∷ []) = if (is_file old && is_file new) && not (is_word old new) then Some (record { old = old; new = new }) else None
files_of (old ∷ new ∷ more ∷ rest) = None
