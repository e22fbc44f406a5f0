-- The words of the command line.
use Rattle.std.specs.Prelude.{ℕ, List, [], ◌∷◌, Bool, false, ◌&&◌, ◌==◌, if◌then◌else◌, Option, Some, None, codes}
use Rattle.std.specs.List.{list_all}
use Rattle.std.specs.Cmp.Lexicographic.{pointwise}
use Rattle.check_runs.specs.Words.{is_file}

-- whether two words are the same
abbrev pub is_word : List ℕ → List ℕ → Bool
is_word = pointwise (λ a b. a == b)

-- whether words may name files, and are at least one
abbrev pub are_files : List (List ℕ) → Bool
are_files [] = false
are_files (part ∷ parts) = is_file part && list_all is_file parts

-- the files of the instance and of the report
pub record Named : Type 0 where
  pub instance : List ℕ
  pub report : List ℕ

-- what the words ask for: the report of an instance, and its parts
pub record Asked : Type 0 where
  pub files : Named
  pub parts : List (List ℕ)

-- what `join INSTANCE REPORT PART..` asks for; other words ask for nothing
abbrev pub join_of : List (List ℕ) → Option Asked
join_of [] = None
join_of (name ∷ []) = None
join_of (name ∷ instance ∷ []) = None
join_of (name ∷ instance ∷ report ∷ parts) =
    if is_word name (codes "join") && is_file instance && is_file report && are_files parts
    then Some (record { files = record { instance = instance; report = report }; parts = parts })
    else None
