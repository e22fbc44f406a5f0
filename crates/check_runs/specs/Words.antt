-- The words of the command line.
use Rattle.std.specs.Prelude.{ℕ, List, [], ◌∷◌, Bool, false, ◌&&◌, not, ◌==◌, if◌then◌else◌, Option, Some, None, codes}
use Rattle.std.specs.Option.{option_and_then}
use Rattle.std.specs.Cmp.Lexicographic.{pointwise}
use Rattle.check_runs.specs.declared.words.Command.{Command}
use Rattle.check_runs.specs.declared.words.Command.TheVariants.{Check, Recount}

-- whether two words are the same
abbrev pub is_word : List ℕ → List ℕ → Bool
is_word = pointwise (λ a b. a == b)

-- the command of that name
abbrev pub command_of : List ℕ → Option Command
command_of name = if is_word name (codes "check") then Some Check else (if is_word name (codes "recount") then Some Recount else None)

-- whether a word may name a file: it isn't empty and doesn't begin with `-`
abbrev pub is_file : List ℕ → Bool
is_file [] = false
is_file (first ∷ rest) = not (first == 45)

-- the files that a command names: that of the instance, and that of the report
pub record Named : Type 0 where
  pub instance : List ℕ
  pub report : List ℕ

-- what the words ask for: a command, and its files
pub record Asked : Type 0 where
  pub command : Command
  pub files : Named

-- what a command with its files asks for, where both words may name files
abbrev pub asked : List ℕ → List ℕ → Command → Option Asked
asked instance report command =
    if is_file instance && is_file report then Some (record { command = command; files = record { instance = instance; report = report } }) else None

-- what `check INSTANCE REPORT` and `recount INSTANCE REPORT` ask for; other words ask for nothing
abbrev pub request_of : List (List ℕ) → Option Asked
request_of [] = None
request_of (name ∷ []) = None
request_of (name ∷ instance ∷ []) = None
request_of (name ∷ instance ∷ report ∷ []) = option_and_then (asked instance report) (command_of name)
request_of (name ∷ instance ∷ report ∷ more ∷ rest) = None
