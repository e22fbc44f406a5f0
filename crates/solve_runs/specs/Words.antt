-- What a run makes of its words.
use Rattle.std.specs.Prelude.{◌≡◌, ◌⊎◌, ◌↔◌, ℕ, Bool, List, Option, Some, length, min, unwrap_or}
use Rattle.solve_words.specs.Words.{from_number, over_journal, Asked, Asks}
use Rattle.solve_words.specs.declared.command.Method.{Method}

-- what a run is asked for: a search over the journal on that path, by so many workers, of so many steps, and whether the table of its
-- plan is wanted
pub record Command : Type 0 where
  pub journal : List ℕ
  pub workers : ℕ
  pub steps : ℕ
  pub table : Bool

-- how many workers search where no number is said
abbrev pub workers_unsaid : ℕ
workers_unsaid = 4

-- for how many workers there are advisers: each wants one, and there are at most sixteen workers
abbrev pub workers_for : List ℕ → ℕ
workers_for advisers = min 16 (length advisers)

-- what is asked for is that search, by a method, and by workers who take turns or not; where no number of workers is said, four search
pub record IsCommand (asks : Asked → Type 0) (command : Command) : Type 0 where
  pub workers : Option ℕ
  pub method : Method
  pub turns : Bool
  pub is : asks (over_journal command.journal workers command.steps command.table method turns)
  pub all : command.workers ≡ unwrap_or workers workers_unsaid

-- so many workers are asked for: those of a search, or the one of a demonstration
abbrev pub AsksWorkers : (Asked → Type 0) → ℕ → Type 0
AsksWorkers asks asked =
    ((command : Command) × IsCommand asks command × (command.workers ≡ asked))
    ⊎ ((number : ℕ) × (steps : ℕ) × asks (from_number number steps) × (asked ≡ 1))

-- the words ask for a search over the journal at that path
pub record NamesJournal (words : List (List ℕ)) (path : List ℕ) : Type 0 where
  pub workers : Option ℕ
  pub steps : ℕ
  pub table : Bool
  pub method : Method
  pub turns : Bool
  pub asks : Asks words (over_journal path workers steps table method turns)

-- that, and nothing else, is the path of the journal that the words name
abbrev pub IsPathIn : List (List ℕ) → Option (List ℕ) → Type 0
IsPathIn words found = (path : List ℕ) → NamesJournal words path ↔ (found ≡ Some path)
