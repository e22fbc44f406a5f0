-- From what the words are read as to the path of the journal that they name.
use Rattle.solve_runs.proofs.Common.{◌≡◌, ◌∙◌, sym, ap, ℕ, Bool, List, [], Option, None, Some, Method, from_number, over_journal, Asked, IsReadAs, IsPathIn}
use Rattle.std.proofs.lemmas.Option.{same_Some}

-- the path of a search's journal
path_of : Asked → List ℕ
path_of (over_journal path workers steps table method turns) = path
path_of (from_number number steps) = []

-- words that ask for a search name its journal
pub journal_named : (words : List (List ℕ)) (path : List ℕ) (workers : Option ℕ) (steps : ℕ) (table : Bool) (method : Method) (turns : Bool) (found : Option (List ℕ))
    → IsReadAs words (Some (over_journal path workers steps table method turns)) → found ≡ Some path → IsPathIn words found
unfolding path_of
journal_named words path workers steps table method turns found reads same = λ other. (
  λ names. same ∙ ap (λ (a : Asked). Some (path_of a)) (same_Some (over_journal path workers steps table method turns) (over_journal other names.workers names.steps names.table names.method names.turns) ((reads (over_journal other names.workers names.steps names.table names.method names.turns)).0 names.asks)),
  λ e. record {
    workers = workers;
    steps = steps;
    table = table;
    method = method;
    turns = turns;
    asks = (reads (over_journal other workers steps table method turns)).1 (ap (λ (p : List ℕ). Some (over_journal p workers steps table method turns)) (same_Some path other (sym same ∙ e)));
  },
)

-- words that ask for a demonstration name none
pub demonstration_unnamed : (words : List (List ℕ)) (number steps : ℕ) → IsReadAs words (Some (from_number number steps)) → IsPathIn words None
demonstration_unnamed words number steps reads = λ other. (
  λ names. let e : Some (from_number number steps) ≡ Some (over_journal other names.workers names.steps names.table names.method names.turns) = (reads (over_journal other names.workers names.steps names.table names.method names.turns)).0 names.asks in absurd (cc),
  λ e. absurd (cc),
)

-- and so do words that are no command
pub nothing_named : (words : List (List ℕ)) → IsReadAs words None → IsPathIn words None
nothing_named words reads = λ other. (
  λ names. let e : None ≡ Some (over_journal other names.workers names.steps names.table names.method names.turns) = (reads (over_journal other names.workers names.steps names.table names.method names.turns)).0 names.asks in absurd (cc),
  λ e. absurd (cc),
)
