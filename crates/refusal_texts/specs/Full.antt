-- What is said of a journal that is full. Source: this project's own format.
use Rattle.std.specs.Prelude.{ℕ, List, ◌++◌, codes}
use Rattle.std.specs.Fmt.{decimal}

-- the bytes that a journal would have had, and the most that it may have
abbrev pub full_text : ℕ → ℕ → List ℕ
full_text end limit =
    codes "the journal is full: the next step would make it " ++ (decimal end ++ (codes " bytes long, and at most " ++ (decimal limit ++ codes " are allowed. It keeps all that was found; a new one can begin with its best plan")))
