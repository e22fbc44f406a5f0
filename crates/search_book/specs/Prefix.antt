-- Files that hold the front of a run of records.
use Rattle.std.specs.Prelude.{ℕ, ◌≤◌, List, length, take}
use Rattle.gated_journal.specs.Format.{StandsFor}

-- a file that holds at least so many of a run's records, in order, none skipped and none in part
pub record HoldsPrefix (limit : ℕ) (head : List ℕ) (run : List (List ℕ)) (least : ℕ) (file : List ℕ) : Type 0 where
  pub count : ℕ
  pub at_least : least ≤ count
  pub at_most : count ≤ length run
  pub holds : StandsFor limit head (take count run) file
