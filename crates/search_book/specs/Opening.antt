-- What an opening finds on a disk, and what a refusal leaves there.
use Rattle.std.specs.Prelude.{◌≡◌, ◌≢◌, ◌⊎◌, ℕ, ◌≤◌, List, [], length, Option, None, Some}
use Rattle.gated_journal.specs.Format.{StandsFor, fresh}
use Rattle.instance_json.specs.Canonical.{canonical_text}
use Rattle.post_codec.specs.declared.post.Post.{Post}
use Rattle.shift_instance.specs.Problem.{Problem}
use Rattle.search_book.specs.Posts.{IsJournalOf}
use Rattle.search_book.specs.PostLog.{PostLogView}

-- the records of a journal with this header that a file holds, or of the new one that an empty file becomes
pub record IsFound (limit : ℕ) (head : List ℕ) (records : List (List ℕ)) (after : Option (List ℕ)) (file : List ℕ) : Type 0 where
  pub new : file ≡ [] → (records ≡ []) × (after ≡ Some (fresh head))
  pub old : file ≢ [] → StandsFor limit head records file × (after ≡ Some file)

-- the posts that a file holds, or none of the new journal that an empty file becomes
pub record IsOpenedFrom (limit : ℕ) (i : Problem) (posts : List Post) (used : ℕ) (after : Option (List ℕ)) (file : List ℕ) : Type 0 where
  pub new : file ≡ [] → (posts ≡ []) × (used ≡ length (fresh (canonical_text i))) × (after ≡ Some (fresh (canonical_text i)))
  pub old : file ≢ [] → IsJournalOf limit i posts used file × (after ≡ Some file)

-- a log of posts of an instance as it is opened: no record was made since, and nothing shut it
pub record IsBegun {D : Type 0} (i : Problem) (limit : ℕ) (log : PostLogView D) : Type 0 where
  pub instance : log.instance ≡ i
  pub limit_is : log.limit ≡ limit
  pub history : log.history ≡ log.opening
  pub batches : log.batches ≡ []
  pub opened : log.opened ≡ log.disk
  pub in_flight : log.in_flight ≡ []
  pub shut : log.shut ≡ None

-- one of the images from before, or, where the file read as empty, one no longer than the new journal
abbrev pub IsOldOrShort : Option (List ℕ) → (List ℕ → Type 0) → ℕ → List ℕ → Type 0
IsOldOrShort reads images longest image = images image ⊎ ((reads ≡ Some []) × (length image ≤ longest))
