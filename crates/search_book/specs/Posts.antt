-- A file that stands for an instance and posts.
use Rattle.std.specs.Prelude.{◌≡◌, ℕ, ◌+◌, List, [], ◌∷◌, length, Option, None, Some, Vec}
use Rattle.std.specs.declared.snapshot.Snapshot.{Snapshot}
use Rattle.std.specs.declared.alloc.Global.{Global}
use Rattle.gated_journal.specs.Format.{spelled, StandsFor}
use Rattle.instance_json.specs.Canonical.{canonical_text}
use Rattle.post_codec.specs.declared.post.Post.{Post}
use Rattle.post_codec.specs.Batches.{SpellPosts}
use Rattle.shift_instance.specs.Problem.{Problem}

-- the posts of a commit that ended in a disk fault, as a batch of their own
abbrev pub batches_told : Option (Snapshot (Vec Post Global)) → List (List Post)
batches_told None = []
batches_told (Some posts) = posts.value.items ∷ []

-- the posts of a commit for which there was no room
abbrev pub posts_told : Option (Snapshot (Vec Post Global)) → List Post
posts_told None = []
posts_told (Some posts) = posts.value.items

-- the bytes of a journal up to its closed gate, that one included
unfoldable pub bytes_used : List ℕ → List (List ℕ) → ℕ
bytes_used head records = length (spelled head records) + 1

-- a journal's file whose header is the instance's canonical text and whose records spell the posts, with the bytes that it uses
pub record IsJournalOf (limit : ℕ) (i : Problem) (posts : List Post) (used : ℕ) (file : List ℕ) : Type 0 where
  pub records : List (List ℕ)
  pub spells : SpellPosts records posts
  pub stands : StandsFor limit (canonical_text i) records file
  pub ends : used ≡ bytes_used (canonical_text i) records

-- the file is such a journal's
pub record StandsForPosts (limit : ℕ) (i : Problem) (posts : List Post) (file : List ℕ) : Type 0 where
  pub used : ℕ
  pub journal : IsJournalOf limit i posts used file
