-- Where the book of a search began.
use Rattle.std.specs.Prelude.{ℕ, Bool, true, false, List, Option, Some, None}
use Rattle.post_codec.specs.declared.post.Post.{Post}
use Rattle.search_core.specs.declared.board.Origin.{Origin}

-- whether a disk tells its content
abbrev pub tells : Option (List ℕ) → Bool
tells None = false
tells (Some file) = true

abbrev pub origin_at : List Post → ℕ → ℕ → ℕ → Bool → Origin
origin_at history moment faults limit told = record { history = history; moment = moment; faults = faults; limit = limit; tells = told }
