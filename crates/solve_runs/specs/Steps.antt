-- The records of the steps of a run.
use Rattle.std.specs.Prelude.{ℕ, ◌+◌, List, [], ◌∷◌}
use Rattle.post_codec.specs.declared.post.Post.{Post}
use Rattle.search_core.specs.Board.{bytes_of}

-- the bytes of the records of steps
abbrev pub bytes_in : List (List Post) → ℕ
bytes_in [] = 0
bytes_in (posts ∷ more) = bytes_of posts + bytes_in more
