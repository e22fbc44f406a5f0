-- Columns of a text that people read.
use Rattle.std.specs.Prelude.{ℕ, ◌-◌, List, ◌++◌, length, replicate}

-- a text at the right end of a column of so many bytes, behind spaces; a longer text stands as it is
unfoldable pub at_right : ℕ → List ℕ → List ℕ
at_right width text = replicate (width - length text) 32 ++ text

-- a text at the left end of such a column
unfoldable pub at_left : ℕ → List ℕ → List ℕ
at_left width text = text ++ replicate (width - length text) 32
