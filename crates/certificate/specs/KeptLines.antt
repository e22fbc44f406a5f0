-- Proof lines that are kept as their text, and how they are read one after another.
use Rattle.std.specs.Prelude.{◌≡◌, ℕ, List, [], ◌∷◌, length, map, All, Option, Some, None, Result, Ok, Err}
use Rattle.certificate.specs.declared.proof_lines.Line.{Line as ProofLine}
use Rattle.certificate.specs.LineText.{lines_text, proof_line, FitsLine}
use Rattle.certificate.specs.Words.{line_at, times, any_line_in}

-- the values that are read, and none where there is a fault
abbrev pub read_or_none : {A : Type 0} → Result (List A × List ℕ) ℕ → List A
read_or_none (Ok x) = x.0
read_or_none (Err left) = []

-- so many proof lines of a text
abbrev pub lines_in : ℕ → List ℕ → List ProofLine
lines_in count text = read_or_none (times (line_at any_line_in) count text)

-- the text is that of so many proof lines, whose numbers fit their fields
pub record AreLines (count : ℕ) (text : List ℕ) : Type 0 where
  pub lines : List ProofLine
  pub is : text ≡ lines_text (map proof_line lines)
  pub counted : length lines ≡ count
  pub fit : All FitsLine lines

-- the first of some proof lines was read, and the others are left; or there was none
abbrev pub Reads : Option ProofLine → List ProofLine → List ProofLine → Type 0
Reads None old new = (old ≡ []) × (new ≡ [])
Reads (Some line) old new = old ≡ line ∷ new
