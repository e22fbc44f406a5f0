-- What a table is to whoever reads the certificate before it.
use Rattle.std.specs.Prelude.{◌≡◌, ℕ, List, ◌++◌, All}
use Rattle.shift_instance.specs.declared.Row.{Row}
use Rattle.shift_instance.specs.Problem.{Problem}
use Rattle.shift_instance.specs.Valid.{IsValid}
use Rattle.certificate.specs.declared.Cert.{Cert}
use Rattle.certificate.specs.Departing.{IsNote, Spells}
use Rattle.certificate.specs.LineText.{Line, lines_text}
use Rattle.certificate.specs.Text.{HasText, cert_text}
use Rattle.rota_writer.specs.Table.{table_text}

-- these bytes are lines of notes
pub record AreNotes (bytes : List ℕ) : Type 0 where
  pub notes : List Line
  pub are_notes : All IsNote notes
  pub is : bytes ≡ lines_text notes

-- the table of any rows, for a valid instance, is lines of notes
abbrev pub TablesAreNotes : Type 0
TablesAreNotes = (i : Problem) (rows : List Row) → IsValid i → AreNotes (table_text i rows)

-- the text of a certificate with a table behind it is a text of that certificate
abbrev pub TextsTakeTables : Type 0
TextsTakeTables = (i : Problem) (rows : List Row) (c : Cert) → IsValid i → HasText c → Spells (cert_text c ++ table_text i rows) c
