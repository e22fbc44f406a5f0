-- The texts of the grammar, and where bytes depart from all of them. No reader stands in here.
-- Source: this project's own format.
use Rattle.std.specs.Prelude.{◌≡◌, ℕ, ◌+◌, List, [], ◌∷◌, ◌++◌, length, All, ⊤, Result, Ok, Err}
use Rattle.certificate.specs.declared.Cert.{Cert}
use Rattle.certificate.specs.declared.fault.CertText.{CertText}
use Rattle.certificate.specs.declared.fault.CertText.TheVariants.{Departs, NoMemory}
use Rattle.certificate.specs.Text.{cert_lines, cert_text, HasText}
use Rattle.certificate.specs.LineText.{Line, lines_text}

-- a line without a line feed in it
abbrev pub IsLine : Line → Type 0
IsLine line = All (λ byte. byte ≡ 10 → ⊥) line

-- a line that begins with `#`, of any bytes
abbrev pub IsNote : Line → Type 0
IsNote [] = ⊥
IsNote (byte ∷ rest) = (byte ≡ 35) × IsLine rest

-- these lines are those of the certificate, and notes behind them
pub record IsText (c : Cert) (lines : List Line) : Type 0 where
  pub has : HasText c
  pub notes : List Line
  pub are_notes : All IsNote notes
  pub is : lines ≡ cert_lines c ++ notes

-- the bytes are a text of the certificate
pub record Spells (bytes : List ℕ) (c : Cert) : Type 0 where
  pub lines : List Line
  pub is_text : IsText c lines
  pub is : bytes ≡ lines_text lines

-- some text begins with these lines
pub record Begins (front : List Line) : Type 0 where
  pub cert : Cert
  pub after : List Line
  pub is_text : IsText cert (front ++ after)

-- The bytes are a text of no certificate. Some text begins with their first lines, which are so many; and where a line follows, none begins
-- with that line behind them.
pub record DepartBehind (bytes : List ℕ) (count : ℕ) : Type 0 where
  pub none : (c : Cert) → Spells bytes c → ⊥
  pub front : List Line
  pub rest : List ℕ
  pub is : bytes ≡ lines_text front ++ rest
  pub counted : length front ≡ count
  pub before : Begins front
  pub there : (line : Line) (more : List ℕ) → IsLine line → rest ≡ line ++ 10 ∷ more → Begins (front ++ line ∷ []) → ⊥

-- why bytes aren't read: the line of that number, from 1 on, is the first that departs; or no memory is left
abbrev pub IsFaultOf : List ℕ → CertText → Type 0
IsFaultOf bytes (Departs line) = (count : ℕ) × (line ≡ count + 1) × DepartBehind bytes count
IsFaultOf bytes NoMemory = ⊤

-- the answer is this certificate, unless memory ran out
abbrev pub GivesCert : Result Cert CertText → Cert → Type 0
GivesCert (Ok found) c = found ≡ c
GivesCert (Err (Departs line)) c = ⊥
GivesCert (Err NoMemory) c = ⊤

-- what is written of a certificate is a text of it
abbrev pub EachIsWritten : Type 0
EachIsWritten = (c : Cert) → HasText c → Spells (cert_text c) c

-- no bytes are texts of two certificates
abbrev pub EachSpellsOnce : Type 0
EachSpellsOnce = (bytes : List ℕ) (c d : Cert) → Spells bytes c → Spells bytes d → c ≡ d

-- every text of a certificate is what is written of it, and notes behind that
abbrev pub EachBeginsAlike : Type 0
EachBeginsAlike = (bytes : List ℕ) (c : Cert) → Spells bytes c → (notes : List Line) × All IsNote notes × (bytes ≡ cert_text c ++ lines_text notes)

-- no bytes depart behind two numbers of lines
abbrev pub EachDepartsOnce : Type 0
EachDepartsOnce = (bytes : List ℕ) (m n : ℕ) → DepartBehind bytes m → DepartBehind bytes n → m ≡ n
