-- The text of a certificate, line by line. A line stands without its line feed.
-- Source: this project's own format.
use Rattle.std.specs.Prelude.{◌≡◌, ℕ, ◌<◌, ◌^◌, List, [], ◌∷◌, ◌++◌, length, map, All, Option, Some, None, codes}
use Rattle.std.specs.Fmt.{decimal}
use Rattle.shift_instance.specs.declared.Row.{Row}
use Rattle.certificate.specs.declared.Cert.{Cert}
use Rattle.certificate.specs.declared.CertStatus.{CertStatus}
use Rattle.certificate.specs.declared.CertStatus.TheVariants.{Optimal, Stopped, Bound}
use Rattle.certificate.specs.declared.proof_lines.Line.{Line as ProofLine}
use Rattle.certificate.specs.LineText.{Line, row_line, proof_line, lines_text, HasSlot, FitsRow, FitsLine}

-- proof lines, with their number before them
abbrev pub proof_lines : List ProofLine → List Line
proof_lines lines = (codes "proof " ++ decimal (length lines)) ∷ map proof_line lines

-- the word of a status
abbrev pub status_text : CertStatus → List ℕ
status_text Optimal = codes "optimal"
status_text Stopped = codes "stopped"
status_text Bound = codes "bound"

-- the cost of a plan, and `-` where there is none
abbrev pub cost_text : Option (ℕ × List Row) → List ℕ
cost_text None = codes "-"
cost_text (Some p) = decimal p.0

-- the number of a plan's rows, and `-` where there is no plan
abbrev pub rows_text : Option (ℕ × List Row) → List ℕ
rows_text None = codes "-"
rows_text (Some p) = decimal (length p.1)

-- the rows of a plan, and none where there is no plan
abbrev pub rows_of : Option (ℕ × List Row) → List Row
rows_of None = []
rows_of (Some p) = p.1

-- the lines of a plan and a bound: the cost, the bound, and the rows with their number
abbrev pub plan_lines : Option (ℕ × List Row) → ℕ → List Line
plan_lines plan bound =
    (codes "cost " ++ cost_text plan)
    ∷ (codes "bound " ++ decimal bound)
    ∷ (codes "rows " ++ rows_text plan)
    ∷ map row_line (rows_of plan)

-- the lines of a certificate: its title and its status, its plan and its bound, its proof lines with their number, and `end`
abbrev pub cert_lines : Cert → List Line
cert_lines c =
    codes "shift-report 1"
    ∷ (codes "status " ++ status_text c.status)
    ∷ (plan_lines c.plan c.bound ++ (proof_lines c.lines ++ codes "end" ∷ []))

-- the text of a certificate up to the line `end`
unfoldable pub cert_text : Cert → List ℕ
cert_text c = lines_text (cert_lines c)

-- what a status says of a plan and a bound: an optimal plan costs the bound, a search that was stopped has a plan above
-- the bound, and a bound alone has no plan
abbrev pub AgreesWith : CertStatus → Option (ℕ × List Row) → ℕ → Type 0
AgreesWith Optimal None bound = ⊥
AgreesWith Optimal (Some p) bound = p.0 ≡ bound
AgreesWith Stopped None bound = ⊥
AgreesWith Stopped (Some p) bound = bound < p.0
AgreesWith Bound None bound = Unit {0}
AgreesWith Bound (Some p) bound = ⊥

-- The status agrees with the plan and the bound, there are fewer than 2^32 rows and fewer than 2^32 proof lines, and each
-- price set has a price for some slot.
pub record Agrees (c : Cert) : Type 0 where
  pub status : AgreesWith c.status c.plan c.bound
  pub few : length (rows_of c.plan) < 2 ^ 32
  pub few_lines : length c.lines < 2 ^ 32
  pub slots : All HasSlot c.lines

-- the cost of a plan fits its field
abbrev pub FitsCost : Option (ℕ × List Row) → Type 0
FitsCost None = Unit {0}
FitsCost (Some p) = p.0 < 2 ^ 64

-- each number of a certificate fits its field
pub record Fits (c : Cert) : Type 0 where
  pub cost : FitsCost c.plan
  pub bound : c.bound < 2 ^ 64
  pub rows : All FitsRow (rows_of c.plan)
  pub lines : All FitsLine c.lines

-- a certificate that has a text
pub record HasText (c : Cert) : Type 0 where
  pub agrees : Agrees c
  pub fits : Fits c
