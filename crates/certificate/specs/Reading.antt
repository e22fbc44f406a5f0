-- How the lines of a text are read, one after the other. Contracts of private functions speak of it; what `read` answers is told without it.
use Rattle.std.specs.Prelude.{◌≡◌, ℕ, ◌-◌, ◌^◌, ◌<◌, Bool, true, false, nat_lt, ◌==◌, if◌then◌else◌, List, [], ◌∷◌, ◌++◌, length, bytes_eq, All, Option, Some, None, option_map, Result, Ok, Err, codes}
use Rattle.shift_instance.specs.declared.Row.{Row}
use Rattle.certificate.specs.declared.Cert.{Cert}
use Rattle.certificate.specs.declared.CertStatus.{CertStatus}
use Rattle.certificate.specs.declared.CertStatus.TheVariants.{Optimal, Stopped, Bound}
use Rattle.certificate.specs.declared.proof_lines.Line.{Line as ProofLine}
use Rattle.post_codec.specs.declared.fault.Stop.{Stop}
use Rattle.post_codec.specs.declared.fault.Stop.TheVariants.{Memory, Left}
use Rattle.certificate.specs.LineText.{Line, lines_text}
use Rattle.certificate.specs.Departing.{IsLine, IsNote}
use Rattle.certificate.specs.Words.{Words, kept, number_in, word_in, led_by, row_in, line_at, next, made, times, proof_line_in, proof_count_in}
use Rattle.post_codec.specs.Reading.{Reader}

-- the word of a status
abbrev pub status_word_in : Words CertStatus
status_word_in text = if bytes_eq text (codes "optimal") then Some Optimal else (if bytes_eq text (codes "stopped") then Some Stopped else (if bytes_eq text (codes "bound") then Some Bound else None))

-- a status
unfoldable pub status_in : Words CertStatus
status_in line = led_by (codes "status ") status_word_in line

-- a number up to a limit, or `-`
unfoldable pub number_or_dash : ℕ → Words (Option ℕ)
number_or_dash most text = if bytes_eq text (codes "-") then Some None else option_map Some (number_in most text)

-- whether a status allows a cost: a bound alone has none, and a bound is to be below the cost of a search that was stopped
abbrev pub allows_cost : CertStatus → Option ℕ → Bool
allows_cost Optimal None = false
allows_cost Optimal (Some cost) = true
allows_cost Stopped None = false
allows_cost Stopped (Some cost) = nat_lt 0 cost
allows_cost Bound None = true
allows_cost Bound (Some cost) = false

-- a cost that the status allows
unfoldable pub cost_in : CertStatus → Words (Option ℕ)
cost_in status line = kept (allows_cost status) (led_by (codes "cost ") (number_or_dash (2 ^ 64 - 1)) line)

-- whether a status allows a bound with a cost
abbrev pub allows_bound : CertStatus → Option ℕ → ℕ → Bool
allows_bound Optimal None bound = false
allows_bound Optimal (Some cost) bound = cost == bound
allows_bound Stopped None bound = false
allows_bound Stopped (Some cost) bound = nat_lt bound cost
allows_bound Bound None bound = true
allows_bound Bound (Some cost) bound = false

-- a bound that the status allows with the cost
unfoldable pub bound_in : CertStatus → Option ℕ → Words ℕ
bound_in status cost line = kept (allows_bound status cost) (led_by (codes "bound ") (number_in (2 ^ 64 - 1)) line)

-- whether there is a number of rows exactly where there is a cost
abbrev pub go_together : Option ℕ → Option ℕ → Bool
go_together None None = true
go_together None (Some count) = false
go_together (Some cost) None = false
go_together (Some cost) (Some count) = true

-- a number of rows, where there is a cost
unfoldable pub count_in : Option ℕ → Words (Option ℕ)
count_in cost line = kept (go_together cost) (led_by (codes "rows ") (number_or_dash (2 ^ 32 - 1)) line)

-- the title and the status
unfoldable pub opening_at : Reader CertStatus
opening_at bytes = made (λ x. x.1) (next (line_at (word_in (codes "shift-report 1"))) (λ _. line_at status_in)) bytes

-- the cost and the bound
unfoldable pub limits_at : CertStatus → Reader (Option ℕ × ℕ)
limits_at status bytes = next (line_at (cost_in status)) (λ cost. line_at (bound_in status cost)) bytes

-- a number, or 0
abbrev pub or_zero : Option ℕ → ℕ
or_zero None = 0
or_zero (Some n) = n

-- the number of rows, and the rows
unfoldable pub rows_at : Option ℕ → Reader (List Row)
rows_at cost bytes = made (λ x. x.1) (next (line_at (count_in cost)) (λ count. times (line_at row_in) (or_zero count))) bytes

-- the number of proof lines, and the proof lines
unfoldable pub proof_at : Reader (List ProofLine)
proof_at bytes = made (λ x. x.1) (next (line_at proof_count_in) (λ count. times (line_at proof_line_in) count)) bytes

-- the proof lines, and the end
unfoldable pub closing_at : Reader (List ProofLine)
closing_at bytes = made (λ x. x.0) (next proof_at (λ _. line_at (word_in (codes "end")))) bytes

-- the plan of a cost and rows
abbrev pub plan_of : Option ℕ → List Row → Option (ℕ × List Row)
plan_of None rows = None
plan_of (Some cost) rows = Some (cost, rows)

-- the certificate of a status, a cost, a bound, rows and proof lines
abbrev pub to_cert : CertStatus × ((Option ℕ × ℕ) × (List Row × List ProofLine)) → Cert
to_cert x = record { status = x.0; plan = plan_of x.1.0.0 x.1.1.0; bound = x.1.0.1; lines = x.1.1.1 }

-- a certificate
unfoldable pub cert_at : Reader Cert
cert_at bytes = made to_cert (next opening_at (λ status. next (limits_at status) (λ limits. next (rows_at limits.0) (λ _. closing_at)))) bytes

-- ---- notes

-- whether a line begins with `#`
abbrev pub begins_note : Line → Bool
begins_note [] = false
begins_note (b ∷ rest) = b == 35

-- the bytes are these notes
pub record AreNotes (bytes : List ℕ) : Type 0 where
  pub notes : List Line
  pub are : All IsNote notes
  pub is : bytes ≡ lines_text notes

-- the bytes are notes, and behind them other bytes, which begin with no note
pub record LeaveNotes (bytes : List ℕ) (left : ℕ) : Type 0 where
  pub notes : List Line
  pub are : All IsNote notes
  pub rest : List ℕ
  pub is : bytes ≡ lines_text notes ++ rest
  pub length_left : length rest ≡ left
  pub some : 0 < left
  pub no_note : (line : Line) (more : List ℕ) → IsLine line → rest ≡ line ++ 10 ∷ more → IsNote line → ⊥

-- bytes are notes, or stop to be so many bytes before their end, or memory ran out
abbrev pub AnswersNotes : List ℕ → Result (Unit {0}) Stop → Type 0
AnswersNotes bytes (Ok x) = AreNotes bytes
AnswersNotes bytes (Err Memory) = Unit {0}
AnswersNotes bytes (Err (Left n)) = LeaveNotes bytes n

-- a certificate's lines stop so many bytes before the end, or the notes behind them do
pub data IsStopped (bytes : List ℕ) (left : ℕ) : Type 0 where
  InLines : cert_at bytes ≡ Err left → IsStopped bytes left
  InNotes : (c : Cert) → (rest : List ℕ) → cert_at bytes ≡ Ok (c, rest) → LeaveNotes rest left → IsStopped bytes left

-- the certificate of a text with its notes, or where the text stops to be one, or running out of memory
abbrev pub AnswersWhole : List ℕ → Result Cert Stop → Type 0
AnswersWhole bytes (Ok c) = (rest : List ℕ) × (cert_at bytes ≡ Ok (c, rest)) × AreNotes rest
AnswersWhole bytes (Err Memory) = Unit {0}
AnswersWhole bytes (Err (Left n)) = IsStopped bytes n
