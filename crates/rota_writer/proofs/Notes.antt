-- A table is lines of notes, so the text of a certificate with a table behind it is a text of that certificate.
use Rattle.rota_writer.proofs.Common.{ℕ, List, [], ◌∷◌, ◌++◌, refl, sym, ap, ◌∙◌, Option, Some, None, codes, slice_get, option_map_or, decimal, All-nil, All-cons, All-append, Row, Problem, shift_list, IsValid, IsLine, IsNote, Spells, period_text, breaks_text, day_number, name_of, crew_text, line_of, row_table_line, table_text}
use Rattle.std.proofs.lemmas.Grind.{flat_map-append}
use Rattle.std.proofs.lemmas.List.{append-nil}
use Rattle.break_rules.specs.declared.Rule.{Rule}
use Rattle.shift_instance.specs.declared.Shift.{Shift}
use Rattle.certificate.specs.declared.Cert.{Cert}
use Rattle.certificate.specs.LineText.{Line, line_text, lines_text}
use Rattle.certificate.specs.Text.{HasText, cert_lines, cert_text}
use Rattle.rota_writer.specs.Notes.{AreNotes, TablesAreNotes, TextsTakeTables}
use Rattle.rota_writer.proofs.Feedless.{plain, joins, decimal_line, period_line, breaks_line, name_line}

-- ---- notes behind one another

pub no_notes : AreNotes []
no_notes = record { notes = []; are_notes = All-nil IsNote; is = refl }

one_note : (note : Line) → IsNote note → AreNotes (line_text note)
one_note note h = record { notes = note ∷ []; are_notes = All-cons IsNote note [] h (All-nil IsNote); is = sym (append-nil (line_text note)) }

both : (a b : List ℕ) → AreNotes a → AreNotes b → AreNotes (a ++ b)
both a b p q = record {
  notes = p.notes ++ q.notes;
  are_notes = All-append IsNote p.notes q.notes p.are_notes q.are_notes;
  is = ap (λ (t : List ℕ). t ++ b) p.is ∙ ap (λ (t : List ℕ). lines_text p.notes ++ t) q.is ∙ sym (flat_map-append line_text p.notes q.notes);
}

-- ---- the line of a row

-- how a line begins, without its `#`
abbrev begin_of : Problem → Shift → ℕ → List ℕ
begin_of i shift day = codes " day " ++ decimal (day_number i shift day) ++ codes " " ++ period_text i shift.start shift.len

begin_line : (i : Problem) (shift : Shift) (day : ℕ) → IsLine (begin_of i shift day)
begin_line i shift day =
    let number : List ℕ = decimal (day_number i shift day) in
    let front : IsLine (codes " day " ++ number) = joins (codes " day ") number (plain (codes " day ") refl) (decimal_line (day_number i shift day)) in
    joins (codes " day " ++ number ++ codes " ") (period_text i shift.start shift.len) (joins (codes " day " ++ number) (codes " ") front (plain (codes " ") refl))
    (period_line i shift.start shift.len)

crew_line : (i : Problem) (shift : Shift) (count : ℕ) → IsValid i → IsLine (crew_text i shift count)
crew_line i shift count valid =
    let front : IsLine (codes " x" ++ decimal count) = joins (codes " x") (decimal count) (plain (codes " x") refl) (decimal_line count) in
    joins (codes " x" ++ decimal count ++ codes " ") (name_of i shift.kind) (joins (codes " x" ++ decimal count) (codes " ") front (plain (codes " ") refl)) (name_line i shift.kind valid)

-- the line of a row without its line feed, and without its `#`
abbrev rest_of : Problem → Shift → Row → Line
rest_of i shift r = begin_of i shift r.day ++ crew_text i shift r.count ++ codes " " ++ breaks_text i shift.start r.breaks

rest_line : (i : Problem) (shift : Shift) (r : Row) → IsValid i → IsLine (rest_of i shift r)
rest_line i shift r valid =
    let begin : List ℕ = begin_of i shift r.day in
    let crew : List ℕ = crew_text i shift r.count in
    let front : IsLine (begin ++ crew) = joins begin crew (begin_line i shift r.day) (crew_line i shift r.count valid) in
    joins (begin ++ crew ++ codes " ") (breaks_text i shift.start r.breaks) (joins (begin ++ crew) (codes " ") front (plain (codes " ") refl)) (breaks_line i shift.start r.breaks)

line_notes : (i : Problem) (shift : Shift) (r : Row) → IsValid i → AreNotes (line_of i shift r)
line_notes i shift r valid = one_note (35 ∷ rest_of i shift r) (refl, rest_line i shift r valid)

-- ---- the table

row_notes : (i : Problem) (r : Row) (found : Option (Shift × Rule)) → IsValid i → AreNotes (option_map_or (λ x. line_of i x.0 r) found [])
row_notes i r None valid = no_notes
row_notes i r (Some x) valid = line_notes i x.0 r valid

pub table_notes : TablesAreNotes
table_notes i [] valid = no_notes
table_notes i (r ∷ rows) valid = both (row_table_line i r) (table_text i rows) (row_notes i r (slice_get (shift_list i) r.shift) valid) (table_notes i rows valid)

-- ---- the text of a certificate with notes behind it

pub text_before_notes : (c : Cert) (bytes : List ℕ) → HasText c → AreNotes bytes → Spells (cert_text c ++ bytes) c
unfolding cert_text
text_before_notes c bytes has n = record {
  lines = cert_lines c ++ n.notes;
  is_text = record { has = has; notes = n.notes; are_notes = n.are_notes; is = refl };
  is = ap (λ (t : List ℕ). cert_text c ++ t) n.is ∙ sym (flat_map-append line_text (cert_lines c) n.notes);
}

pub texts_take_tables : TextsTakeTables
texts_take_tables i rows c valid has = text_before_notes c (table_text i rows) has (table_notes i rows valid)
