-- Bytes are read as a certificate exactly where they are a text of it, and else the fault is where they depart from every text.
use Rattle.certificate.proofs.Common.{◌≡◌, ℕ, ◌+◌, ◌-◌, ◌<◌, false, cond, eqb, List, [], ◌∷◌, ◌++◌, length, take, Ok, Err, refl, sym, ap, subst, ◌∙◌, append_assoc, arith, length-append, All, count_by, sum_by, ne_eqb, append-nil, take_at, All-nil, All-cons, All-head, All-tail, All-append, sum_by-append, Cert, Stop, Memory, Left, cert_lines, HasText, Line, lines_text, IsLine, IsNote, Spells, Begins, IsFaultOf, cert_at, AreNotes, LeaveNotes, AnswersNotes, IsStopped, InLines, InNotes, AnswersWhole, cut_at}
use Rattle.certificate.specs.declared.fault.CertText.TheVariants.{Departs}
use Rattle.certificate.proofs.Spelling.{some_of, same_some, cut_again}
use Rattle.certificate.proofs.LineReading.{right, same_ok, no_fault, Stopping, line_lacks, text_append, cancel, only_value}
use Rattle.certificate.proofs.Certs.{cert_reads}

-- ---- notes

pub note_is_line : (line : Line) → IsNote line → IsLine line
note_is_line [] h = absurd h
note_is_line (b ∷ rest) h = let is : b ≡ 35 = h.0 in All-cons (λ c. c ≡ 10 → ⊥) b rest (λ e. absurd (omega arith)) h.1

-- two texts that begin with a line begin with the same one
pub record SameLine (l m : Line) (x y : List ℕ) : Type 0 where
  pub line : l ≡ m
  pub rest : x ≡ y

pub same_line : (l m : Line) (x y : List ℕ) → IsLine l → IsLine m → l ++ 10 ∷ x ≡ m ++ 10 ∷ y → SameLine l m x y
same_line l m x y h k e =
    let both : some_of (l, x) ≡ some_of (m, y) = sym (cut_again 10 l x (line_lacks l h)) ∙ ap (cut_at 10) e ∙ cut_again 10 m y (line_lacks m k) in
    let same = same_some (l, x) (m, y) both in
    record { line = ap (λ (p : List ℕ × List ℕ). p.0) same; rest = ap (λ (p : List ℕ × List ℕ). p.1) same }

pub first_of_text : (l : Line) (ls : List Line) → lines_text (l ∷ ls) ≡ l ++ 10 ∷ lines_text ls
first_of_text l ls = append_assoc l (10 ∷ []) (lines_text ls)

abbrev NoNote : List ℕ → Type 0
NoNote rest = (line : Line) (more : List ℕ) → IsLine line → rest ≡ line ++ 10 ∷ more → IsNote line → ⊥

no_more : (m : Line) (x : List ℕ) → [] ≡ m ++ 10 ∷ x → ⊥
no_more m x e = let len = ap length e ∙ length-append m (10 ∷ x) in absurd (omega arith)

notes_apart : (ns ms : List Line) (rest : List ℕ) → All IsNote ns → All IsNote ms → lines_text ns ≡ lines_text ms ++ rest → 0 < length rest → NoNote rest → ⊥
notes_apart [] [] rest h k e some none = absurd (let len = ap length e in omega arith)
notes_apart (n ∷ ns) [] rest h k e some none =
    let note = All-head IsNote n ns h in
    none n (lines_text ns) (note_is_line n note) (sym e ∙ first_of_text n ns) note
notes_apart [] (m ∷ ms) rest h k e some none =
    no_more m (lines_text ms ++ rest) (e ∙ ap (λ (l : List ℕ). l ++ rest) (first_of_text m ms) ∙ append_assoc m (10 ∷ lines_text ms) rest)
notes_apart (n ∷ ns) (m ∷ ms) rest h k e some none =
    let whole : n ++ 10 ∷ lines_text ns ≡ m ++ 10 ∷ (lines_text ms ++ rest) = sym (first_of_text n ns) ∙ e ∙ ap (λ (l : List ℕ). l ++ rest) (first_of_text m ms) ∙ append_assoc m (10 ∷ lines_text ms) rest in
    let same = same_line n m (lines_text ns) (lines_text ms ++ rest) (note_is_line n (All-head IsNote n ns h)) (note_is_line m (All-head IsNote m ms k)) whole in
    notes_apart ns ms rest (All-tail IsNote n ns h) (All-tail IsNote m ms k) same.rest some none

notes_or_not : (rest : List ℕ) (left : ℕ) → AreNotes rest → LeaveNotes rest left → ⊥
notes_or_not rest left a l =
    let some : 0 < length l.rest = let len = l.length_left in let lt = l.some in omega arith in
    notes_apart a.notes l.notes l.rest a.are l.are (sym a.is ∙ l.is) some l.no_note

last_note : (notes : List Line) (line : Line) (after : List Line) → All IsNote ((notes ++ line ∷ []) ++ after) → IsNote line
last_note [] line after h = All-head IsNote line after h
last_note (n ∷ notes) line after h = last_note notes line after (All-tail IsNote n ((notes ++ line ∷ []) ++ after) h)

pub notes_lines : (notes : List Line) → All IsNote notes → All IsLine notes
notes_lines [] h = All-nil IsLine
notes_lines (n ∷ notes) h = All-cons IsLine n notes (note_is_line n (All-head IsNote n notes h)) (notes_lines notes (All-tail IsNote n notes h))

-- ---- texts

pub spells : (bytes : List ℕ) (c : Cert) (rest : List ℕ) → cert_at bytes ≡ Ok (c, rest) → AreNotes rest → Spells bytes c
spells bytes c rest e n =
    let t = cert_reads.takes bytes (c, rest) e in
    record {
      lines = cert_lines c ++ n.notes;
      is_text = record { has = t.fits; notes = n.notes; are_notes = n.are; is = refl };
      is = t.parts ∙ ap (λ (l : List ℕ). lines_text (cert_lines c) ++ l) n.is ∙ sym (text_append (cert_lines c) n.notes);
    }

-- a text is read, up to its notes
pub record ReadBack (bytes : List ℕ) (c : Cert) : Type 0 where
  pub rest : List ℕ
  pub read : cert_at bytes ≡ Ok (c, rest)
  pub notes : AreNotes rest

pub read_back : (bytes : List ℕ) (c : Cert) → Spells bytes c → ReadBack bytes c
read_back bytes c s =
    let notes : List Line = s.is_text.notes in
    let is : bytes ≡ lines_text (cert_lines c) ++ lines_text notes = s.is ∙ ap lines_text s.is_text.is ∙ text_append (cert_lines c) notes in
    record { rest = lines_text notes; read = ap cert_at is ∙ cert_reads.again c (lines_text notes) s.is_text.has; notes = record { notes = notes; are = s.is_text.are_notes; is = refl } }

pub stopped_none : (bytes : List ℕ) (left : ℕ) → IsStopped bytes left → (c : Cert) → Spells bytes c → ⊥
stopped_none bytes left (InLines e) c s = let b = read_back bytes c s in no_fault (c, b.rest) left (sym b.read ∙ e)
stopped_none bytes left (InNotes d rest e l) c s =
    let b = read_back bytes c s in
    let same : right (c, b.rest) ≡ right (d, rest) = sym b.read ∙ e in
    let r : b.rest ≡ rest = ap (λ (p : Cert × List ℕ). p.1) (same_ok (c, b.rest) (d, rest) same) in
    notes_or_not rest left (subst AreNotes r b.notes) l

-- ---- the number of a line

abbrev feeds : ℕ → ℕ
feeds b = cond (eqb b 10) 1 0

count_line : (line : Line) → IsLine line → sum_by feeds line ≡ 0
count_line [] h = refl
count_line (b ∷ line) h =
    let other : eqb b 10 ≡ false = ne_eqb b 10 (All-head (λ c. c ≡ 10 → ⊥) b line h) in
    let one : sum_by feeds (b ∷ []) ≡ 0 = rw other refl in
    let parts : sum_by feeds (b ∷ line) ≡ sum_by feeds (b ∷ []) + sum_by feeds line = sum_by-append feeds (b ∷ []) line in
    let rest = count_line line (All-tail (λ c. c ≡ 10 → ⊥) b line h) in
    parts ∙ omega arith

count_lines : (lines : List Line) → All IsLine lines → sum_by feeds (lines_text lines) ≡ length lines
count_lines [] h = refl
count_lines (l ∷ ls) h =
    let whole : sum_by feeds (lines_text (l ∷ ls)) ≡ sum_by feeds (l ++ 10 ∷ []) + sum_by feeds (lines_text ls) = sum_by-append feeds (l ++ 10 ∷ []) (lines_text ls) in
    let first : sum_by feeds (l ++ 10 ∷ []) ≡ sum_by feeds l + 1 = sum_by-append feeds l (10 ∷ []) in
    let none = count_line l (All-head IsLine l ls h) in
    let rest = count_lines ls (All-tail IsLine l ls h) in
    whole ∙ omega arith

-- ---- where the bytes depart

-- the lines before the fault, and what stands there
pub record Place (bytes : List ℕ) (left : ℕ) : Type 0 where
  pub front : List Line
  pub rest : List ℕ
  pub is : bytes ≡ lines_text front ++ rest
  pub length_left : length rest ≡ left
  pub are_lines : All IsLine front
  pub before : Begins front
  pub there : (line : Line) (more : List ℕ) → IsLine line → rest ≡ line ++ 10 ∷ more → Begins (front ++ line ∷ []) → ⊥

in_lines : (bytes : List ℕ) (left : ℕ) → Stopping HasText cert_lines bytes left → Place bytes left
in_lines bytes left p = record {
  front = p.front;
  rest = p.rest;
  is = p.is;
  length_left = p.length_left;
  are_lines = p.are_lines;
  before = record { cert = p.before.value; after = p.before.after; is_text = record { has = p.before.fits; notes = []; are_notes = All-nil IsNote; is = p.before.is ∙ sym (append-nil (cert_lines p.before.value)) } };
  there = λ line more is_line e b. p.there line more is_line e (record { value = b.cert; fits = b.is_text.has; after = b.after; further = b.is_text.notes; is = b.is_text.is });
}

in_notes : (bytes : List ℕ) (left : ℕ) (c : Cert) (rest : List ℕ) → cert_at bytes ≡ Ok (c, rest) → LeaveNotes rest left → Place bytes left
in_notes bytes left c rest e l =
    let t = cert_reads.takes bytes (c, rest) e in
    record {
      front = cert_lines c ++ l.notes;
      rest = l.rest;
      is = t.parts ∙ ap (λ (x : List ℕ). lines_text (cert_lines c) ++ x) l.is ∙ sym (append_assoc (lines_text (cert_lines c)) (lines_text l.notes) l.rest) ∙ ap (λ (x : List ℕ). x ++ l.rest) (sym (text_append (cert_lines c) l.notes));
      length_left = l.length_left;
      are_lines = All-append IsLine (cert_lines c) l.notes (cert_reads.are_lines c t.fits) (notes_lines l.notes l.are);
      before = record { cert = c; after = []; is_text = record { has = t.fits; notes = l.notes; are_notes = l.are; is = append-nil (cert_lines c ++ l.notes) } };
      there = λ line more is_line q b.
          let further : List Line = (l.notes ++ line ∷ []) ++ b.after in
          let whole : cert_lines c ++ further ≡ cert_lines b.cert ++ b.is_text.notes =
          sym (append_assoc (cert_lines c) (l.notes ++ line ∷ []) b.after) ∙ ap (λ (x : List Line). x ++ b.after) (sym (append_assoc (cert_lines c) l.notes (line ∷ []))) ∙ b.is_text.is in
          let same : c ≡ b.cert = only_value HasText cert_lines cert_at cert_reads c b.cert t.fits b.is_text.has further b.is_text.notes whole in
          let notes : further ≡ b.is_text.notes = cancel (cert_lines c) further b.is_text.notes (whole ∙ ap (λ (d : Cert). cert_lines d ++ b.is_text.notes) (sym same)) in
          l.no_note line more is_line q (last_note l.notes line b.after (subst (All IsNote) (sym notes) b.is_text.are_notes));
    }

place : (bytes : List ℕ) (left : ℕ) → IsStopped bytes left → Place bytes left
place bytes left (InLines e) = in_lines bytes left (cert_reads.stops bytes left e)
place bytes left (InNotes c rest e l) = in_notes bytes left c rest e l

placed_count : (bytes : List ℕ) (left : ℕ) (p : Place bytes left) → count_by (λ b. eqb b 10) (take (length bytes - left) bytes) ≡ length p.front
placed_count bytes left p =
    let len : length bytes ≡ length (lines_text p.front) + length p.rest = ap length p.is ∙ length-append (lines_text p.front) p.rest in
    let front : length (lines_text p.front) ≡ length bytes - left = let same = p.length_left in omega arith in
    let taken : take (length bytes - left) bytes ≡ lines_text p.front = ap (take (length bytes - left)) p.is ∙ take_at (lines_text p.front) p.rest (length bytes - left) front in
    ap (count_by (λ b. eqb b 10)) taken ∙ count_lines p.front p.are_lines

-- where bytes stop to be a text, they depart behind as many lines as line feeds stand before
pub departs : (bytes : List ℕ) (left line : ℕ) → IsStopped bytes left → line ≡ count_by (λ b. eqb b 10) (take (length bytes - left) bytes) + 1 → IsFaultOf bytes (Departs line)
departs bytes left line s e =
    let p = place bytes left s in
    (length p.front, e ∙ ap (λ (n : ℕ). n + 1) (placed_count bytes left p), record { none = stopped_none bytes left s; front = p.front; rest = p.rest; is = p.is; counted = refl; before = p.before; there = p.there })

-- what is read is each certificate that the bytes spell
pub same_cert : (bytes : List ℕ) (found c : Cert) (rest : List ℕ) → cert_at bytes ≡ Ok (found, rest) → Spells bytes c → found ≡ c
same_cert bytes found c rest e s =
    let b = read_back bytes c s in
    let same : right (found, rest) ≡ right (c, b.rest) = sym e ∙ b.read in
    ap (λ (p : Cert × List ℕ). p.0) (same_ok (found, rest) (c, b.rest) same)

-- where the notes stop, the text does
pub stop_notes : (bytes : List ℕ) (c : Cert) (rest : List ℕ) (e : Stop) → cert_at bytes ≡ Ok (c, rest) → AnswersNotes rest (Err e) → AnswersWhole bytes (Err e)
stop_notes bytes c rest Memory read h = tt
stop_notes bytes c rest (Left n) read h = InNotes c rest read h
