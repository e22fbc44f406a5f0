-- A text is one certificate's alone, and bytes depart from every text at one line only.
use Rattle.certificate.proofs.Common.{◌≡◌, ℕ, ◌<◌, List, [], ◌∷◌, ◌++◌, length, refl, sym, ap, subst, ◌∙◌, append_assoc, arith, inl, inr, All, cases_lt, append-nil, take_at, All-nil, All-head, All-tail, All-append, All-take, Cert, cert_lines, cert_text, Line, lines_text, IsLine, IsNote, IsText, Begins, DepartBehind, EachIsWritten, EachSpellsOnce, EachBeginsAlike, EachDepartsOnce}
use Rattle.certificate.proofs.LineReading.{right, same_ok, text_append}
use Rattle.certificate.proofs.Certs.{cert_reads}
use Rattle.certificate.proofs.Whole.{same_line, first_of_text, notes_lines, read_back}

pub written : EachIsWritten
unfolding cert_text
written c h = record { lines = cert_lines c; is_text = record { has = h; notes = []; are_notes = All-nil IsNote; is = sym (append-nil (cert_lines c)) }; is = refl }

pub certs : EachSpellsOnce
certs bytes c d s t =
    let b = read_back bytes c s in
    let e = read_back bytes d t in
    let same : right (c, b.rest) ≡ right (d, e.rest) = sym b.read ∙ e.read in
    ap (λ (p : Cert × List ℕ). p.0) (same_ok (c, b.rest) (d, e.rest) same)

pub notes : EachBeginsAlike
unfolding cert_text
notes bytes c s = (s.is_text.notes, s.is_text.are_notes, s.is ∙ ap lines_text s.is_text.is ∙ text_append (cert_lines c) s.is_text.notes)

-- of two beginnings of the same bytes, the longer one goes on with a line that the other leaves
record Longer (short long : List Line) (rest : List ℕ) : Type 0 where
  pub line : Line
  pub more : List ℕ
  pub further : List Line
  pub is_line : IsLine line
  pub goes_on : long ≡ short ++ line ∷ further
  pub leaves : rest ≡ line ++ 10 ∷ more

longer : (short long : List Line) (rest left : List ℕ) → All IsLine short → All IsLine long → lines_text short ++ rest ≡ lines_text long ++ left → length short < length long → Longer short long rest
longer [] [] rest left h k e lt = absurd (omega arith)
longer [] (l ∷ ls) rest left h k e lt = record {
  line = l;
  more = lines_text ls ++ left;
  further = ls;
  is_line = All-head IsLine l ls k;
  goes_on = refl;
  leaves = e ∙ ap (λ (t : List ℕ). t ++ left) (first_of_text l ls) ∙ append_assoc l (10 ∷ lines_text ls) left;
}
longer (s ∷ ss) [] rest left h k e lt = absurd (omega arith)
longer (s ∷ ss) (l ∷ ls) rest left h k e lt =
    let whole : s ++ 10 ∷ (lines_text ss ++ rest) ≡ l ++ 10 ∷ (lines_text ls ++ left) =
    sym (append_assoc s (10 ∷ lines_text ss) rest) ∙ ap (λ (t : List ℕ). t ++ rest) (sym (first_of_text s ss)) ∙ e ∙ ap (λ (t : List ℕ). t ++ left) (first_of_text l ls) ∙ append_assoc l (10 ∷ lines_text ls) left in
    let same = same_line s l (lines_text ss ++ rest) (lines_text ls ++ left) (All-head IsLine s ss h) (All-head IsLine l ls k) whole in
    let next = longer ss ls rest left (All-tail IsLine s ss h) (All-tail IsLine l ls k) same.rest (omega arith) in
    record {
      line = next.line;
      more = next.more;
      further = next.further;
      is_line = next.is_line;
      goes_on = ap (λ (t : List Line). l ∷ t) next.goes_on ∙ ap (λ (m : Line). m ∷ (ss ++ next.line ∷ next.further)) (sym same.line);
      leaves = next.leaves;
    }

-- the lines of a beginning
begun_lines : (front : List Line) → Begins front → All IsLine front
begun_lines front b =
    let whole : All IsLine (cert_lines b.cert ++ b.is_text.notes) = All-append IsLine (cert_lines b.cert) b.is_text.notes (cert_reads.are_lines b.cert b.is_text.has) (notes_lines b.is_text.notes b.is_text.are_notes) in
    let all : All IsLine (front ++ b.after) = subst (All IsLine) (sym b.is_text.is) whole in
    subst (All IsLine) (take_at front b.after (length front) refl) (All-take IsLine (length front) (front ++ b.after) all)

begins_less : (front further : List Line) → Begins (front ++ further) → Begins front
begins_less front further b = record { cert = b.cert; after = further ++ b.after; is_text = subst (IsText b.cert) (append_assoc front further b.after) b.is_text }

not_earlier : (bytes : List ℕ) (m n : ℕ) → DepartBehind bytes m → DepartBehind bytes n → m < n → ⊥
not_earlier bytes m n a b lt =
    let short : length a.front < length b.front = let one = a.counted in let other = b.counted in omega arith in
    let l = longer a.front b.front a.rest b.rest (begun_lines a.front a.before) (begun_lines b.front b.before) (sym a.is ∙ b.is) short in
    let goes_on : b.front ≡ (a.front ++ l.line ∷ []) ++ l.further = l.goes_on ∙ sym (append_assoc a.front (l.line ∷ []) l.further) in
    a.there l.line l.more l.is_line l.leaves (begins_less (a.front ++ l.line ∷ []) l.further (subst Begins goes_on b.before))

pub departures : EachDepartsOnce
departures bytes m n a b = elim (cases_lt m n) [
  | inl lt ↦ absurd (not_earlier bytes m n a b lt)
  | inr le ↦ elim (cases_lt n m) [ inl lt ↦ absurd (not_earlier bytes n m b a lt) | inr other ↦ omega arith ]
]
