-- Proof lines that are kept as their text.
use Rattle.certificate.proofs.Common.{◌≡◌, ℕ, ◌+◌, ◌-◌, ◌<◌, ◌≤◌, List, [], ◌∷◌, ◌++◌, length, map, Result, Ok, Err, refl, sym, ap, subst, ◌∙◌, arith, take, length-append, All, append-nil, take_at, All-nil, All-head, All-tail, All-weaker, All-from_recursion, recursion_from_All, Settled, line_text, lines_text, proof_line, FitsLine, Stop, Memory, Left, line_at, times, rest_of, any_line_in, proof_line_in, Stops}
use Rattle.certificate.specs.declared.proof_lines.Line.{Line as ProofLine}
use Rattle.certificate.specs.KeptLines.{read_or_none, lines_in, AreLines}
use Rattle.certificate.proofs.Steps.{any_exact, any_is_line, step_exact, step_is_line, IsStep}
use Rattle.certificate.proofs.LineReading.{Reads, SoMany, right, same_ok, no_fault, line_reads, times_reads}
use Rattle.certificate.proofs.Loops.{Goes, after, next_line, stops_line, done_lines}

-- ---- one line, and so many

one_reads : Reads FitsLine (λ l. proof_line l ∷ []) (line_at any_line_in)
one_reads = line_reads any_exact any_is_line (Settled 0) (omega arith)

any_reads : (n : ℕ) → Reads (SoMany FitsLine n) (map proof_line) (times (line_at any_line_in) n)
any_reads n = times_reads one_reads (Settled 0) (omega arith) n

-- kept lines are seen as those whose text it is
pub kept_view : (count : ℕ) (text : List ℕ) → (a : AreLines count text) → lines_in count text ≡ a.lines
kept_view count text a =
    let fits : SoMany FitsLine count a.lines = (a.counted, recursion_from_All FitsLine a.lines a.fit) in
    let read : times (line_at any_line_in) count text ≡ Ok (a.lines, []) =
    ap (times (line_at any_line_in) count) (a.is ∙ sym (append-nil (lines_text (map proof_line a.lines)))) ∙ (any_reads count).again a.lines [] fits in
    ap read_or_none read

pub kept_text : (count : ℕ) (text : List ℕ) → AreLines count text → text ≡ lines_text (map proof_line (lines_in count text))
kept_text count text a = a.is ∙ ap (λ (l : List ProofLine). lines_text (map proof_line l)) (sym (kept_view count text a))

pub kept_fit : (count : ℕ) (text : List ℕ) → AreLines count text → All FitsLine (lines_in count text)
kept_fit count text a = subst (All FitsLine) (sym (kept_view count text a)) a.fit

pub kept_count : (count : ℕ) (text : List ℕ) → AreLines count text → count ≡ length (lines_in count text)
kept_count count text a = sym a.counted ∙ ap length (sym (kept_view count text a))

-- a list is kept as the text of its lines
pub list_kept : (list : List ProofLine) → All FitsLine list → AreLines (length list) (lines_text (map proof_line list))
list_kept list fit = record { lines = list; is = refl; counted = refl; fit = fit }

pub list_view : (list : List ProofLine) → All FitsLine list → lines_in (length list) (lines_text (map proof_line list)) ≡ list
list_view list fit = kept_view (length list) (lines_text (map proof_line list)) (record { lines = list; is = refl; counted = refl; fit = fit })

pub none_kept : AreLines 0 []
none_kept = record { lines = []; is = refl; counted = refl; fit = All-nil FitsLine }

pub no_lines : (text : List ℕ) → lines_in 0 text ≡ []
unfolding times
no_lines text = refl

-- ---- the first line and the others

-- the first line is read, and the others are behind it
pub record Starts (count : ℕ) (text : List ℕ) : Type 0 where
  pub line : ProofLine
  pub rest : List ℕ
  pub read : line_at any_line_in text ≡ Ok (line, rest)
  pub others : AreLines (count - 1) rest
  pub whole : lines_in count text ≡ line ∷ lines_in (count - 1) rest

starts_with : (count : ℕ) (text : List ℕ) (lines : List ProofLine) → text ≡ lines_text (map proof_line lines) → length lines ≡ count → All FitsLine lines → 0 < count → Starts count text
starts_with count text [] is len fit some = absurd (omega arith)
starts_with count text (l ∷ ls) is len fit some =
    let rest : List ℕ = lines_text (map proof_line ls) in
    let few : length ls ≡ count - 1 = omega arith in
    let others : AreLines (count - 1) rest = record { lines = ls; is = refl; counted = few; fit = All-tail FitsLine l ls fit } in
    let all : AreLines count text = record { lines = l ∷ ls; is = is; counted = len; fit = fit } in
    let parts : text ≡ lines_text (proof_line l ∷ []) ++ rest = is ∙ ap (λ (t : List ℕ). t ++ rest) (sym (append-nil (line_text (proof_line l)))) in
    record {
      line = l;
      rest = rest;
      read = ap (line_at any_line_in) parts ∙ one_reads.again l rest (All-head FitsLine l ls fit);
      others = others;
      whole = kept_view count text all ∙ ap (λ (t : List ProofLine). l ∷ t) (sym (kept_view (count - 1) rest others));
    }

pub starts : (count : ℕ) (text : List ℕ) → AreLines count text → 0 < count → Starts count text
starts count text a some = starts_with count text a.lines a.is a.counted a.fit some

-- what is read of the first line, and what is left
pub record Next (count : ℕ) (text : List ℕ) (line : ProofLine) (rest : List ℕ) : Type 0 where
  pub others : AreLines (count - 1) rest
  pub whole : lines_in count text ≡ line ∷ lines_in (count - 1) rest

pub next_of : (count : ℕ) (text : List ℕ) (line : ProofLine) (rest : List ℕ) → AreLines count text → 0 < count → line_at any_line_in text ≡ Ok (line, rest) → Next count text line rest
next_of count text line rest a some read =
    let s = starts count text a some in
    let same : (s.line, s.rest) ≡ (line, rest) = same_ok (s.line, s.rest) (line, rest) (sym s.read ∙ read) in
    subst (λ (p : ProofLine × List ℕ). Next count text p.0 p.1) same (record { others = s.others; whole = s.whole })

pub never_stops : (count : ℕ) (text : List ℕ) (n : ℕ) → AreLines count text → 0 < count → line_at any_line_in text ≡ Err n → ⊥
never_stops count text n a some read =
    let s = starts count text a some in
    no_fault (s.line, s.rest) n (sym s.read ∙ read)

pub none_left : (count : ℕ) (text : List ℕ) → AreLines count text → count ≡ 0 → lines_in count text ≡ []
unfolding times
none_left count text a e = rw e refl

-- ---- the lines of a report

step_reads : (n : ℕ) → Reads (SoMany IsStep n) (map proof_line) (times (line_at proof_line_in) n)
step_reads n = times_reads (line_reads step_exact step_is_line (Settled 0) (omega arith, tt)) (Settled 0) (omega arith, tt) n

-- the bytes begin with so many proof lines
pub record Begin (count : ℕ) (bytes rest : List ℕ) : Type 0 where
  pub text : List ℕ
  pub is : bytes ≡ text ++ rest
  pub are : AreLines count text
  pub read : times (line_at proof_line_in) count bytes ≡ Ok (lines_in count text, rest)

begin_with : (count : ℕ) (bytes rest : List ℕ) (lines : List ProofLine) → times (line_at proof_line_in) count bytes ≡ Ok (lines, rest) → Begin count bytes rest
begin_with count bytes rest lines read =
    let t = (step_reads count).takes bytes (lines, rest) read in
    let fit : All FitsLine lines = All-weaker IsStep FitsLine (λ l h. h.0) lines (All-from_recursion IsStep lines t.fits.1) in
    let are : AreLines count (lines_text (map proof_line lines)) = record { lines = lines; is = refl; counted = t.fits.0; fit = fit } in
    record {
      text = lines_text (map proof_line lines);
      is = t.parts;
      are = are;
      read = read ∙ ap (λ (l : List ProofLine). right (l, rest)) (sym (kept_view count (lines_text (map proof_line lines)) are));
    }

begin_by : (count : ℕ) (bytes rest : List ℕ) (r : Result (List ProofLine × List ℕ) ℕ) → times (line_at proof_line_in) count bytes ≡ r → rest_of r ≡ Ok rest → Begin count bytes rest
begin_by count bytes rest (Ok x) read e =
    let same : x.1 ≡ rest = same_ok x.1 rest e in
    subst (λ (t : List ℕ). Begin count bytes t) same (begin_with count bytes x.1 x.0 read)
begin_by count bytes rest (Err n) read e = absurd cc

pub begins : (count : ℕ) (bytes rest : List ℕ) → rest_of (times (line_at proof_line_in) count bytes) ≡ Ok rest → Begin count bytes rest
begins count bytes rest e = begin_by count bytes rest (times (line_at proof_line_in) count bytes) refl e

-- the text of the lines that bytes begin with
abbrev pub front_of : List ℕ → List ℕ → List ℕ
front_of bytes rest = take (length bytes - length rest) bytes

cut_front : (count : ℕ) (bytes rest : List ℕ) (b : Begin count bytes rest) → (length rest ≤ length bytes) × (front_of bytes rest ≡ b.text)
cut_front count bytes rest b =
    let len : length bytes ≡ length b.text + length rest = ap length b.is ∙ length-append b.text rest in
    let at : length b.text ≡ length bytes - length rest = omega arith in
    (omega arith, ap (take (length bytes - length rest)) b.is ∙ take_at b.text rest (length bytes - length rest) at)

pub front_short : (count : ℕ) (bytes rest : List ℕ) → rest_of (times (line_at proof_line_in) count bytes) ≡ Ok rest → length rest ≤ length bytes
front_short count bytes rest e = (cut_front count bytes rest (begins count bytes rest e)).0

pub front_lines : (count : ℕ) (bytes rest : List ℕ) → rest_of (times (line_at proof_line_in) count bytes) ≡ Ok rest → AreLines count (front_of bytes rest)
front_lines count bytes rest e =
    let b = begins count bytes rest e in
    subst (AreLines count) (sym (cut_front count bytes rest b).1) b.are

pub front_read : (count : ℕ) (bytes rest : List ℕ) → rest_of (times (line_at proof_line_in) count bytes) ≡ Ok rest → times (line_at proof_line_in) count bytes ≡ Ok (lines_in count (front_of bytes rest), rest)
front_read count bytes rest e =
    let b = begins count bytes rest e in
    b.read ∙ ap (λ (t : List ℕ). right (lines_in count t, rest)) (sym (cut_front count bytes rest b).1)

-- ---- the lines of a report, one after another

-- what a loop keeps: i of the proof lines are passed
pub record Gone (count : ℕ) (bytes : List ℕ) (i : ℕ) (rest : List ℕ) : Type 0 where
  pub front : List ProofLine
  pub goes : Goes (line_at proof_line_in) count bytes front i rest

same_after : (r : Result (List ProofLine × List ℕ) ℕ) → after [] r ≡ r
same_after (Ok x) = refl
same_after (Err n) = refl

pub gone_none : (count : ℕ) (bytes : List ℕ) → Gone count bytes 0 bytes
gone_none count bytes =
    let all : count - 0 ≡ count = omega arith in
    record { front = []; goes = rw all (same_after (times (line_at proof_line_in) count bytes)) }

pub gone_more : (count : ℕ) (bytes : List ℕ) (i : ℕ) (rest : List ℕ) (line : ProofLine) (left : List ℕ) → i < count → line_at proof_line_in rest ≡ Ok (line, left) → Gone count bytes i rest → Gone count bytes (i + 1) left
gone_more count bytes i rest line left lt got g = record { front = g.front ++ line ∷ []; goes = next_line (line_at proof_line_in) count bytes g.front i rest line left lt got g.goes }

stops_too : (e : Stop) (r : Result (List ProofLine × List ℕ) ℕ) → Stops e r → Stops e (rest_of r)
stops_too Memory r h = tt
stops_too (Left n) r h = ap rest_of h

pub gone_stops : (count : ℕ) (bytes : List ℕ) (i : ℕ) (rest : List ℕ) (e : Stop) → i < count → Stops e (line_at proof_line_in rest) → Gone count bytes i rest → Stops e (rest_of (times (line_at proof_line_in) count bytes))
gone_stops count bytes i rest e lt got g = stops_too e (times (line_at proof_line_in) count bytes) (stops_line (line_at proof_line_in) count bytes g.front i rest e lt got g.goes)

pub gone_all : (count : ℕ) (bytes : List ℕ) (i : ℕ) (rest : List ℕ) → count ≤ i → Gone count bytes i rest → rest_of (times (line_at proof_line_in) count bytes) ≡ Ok rest
gone_all count bytes i rest le g = ap rest_of (done_lines (line_at proof_line_in) count bytes g.front i rest le g.goes)
