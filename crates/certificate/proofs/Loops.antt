-- Reading values one after the other, as loops do.
use Rattle.certificate.proofs.Common.{◌≡◌, ℕ, suc, ◌-◌, ◌+◌, ◌≤◌, ◌<◌, List, [], ◌∷◌, ◌++◌, length, Option, Some, None, Result, Ok, Err, eqb, true, false, refl, sym, ap, subst, ◌∙◌, append_assoc, arith, length-append, All, slice_split, append-nil, All-nil, All-push, All-tail, eqb-true, eqb-false, slice_split_at, slice_split_none, Stop, Memory, Left, Line, lines_text, IsLine, IsNote, begins_note, AreNotes, LeaveNotes, AnswersNotes, Words, given, later, times, cut_at, each_in, Misses, Reader, Stops}
use Rattle.certificate.proofs.Spelling.{cut_takes, cut_again, uncut, some_of, same_some}
use Rattle.certificate.proofs.LineReading.{line_before, text_append, line_lacks, lacks_line}

-- ---- so many lines

-- the values so far, before those that are still to come
abbrev pub after : {A : Type 0} → List A → Result (List A × List ℕ) ℕ → Result (List A × List ℕ) ℕ
after front read = later read (λ x. Ok (front ++ x.0, x.1))

-- what a loop keeps: i of the values are read
abbrev pub Goes : {A : Type 0} → Reader A → ℕ → List ℕ → List A → ℕ → List ℕ → Type 0
Goes read count bytes front i rest = after front (times read (count - i) rest) ≡ times read count bytes

one_more : {A : Type 0} (front : List A) (a : A) (read : Result (List A × List ℕ) ℕ) → after front (later {A = (A × List A) × List ℕ} {B = List A × List ℕ} (later {A = List A × List ℕ} {B = (A × List A) × List ℕ} read (λ b. Ok ((a, b.0), b.1))) (λ x. Ok (x.0.0 ∷ x.0.1, x.1))) ≡ after (front ++ a ∷ []) read
one_more front a (Ok x) = ap (λ list. Ok (list, x.1)) (simp append_assoc)
one_more front a (Err n) = refl

pub next_line : {A : Type 0} (read : Reader A) (count : ℕ) (bytes : List ℕ) (front : List A) (i : ℕ) (rest : List ℕ) (a : A) (left : List ℕ) → i < count → read rest ≡ Ok (a, left) → Goes read count bytes front i rest → Goes read count bytes (front ++ a ∷ []) (i + 1) left
unfolding times
next_line read count bytes front i rest a left lt got goes =
    let k : count - i ≡ suc (count - (i + 1)) = omega arith in
    let one : after front (times read (count - i) rest) ≡ after (front ++ a ∷ []) (times read (count - (i + 1)) left) = rw (k, got) (one_more front a (times read (count - (i + 1)) left)) in
    sym one ∙ goes

pub stops_line : {A : Type 0} (read : Reader A) (count : ℕ) (bytes : List ℕ) (front : List A) (i : ℕ) (rest : List ℕ) (e : Stop) → i < count → Stops e (read rest) → Goes read count bytes front i rest → Stops e (times read count bytes)
unfolding times
stops_line read count bytes front i rest Memory lt got goes = tt
stops_line read count bytes front i rest (Left n) lt got goes =
    let k : count - i ≡ suc (count - (i + 1)) = omega arith in
    let one : after front (times read (count - i) rest) ≡ Err n = rw (k, got) refl in
    sym goes ∙ one

pub done_lines : {A : Type 0} (read : Reader A) (count : ℕ) (bytes : List ℕ) (front : List A) (i : ℕ) (rest : List ℕ) → count ≤ i → Goes read count bytes front i rest → times read count bytes ≡ Ok (front, rest)
unfolding times
done_lines read count bytes front i rest le goes =
    let k : count - i ≡ 0 = omega arith in
    let one : after front (times read (count - i) rest) ≡ Ok (front, rest) = rw k (ap (λ list. Ok (list, rest)) (append-nil front)) in
    sym goes ∙ one

-- ---- words with commas between them

-- the values so far, before those of the words that are still to come
abbrev pub before : {A : Type 0} → List A → Option (List A) → Option (List A)
before front others = given others (λ l. Some (front ++ l))

abbrev pub words_of : List ℕ → List (List ℕ)
words_of text = slice_split (λ b. eqb b 44) text

-- what a loop keeps: the values in front are read
abbrev pub Lists : {A : Type 0} → Words A → List ℕ → List A → List ℕ → Type 0
Lists read text front rest = before front (each_in read (words_of rest)) ≡ each_in read (words_of text)

one_word : {A : Type 0} (front : List A) (a : A) (others : Option (List A)) → before front (given others (λ l. Some (a ∷ l))) ≡ before (front ++ a ∷ []) others
one_word front a (Some l) = ap (λ list. Some list) (simp append_assoc)
one_word front a None = refl

words_first : (rest : List ℕ) (p : List ℕ × List ℕ) → cut_at 44 rest ≡ Some p → words_of rest ≡ p.0 ∷ words_of p.1
words_first rest p e =
    let c = cut_takes 44 rest p e in
    ap words_of c.is ∙ slice_split_at (λ b. eqb b 44) p.0 44 p.1 c.first refl

same_list : {A : Type 0} (o : Option (List A)) → before [] o ≡ o
same_list (Some l) = refl
same_list None = refl

pub next_word : {A : Type 0} (read : Words A) (text : List ℕ) (front : List A) (rest : List ℕ) (p : List ℕ × List ℕ) (a : A) → cut_at 44 rest ≡ Some p → read p.0 ≡ Some a → Lists read text front rest → Lists read text (front ++ a ∷ []) p.1
next_word read text front rest p a cut got lists =
    let one : before front (each_in read (words_of rest)) ≡ before (front ++ a ∷ []) (each_in read (words_of p.1)) = rw (words_first rest p cut, got) (one_word front a (each_in read (words_of p.1))) in
    sym one ∙ lists

pub stops_word : {A : Type 0} (read : Words A) (text : List ℕ) (front : List A) (rest : List ℕ) (p : List ℕ × List ℕ) (left : ℕ) (e : Stop) → cut_at 44 rest ≡ Some p → Misses left e (read p.0) → Lists read text front rest → Misses left e (each_in read (words_of text))
stops_word read text front rest p left Memory cut got lists = tt
stops_word read text front rest p left (Left n) cut got lists =
    let none = got.1 in
    let one : before front (each_in read (words_of rest)) ≡ None = rw (words_first rest p cut, none) refl in
    (got.0, sym lists ∙ one)

-- the last word has no comma
words_last : (rest : List ℕ) → cut_at 44 rest ≡ None → words_of rest ≡ rest ∷ []
words_last rest e = slice_split_none (λ b. eqb b 44) rest (uncut 44 rest e)

pub last_word : {A : Type 0} (read : Words A) (text : List ℕ) (front : List A) (rest : List ℕ) (a : A) → cut_at 44 rest ≡ None → read rest ≡ Some a → Lists read text front rest → each_in read (words_of text) ≡ Some (front ++ a ∷ [])
last_word read text front rest a cut got lists =
    let one : before front (each_in read (words_of rest)) ≡ Some (front ++ a ∷ []) = rw (words_last rest cut, got) refl in
    sym lists ∙ one

pub stops_last : {A : Type 0} (read : Words A) (text : List ℕ) (front : List A) (rest : List ℕ) (left : ℕ) (e : Stop) → cut_at 44 rest ≡ None → Misses left e (read rest) → Lists read text front rest → Misses left e (each_in read (words_of text))
stops_last read text front rest left Memory cut got lists = tt
stops_last read text front rest left (Left n) cut got lists =
    let none = got.1 in
    let one : before front (each_in read (words_of rest)) ≡ None = rw (words_last rest cut, none) refl in
    (got.0, sym lists ∙ one)

-- what is left behind a cut is shorter
pub cut_shorter : (by : ℕ) (text : List ℕ) (p : List ℕ × List ℕ) → cut_at by text ≡ Some p → length p.1 < length text
cut_shorter by text p e =
    let c = cut_takes by text p e in
    let len : length text ≡ length p.0 + length (by ∷ p.1) = ap length c.is ∙ length-append p.0 (by ∷ p.1) in
    omega arith

-- ---- notes

-- what a loop keeps: the bytes begin with notes
pub record Passed (bytes rest : List ℕ) : Type 0 where
  pub notes : List Line
  pub are : All IsNote notes
  pub is : bytes ≡ lines_text notes ++ rest

pub pass_none : (bytes : List ℕ) → Passed bytes bytes
pass_none bytes = record { notes = []; are = All-nil IsNote; is = refl }

pub pass_note : (bytes rest : List ℕ) (p : List ℕ × List ℕ) → cut_at 10 rest ≡ Some p → IsNote p.0 → Passed bytes rest → Passed bytes p.1
pass_note bytes rest p e note h =
    let c = cut_takes 10 rest p e in
    record {
      notes = h.notes ++ p.0 ∷ [];
      are = All-push IsNote h.notes p.0 h.are note;
      is = h.is ∙ ap (λ (l : List ℕ). lines_text h.notes ++ l) (c.is ∙ sym (line_before p.0 p.1)) ∙ sym (append_assoc (lines_text h.notes) (lines_text (p.0 ∷ [])) p.1) ∙ ap (λ (l : List ℕ). l ++ p.1) (sym (text_append h.notes (p.0 ∷ [])));
    }

pub leave : (bytes rest : List ℕ) → 0 < length rest → ((line : Line) (more : List ℕ) → IsLine line → rest ≡ line ++ 10 ∷ more → IsNote line → ⊥) → Passed bytes rest → LeaveNotes bytes (length rest)
leave bytes rest some none h = record { notes = h.notes; are = h.are; rest = rest; is = h.is; length_left = refl; some = some; no_note = none }

-- the rest has no whole line
pub no_line : (rest : List ℕ) → cut_at 10 rest ≡ None → (line : Line) (more : List ℕ) → IsLine line → rest ≡ line ++ 10 ∷ more → IsNote line → ⊥
no_line rest e line more is_line is note = absurd (let cut = sym e ∙ ap (cut_at 10) is ∙ cut_again 10 line more (line_lacks line is_line) in cc)

-- the first line of the rest is no note
pub other_line : (rest : List ℕ) (p : List ℕ × List ℕ) → cut_at 10 rest ≡ Some p → (IsNote p.0 → ⊥) → (line : Line) (more : List ℕ) → IsLine line → rest ≡ line ++ 10 ∷ more → IsNote line → ⊥
other_line rest p e never line more is_line is note =
    let both : some_of p ≡ some_of (line, more) = sym e ∙ ap (cut_at 10) is ∙ cut_again 10 line more (line_lacks line is_line) in
    never (subst IsNote (sym (ap (λ (q : List ℕ × List ℕ). q.0) (same_some p (line, more) both))) note)

-- a line that begins with `#` is a note, and no other
pub a_note : (line : Line) → IsLine line → begins_note line ≡ true → IsNote line
a_note [] h e = absurd cc
a_note (b ∷ rest) h e = (eqb-true b 35 e, All-tail (λ c. c ≡ 10 → ⊥) b rest h)

pub no_note : (line : Line) → begins_note line ≡ false → IsNote line → ⊥
no_note [] e h = h
no_note (b ∷ rest) e h = eqb-false b 35 e h.0

pub cut_line : (text : List ℕ) (p : List ℕ × List ℕ) → cut_at 10 text ≡ Some p → IsLine p.0
cut_line text p e = lacks_line p.0 (cut_takes 10 text p e).first

-- where no whole line is left, the notes stop
pub end_notes : (bytes rest : List ℕ) (e : Stop) → 0 < length rest → Misses (length rest) e (cut_at 10 rest) → Passed bytes rest → AnswersNotes bytes (Err e)
end_notes bytes rest Memory some h p = tt
end_notes bytes rest (Left n) some h p = subst (λ (k : ℕ). LeaveNotes bytes k) (sym h.0) (leave bytes rest some (no_line rest h.1) p)

-- and where the next line is no note
pub other_notes : (bytes rest : List ℕ) (p : List ℕ × List ℕ) → 0 < length rest → cut_at 10 rest ≡ Some p → begins_note p.0 ≡ false → Passed bytes rest → LeaveNotes bytes (length rest)
other_notes bytes rest p some cut other passed = leave bytes rest some (other_line rest p cut (no_note p.0 other)) passed
