-- Lines are read as the values that they spell, each value's lines are read, and where nothing is read the fault is where lines depart.
use Rattle.certificate.proofs.Common.{◌≡◌, ℕ, zero, suc, false, eqb, List, [], ◌∷◌, ◌++◌, length, map, Option, Some, None, Result, Ok, Err, refl, sym, ap, subst, ◌∙◌, append_assoc, arith, All, AllByRecursion, flat_map-append, ne_eqb, eqb-false, append-nil, All-nil, All-cons, All-append, All-weaker, Line, line_text, lines_text, IsLine, Words, later, or_fault, on_line, line_at, next, made, times, cut_at, Reader}
use Rattle.certificate.proofs.Spelling.{Exact, Lacks, cut_again, cut_takes}

-- ---- results

abbrev pub right : {A : Type 0} → A → Result A ℕ
right x = Ok x

abbrev pub wrong : (A : Type 0) → ℕ → Result A ℕ
wrong A n = Err n

pub same_ok : {A : Type 0} (x y : A) → right x ≡ right y → x ≡ y
same_ok x y e = cc

pub same_err : {A : Type 0} (m n : ℕ) → wrong A m ≡ wrong A n → m ≡ n
same_err m n e = cc

pub no_fault : {A : Type 0} (x : A) (n : ℕ) → right x ≡ wrong A n → ⊥
no_fault x n e = absurd cc

pub later_ok : {A B : Type 0} (r : Result A ℕ) (f : A → Result B ℕ) (y : B) → later r f ≡ Ok y → (x : A) × (r ≡ Ok x) × (f x ≡ Ok y)
later_ok (Ok x) f y e = (x, refl, e)
later_ok (Err d) f y e = absurd cc

-- the first step stopped, or the second
pub data Fault {A B : Type 0} (r : Result A ℕ) (f : A → Result B ℕ) (n : ℕ) : Type 0 where
  First : r ≡ wrong A n → Fault r f n
  Second : (x : A) → r ≡ right x → f x ≡ wrong B n → Fault r f n

pub later_err : {A B : Type 0} (r : Result A ℕ) (f : A → Result B ℕ) (n : ℕ) → later r f ≡ Err n → Fault r f n
later_err (Ok x) f n e = Second x refl e
later_err {A} {B} (Err d) f n e = First (ap (wrong A) (same_err {A = B} d n e))

-- ---- what a reader of lines is

pub record Took {A : Type 0} (Fits : A → Type 0) (spell : A → List Line) (bytes : List ℕ) (x : A × List ℕ) : Type 0 where
  pub parts : bytes ≡ lines_text (spell x.0) ++ x.1
  pub fits : Fits x.0

-- some lines that spell a value begin with these
pub record Leads {A : Type 0} (Fits : A → Type 0) (spell : A → List Line) (front : List Line) : Type 0 where
  pub value : A
  pub fits : Fits value
  pub after : List Line
  pub is : front ++ after ≡ spell value

-- these lines go as far as the lines that spell the value, and on
pub record Covers {A : Type 0} (Fits : A → Type 0) (spell : A → List Line) (lines : List Line) : Type 0 where
  pub value : A
  pub fits : Fits value
  pub after : List Line
  pub further : List Line
  pub is : lines ++ after ≡ spell value ++ further

-- the lines stop to be those of a value so many bytes before the end
pub record Stopping {A : Type 0} (Fits : A → Type 0) (spell : A → List Line) (bytes : List ℕ) (left : ℕ) : Type 0 where
  pub front : List Line
  pub rest : List ℕ
  pub is : bytes ≡ lines_text front ++ rest
  pub length_left : length rest ≡ left
  pub are_lines : All IsLine front
  pub before : Leads Fits spell front
  pub there : (line : Line) (more : List ℕ) → IsLine line → rest ≡ line ++ 10 ∷ more → Covers Fits spell (front ++ line ∷ []) → ⊥

pub record Reads {A : Type 0} (Fits : A → Type 0) (spell : A → List Line) (read : Reader A) : Type 0 where
  pub takes : (bytes : List ℕ) (x : A × List ℕ) → read bytes ≡ Ok x → Took Fits spell bytes x
  pub again : (a : A) (rest : List ℕ) → Fits a → read (lines_text (spell a) ++ rest) ≡ Ok (a, rest)
  pub stops : (bytes : List ℕ) (left : ℕ) → read bytes ≡ Err left → Stopping Fits spell bytes left
  pub are_lines : (a : A) → Fits a → All IsLine (spell a)

-- ---- one line

pub line_lacks : (line : Line) → IsLine line → Lacks 10 line
line_lacks line h = All-weaker (λ b. b ≡ 10 → ⊥) (λ b. eqb b 10 ≡ false) (λ b never. ne_eqb b 10 never) line h

pub lacks_line : (line : Line) → Lacks 10 line → IsLine line
lacks_line line h = All-weaker (λ b. eqb b 10 ≡ false) (λ b. b ≡ 10 → ⊥) (λ b e. eqb-false b 10 e) line h

abbrev alone : {A : Type 0} → (A → Line) → A → List Line
alone s a = s a ∷ []

-- a line with its line feed before other bytes
pub line_before : (line : Line) (rest : List ℕ) → lines_text (line ∷ []) ++ rest ≡ line ++ 10 ∷ rest
line_before line rest = ap (λ (l : List ℕ). l ++ rest) (append-nil (line ++ 10 ∷ [])) ∙ append_assoc line (10 ∷ []) rest

or_fault_ok : {A : Type 0} (left : ℕ) (rest : List ℕ) (o : Option A) (x : A × List ℕ) → or_fault left rest o ≡ Ok x → (o ≡ Some x.0) × (x.1 ≡ rest)
or_fault_ok left rest (Some a) x e = let same = same_ok (a, rest) x e in (ap (λ (y : _ × List ℕ). Some y.0) same, sym (ap (λ (y : _ × List ℕ). y.1) same))
or_fault_ok left rest None x e = absurd cc

line_takes : {A : Type 0} (F : A → Type 0) (s : A → Line) (f : Words A) → Exact F s f → (bytes : List ℕ) (o : Option (List ℕ × List ℕ)) → cut_at 10 bytes ≡ o → (x : A × List ℕ) → on_line (length bytes) f o ≡ Ok x → Took F (alone s) bytes x
line_takes F s f one bytes (Some p) e x h =
    let c = cut_takes 10 bytes p e in
    let o = or_fault_ok (length bytes) p.1 (f p.0) x h in
    let t = one.takes p.0 x.0 o.0 in
    record { parts = c.is ∙ ap (λ (l : List ℕ). l ++ 10 ∷ p.1) t.0 ∙ ap (λ (l : List ℕ). s x.0 ++ 10 ∷ l) (sym o.1) ∙ sym (line_before (s x.0) x.1); fits = t.1 }
line_takes F s f one bytes None e x h = absurd cc

line_again : {A : Type 0} (F : A → Type 0) (s : A → Line) (f : Words A) → Exact F s f → ((a : A) → F a → IsLine (s a)) → (a : A) (rest : List ℕ) → F a → line_at f (lines_text (alone s a) ++ rest) ≡ Ok (a, rest)
line_again F s f one lines a rest h =
    ap (line_at f) (line_before (s a) rest) ∙ rw (cut_again 10 (s a) rest (line_lacks (s a) (lines a h)), one.again a h) refl

-- the value of another line of the same text is missed
missed : {A : Type 0} (left : ℕ) (rest : List ℕ) (o : Option A) (n : ℕ) → or_fault left rest o ≡ wrong (A × List ℕ) n → (n ≡ left) × (o ≡ None)
missed {A} left rest None n e = (sym (same_err {A = A × List ℕ} left n e), refl)
missed left rest (Some a) n e = absurd (no_fault (a, rest) n e)

first_line : (line m : Line) (l after further : List Line) → (line ∷ []) ++ after ≡ (m ∷ []) ++ further → line ≡ m
first_line line m l after further e = cc

line_left : {A : Type 0} (f : Words A) (bytes : List ℕ) (o : Option (List ℕ × List ℕ)) (n : ℕ) → on_line (length bytes) f o ≡ wrong (A × List ℕ) n → n ≡ length bytes
line_left f bytes (Some p) n h = (missed (length bytes) p.1 (f p.0) n h).0
line_left {A} f bytes None n h = sym (same_err {A = A × List ℕ} (length bytes) n h)

line_there : {A : Type 0} (F : A → Type 0) (s : A → Line) (f : Words A) → Exact F s f → (bytes : List ℕ) (n : ℕ) → line_at f bytes ≡ Err n → (line : Line) (more : List ℕ) → IsLine line → bytes ≡ line ++ 10 ∷ more → Covers F (alone s) ([] ++ line ∷ []) → ⊥
line_there {A} F s f one bytes n h line more is_line e covers =
    let same : line ≡ s covers.value = first_line line (s covers.value) [] covers.after covers.further covers.is in
    let read : f line ≡ Some covers.value = ap f same ∙ one.again covers.value covers.fits in
    let cut : cut_at 10 bytes ≡ Some (line, more) = ap (cut_at 10) e ∙ cut_again 10 line more (line_lacks line is_line) in
    let ok : line_at f bytes ≡ Ok (covers.value, more) = rw (cut, read) refl in
    no_fault (covers.value, more) n (sym ok ∙ h)

pub line_reads : {A : Type 0} {F : A → Type 0} {s : A → Line} {f : Words A} → Exact F s f → ((a : A) → F a → IsLine (s a)) → (a : A) → F a → Reads F (λ x. s x ∷ []) (line_at f)
line_reads {A} {F} {s} {f} one lines a h = record {
  takes = λ bytes x e. line_takes F s f one bytes (cut_at 10 bytes) refl x e;
  again = λ b rest fits. line_again F s f one lines b rest fits;
  stops = λ bytes n e. record {
    front = [];
    rest = bytes;
    is = refl;
    length_left = sym (line_left f bytes (cut_at 10 bytes) n e);
    are_lines = All-nil IsLine;
    before = record { value = a; fits = h; after = s a ∷ []; is = refl };
    there = line_there F s f one bytes n e;
  };
  are_lines = λ b fits. All-cons IsLine (s b) [] (lines b fits) (All-nil IsLine);
}

-- ---- one value after another

pub text_append : (a b : List Line) → lines_text (a ++ b) ≡ lines_text a ++ lines_text b
text_append a b = flat_map-append line_text a b

-- behind the same lines the same lines stand
pub cancel : (a x y : List Line) → a ++ x ≡ a ++ y → x ≡ y
cancel [] x y e = e
cancel (l ∷ a) x y e = cancel a x y (let whole = e in cc)

-- a reader's value is that of each text that covers its lines
pub only_value : {A : Type 0} (F : A → Type 0) (s : A → List Line) (f : Reader A) → Reads F s f → (a b : A) → F a → F b → (x y : List Line) → s a ++ x ≡ s b ++ y → a ≡ b
only_value {A} F s f one a b fa fb x y e =
    let first = one.again a (lines_text x) fa in
    let other = one.again b (lines_text y) fb in
    let same : lines_text (s a) ++ lines_text x ≡ lines_text (s b) ++ lines_text y = sym (text_append (s a) x) ∙ ap lines_text e ∙ text_append (s b) y in
    let both : right (a, lines_text x) ≡ right (b, lines_text y) = sym first ∙ ap f same ∙ other in
    ap (λ (p : A × List ℕ). p.0) (same_ok (a, lines_text x) (b, lines_text y) both)

-- lines of one value and of another that depends on it
abbrev pub in_turn : {A B : Type 0} → (A → List Line) → (A → B → List Line) → A × B → List Line
in_turn s t x = s x.0 ++ t x.0 x.1

abbrev pub Both : {A B : Type 0} → (A → Type 0) → (A → B → Type 0) → A × B → Type 0
Both F G x = F x.0 × G x.0 x.1

next_takes : {A B : Type 0} (F : A → Type 0) (s : A → List Line) (f : Reader A) (G : A → B → Type 0) (t : A → B → List Line) (g : A → Reader B) → Reads F s f → ((a : A) → F a → Reads (G a) (t a) (g a)) → (bytes : List ℕ) (x : (A × B) × List ℕ) → next f g bytes ≡ Ok x → Took (Both F G) (in_turn s t) bytes x
next_takes {A} {B} F s f G t g one two bytes x e =
    let a = later_ok (f bytes) (λ a. later (g a.0 a.1) (λ b. Ok ((a.0, b.0), b.1))) x e in
    let b = later_ok (g a.0.0 a.0.1) (λ b. Ok ((a.0.0, b.0), b.1)) x a.2 in
    let ta = one.takes bytes a.0 a.1 in
    let tb = (two a.0.0 ta.fits).takes a.0.1 b.0 b.1 in
    let value : (A × B) × List ℕ = ((a.0.0, b.0.0), b.0.1) in
    let parts : bytes ≡ lines_text (s a.0.0 ++ t a.0.0 b.0.0) ++ b.0.1 =
    ta.parts ∙ ap (λ (l : List ℕ). lines_text (s a.0.0) ++ l) tb.parts ∙ sym (append_assoc (lines_text (s a.0.0)) (lines_text (t a.0.0 b.0.0)) b.0.1)
    ∙ ap (λ (l : List ℕ). l ++ b.0.1) (sym (text_append (s a.0.0) (t a.0.0 b.0.0))) in
    let took : Took (Both F G) (in_turn s t) bytes value = record { parts = parts; fits = (ta.fits, tb.fits) } in
    subst (λ (y : (A × B) × List ℕ). Took (Both F G) (in_turn s t) bytes y) (same_ok value x b.2) took

pub next_again : {A B : Type 0} (F : A → Type 0) (s : A → List Line) (f : Reader A) (G : A → B → Type 0) (t : A → B → List Line) (g : A → Reader B) → Reads F s f → ((a : A) → F a → Reads (G a) (t a) (g a)) → (x : A × B) (rest : List ℕ) → Both F G x → next f g (lines_text (in_turn s t x) ++ rest) ≡ Ok (x, rest)
next_again F s f G t g one two x rest h =
    ap (next f g) (ap (λ (l : List ℕ). l ++ rest) (text_append (s x.0) (t x.0 x.1)) ∙ append_assoc (lines_text (s x.0)) (lines_text (t x.0 x.1)) rest)
    ∙ rw (one.again x.0 (lines_text (t x.0 x.1) ++ rest) h.0, (two x.0 h.0).again x.1 rest h.1) refl

next_first : {A B : Type 0} (F : A → Type 0) (s : A → List Line) (G : A → B → Type 0) (t : A → B → List Line) → ((a : A) → F a → (b : B) × G a b) → (bytes : List ℕ) (left : ℕ) → Stopping F s bytes left → Stopping (Both F G) (in_turn s t) bytes left
next_first {A} {B} F s G t goes_on bytes left p =
    let b = goes_on p.before.value p.before.fits in
    record {
      front = p.front;
      rest = p.rest;
      is = p.is;
      length_left = p.length_left;
      are_lines = p.are_lines;
      before = record {
        value = (p.before.value, b.0);
        fits = (p.before.fits, b.1);
        after = p.before.after ++ t p.before.value b.0;
        is = sym (append_assoc p.front p.before.after (t p.before.value b.0)) ∙ ap (λ (l : List Line). l ++ t p.before.value b.0) p.before.is;
      };
      there = λ line more is_line e c. p.there line more is_line e (record {
        value = c.value.0;
        fits = c.fits.0;
        after = c.after;
        further = t c.value.0 c.value.1 ++ c.further;
        is = c.is ∙ append_assoc (s c.value.0) (t c.value.0 c.value.1) c.further;
      });
    }

next_second : {A B : Type 0} (F : A → Type 0) (s : A → List Line) (f : Reader A) (G : A → B → Type 0) (t : A → B → List Line) → Reads F s f → (bytes : List ℕ) (x : A × List ℕ) (left : ℕ) → Took F s bytes x → Stopping (G x.0) (t x.0) x.1 left → Stopping (Both F G) (in_turn s t) bytes left
next_second {A} {B} F s f G t one bytes x left took p =
    record {
      front = s x.0 ++ p.front;
      rest = p.rest;
      is = took.parts ∙ ap (λ (l : List ℕ). lines_text (s x.0) ++ l) p.is ∙ sym (append_assoc (lines_text (s x.0)) (lines_text p.front) p.rest) ∙ ap (λ (l : List ℕ). l ++ p.rest) (sym (text_append (s x.0) p.front));
      length_left = p.length_left;
      are_lines = All-append IsLine (s x.0) p.front (one.are_lines x.0 took.fits) p.are_lines;
      before = record {
        value = (x.0, p.before.value);
        fits = (took.fits, p.before.fits);
        after = p.before.after;
        is = append_assoc (s x.0) p.front p.before.after ∙ ap (λ (l : List Line). s x.0 ++ l) p.before.is;
      };
      there = λ line more is_line e c.
          let b : B = c.value.1 in
          let rest : List Line = (p.front ++ line ∷ []) ++ c.after in
          let whole : s x.0 ++ rest ≡ s c.value.0 ++ (t c.value.0 b ++ c.further) =
          sym (append_assoc (s x.0) (p.front ++ line ∷ []) c.after) ∙ ap (λ (l : List Line). l ++ c.after) (sym (append_assoc (s x.0) p.front (line ∷ []))) ∙ c.is ∙ append_assoc (s c.value.0) (t c.value.0 b) c.further in
          let same : x.0 ≡ c.value.0 = only_value F s f one x.0 c.value.0 took.fits c.fits.0 rest (t c.value.0 b ++ c.further) whole in
          let both = subst (λ (a : A). (s x.0 ++ rest ≡ s a ++ (t a b ++ c.further)) × G a b) (sym same) (whole, c.fits.1) in
          p.there line more is_line e (record { value = b; fits = both.1; after = c.after; further = c.further; is = cancel (s x.0) rest (t x.0 b ++ c.further) both.0 });
    }

next_stops : {A B : Type 0} (F : A → Type 0) (s : A → List Line) (f : Reader A) (G : A → B → Type 0) (t : A → B → List Line) (g : A → Reader B) → Reads F s f → ((a : A) → F a → Reads (G a) (t a) (g a)) → ((a : A) → F a → (b : B) × G a b) → (bytes : List ℕ) (left : ℕ) → next f g bytes ≡ Err left → Stopping (Both F G) (in_turn s t) bytes left
next_stops {A} {B} F s f G t g one two goes_on bytes left e =
    elim (later_err (f bytes) (λ a. later (g a.0 a.1) (λ b. Ok ((a.0, b.0), b.1))) left e) [
      | First h ↦ next_first F s G t goes_on bytes left (one.stops bytes left h)
      | Second x h k ↦
          elim (later_err (g x.0 x.1) (λ b. Ok ((x.0, b.0), b.1)) left k) [
            | First j ↦
                let took = one.takes bytes x h in
                next_second F s f G t one bytes x left took ((two x.0 took.fits).stops x.1 left j)
            | Second y i j ↦ absurd (no_fault ((x.0, y.0), y.1) left j)
          ]
    ]

pub next_reads : {A B : Type 0} {F : A → Type 0} {s : A → List Line} {f : Reader A} {G : A → B → Type 0} {t : A → B → List Line} {g : A → Reader B} → Reads F s f → ((a : A) → F a → Reads (G a) (t a) (g a)) → ((a : A) → F a → (b : B) × G a b) → Reads (Both F G) (in_turn s t) (next f g)
next_reads {A} {B} {F} {s} {f} {G} {t} {g} one two goes_on = record {
  takes = next_takes F s f G t g one two;
  again = next_again F s f G t g one two;
  stops = next_stops F s f G t g one two goes_on;
  are_lines = λ x h. All-append IsLine (s x.0) (t x.0 x.1) (one.are_lines x.0 h.0) ((two x.0 h.0).are_lines x.1 h.1);
}

-- ---- a value that is made of what is read

pub made_reads : {A B : Type 0} {F : A → Type 0} {s : A → List Line} {f : Reader A} (G : B → Type 0) (t : B → List Line) (to : A → B) (of : B → A) → ((a : A) → F a → (t (to a) ≡ s a) × G (to a)) → ((b : B) → G b → (to (of b) ≡ b) × (t b ≡ s (of b)) × F (of b)) → Reads F s f → Reads G t (made to f)
made_reads {A} {B} {F} {s} {f} G t to of fits back one = record {
  takes = λ bytes x e.
      let a = later_ok (f bytes) (λ a. Ok (to a.0, a.1)) x e in
      let took = one.takes bytes a.0 a.1 in
      let k = fits a.0.0 took.fits in
      let value : B × List ℕ = (to a.0.0, a.0.1) in
      let made_took : Took G t bytes value = record { parts = took.parts ∙ ap (λ (l : List Line). lines_text l ++ a.0.1) (sym k.0); fits = k.1 } in
      subst (λ (y : B × List ℕ). Took G t bytes y) (same_ok value x a.2) made_took;
  again = λ b rest h.
      let k = back b h in
      ap (made to f) (ap (λ (l : List Line). lines_text l ++ rest) k.1) ∙ ap (λ (r : Result (A × List ℕ) ℕ). later r (λ a. Ok (to a.0, a.1))) (one.again (of b) rest k.2) ∙ ap (λ (y : B). right (y, rest)) k.0;
  stops = λ bytes left e. elim (later_err (f bytes) (λ a. Ok (to a.0, a.1)) left e) [
    | First h ↦
        let p = one.stops bytes left h in
        let k = fits p.before.value p.before.fits in
        record {
          front = p.front;
          rest = p.rest;
          is = p.is;
          length_left = p.length_left;
          are_lines = p.are_lines;
          before = record { value = to p.before.value; fits = k.1; after = p.before.after; is = p.before.is ∙ sym k.0 };
          there = λ line more is_line q c.
              let j = back c.value c.fits in
              p.there line more is_line q (record { value = of c.value; fits = j.2; after = c.after; further = c.further; is = c.is ∙ ap (λ (l : List Line). l ++ c.further) j.1 });
        }
    | Second x i j ↦ absurd (no_fault (to x.0, x.1) left j)
  ];
  are_lines = λ b h. let k = back b h in subst (λ (l : List Line). All IsLine l) (sym k.1) (one.are_lines (of b) k.2);
}

-- ---- so many values, each of one line

abbrev pub SoMany : {A : Type 0} → (A → Type 0) → ℕ → List A → Type 0
SoMany F n l = (length l ≡ n) × AllByRecursion F l

pub some_list : {A : Type 0} (F : A → Type 0) (a : A) → F a → (n : ℕ) → (l : List A) × SoMany F n l
some_list F a h zero = ([], (refl, tt))
some_list F a h (suc n) = let rest = some_list F a h n in (a ∷ rest.0, (ap suc rest.1.0, (h, rest.1.1)))

abbrev parted : {A : Type 0} → A → List A → A × List A
parted a [] = (a, [])
parted a (b ∷ l) = (b, l)

parted_back : {A : Type 0} (F : A → Type 0) (s : A → Line) (a : A) (n : ℕ) (l : List A) → SoMany F (suc n) l → ((parted a l).0 ∷ (parted a l).1 ≡ l) × (map s l ≡ (s (parted a l).0 ∷ []) ++ map s (parted a l).1) × (F (parted a l).0 × SoMany F n (parted a l).1)
parted_back F s a n [] h = let never = h.0 in absurd (omega arith)
parted_back F s a n (b ∷ l) h = let len = h.0 in (refl, refl, (h.1.0, (omega arith, h.1.1)))

nothing_again : {A : Type 0} (F : A → Type 0) (s : A → Line) (f : Reader A) (l : List A) (rest : List ℕ) → SoMany F 0 l → times f 0 (lines_text (map s l) ++ rest) ≡ Ok (l, rest)
unfolding times
nothing_again F s f [] rest h = refl
nothing_again F s f (b ∷ l) rest h = let never = h.0 in absurd (omega arith)

nothing_lines : {A : Type 0} (F : A → Type 0) (s : A → Line) (l : List A) → SoMany F 0 l → All IsLine (map s l)
nothing_lines F s [] h = All-nil IsLine
nothing_lines F s (b ∷ l) h = let never = h.0 in absurd (omega arith)

zero_reads : {A : Type 0} (F : A → Type 0) (s : A → Line) (f : Reader A) → Reads (SoMany F 0) (map s) (times f 0)
unfolding times
zero_reads {A} F s f = record {
  takes = λ bytes x e. let value : List A × List ℕ = ([], bytes) in subst (λ (y : List A × List ℕ). Took (SoMany F 0) (map s) bytes y) (same_ok value x e) (record { parts = refl; fits = (refl, tt) });
  again = nothing_again F s f;
  stops = λ bytes left e. let value : List A × List ℕ = ([], bytes) in absurd (no_fault value left e);
  are_lines = nothing_lines F s;
}

pub times_reads : {A : Type 0} {F : A → Type 0} {s : A → Line} {f : Reader A} → Reads F (λ a. s a ∷ []) f → (a : A) → F a → (n : ℕ) → Reads (SoMany F n) (map s) (times f n)
unfolding times
times_reads {A} {F} {s} {f} one a h zero = zero_reads F s f
times_reads {A} {F} {s} {f} one a h (suc n) =
    made_reads (SoMany F (suc n)) (map s) (λ p. p.0 ∷ p.1) (parted a) (λ p k. (refl, (ap suc k.1.0, (k.0, k.1.1)))) (parted_back F s a n)
    (next_reads one (λ b k. times_reads one a h n) (λ b k. some_list F a h n))
