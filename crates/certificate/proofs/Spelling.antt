-- A text is read as the value that it spells, and each value's spelling is read.
use Rattle.certificate.proofs.Common.{◌≡◌, ℕ, suc, ◌^◌, ◌<◌, ◌≤◌, Bool, true, false, cond, eqb, ltb, ◌&&◌, List, [], ◌∷◌, ◌++◌, length, get_or, take, drop, Option, Some, None, option_map, refl, sym, ap, subst, ◌∙◌, arith, inl, inr, drop-cons, All, bytes_eq, position, position_or_len, decimal, digits_value, ltb-true, ltb-false, lt-ltb, eqb-true, eq-eqb, ne_eqb, and_parts, cases_Bool, take_at, drop_at, take-append-drop, length-take, get_or-take, All-nil, All-cons, All-head, All-tail, All-from_get_or, fails_before_first, decimal_is_IsNumeral, digit_at, Words, given, kept, cut_at, plain_number, behind, led_by, both_sides}
use Rattle.std.proofs.lemmas.List.Quantifiers.{position-Some}
use Rattle.std.proofs.lemmas.Slice.Eq.{bytes_eq-Decides}

-- a reader of whole texts and a spelling are each other's inverse
pub record Exact {A : Type 0} (Fits : A → Type 0) (spell : A → List ℕ) (read : Words A) : Type 0 where
  pub takes : (text : List ℕ) (a : A) → read text ≡ Some a → (text ≡ spell a) × Fits a
  pub again : (a : A) → Fits a → read (spell a) ≡ Some a

-- ---- options

abbrev pub some_of : {A : Type 0} → A → Option A
some_of x = Some x

pub same_some : {A : Type 0} (x y : A) → some_of x ≡ some_of y → x ≡ y
same_some x y e = cc

pub chosen : {A : Type 0} (b : Bool) (x y : A) → cond b (some_of x) None ≡ Some y → (b ≡ true) × (x ≡ y)
chosen true x y e = (refl, cc)
chosen false x y e = absurd cc

pub given_some : {A B : Type 0} (o : Option A) (f : A → Option B) (y : B) → given o f ≡ Some y → (x : A) × (o ≡ Some x) × (f x ≡ Some y)
given_some (Some x) f y e = (x, refl, e)
given_some None f y e = absurd cc

pub kept_some : {A : Type 0} (test : A → Bool) (o : Option A) (y : A) → kept test o ≡ Some y → (o ≡ Some y) × (test y ≡ true)
kept_some test (Some x) y e = let g = chosen (test x) x y e in (ap some_of g.1, subst (λ (z : _). test z ≡ true) g.1 g.0)
kept_some test None y e = absurd cc

pub mapped_some : {A B : Type 0} (f : A → B) (o : Option A) (y : B) → option_map f o ≡ Some y → (x : A) × (o ≡ Some x) × (f x ≡ y)
mapped_some f (Some x) y e = (x, refl, cc)
mapped_some f None y e = absurd cc

unmapped : {A B : Type 0} (f : A → B) (o : Option A) → option_map f o ≡ None → o ≡ None
unmapped f (Some x) e = absurd cc
unmapped f None e = refl

-- ---- a byte that a text hasn't

-- the text has no such byte
abbrev pub Lacks : ℕ → List ℕ → Type 0
Lacks by text = All (λ b. eqb b by ≡ false) text

pub cut_again : (by : ℕ) (a b : List ℕ) → Lacks by a → cut_at by (a ++ by ∷ b) ≡ Some (a, b)
unfolding cut_at
cut_again by [] b h = rw (eq-eqb by by refl) refl
cut_again by (x ∷ a) b h =
    rw (All-head (λ b. eqb b by ≡ false) x a h, cut_again by a b (All-tail (λ b. eqb b by ≡ false) x a h)) refl

pub cut_none : (by : ℕ) (a : List ℕ) → Lacks by a → cut_at by a ≡ None
unfolding cut_at
cut_none by [] h = refl
cut_none by (x ∷ a) h =
    rw (All-head (λ b. eqb b by ≡ false) x a h, cut_none by a (All-tail (λ b. eqb b by ≡ false) x a h)) refl

-- the text is the part before the byte, the byte, and the part behind it
pub record IsCut (by : ℕ) (text : List ℕ) (p : List ℕ × List ℕ) : Type 0 where
  pub is : text ≡ p.0 ++ by ∷ p.1
  pub first : Lacks by p.0

cut_cons : (by x : ℕ) (text : List ℕ) (p : List ℕ × List ℕ) → eqb x by ≡ false → IsCut by text p → IsCut by (x ∷ text) (x ∷ p.0, p.1)
cut_cons by x text p h c = record { is = ap (λ (t : List ℕ). x ∷ t) c.is; first = All-cons (λ b. eqb b by ≡ false) x p.0 h c.first }

cut_step : (by x : ℕ) (text : List ℕ) (p : List ℕ × List ℕ) (b : Bool) → eqb x by ≡ b → cond b (some_of ([], text)) (option_map (λ q. (x ∷ q.0, q.1)) (cut_at by text)) ≡ Some p → ((q : List ℕ × List ℕ) → cut_at by text ≡ Some q → IsCut by text q) → IsCut by (x ∷ text) p
cut_step by x text p true h e rest =
    subst (λ (q : List ℕ × List ℕ). IsCut by (x ∷ text) q) (same_some ([], text) p e)
    (record { is = ap (λ (n : ℕ). n ∷ text) (eqb-true x by h); first = All-nil (λ b. eqb b by ≡ false) })
cut_step by x text p false h e rest =
    let q = mapped_some (λ (q : List ℕ × List ℕ). (x ∷ q.0, q.1)) (cut_at by text) p e in
    subst (λ (q : List ℕ × List ℕ). IsCut by (x ∷ text) q) q.2 (cut_cons by x text q.0 h (rest q.0 q.1))

pub cut_takes : (by : ℕ) (text : List ℕ) (p : List ℕ × List ℕ) → cut_at by text ≡ Some p → IsCut by text p
unfolding cut_at
cut_takes by [] p e = absurd cc
cut_takes by (x ∷ text) p e = cut_step by x text p (eqb x by) refl e (λ q h. cut_takes by text q h)

uncut_step : (by x : ℕ) (text : List ℕ) (b : Bool) → eqb x by ≡ b → cond b (some_of {A = List ℕ × List ℕ} ([], text)) (option_map (λ q. (x ∷ q.0, q.1)) (cut_at by text)) ≡ None → (eqb x by ≡ false) × (cut_at by text ≡ None)
uncut_step by x text true h e = absurd cc
uncut_step by x text false h e = (h, unmapped (λ (q : List ℕ × List ℕ). (x ∷ q.0, q.1)) (cut_at by text) e)

-- a text that isn't cut has no such byte
pub uncut : (by : ℕ) (text : List ℕ) → cut_at by text ≡ None → Lacks by text
unfolding cut_at
uncut by [] e = All-nil (λ b. eqb b by ≡ false)
uncut by (x ∷ text) e = let s = uncut_step by x text (eqb x by) refl e in All-cons (λ b. eqb b by ≡ false) x text s.0 (uncut by text s.1)

lacks_take : (by : ℕ) (text : List ℕ) (at : ℕ) → at ≤ length text → ((k : ℕ) → k < at → eqb (get_or text k 0) by ≡ false) → Lacks by (take at text)
lacks_take by text at le h = All-from_get_or (λ b. eqb b by ≡ false) (take at text) 0 (λ i lt. let small : i < at = omega (arith, length-take at text, lt) in rw (get_or-take at text i 0 small) (h i small))

-- the first place of a byte cuts the text
pub cut_place : (by : ℕ) (text : List ℕ) (at : ℕ) → position (λ b. eqb b by) text ≡ Some at → cut_at by text ≡ Some (take at text, drop (suc at) text)
cut_place by text at e =
    let s = position-Some (λ b. eqb b by) text at 0 e in
    let within : at < length text = s.0 in
    let byte : get_or text at 0 ≡ by = eqb-true (get_or text at 0) by s.1 in
    let parts : take at text ++ by ∷ drop (suc at) text ≡ text = ap (λ (n : ℕ). take at text ++ n ∷ drop (suc at) text) (sym byte) ∙ ap (λ (l : List ℕ). take at text ++ l) (sym (drop-cons text at 0 within)) ∙ take-append-drop at text in
    ap (cut_at by) (sym parts) ∙ cut_again by (take at text) (drop (suc at) text) (lacks_take by text at (omega arith) s.2)

not_chosen : (b : Bool) (x : ℕ) → cond b (some_of x) None ≡ None → b ≡ false
not_chosen true x e = absurd cc
not_chosen false x e = refl

before : (by : ℕ) (text : List ℕ) (i : ℕ) → position (λ b. eqb b by) text ≡ None → i < length text → i < position_or_len (λ b. eqb b by) text
before by text i e lt =
    let le = ltb-false (position_or_len (λ b. eqb b by) text) (length text) (not_chosen _ _ e) in
    omega arith

none_passes : (by : ℕ) (text : List ℕ) → position (λ b. eqb b by) text ≡ None → Lacks by text
none_passes by text e = All-from_get_or (λ b. eqb b by ≡ false) text 0 (λ i lt. fails_before_first (λ b. eqb b by) text i 0 (before by text i e lt))

-- a byte that has no place cuts no text
pub cut_no_place : (by : ℕ) (text : List ℕ) → position (λ b. eqb b by) text ≡ None → cut_at by text ≡ None
cut_no_place by text e = cut_none by text (none_passes by text e)

-- ---- equal texts

pub same_text : (a b : List ℕ) → bytes_eq a b ≡ true → a ≡ b
same_text a b h = (bytes_eq-Decides a b).0 h

pub text_same : (a b : List ℕ) → a ≡ b → bytes_eq a b ≡ true
text_same a b e = (bytes_eq-Decides a b).1 e

pub text_other : (a b : List ℕ) → (a ≡ b → ⊥) → bytes_eq a b ≡ false
text_other a b never = elim (cases_Bool (bytes_eq a b)) [ inl t ↦ absurd (never (same_text a b t)) | inr f ↦ f ]

-- ---- numbers

number_takes : (text : List ℕ) (n : ℕ) → plain_number text ≡ Some n → (text ≡ decimal n) × (n < 2 ^ 64)
unfolding plain_number
number_takes text n e =
    let v : ℕ = digits_value 10 text in
    let g = chosen (bytes_eq text (decimal v) && ltb v (2 ^ 64)) v n e in
    let h = and_parts (bytes_eq text (decimal v)) (ltb v (2 ^ 64)) g.0 in
    (same_text text (decimal v) h.0 ∙ ap decimal g.1, subst (λ (k : ℕ). k < 2 ^ 64) g.1 (ltb-true v (2 ^ 64) h.1))

number_again : (n : ℕ) → n < 2 ^ 64 → plain_number (decimal n) ≡ Some n
unfolding plain_number
number_again n lt =
    let v = (decimal_is_IsNumeral n lt).1 in
    let same : bytes_eq (decimal n) (decimal n) ≡ true = text_same (decimal n) (decimal n) refl in
    let small : ltb n (2 ^ 64) ≡ true = lt-ltb n (2 ^ 64) lt in
    rw (v, same, small) refl

pub number : Exact (λ n. n < 2 ^ 64) decimal plain_number
number = record { takes = number_takes; again = number_again }

pub decimal_lacks : (by n : ℕ) → by < 48 → n < 2 ^ 64 → Lacks by (decimal n)
decimal_lacks by n small lt = All-from_get_or (λ b. eqb b by ≡ false) (decimal n) 0 (λ i within.
    let d = digit_at (decimal n) i (decimal_is_IsNumeral n lt).0.1 within in
    ne_eqb (get_or (decimal n) i 0) by (λ e. let low : 48 ≤ get_or (decimal n) i 0 = d.0 in omega arith))

-- ---- tests, beginnings, and values on both sides of a byte

pub kept_exact : {A : Type 0} {F : A → Type 0} {s : A → List ℕ} {f : Words A} (test : A → Bool) → Exact F s f → Exact (λ a. F a × (test a ≡ true)) s (λ text. kept test (f text))
kept_exact {A} {F} {s} {f} test one = record {
  takes = λ text a e. let k = kept_some test (f text) a e in let t = one.takes text a k.0 in (t.0, (t.1, k.1));
  again = λ a h. let r = one.again a h.0 in let t : test a ≡ true = h.1 in rw (r, t) refl;
}

pub behind_takes : (front text rest : List ℕ) → behind front text ≡ Some rest → text ≡ front ++ rest
behind_takes front text rest e =
    let g = chosen (bytes_eq (take (length front) text) front) (drop (length front) text) rest e in
    sym (take-append-drop (length front) text) ∙ ap (λ (l : List ℕ). l ++ drop (length front) text) (same_text (take (length front) text) front g.0) ∙ ap (λ (l : List ℕ). front ++ l) g.1

pub behind_again : (front rest : List ℕ) → behind front (front ++ rest) ≡ Some rest
behind_again front rest =
    let same : bytes_eq front front ≡ true = text_same front front refl in
    rw (take_at front rest (length front) refl, drop_at front rest (length front) refl, same) refl

pub led_exact : {A : Type 0} {F : A → Type 0} {s : A → List ℕ} {f : Words A} (front : List ℕ) → Exact F s f → Exact F (λ a. front ++ s a) (led_by front f)
led_exact {A} {F} {s} {f} front one = record {
  takes = λ text a e.
      let g = given_some (behind front text) f a e in
      let t = one.takes g.0 a g.2 in
      (behind_takes front text g.0 g.1 ∙ ap (λ (l : List ℕ). front ++ l) t.0, t.1);
  again = λ a h. ap (λ (o : Option (List ℕ)). given o f) (behind_again front (s a)) ∙ one.again a h;
}

sides_takes : {A B : Type 0} (F : A → Type 0) (s : A → List ℕ) (f : Words A) (G : B → Type 0) (t : B → List ℕ) (g : Words B) (by : ℕ) → Exact F s f → Exact G t g → (text : List ℕ) (x : A × B) → both_sides by f g text ≡ Some x → (text ≡ s x.0 ++ by ∷ t x.1) × (F x.0 × G x.1)
sides_takes {A} {B} F s f G t g by one two text x e =
    let p = given_some (cut_at by text) (λ p. given (f p.0) (λ a. given (g p.1) (λ b. Some (a, b)))) x e in
    let a = given_some (f p.0.0) (λ a. given (g p.0.1) (λ b. Some (a, b))) x p.2 in
    let b = given_some (g p.0.1) (λ b. Some (a.0, b)) x a.2 in
    let ta = one.takes p.0.0 a.0 a.1 in
    let tb = two.takes p.0.1 b.0 b.1 in
    let c = cut_takes by text p.0 p.1 in
    let made : A × B = (a.0, b.0) in
    let parts : text ≡ s a.0 ++ by ∷ t b.0 = c.is ∙ ap (λ (l : List ℕ). l ++ by ∷ p.0.1) ta.0 ∙ ap (λ (l : List ℕ). s a.0 ++ by ∷ l) tb.0 in
    let whole : (text ≡ s made.0 ++ by ∷ t made.1) × (F made.0 × G made.1) = (parts, (ta.1, tb.1)) in
    subst (λ (y : A × B). (text ≡ s y.0 ++ by ∷ t y.1) × (F y.0 × G y.1)) (same_some made x b.2) whole

sides_again : {A B : Type 0} (F : A → Type 0) (s : A → List ℕ) (f : Words A) (G : B → Type 0) (t : B → List ℕ) (g : Words B) (by : ℕ) → Exact F s f → ((a : A) → F a → Lacks by (s a)) → Exact G t g → (x : A × B) → F x.0 × G x.1 → both_sides by f g (s x.0 ++ by ∷ t x.1) ≡ Some x
sides_again F s f G t g by one lacks two x h =
    rw (cut_again by (s x.0) (t x.1) (lacks x.0 h.0), one.again x.0 h.0, two.again x.1 h.1) refl

pub sides_exact : {A B : Type 0} {F : A → Type 0} {s : A → List ℕ} {f : Words A} {G : B → Type 0} {t : B → List ℕ} {g : Words B} (by : ℕ) → Exact F s f → ((a : A) → F a → Lacks by (s a)) → Exact G t g → Exact (λ (x : A × B). F x.0 × G x.1) (λ x. s x.0 ++ by ∷ t x.1) (both_sides by f g)
sides_exact {A} {B} {F} {s} {f} {G} {t} {g} by one lacks two = record { takes = sides_takes F s f G t g by one two; again = sides_again F s f G t g by one lacks two }

-- ---- a value by its parts

pub mapped_exact : {A B : Type 0} {F : A → Type 0} {s : A → List ℕ} {f : Words A} (G : B → Type 0) (t : B → List ℕ) (to : A → B) (of : B → A) → ((a : A) → F a → (t (to a) ≡ s a) × G (to a)) → ((b : B) → G b → (to (of b) ≡ b) × (t b ≡ s (of b)) × F (of b)) → Exact F s f → Exact G t (λ text. option_map to (f text))
mapped_exact {A} {B} {F} {s} {f} G t to of fits back one = record {
  takes = λ text b e.
      let m = mapped_some to (f text) b e in
      let t1 = one.takes text m.0 m.1 in
      let k = fits m.0 t1.1 in
      let made : (text ≡ t (to m.0)) × G (to m.0) = (t1.0 ∙ sym k.0, k.1) in
      subst (λ (y : B). (text ≡ t y) × G y) m.2 made;
  again = λ b h.
      let k = back b h in
      ap (λ (l : List ℕ). option_map to (f l)) k.1 ∙ ap (option_map to) (one.again (of b) k.2) ∙ ap some_of k.0;
}
