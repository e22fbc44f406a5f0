-- A reader stops behind the last whole field that some value's spelling may have there.
use Rattle.post_codec.proofs.Common.{◌≡◌, ◌⊎◌, inl, inr, ℕ, zero, suc, ◌+◌, ◌<◌, ◌≤◌, List, [], ◌∷◌, ◌++◌, length, take, drop, Result, Ok, Err, refl, sym, ap, subst, ◌∙◌, append_assoc, arith, length-append, length-take, All, flat_map, AllByRecursion, take_at, take-append-drop, append-nil, flat_map-append, All-from_recursion, recursion_from_All, Reader, ◌>>=◌, ◌then◌, made, times, counted, bytes_of}
use Rattle.post_codec.proofs.Laws.{AreBytes, Inverse}

-- these bytes are first fields of some value
pub record Begins {A : Type 0} (Fits : A → Type 0) (fields : A → List (List ℕ)) (front : List ℕ) : Type 0 where
  pub whole : A
  pub fits : Fits whole
  pub count : ℕ
  pub is : front ≡ bytes_of (take count (fields whole))

-- the bytes that a reader leaves, or those from its fault on
abbrev pub left_of : {A : Type 0} → Result (A × List ℕ) ℕ → ℕ
left_of (Ok x) = length x.1
left_of (Err n) = n

-- no front of whole fields goes beyond where a reader ends, and up to its fault there is one
pub record Steers {A : Type 0} (Fits : A → Type 0) (fields : A → List (List ℕ)) (read : Reader A) : Type 0 where
  pub some : (a : A) × Fits a
  pub least : (bytes : List ℕ) (left : ℕ) → AreBytes bytes → read bytes ≡ Err left → (at : ℕ) × (at + left ≡ length bytes) × Begins Fits fields (take at bytes)
  pub most : (bytes : List ℕ) (n : ℕ) → AreBytes bytes → n ≤ length bytes → Begins Fits fields (take n bytes) → n + left_of (read bytes) ≤ length bytes

-- ---- results
abbrev fault_of : {A : Type 0} → ℕ → Result A ℕ
fault_of n = Err n

pub same_fault : {A B : Type 0} (d left : ℕ) → ◌≡◌ {A = Result A ℕ} (Err d) (Err left) → ◌≡◌ {A = Result B ℕ} (Err d) (Err left)
same_fault {A} {B} d left e = let same : d ≡ left = cc in ap (λ (n : ℕ). fault_of {A = B} n) same

pub no_fault : {A : Type 0} (x : A) (left : ℕ) → ◌≡◌ {A = Result A ℕ} (Ok x) (Err left) → ⊥
no_fault x left e = absurd cc

pub stopped : {A B : Type 0} (r : Result A ℕ) (f : A → Result B ℕ) (left : ℕ) → (r >>= f) ≡ Err left → (r ≡ Err left) ⊎ ((x : A) × (r ≡ Ok x) × (f x ≡ Err left))
stopped (Ok x) f left e = inr (x, refl, e)
stopped {A} {B} (Err d) f left e = inl (same_fault {A = B} {B = A} d left e)

-- ---- fields
pub fields_first : {X : Type 0} (k : ℕ) (xs ys : List X) → (j : ℕ) × (take j (xs ++ ys) ≡ take k xs)
fields_first zero xs ys = (0, refl)
fields_first (suc k) [] ys = (0, refl)
fields_first {X} (suc k) (x ∷ xs) ys = let r = fields_first k xs ys in (suc r.0, ap (λ (l : List X). x ∷ l) r.1)

pub fields_past : {X : Type 0} (k : ℕ) (xs ys : List X) → take (length xs + k) (xs ++ ys) ≡ xs ++ take k ys
fields_past k [] ys = ap (λ n. take n ys) (let e : 0 + k ≡ k = omega arith in e)
fields_past {X} k (x ∷ xs) ys =
    let e : length (x ∷ xs) + k ≡ suc (length xs + k) = omega arith in
    ap (λ n. take n (x ∷ (xs ++ ys))) e ∙ ap (λ (l : List X). x ∷ l) (fields_past k xs ys)

pub fields_cut : {X : Type 0} (k : ℕ) (xs ys : List X) → (take k (xs ++ ys) ≡ take k xs) ⊎ ((j : ℕ) × (take k (xs ++ ys) ≡ xs ++ take j ys))
fields_cut zero xs ys = inl refl
fields_cut (suc k) [] ys = inr (suc k, refl)
fields_cut {X} (suc k) (x ∷ xs) ys = elim (fields_cut k xs ys) [
  | inl e ↦ inl (ap (λ (l : List X). x ∷ l) e)
  | inr r ↦ inr (r.0, ap (λ (l : List X). x ∷ l) r.1)
]

pub bytes_more : (xs ys : List (List ℕ)) → bytes_of (xs ++ ys) ≡ bytes_of xs ++ bytes_of ys
bytes_more xs ys = flat_map-append (λ (l : List ℕ). l) xs ys

-- nothing is the beginning of any value
pub begins_none : {A : Type 0} (Fits : A → Type 0) (fields : A → List (List ℕ)) (bytes : List ℕ) → (a : A) × Fits a → Begins Fits fields (take 0 bytes)
begins_none Fits fields bytes some = record { whole = some.0; fits = some.1; count = 0; is = refl }

-- a reader leaves no more than there is
pub leaves : {A : Type 0} {Fits : A → Type 0} {fields : A → List (List ℕ)} {read : Reader A} → Steers Fits fields read → (bytes : List ℕ) → AreBytes bytes → left_of (read bytes) ≤ length bytes
leaves {A} {Fits} {fields} {read} s bytes h =
    let most : 0 + left_of (read bytes) ≤ length bytes = s.most bytes 0 h (omega arith) (begins_none Fits fields bytes s.some) in
    omega arith

-- ---- a value of one part after another
module _ {A B C : Type 0} (F : A → Type 0) (s : A → List ℕ) (fa : A → List (List ℕ)) (f : Reader A) (G : A → B → Type 0) (fb : B → List (List ℕ)) (g : A → Reader B) (H : C → Type 0) (fc : C → List (List ℕ)) (to : A → B → C) where
  -- both parts of a whole
  pub record Parts (c : C) : Type 0 where
    pub first : A
    pub second : B
    pub fits : F first
    pub also : G first second
    pub is : fc c ≡ fa first ++ fb second

  abbrev pub bind : Reader C
  bind bytes = f bytes >>= λ a. g a.0 a.1 >>= λ b. Ok (to a.0 b.0, b.1)

  pub record Binds : Type 0 where
    pub inverse : Inverse F s f
    pub joins : (a : A) → bytes_of (fa a) ≡ s a
    pub one : Steers F fa f
    pub two : (a : A) → F a → Steers (G a) fb (g a)
    pub apart : (c : C) → H c → Parts c
    pub fits : (a : A) (b : B) → F a → G a b → H (to a b)
    pub fields : (a : A) (b : B) → F a → G a b → fc (to a b) ≡ fa a ++ fb b

  module _ (binds : Binds) where
    bind_some : (c : C) × H c
    bind_some =
        let a = binds.one.some in
        let b = (binds.two a.0 a.1).some in (to a.0 b.0, binds.fits a.0 b.0 a.1 b.1)

    first_begins : (front : List ℕ) → Begins F fa front → Begins H fc front
    first_begins front begins =
        let a = begins.whole in
        let b = (binds.two a begins.fits).some in
        let j = fields_first begins.count (fa a) (fb b.0) in
        record {
          whole = to a b.0;
          fits = binds.fits a b.0 begins.fits b.1;
          count = j.0;
          is = begins.is ∙ ap bytes_of (sym j.1) ∙ ap (λ (l : List (List ℕ)). bytes_of (take j.0 l)) (sym (binds.fields a b.0 begins.fits b.1));
        }

    second_begins : (a : A) (front : List ℕ) → F a → Begins (G a) fb front → Begins H fc (s a ++ front)
    second_begins a front fits begins = record {
      whole = to a begins.whole;
      fits = binds.fits a begins.whole fits begins.fits;
      count = length (fa a) + begins.count;
      is =
          ap (λ (l : List ℕ). s a ++ l) begins.is
          ∙ ap (λ (l : List ℕ). l ++ bytes_of (take begins.count (fb begins.whole))) (sym (binds.joins a))
          ∙ sym (bytes_more (fa a) (take begins.count (fb begins.whole)))
          ∙ ap bytes_of (sym (fields_past begins.count (fa a) (fb begins.whole)))
          ∙ ap (λ (l : List (List ℕ)). bytes_of (take (length (fa a) + begins.count) l)) (sym (binds.fields a begins.whole fits begins.fits));
    }

    bind_least : (bytes : List ℕ) (left : ℕ) → AreBytes bytes → bind bytes ≡ Err left → (at : ℕ) × (at + left ≡ length bytes) × Begins H fc (take at bytes)
    bind_least bytes left h e = elim (stopped (f bytes) (λ a. g a.0 a.1 >>= λ b. Ok (to a.0 b.0, b.1)) left e) [
      | inl fault ↦ let l = binds.one.least bytes left h fault in (l.0, l.1, first_begins (take l.0 bytes) l.2)
      | inr r ↦
          let a = r.0 in
          let took = binds.inverse.takes bytes a h r.1 in
          elim (stopped (g a.0 a.1) (λ b. Ok (to a.0 b.0, b.1)) left r.2) [
            | inl fault ↦
                let l = (binds.two a.0 took.fits).least a.1 left took.rest fault in
                let at : ℕ = length (s a.0) + l.0 in
                let whole : length bytes ≡ length (s a.0) + length a.1 = ap length took.parts ∙ length-append (s a.0) a.1 in
                let front : take at bytes ≡ s a.0 ++ take l.0 a.1 = ap (take at) took.parts ∙ fields_past l.0 (s a.0) a.1 in
                (at, omega (arith, l.1), subst (Begins H fc) (sym front) (second_begins a.0 (take l.0 a.1) took.fits l.2))
            | inr never ↦ absurd (no_fault _ left never.2)
          ]
    ]

    left_made : (a : A) (r : Result (B × List ℕ) ℕ) → left_of (r >>= λ b. Ok (to a b.0, b.1)) ≡ left_of r
    left_made a (Ok x) = refl
    left_made a (Err d) = refl

    left_less : (bytes : List ℕ) (r : Result (A × List ℕ) ℕ) → AreBytes bytes → f bytes ≡ r → left_of (r >>= λ a. g a.0 a.1 >>= λ b. Ok (to a.0 b.0, b.1)) ≤ left_of r
    left_less bytes (Err d) h e = omega arith
    left_less bytes (Ok a) h e =
        let took = binds.inverse.takes bytes a h e in
        let rest : left_of (g a.0 a.1) ≤ length a.1 = leaves (binds.two a.0 took.fits) a.1 took.rest in
        omega (arith, left_made a.0 (g a.0 a.1))

    bind_most : (bytes : List ℕ) (n : ℕ) → AreBytes bytes → n ≤ length bytes → Begins H fc (take n bytes) → n + left_of (bind bytes) ≤ length bytes
    bind_most bytes n h le begins =
        let p = binds.apart begins.whole begins.fits in
        let is : take n bytes ≡ bytes_of (take begins.count (fa p.first ++ fb p.second)) = begins.is ∙ ap (λ (l : List (List ℕ)). bytes_of (take begins.count l)) p.is in
        elim (fields_cut begins.count (fa p.first) (fb p.second)) [
          | inl e ↦
              let one : n + left_of (f bytes) ≤ length bytes = binds.one.most bytes n h le (record { whole = p.first; fits = p.fits; count = begins.count; is = is ∙ ap bytes_of e }) in
              let less : left_of (bind bytes) ≤ left_of (f bytes) = left_less bytes (f bytes) h refl in
              omega arith
          | inr r ↦
              let second : List ℕ = bytes_of (take r.0 (fb p.second)) in
              let front : take n bytes ≡ s p.first ++ second = is ∙ ap bytes_of r.1 ∙ bytes_more (fa p.first) (take r.0 (fb p.second)) ∙ ap (λ (l : List ℕ). l ++ second) (binds.joins p.first) in
              let tail : List ℕ = second ++ drop n bytes in
              let parts : bytes ≡ s p.first ++ tail = sym (take-append-drop n bytes) ∙ ap (λ (l : List ℕ). l ++ drop n bytes) front ∙ append_assoc (s p.first) second (drop n bytes) in
              let read : f bytes ≡ Ok (p.first, tail) = ap f parts ∙ binds.inverse.again p.first tail p.fits in
              let took = binds.inverse.takes bytes (p.first, tail) h read in
              let size : n ≡ length (s p.first) + length second = omega (arith, length-take n bytes, ap length front, length-append (s p.first) second) in
              let whole : length bytes ≡ length (s p.first) + length tail = ap length parts ∙ length-append (s p.first) tail in
              let room : length second ≤ length tail = omega (arith, length-append second (drop n bytes)) in
              let two : length second + left_of (g p.first tail) ≤ length tail = (binds.two p.first p.fits).most tail (length second) took.rest room
              (record { whole = p.second; fits = p.also; count = r.0; is = take_at second (drop n bytes) (length second) refl }) in
              let left : left_of (bind bytes) ≡ left_of (g p.first tail) = ap (λ (r : Result (A × List ℕ) ℕ). left_of (r >>= λ a. g a.0 a.1 >>= λ b. Ok (to a.0 b.0, b.1))) read ∙ left_made p.first (g p.first tail) in
              omega arith
        ]

    pub bind_steers : Steers H fc bind
    bind_steers = record { some = bind_some; least = bind_least; most = bind_most }

pub pair_steers : {A B : Type 0} (F : A → Type 0) (s : A → List ℕ) (fa : A → List (List ℕ)) (f : Reader A) (G : B → Type 0) (fb : B → List (List ℕ)) (g : Reader B) → Inverse F s f → ((a : A) → bytes_of (fa a) ≡ s a) → Steers F fa f → Steers G fb g
    → Steers (λ (p : A × B). F p.0 × G p.1) (λ p. fa p.0 ++ fb p.1) (f then g)
pair_steers {A} {B} F s fa f G fb g inverse joins one two =
    bind_steers F s fa f (λ a. G) fb (λ a. g) (λ (p : A × B). F p.0 × G p.1) (λ p. fa p.0 ++ fb p.1) (λ a b. (a, b)) (record {
      inverse = inverse;
      joins = joins;
      one = one;
      two = λ a fits. two;
      apart = λ p h. record { first = p.0; second = p.1; fits = h.0; also = h.1; is = refl };
      fits = λ a b fits also. (fits, also);
      fields = λ a b fits also. refl;
    })

-- ---- a value of what is read
pub part_steers : {A B : Type 0} (F : A → Type 0) (fa : A → List (List ℕ)) (f : Reader A) (G : B → Type 0) (fb : B → List (List ℕ)) (to : A → B) → ((a : A) → F a → G (to a)) → ((a : A) → F a → fb (to a) ≡ fa a) → ((b : B) → G b → (a : A) × F a × (fb b ≡ fa a)) → Steers F fa f → Steers G fb (made to f)
part_steers {A} {B} F fa f G fb to fits fields back one = record {
  some = (to one.some.0, fits one.some.0 one.some.1);
  least = λ bytes left h e.
      elim (stopped (f bytes) (λ a. Ok (to a.0, a.1)) left e) [
        | inl fault ↦
            let l = one.least bytes left h fault in
            (l.0, l.1, record { whole = to l.2.whole; fits = fits l.2.whole l.2.fits; count = l.2.count; is = l.2.is ∙ ap (λ (x : List (List ℕ)). bytes_of (take l.2.count x)) (sym (fields l.2.whole l.2.fits)) })
        | inr never ↦ absurd (no_fault _ left never.2)
      ];
  most = λ bytes n h le begins.
      let part = back begins.whole begins.fits in
      let most : n + left_of (f bytes) ≤ length bytes = one.most bytes n h le (record { whole = part.0; fits = part.1; count = begins.count; is = begins.is ∙ ap (λ (x : List (List ℕ)). bytes_of (take begins.count x)) part.2 }) in
      omega (arith, left_same (f bytes));
}
  where
    left_same : (r : Result (A × List ℕ) ℕ) → left_of (r >>= λ a. Ok (to a.0, a.1)) ≡ left_of r
    left_same (Ok x) = refl
    left_same (Err d) = refl

pub made_steers : {A B : Type 0} (F : A → Type 0) (fa : A → List (List ℕ)) (f : Reader A) (G : B → Type 0) (fb : B → List (List ℕ)) (to : A → B) (of : B → A) → ((a : A) → F a → G (to a)) → ((a : A) → F a → fb (to a) ≡ fa a) → ((b : B) → G b → F (of b)) → ((b : B) → fb b ≡ fa (of b)) → Steers F fa f → Steers G fb (made to f)
made_steers F fa f G fb to of fits fields fits_back fields_back one = part_steers F fa f G fb to fits fields (λ b h. (of b, fits_back b h, fields_back b)) one

-- readers that give the same
pub same_steers : {A : Type 0} (F : A → Type 0) (fa : A → List (List ℕ)) (f g : Reader A) → ((bytes : List ℕ) → g bytes ≡ f bytes) → Steers F fa f → Steers F fa g
same_steers F fa f g same one = record {
  some = one.some;
  least = λ bytes left h e. one.least bytes left h (sym (same bytes) ∙ e);
  most = λ bytes n h le begins. subst (λ r. n + left_of r ≤ length bytes) (sym (same bytes)) (one.most bytes n h le begins);
}

-- ---- a value of one field
pub record Field {A : Type 0} (F : A → Type 0) (s : A → List ℕ) (size : ℕ) (f : Reader A) : Type 0 where
  pub inverse : Inverse F s f
  pub some : (a : A) × F a
  pub sized : (a : A) → length (s a) ≡ size
  pub short : (bytes : List ℕ) (left : ℕ) → f bytes ≡ Err left → (left ≡ length bytes) × (length bytes < size)

module _ {A : Type 0} (F : A → Type 0) (s : A → List ℕ) (size : ℕ) (f : Reader A) (field : Field F s size f) where
  abbrev alone : A → List (List ℕ)
  alone a = s a ∷ []

  field_left : (bytes : List ℕ) (r : Result (A × List ℕ) ℕ) → AreBytes bytes → f bytes ≡ r → ((left_of r ≡ length bytes) × (length bytes < size)) ⊎ (size + left_of r ≡ length bytes)
  field_left bytes (Err d) h e = inl (field.short bytes d e)
  field_left bytes (Ok x) h e =
      let took = field.inverse.takes bytes x h e in
      inr (omega (arith, ap length took.parts, length-append (s x.0) x.1, field.sized x.0))

  size_begun : (k : ℕ) (a : A) → (length (bytes_of (take k (alone a))) ≡ 0) ⊎ (length (bytes_of (take k (alone a))) ≡ size)
  size_begun zero a = inl refl
  size_begun (suc zero) a = inr (omega (arith, length-append (s a) [], field.sized a))
  size_begun (suc (suc k)) a = inr (omega (arith, length-append (s a) [], field.sized a))

  pub field_steers : Steers F alone f
  field_steers = record {
    some = field.some;
    least = λ bytes left h e. let short = field.short bytes left e in (0, omega (arith, short.0), begins_none F alone bytes field.some);
    most = λ bytes n h le begins.
        let size_n : n ≡ length (bytes_of (take begins.count (alone begins.whole))) = omega (arith, length-take n bytes, ap length begins.is) in
        elim (field_left bytes (f bytes) h refl) [
          | inl short ↦ elim (size_begun begins.count begins.whole) [
            | inl none ↦ omega (arith, size_n, none, short.0)
            | inr all ↦ absurd (omega (arith, size_n, all, short.1, le))
          ]
          | inr long ↦ elim (size_begun begins.count begins.whole) [
            | inl none ↦ omega (arith, size_n, none, long)
            | inr all ↦ omega (arith, size_n, all, long)
          ]
        ];
  }

  pub field_joins : (a : A) → bytes_of (alone a) ≡ s a
  field_joins a = append-nil (s a)

-- ---- so many values
abbrev pub AreMany : {A : Type 0} (F : A → Type 0) → ℕ → List A → Type 0
AreMany F n l = (length l ≡ n) × AllByRecursion F l

module _ {A : Type 0} (F : A → Type 0) (s : A → List ℕ) (fields : A → List (List ℕ)) (f : Reader A) (inverse : Inverse F s f) (joins : (a : A) → bytes_of (fields a) ≡ s a) (one : Steers F fields f) where
  pub times_steers : (n : ℕ) → Steers (AreMany F n) (flat_map fields) (times f n)
  unfolding times
  times_steers zero = record {
    some = ([], (refl, tt));
    least = λ bytes left h e. absurd (no_fault _ left e);
    most = λ bytes n h le begins.
        let none : length (bytes_of (take begins.count (flat_map fields begins.whole))) ≡ 0 = no_bytes begins.count begins.whole begins.fits.0 in
        omega (arith, length-take n bytes, ap length begins.is, none);
  }
    where
      no_bytes : (k : ℕ) (l : List A) → length l ≡ 0 → length (bytes_of (take k (flat_map fields l))) ≡ 0
      no_bytes zero l e = refl
      no_bytes (suc k) [] e = refl
      no_bytes (suc k) (a ∷ l) e = absurd (omega (arith, e))
  times_steers (suc n) = bind_steers F s fields f (λ a. AreMany F n) (flat_map fields) (λ a. times f n) (AreMany F (suc n)) (flat_map fields) (λ a l. a ∷ l) (record {
    inverse = inverse;
    joins = joins;
    one = one;
    two = λ a fits. times_steers n;
    apart = apart n;
    fits = λ a l fits also. (ap suc also.0, (fits, also.1));
    fields = λ a l fits also. refl;
  })
    where
      apart : (n : ℕ) (l : List A) → (length l ≡ suc n) × AllByRecursion F l → Parts F s fields f (λ a. AreMany F n) (flat_map fields) (λ a. times f n) (AreMany F (suc n)) (flat_map fields) (λ a l. a ∷ l) l
      apart n [] h = absurd (omega (arith, h.0))
      apart n (a ∷ l) h = record { first = a; second = l; fits = h.1.0; also = (omega (arith, h.0), h.1.1); is = refl }

-- ---- a number, and so many values
ok_back : {B : Type 0} (r : Result (B × List ℕ) ℕ) → (r >>= λ b. Ok (b.0, b.1)) ≡ r
ok_back (Ok x) = refl
ok_back (Err d) = refl

unwrapped : {B : Type 0} (g : ℕ → Reader B) (r : Result (ℕ × List ℕ) ℕ) → (r >>= λ n. g n.0 n.1) ≡ (r >>= λ n. g n.0 n.1 >>= λ b. Ok (b.0, b.1))
unwrapped g (Ok n) = sym (ok_back (g n.0 n.1))
unwrapped g (Err d) = refl

pub counted_steers : {A : Type 0} (limit size : ℕ) (ns : ℕ → List ℕ) (nf : Reader ℕ) (F : A → Type 0) (s : A → List ℕ) (fields : A → List (List ℕ)) (f : Reader A) → Field (λ n. n < limit) ns size nf → Inverse F s f → ((a : A) → bytes_of (fields a) ≡ s a) → Steers F fields f
    → Steers (λ (l : List A). (length l < limit) × All F l) (λ l. ns (length l) ∷ flat_map fields l) (counted nf f)
counted_steers {A} limit size ns nf F s fields f number inverse joins one =
    same_steers _ _ _ (counted nf f) (λ bytes. unwrapped (times f) (nf bytes))
    (bind_steers (λ n. n < limit) ns (λ n. ns n ∷ []) nf (AreMany F) (flat_map fields) (times f) (λ (l : List A). (length l < limit) × All F l) (λ l. ns (length l) ∷ flat_map fields l) (λ n l. l) (record {
      inverse = number.inverse;
      joins = field_joins (λ n. n < limit) ns size nf number;
      one = field_steers (λ n. n < limit) ns size nf number;
      two = λ n fits. times_steers F s fields f inverse joins one n;
      apart = λ l h. record { first = length l; second = l; fits = h.0; also = (refl, recursion_from_All F l h.1); is = refl };
      fits = λ n l fits also. (omega (arith, fits, also.0), All-from_recursion F l also.1);
      fields = λ n l fits also. ap (λ (k : ℕ). ns k ∷ flat_map fields l) also.0;
    }))

pub many_joins : {A : Type 0} (ns : ℕ → List ℕ) (s : A → List ℕ) (fields : A → List (List ℕ)) → ((a : A) → bytes_of (fields a) ≡ s a) → (l : List A) → bytes_of (ns (length l) ∷ flat_map fields l) ≡ ns (length l) ++ flat_map s l
many_joins {A} ns s fields joins l = ap (λ (x : List ℕ). ns (length l) ++ x) (each l)
  where
    each : (l : List A) → bytes_of (flat_map fields l) ≡ flat_map s l
    each [] = refl
    each (a ∷ l) = bytes_more (fields a) (flat_map fields l) ∙ ap (λ (x : List ℕ). x ++ bytes_of (flat_map fields l)) (joins a) ∙ ap (λ (x : List ℕ). s a ++ x) (each l)
