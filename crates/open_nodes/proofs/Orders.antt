-- Lists of open nodes that rise strictly.
use Rattle.open_nodes.proofs.Common.{◌≡◌, ◌⊎◌, inl, inr, ℕ, ◌+◌, ◌<◌, ◌≤◌, Bool, true, false, cond, ◌&&◌, ◌||◌, ◌==◌, not, nat_lt, List, [], ◌∷◌, length, refl, sym, ap, ◌∙◌, subst, arith, eq-eqb, filter, list_all, list_any, and_from, and_parts, cases_Bool, cases_lt, eqb-true, false≢true, le-ltb, lt-ltb, ltb-false, ltb-true, or_cases, or_left, or_right, has_node, is_before, is_listed, with_entry, Entry, Rises}

-- ---- which comes before which

-- whether a node is that one
abbrev pub is_it : ℕ → ℕ → Entry → Bool
is_it floor node e = (e.0 == floor) && (e.1 == node)

pub it_is : (f k : ℕ) (e : Entry) → is_it f k e ≡ true → e ≡ (f, k)
it_is f k e h =
    let p = and_parts (e.0 == f) (e.1 == k) h in
    ap (λ (n : ℕ). (n, e.1)) (eqb-true e.0 f p.0) ∙ ap (λ (n : ℕ). (f, n)) (eqb-true e.1 k p.1)

pub it_itself : (e : Entry) → is_it e.0 e.1 e ≡ true
it_itself e = and_from (e.0 == e.0) (e.1 == e.1) (eq-eqb e.0 e.0 refl) (eq-eqb e.1 e.1 refl)

pub before_cases : (e d : Entry) → is_before e d ≡ true → (e.0 < d.0) ⊎ ((e.0 ≡ d.0) × (e.1 < d.1))
before_cases e d h =
    elim (or_cases (nat_lt e.0 d.0) ((e.0 == d.0) && nat_lt e.1 d.1) h) [
      | inl less ↦ inl (ltb-true e.0 d.0 less)
      | inr tie ↦ let p = and_parts (e.0 == d.0) (nat_lt e.1 d.1) tie in inr (eqb-true e.0 d.0 p.0, ltb-true e.1 d.1 p.1)
    ]

before_from : (e d : Entry) → (e.0 < d.0) ⊎ ((e.0 ≡ d.0) × (e.1 < d.1)) → is_before e d ≡ true
before_from e d (inl less) = or_left (nat_lt e.0 d.0) ((e.0 == d.0) && nat_lt e.1 d.1) (lt-ltb e.0 d.0 less)
before_from e d (inr tie) = or_right (nat_lt e.0 d.0) ((e.0 == d.0) && nat_lt e.1 d.1) (and_from (e.0 == d.0) (nat_lt e.1 d.1) (eq-eqb e.0 d.0 tie.0) (lt-ltb e.1 d.1 tie.1))

before_trans : (x y z : Entry) → is_before x y ≡ true → is_before y z ≡ true → is_before x z ≡ true
before_trans x y z p q =
    before_from x z (elim (before_cases x y p) [
      | inl a ↦ elim (before_cases y z q) [ inl b ↦ inl (omega (arith, a, b)) | inr b ↦ inl (let s = b.0 in omega (arith, a, s)) ]
      | inr a ↦ elim (before_cases y z q) [ inl b ↦ inl (let s = a.0 in omega (arith, b, s)) | inr b ↦ inr (a.0 ∙ b.0, let l = a.1 in let m = b.1 in omega (arith, l, m)) ]
    ])

not_both : (e d : Entry) → is_before e d ≡ true → is_before d e ≡ true → ⊥
not_both e d p q =
    elim (before_cases e d p) [
      | inl a ↦ elim (before_cases d e q) [ inl b ↦ absurd (omega (arith, a, b)) | inr b ↦ let s = b.0 in absurd (omega (arith, a, s)) ]
      | inr a ↦ elim (before_cases d e q) [ inl b ↦ let s = a.0 in absurd (omega (arith, b, s)) | inr b ↦ let l = a.1 in let m = b.1 in absurd (omega (arith, l, m)) ]
    ]

neither : (e d : Entry) → is_before e d ≡ false → is_before d e ≡ false → e ≡ d
neither e d p q =
    elim (cases_lt e.0 d.0) [
      | inl less ↦ absurd (false≢true (sym p ∙ before_from e d (inl less)))
      | inr most ↦ elim (cases_lt d.0 e.0) [
        | inl less ↦ absurd (false≢true (sym q ∙ before_from d e (inl less)))
        | inr least ↦
            let same : e.0 ≡ d.0 = omega (arith, most, least) in
            elim (cases_lt e.1 d.1) [
              | inl less ↦ absurd (false≢true (sym p ∙ before_from e d (inr (same, less))))
              | inr top ↦ elim (cases_lt d.1 e.1) [
                | inl less ↦ absurd (false≢true (sym q ∙ before_from d e (inr (sym same, less))))
                | inr low ↦
                    let equal : e.1 ≡ d.1 = omega (arith, top, low) in
                    ap (λ (n : ℕ). (n, e.1)) same ∙ ap (λ (n : ℕ). (d.0, n)) equal
              ]
            ]
      ]
    ]

-- ---- a node in its place

with_cases : (P : List Entry → Type 0) (e d : Entry) (entries : List Entry)
    → (is_before e d ≡ true → P (e ∷ d ∷ entries))
    → (is_before e d ≡ false → is_before d e ≡ true → P (d ∷ with_entry e entries))
    → (is_before e d ≡ false → is_before d e ≡ false → P (d ∷ entries))
    → P (with_entry e (d ∷ entries))
with_cases P e d entries first later same = go (is_before e d) refl (is_before d e) refl
  where
    go : (a : Bool) → is_before e d ≡ a → (b : Bool) → is_before d e ≡ b → P (cond a (e ∷ d ∷ entries) (cond b (d ∷ with_entry e entries) (d ∷ entries)))
    go true p b q = first p
    go false p true q = later p q
    go false p false q = same p q

all_with : (x e : Entry) (entries : List Entry) → is_before x e ≡ true → list_all (is_before x) entries ≡ true → list_all (is_before x) (with_entry e entries) ≡ true
all_with x e [] p q = and_from (is_before x e) true p refl
all_with x e (d ∷ entries) p q =
    let r = and_parts (is_before x d) (list_all (is_before x) entries) q in
    with_cases (λ l. list_all (is_before x) l ≡ true) e d entries
    (λ _. and_from (is_before x e) (is_before x d && list_all (is_before x) entries) p q)
    (λ _ _. and_from (is_before x d) (list_all (is_before x) (with_entry e entries)) r.0 (all_with x e entries p r.1))
    (λ _ _. q)

all_later : (x y : Entry) (entries : List Entry) → is_before x y ≡ true → list_all (is_before y) entries ≡ true → list_all (is_before x) entries ≡ true
all_later x y [] p q = refl
all_later x y (d ∷ entries) p q =
    let r = and_parts (is_before y d) (list_all (is_before y) entries) q in
    and_from (is_before x d) (list_all (is_before x) entries) (before_trans x y d p r.0) (all_later x y entries p r.1)

pub with_rises : (e : Entry) (entries : List Entry) → Rises entries → Rises (with_entry e entries)
with_rises e [] r = (refl, tt)
with_rises e (d ∷ entries) r =
    with_cases Rises e d entries
    (λ p. (and_from (is_before e d) (list_all (is_before e) entries) p (all_later e d entries p r.0), r))
    (λ p q. (all_with d e entries q r.0, with_rises e entries r.1))
    (λ p q. r)

or_turn : (a b c : Bool) → (a || (b || c)) ≡ (b || (a || c))
or_turn true true c = refl
or_turn true false c = refl
or_turn false true c = refl
or_turn false false c = refl

or_twice : (a c : Bool) → (a || c) ≡ (a || (a || c))
or_twice true c = refl
or_twice false c = refl

pub listed_with : (e : Entry) (entries : List Entry) (f k : ℕ) → is_listed (with_entry e entries) f k ≡ (is_it f k e || is_listed entries f k)
listed_with e [] f k = refl
listed_with e (d ∷ entries) f k =
    with_cases (λ l. is_listed l f k ≡ (is_it f k e || (is_it f k d || is_listed entries f k))) e d entries
    (λ _. refl)
    (λ _ _. ap (λ (t : Bool). is_it f k d || t) (listed_with e entries f k) ∙ or_turn (is_it f k d) (is_it f k e) (is_listed entries f k))
    (λ p q. or_twice (is_it f k d) (is_listed entries f k) ∙ ap (λ (x : Entry). is_it f k x || (is_it f k d || is_listed entries f k)) (sym (neither e d p q)))

pub length_with : (e : Entry) (entries : List Entry) → length (with_entry e entries) ≤ length entries + 1
length_with e [] = omega arith
length_with e (d ∷ entries) =
    with_cases (λ l. length l ≤ length (d ∷ entries) + 1) e d entries
    (λ _. omega arith)
    (λ _ _. omega (arith, length_with e entries))
    (λ _ _. omega arith)

-- where it isn't there yet
pub length_new : (e : Entry) (entries : List Entry) → is_listed entries e.0 e.1 ≡ false → length (with_entry e entries) ≡ length entries + 1
length_new e [] h = refl
length_new e (d ∷ entries) h =
    with_cases (λ l. length l ≡ length (d ∷ entries) + 1) e d entries
    (λ _. omega arith)
    (λ _ _. omega (arith, length_new e entries (rest (is_it e.0 e.1 d) (is_listed entries e.0 e.1) h)))
    (λ p q. absurd (false≢true (sym h ∙ or_left (is_it e.0 e.1 d) (is_listed entries e.0 e.1) (ap (is_it e.0 e.1) (sym (neither e d p q)) ∙ it_itself e))))
  where
    rest : (a b : Bool) → (a || b) ≡ false → b ≡ false
    rest true b e = absurd (false≢true (sym e))
    rest false b e = e

-- one that no other comes before, where it is new, comes first
pub first_with : (e : Entry) (entries : List Entry) → ((f k : ℕ) → is_listed entries f k ≡ true → is_before (f, k) e ≡ false) → length (with_entry e entries) ≡ length entries + 1 → with_entry e entries ≡ e ∷ entries
first_with e [] least new = refl
first_with e (d ∷ entries) least new =
    with_cases (λ l. length l ≡ length (d ∷ entries) + 1 → l ≡ e ∷ d ∷ entries) e d entries
    (λ _ _. refl)
    (λ p q _. absurd (false≢true (sym (least d.0 d.1 (or_left (is_it d.0 d.1 d) (is_listed entries d.0 d.1) (it_itself d))) ∙ q)))
    (λ p q more. absurd (omega (arith, more)))
    new

-- ---- a rising list is known by what stands in it

after_it : (x : Entry) (entries : List Entry) (f k : ℕ) → list_all (is_before x) entries ≡ true → is_listed entries f k ≡ true → is_before x (f, k) ≡ true
after_it x [] f k p h = absurd (false≢true h)
after_it x (d ∷ entries) f k p h =
    let r = and_parts (is_before x d) (list_all (is_before x) entries) p in
    elim (or_cases (is_it f k d) (is_listed entries f k) h) [
      | inl here ↦ subst (λ (e : Entry). is_before x e ≡ true) (it_is f k d here) r.0
      | inr rest ↦ after_it x entries f k r.1 rest
    ]

-- a node of a rising list is its first, or comes after that
pub first_or_after : (x : Entry) (entries : List Entry) (f k : ℕ) → Rises (x ∷ entries) → is_listed (x ∷ entries) f k ≡ true → (x ≡ (f, k)) ⊎ (is_before x (f, k) ≡ true)
first_or_after x entries f k r h =
    elim (or_cases (is_it f k x) (is_listed entries f k) h) [
      | inl here ↦ inl (it_is f k x here)
      | inr rest ↦ inr (after_it x entries f k r.0 rest)
    ]

-- behind its first the first isn't
pub once_listed : (x : Entry) (entries : List Entry) → Rises (x ∷ entries) → is_listed entries x.0 x.1 ≡ false
once_listed x entries r =
    elim (cases_Bool (is_listed entries x.0 x.1)) [
      | inl there ↦ absurd (let b = after_it x entries x.0 x.1 r.0 there in not_both x x b b)
      | inr none ↦ none
    ]

same_rest : (a b c : Bool) → (a ≡ true → b ≡ c) → (a || b) ≡ (a || c) → b ≡ c
same_rest true b c h e = h refl
same_rest false b c h e = e

pub rises_same : (xs ys : List Entry) → Rises xs → Rises ys → ((f k : ℕ) → is_listed xs f k ≡ is_listed ys f k) → xs ≡ ys
rises_same [] [] p q same = refl
rises_same [] (y ∷ ys) p q same = absurd (false≢true (same y.0 y.1 ∙ or_left (is_it y.0 y.1 y) (is_listed ys y.0 y.1) (it_itself y)))
rises_same (x ∷ xs) [] p q same = absurd (false≢true (sym (same x.0 x.1) ∙ or_left (is_it x.0 x.1 x) (is_listed xs x.0 x.1) (it_itself x)))
rises_same (x ∷ xs) (y ∷ ys) p q same =
    let mine : is_listed (y ∷ ys) x.0 x.1 ≡ true = sym (same x.0 x.1) ∙ or_left (is_it x.0 x.1 x) (is_listed xs x.0 x.1) (it_itself x) in
    let its : is_listed (x ∷ xs) y.0 y.1 ≡ true = same y.0 y.1 ∙ or_left (is_it y.0 y.1 y) (is_listed ys y.0 y.1) (it_itself y) in
    let first : x ≡ y =
    elim (first_or_after y ys x.0 x.1 q mine) [
      | inl e ↦ sym e
      | inr b ↦ elim (first_or_after x xs y.0 y.1 p its) [ inl e ↦ e | inr c ↦ absurd (not_both y x b c) ]
    ] in
    let tail : Rises (x ∷ ys) = subst (λ (e : Entry). Rises (e ∷ ys)) (sym first) q in
    let rest : xs ≡ ys = rises_same xs ys p.1 q.1 (λ f k.
    same_rest (is_it f k x) (is_listed xs f k) (is_listed ys f k)
    (λ is.
    let here : x ≡ (f, k) = it_is f k x is in
    let gone : (zs : List Entry) → Rises (x ∷ zs) → is_listed zs f k ≡ false = λ zs r. subst (λ (e : Entry). is_listed zs e.0 e.1 ≡ false) here (once_listed x zs r) in
    gone xs p ∙ sym (gone ys tail))
    (same f k ∙ ap (λ (e : Entry). is_it f k e || is_listed ys f k) (sym first))) in
    ap (λ (e : Entry). e ∷ xs) first ∙ ap (λ (l : List Entry). y ∷ l) rest

-- ---- those that pass a test

module _ {X : Type 0} (g : X → Entry) (p : Entry → Bool) where
  pub any_filter : (xs : List X) (f k : ℕ) → list_any (λ x. is_it f k (g x)) (filter (λ x. p (g x)) xs) ≡ (p (f, k) && list_any (λ x. is_it f k (g x)) xs)
  any_filter [] f k = none (p (f, k))
    where
      none : (a : Bool) → false ≡ (a && false)
      none true = refl
      none false = refl
  any_filter (x ∷ xs) f k = go (p (g x)) refl (is_it f k (g x)) refl (any_filter xs f k)
    where
      has : List X → Bool
      has l = list_any (λ y. is_it f k (g y)) l

      here : is_it f k (g x) ≡ true → p (g x) ≡ p (f, k)
      here is = ap p (it_is f k (g x) is)

      yes : (a b : Bool) → a ≡ true → true ≡ (a && true)
      yes a b e = sym (and_from a true e refl)

      no : (a b : Bool) → a ≡ false → (a && b) ≡ false
      no false b e = refl
      no true b e = absurd (false≢true (sym e))

      go : (a : Bool) → p (g x) ≡ a → (b : Bool) → is_it f k (g x) ≡ b → has (filter (λ y. p (g y)) xs) ≡ (p (f, k) && has xs) → has (cond a (x ∷ filter (λ y. p (g y)) xs) (filter (λ y. p (g y)) xs)) ≡ (p (f, k) && (b || has xs))
      go true passes true is rest = ap (λ (t : Bool). t || has (filter (λ y. p (g y)) xs)) is ∙ yes (p (f, k)) true (sym (here is) ∙ passes)
      go true passes false is rest = ap (λ (t : Bool). t || has (filter (λ y. p (g y)) xs)) is ∙ rest
      go false fails true is rest = rest ∙ no (p (f, k)) (has xs) (sym (here is) ∙ fails) ∙ sym (no (p (f, k)) true (sym (here is) ∙ fails))
      go false fails false is rest = rest

pub listed_filter : (p : Entry → Bool) (entries : List Entry) (f k : ℕ) → is_listed (filter p entries) f k ≡ (p (f, k) && is_listed entries f k)
listed_filter p entries f k = any_filter (λ e. e) p entries f k

all_filter : (p q : Entry → Bool) (entries : List Entry) → list_all p entries ≡ true → list_all p (filter q entries) ≡ true
all_filter p q [] h = refl
all_filter p q (e ∷ entries) h =
    let r = and_parts (p e) (list_all p entries) h in
    go (q e) r.0 (all_filter p q entries r.1)
  where
    go : (a : Bool) → p e ≡ true → list_all p (filter q entries) ≡ true → list_all p (cond a (e ∷ filter q entries) (filter q entries)) ≡ true
    go true one rest = and_from (p e) (list_all p (filter q entries)) one rest
    go false one rest = rest

pub filter_rises : (p : Entry → Bool) (entries : List Entry) → Rises entries → Rises (filter p entries)
filter_rises p [] r = tt
filter_rises p (e ∷ entries) r = go (p e) (filter_rises p entries r.1)
  where
    go : (a : Bool) → Rises (filter p entries) → Rises (cond a (e ∷ filter p entries) (filter p entries))
    go true rest = (all_filter (is_before e) p entries r.0, rest)
    go false rest = rest

-- ---- nodes by number

-- a node that isn't there stands there with no floor
pub none_listed : (entries : List Entry) (f k : ℕ) → has_node entries k ≡ false → is_listed entries f k ≡ false
none_listed [] f k h = refl
none_listed (e ∷ entries) f k h = go (e.0 == f) (e.1 == k) h (λ rest. none_listed entries f k rest)
  where
    go : (a b : Bool) → (b || has_node entries k) ≡ false → (has_node entries k ≡ false → is_listed entries f k ≡ false) → ((a && b) || is_listed entries f k) ≡ false
    go a true h later = absurd (false≢true (sym h))
    go true false h later = later h
    go false false h later = later h

-- one that stands there with no floor isn't there
pub not_there : (entries : List Entry) (k : ℕ) → ((f : ℕ) → is_listed entries f k ≡ false) → has_node entries k ≡ false
not_there [] k h = refl
not_there (e ∷ entries) k h =
    go (e.1 == k) refl (not_there entries k (λ f. rest (is_it f k e) (is_listed entries f k) (h f)))
  where
    rest : (a b : Bool) → (a || b) ≡ false → b ≡ false
    rest true b e = absurd (false≢true (sym e))
    rest false b e = e

    go : (b : Bool) → (e.1 == k) ≡ b → has_node entries k ≡ false → (b || has_node entries k) ≡ false
    go true is none = absurd (false≢true (sym (h e.0) ∙ or_left (is_it e.0 k e) (is_listed entries e.0 k) (and_from (e.0 == e.0) (e.1 == k) (eq-eqb e.0 e.0 refl) is)))
    go false is none = none
