-- The rows of a plan with one duty more.
use Rattle.greedy.proofs.Common.{◌≡◌, ◌⊎◌, inl, inr, ℕ, ◌+◌, ◌<◌, Bool, true, false, cond, ◌&&◌, ◌||◌, ◌==◌, List, [], ◌∷◌, ◌++◌, map, filter, refl, sym, ap, ◌∙◌, subst, arith, nat_lt, ◌↔◌, IsTrue, and_parts, or_cases, eqb-true, ltb-true, lt-ltb, ltb-false, cases_Bool, sum_by_push, is_less_list, Break, Has, Sorted, from_map, from_filter, same_tests, Has-from_count, less_apart, Duty, Row, Problem, same_duty, count_of, is_legal_duty, is_before, duty_of, same_duty_decides, with_one_more, rows_of, all_duties, row_of, IsBefore, Sorted-all_duties, once_in_duties}

before_parts : (a b : Row) → is_before a b ≡ true → (a.shift < b.shift) ⊎ ((a.shift ≡ b.shift) × ((a.day < b.day) ⊎ ((a.day ≡ b.day) × (is_less_list a.breaks b.breaks ≡ true))))
before_parts a b h =
    elim (or_cases (nat_lt a.shift b.shift) ((a.shift == b.shift) && (nat_lt a.day b.day || ((a.day == b.day) && is_less_list a.breaks b.breaks))) h) [
      | inl l ↦ inl (ltb-true a.shift b.shift l)
      | inr r ↦
          let p = and_parts (a.shift == b.shift) (nat_lt a.day b.day || ((a.day == b.day) && is_less_list a.breaks b.breaks)) r in
          inr (
            eqb-true a.shift b.shift p.0,
            elim (or_cases (nat_lt a.day b.day) ((a.day == b.day) && is_less_list a.breaks b.breaks) p.1) [
              | inl d ↦ inl (ltb-true a.day b.day d)
              | inr d ↦ let q = and_parts (a.day == b.day) (is_less_list a.breaks b.breaks) d in inr (eqb-true a.day b.day q.0, q.1)
            ],
          )
    ]

-- of two rows one at most comes before the other
before_apart : (a b : Row) → is_before a b ≡ true → is_before b a ≡ true → ⊥
before_apart a b h g =
    elim (before_parts a b h) [
      | inl l ↦ elim (before_parts b a g) [ inl m ↦ omega arith | inr m ↦ omega (arith, m.0) ]
      | inr p ↦ elim (before_parts b a g) [
        | inl m ↦ omega (arith, p.0)
        | inr q ↦ elim p.1 [
          | inl d ↦ elim q.1 [ inl e ↦ omega arith | inr e ↦ omega (arith, e.0) ]
          | inr d ↦ elim q.1 [ inl e ↦ omega (arith, d.0) | inr e ↦ less_apart a.breaks b.breaks d.1 e.1 ]
        ]
      ]
    ]

is_false : (b : Bool) → (b ≡ true → ⊥) → b ≡ false
is_false true h = absurd (h refl)
is_false false h = refl

-- a duty before all rows stands in a new first row
in_front : (d : Duty) (rows : List Row) → ((r : Row) → Has rows r → is_before (row_of d 1) r ≡ true) → with_one_more d rows ≡ row_of d 1 ∷ rows
in_front d [] h = refl
in_front d (r ∷ rows) h =
    let after : is_before (row_of d 1) r ≡ true = h r (inl refl) in
    let later : is_before r (row_of d 1) ≡ false = is_false (is_before r (row_of d 1)) (λ t. before_apart (row_of d 1) r after t) in
    let other : same_duty (duty_of r) d ≡ false = is_false (same_duty (duty_of r) d) (λ t.
    let own : is_before (row_of d 1) (row_of d 1) ≡ true = subst (λ (x : Duty). is_before (row_of d 1) (row_of x 1) ≡ true) ((same_duty_decides (duty_of r) d).0 t) after in
    before_apart (row_of d 1) (row_of d 1) own own) in
    ap (λ b. cond b (r ∷ with_one_more d rows) (cond (same_duty (duty_of r) d) (row_of (duty_of r) (r.count + 1) ∷ rows) (row_of d 1 ∷ r ∷ rows))) later
    ∙ ap (λ b. cond b (row_of (duty_of r) (r.count + 1) ∷ rows) (row_of d 1 ∷ r ∷ rows)) other

-- the rows of duties that have numbers
counted : (Duty → ℕ) → List Duty → List Row
counted f ds = map (λ d. row_of d (f d)) (filter (λ d. nat_lt 0 (f d)) ds)

counted_some : (f : Duty → ℕ) (d : Duty) (ds : List Duty) → 0 < f d → counted f (d ∷ ds) ≡ row_of d (f d) ∷ counted f ds
unfolding counted
counted_some f d ds h = ap (λ b. map (λ d. row_of d (f d)) (cond b (d ∷ filter (λ d. nat_lt 0 (f d)) ds) (filter (λ d. nat_lt 0 (f d)) ds))) (lt-ltb 0 (f d) h)

counted_none : (f : Duty → ℕ) (d : Duty) (ds : List Duty) → nat_lt 0 (f d) ≡ false → counted f (d ∷ ds) ≡ counted f ds
unfolding counted
counted_none f d ds h = ap (λ b. map (λ d. row_of d (f d)) (cond b (d ∷ filter (λ d. nat_lt 0 (f d)) ds) (filter (λ d. nat_lt 0 (f d)) ds))) h

counted_same : (f g : Duty → ℕ) (ds : List Duty) → ((x : Duty) → Has ds x → g x ≡ f x) → counted f ds ≡ counted g ds
unfolding counted
counted_same f g [] h = refl
counted_same f g (d ∷ ds) h =
    let e : g d ≡ f d = h d (inl refl) in
    let rest = counted_same f g ds (λ x m. h x (inr m)) in
    elim (cases_Bool (nat_lt 0 (f d))) [
      | inl t ↦
          let some : 0 < f d = ltb-true 0 (f d) t in
          counted_some f d ds some ∙ ap (λ n. row_of d n ∷ counted f ds) (sym e) ∙ ap (λ rows. row_of d (g d) ∷ rows) rest ∙ sym (counted_some g d ds (omega arith))
      | inr z ↦ counted_none f d ds z ∙ rest ∙ sym (counted_none g d ds (ap (nat_lt 0) e ∙ z))
    ]

from_counted : (f : Duty → ℕ) (ds : List Duty) (r : Row) → Has (counted f ds) r → (d : Duty) × Has ds d × (row_of d (f d) ≡ r)
unfolding counted
from_counted f ds r m =
    let d = from_map (λ d. row_of d (f d)) (filter (λ d. nat_lt 0 (f d)) ds) r m in
    (d.0, (from_filter (λ d. nat_lt 0 (f d)) ds d.0 d.1).0, d.2)

-- a duty does not come before itself
not_itself : (d : Duty) (m n : ℕ) → is_before (row_of d m) (row_of d n) ≡ false
not_itself d m n = is_false (is_before (row_of d m) (row_of d n)) (λ t. before_apart (row_of d m) (row_of d n) t t)

-- one duty more, of the first kind
first_more : (f g : Duty → ℕ) (d : Duty) (ds : List Duty) → Sorted IsBefore (d ∷ ds) → g d ≡ f d + 1 → ((x : Duty) → Has ds x → g x ≡ f x) → with_one_more d (counted f (d ∷ ds)) ≡ counted g (d ∷ ds)
first_more f g d ds s one rest =
    let next : counted g (d ∷ ds) ≡ row_of d (f d + 1) ∷ counted f ds =
    counted_some g d ds (omega arith) ∙ ap (λ n. row_of d n ∷ counted g ds) one ∙ ap (λ rows. row_of d (f d + 1) ∷ rows) (sym (counted_same f g ds rest)) in
    elim (cases_Bool (nat_lt 0 (f d))) [
      | inl t ↦
          ap (with_one_more d) (counted_some f d ds (ltb-true 0 (f d) t))
          ∙ ap (λ b. cond b (row_of d (f d) ∷ with_one_more d (counted f ds)) (cond (same_duty d d) (row_of d (f d + 1) ∷ counted f ds) (row_of d 1 ∷ row_of d (f d) ∷ counted f ds))) (not_itself d (f d) 1)
          ∙ ap (λ b. cond b (row_of d (f d + 1) ∷ counted f ds) (row_of d 1 ∷ row_of d (f d) ∷ counted f ds)) ((same_duty_decides d d).1 refl)
          ∙ sym next
      | inr z ↦
          ap (with_one_more d) (counted_none f d ds z)
          ∙ in_front d (counted f ds) (λ r m.
          let x = from_counted f ds r m in
          subst (λ (r : Row). is_before (row_of d 1) r ≡ true) x.2 (s.0 x.0 x.1 1 (f x.0)))
          ∙ ap (λ n. row_of d n ∷ counted f ds) (let e : 1 ≡ f d + 1 = omega (arith, ltb-false 0 (f d) z) in e)
          ∙ sym next
    ]

counted_more : (f g : Duty → ℕ) (d : Duty) (ds : List Duty) → Sorted IsBefore ds → Has ds d → g d ≡ f d + 1 → ((x : Duty) → (x ≡ d → ⊥) → g x ≡ f x) → with_one_more d (counted f ds) ≡ counted g ds
counted_more f g d [] s m one rest = absurd m
counted_more f g d (x ∷ xs) s m one rest =
    elim m [
      | inl e ↦
          subst (λ (z : Duty). with_one_more d (counted f (z ∷ xs)) ≡ counted g (z ∷ xs)) (sym e)
          (first_more f g d xs (subst (λ (z : Duty). Sorted IsBefore (z ∷ xs)) e s) one (λ y k. rest y (λ q.
          let own : is_before (row_of d 1) (row_of d 1) ≡ true = subst (λ (z : Duty). is_before (row_of z 1) (row_of d 1) ≡ true) e (subst (λ (z : Duty). is_before (row_of x 1) (row_of z 1) ≡ true) q (s.0 y k 1 1)) in
          before_apart (row_of d 1) (row_of d 1) own own)))
      | inr k ↦
          let before : (m n : ℕ) → is_before (row_of x m) (row_of d n) ≡ true = s.0 d k in
          let apart : x ≡ d → ⊥ = λ q. before_apart (row_of d 1) (row_of d 1) (subst (λ (z : Duty). is_before (row_of z 1) (row_of d 1) ≡ true) q (before 1 1)) (subst (λ (z : Duty). is_before (row_of z 1) (row_of d 1) ≡ true) q (before 1 1)) in
          let same : g x ≡ f x = rest x apart in
          let more = counted_more f g d xs s.1 k one rest in
          elim (cases_Bool (nat_lt 0 (f x))) [
            | inl t ↦
                let some : 0 < f x = ltb-true 0 (f x) t in
                ap (with_one_more d) (counted_some f x xs some)
                ∙ ap (λ b. cond b (row_of x (f x) ∷ with_one_more d (counted f xs)) (cond (same_duty x d) (row_of x (f x + 1) ∷ counted f xs) (row_of d 1 ∷ row_of x (f x) ∷ counted f xs))) (before (f x) 1)
                ∙ ap (λ rows. row_of x (f x) ∷ rows) more
                ∙ ap (λ n. row_of x n ∷ counted g xs) (sym same)
                ∙ sym (counted_some g x xs (omega arith))
            | inr z ↦ ap (with_one_more d) (counted_none f x xs z) ∙ more ∙ sym (counted_none g x xs (ap (nat_lt 0) same ∙ z))
          ]
    ]

count_more : (rota : List Duty) (d x : Duty) → count_of (rota ++ d ∷ []) x ≡ count_of rota x + cond (same_duty x d) 1 0
count_more rota d x = sum_by_push (λ y. cond (same_duty x y) 1 0) rota d

-- the rows of a plan with one legal duty more
pub rows_more : (i : Problem) (rota : List Duty) (d : Duty) → is_legal_duty i d ≡ true → with_one_more d (rows_of i rota) ≡ rows_of i (rota ++ d ∷ [])
unfolding counted
rows_more i rota d legal =
    let once : count_of (all_duties i) d ≡ 1 = once_in_duties i d legal in
    let x = Has-from_count (same_duty d) (all_duties i) (omega arith) in
    let there : Has (all_duties i) d = subst (λ (z : Duty). Has (all_duties i) z) (sym ((same_duty_decides d x.0).0 x.2)) x.1 in
    counted_more (count_of rota) (count_of (rota ++ d ∷ [])) d (all_duties i) (Sorted-all_duties i) there
    (count_more rota d d ∙ ap (λ b. count_of rota d + cond b 1 0) ((same_duty_decides d d).1 refl))
    (λ x ne. count_more rota d x ∙ ap (λ b. count_of rota x + cond b 1 0) (is_false (same_duty x d) (λ t. ne ((same_duty_decides x d).0 t))) ∙ omega arith)

-- a plan with no duties has no rows
pub rows_none : (i : Problem) → rows_of i [] ≡ []
rows_none i = ap (map (λ d. row_of d (count_of [] d))) (none (all_duties i))
  where
    none : (ds : List Duty) → filter (λ d. nat_lt 0 (count_of [] d)) ds ≡ []
    none [] = refl
    none (d ∷ ds) = none ds

-- two rows of the same shift and day have the same duty where their breaks are the same
pub alike_is : (a b : Row) (r : Bool) → IsTrue r ↔ (a.breaks ≡ b.breaks) → a.shift ≡ b.shift → a.day ≡ b.day → r ≡ same_duty (duty_of a) (duty_of b)
alike_is a b r h s d =
    same_tests r (same_duty (duty_of a) (duty_of b))
    (λ t. (same_duty_decides (duty_of a) (duty_of b)).1
    (ap (λ (n : ℕ). let x : Duty = record { shift = n; day = a.day; breaks = a.breaks } in x) s
    ∙ ap (λ (n : ℕ). let x : Duty = record { shift = b.shift; day = n; breaks = a.breaks } in x) d
    ∙ ap (λ (list : List Break). let x : Duty = record { shift = b.shift; day = b.day; breaks = list } in x) (h.0 t)))
    (λ t. h.1 (ap (λ (x : Duty). x.breaks) ((same_duty_decides (duty_of a) (duty_of b)).0 t)))
