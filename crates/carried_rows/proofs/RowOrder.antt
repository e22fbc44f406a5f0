-- The order of rows, and that legal rows stand in it.
use Rattle.carried_rows.proofs.Common.{◌≡◌, ◌⊎◌, inl, inr, ◌<◌, true, ◌&&◌, ◌||◌, ◌==◌, List, [], ◌∷◌, drop, refl, sym, subst, arith, eqb-true, eq-eqb, nat_lt, list_all, zip, or_cases, or_left, or_right, and_parts, and_from, ltb-true, lt-ltb, false≢true, same_break, is_less_break, is_less_list, Sorted, Row, Problem, is_before, are_legal_rows, legal_rows_parts}
use Rattle.break_rules.specs.declared.Break.{Break}
use Rattle.break_rules.proofs.LegalLists.{same_break_decides}

-- a row that comes before another
abbrev pub IsBefore : Row → Row → Type 0
IsBefore a b = is_before a b ≡ true

break_parts : (a b : Break) → is_less_break a b ≡ true → (a.start < b.start) ⊎ ((a.start ≡ b.start) × (a.len < b.len))
break_parts a b h =
    elim (or_cases (nat_lt a.start b.start) ((a.start == b.start) && nat_lt a.len b.len) h) [
      | inl l ↦ inl (ltb-true a.start b.start l)
      | inr r ↦ let p = and_parts (a.start == b.start) (nat_lt a.len b.len) r in inr (eqb-true a.start b.start p.0, ltb-true a.len b.len p.1)
    ]

break_from : (a b : Break) → (a.start < b.start) ⊎ ((a.start ≡ b.start) × (a.len < b.len)) → is_less_break a b ≡ true
break_from a b (inl l) = or_left (nat_lt a.start b.start) ((a.start == b.start) && nat_lt a.len b.len) (lt-ltb a.start b.start l)
break_from a b (inr p) =
    or_right (nat_lt a.start b.start) ((a.start == b.start) && nat_lt a.len b.len)
    (and_from (a.start == b.start) (nat_lt a.len b.len) (eq-eqb a.start b.start p.0) (lt-ltb a.len b.len p.1))

break_trans : (a b c : Break) → is_less_break a b ≡ true → is_less_break b c ≡ true → is_less_break a c ≡ true
break_trans a b c h g =
    break_from a c (elim (break_parts a b h) [
      | inl l ↦ elim (break_parts b c g) [ inl m ↦ inl (omega arith) | inr q ↦ inl (omega (arith, q.0)) ]
      | inr p ↦ elim (break_parts b c g) [ inl m ↦ inl (omega (arith, p.0)) | inr q ↦ inr (omega (arith, p.0, q.0), omega (arith, p.1, q.1)) ]
    ])

less_trans : (xs ys zs : List Break) → is_less_list xs ys ≡ true → is_less_list ys zs ≡ true → is_less_list xs zs ≡ true
less_trans [] [] zs h g = absurd (false≢true h)
less_trans [] (y ∷ ys) [] h g = absurd (false≢true g)
less_trans [] (y ∷ ys) (z ∷ zs) h g = refl
less_trans (x ∷ xs) [] zs h g = absurd (false≢true h)
less_trans (x ∷ xs) (y ∷ ys) [] h g = absurd (false≢true g)
less_trans (x ∷ xs) (y ∷ ys) (z ∷ zs) h g =
    elim (or_cases (is_less_break x y) (same_break x y && is_less_list xs ys) h) [
      | inl p ↦
          or_left (is_less_break x z) (same_break x z && is_less_list xs zs)
          (elim (or_cases (is_less_break y z) (same_break y z && is_less_list ys zs) g) [
            | inl q ↦ break_trans x y z p q
            | inr q ↦ subst (λ (b : Break). is_less_break x b ≡ true) ((same_break_decides y z).0 (and_parts (same_break y z) (is_less_list ys zs) q).0) p
          ])
      | inr p ↦
          let pe = and_parts (same_break x y) (is_less_list xs ys) p in
          let e : x ≡ y = (same_break_decides x y).0 pe.0 in
          elim (or_cases (is_less_break y z) (same_break y z && is_less_list ys zs) g) [
            | inl q ↦ or_left (is_less_break x z) (same_break x z && is_less_list xs zs) (subst (λ (b : Break). is_less_break b z ≡ true) (sym e) q)
            | inr q ↦
                let qe = and_parts (same_break y z) (is_less_list ys zs) q in
                or_right (is_less_break x z) (same_break x z && is_less_list xs zs)
                (and_from (same_break x z) (is_less_list xs zs) (subst (λ (b : Break). same_break b z ≡ true) (sym e) qe.0) (less_trans xs ys zs pe.1 qe.1))
          ]
    ]

abbrev pub IsLater : Row → Row → Type 0
IsLater a b = (a.shift < b.shift) ⊎ ((a.shift ≡ b.shift) × ((a.day < b.day) ⊎ ((a.day ≡ b.day) × (is_less_list a.breaks b.breaks ≡ true))))

pub before_parts : (a b : Row) → is_before a b ≡ true → IsLater a b
before_parts a b h =
    elim (or_cases (nat_lt a.shift b.shift) ((a.shift == b.shift) && (nat_lt a.day b.day || ((a.day == b.day) && is_less_list a.breaks b.breaks))) h) [
      | inl l ↦ inl (ltb-true a.shift b.shift l)
      | inr r ↦
          let p = and_parts (a.shift == b.shift) (nat_lt a.day b.day || ((a.day == b.day) && is_less_list a.breaks b.breaks)) r in
          inr (
            eqb-true a.shift b.shift p.0,
            elim (or_cases (nat_lt a.day b.day) ((a.day == b.day) && is_less_list a.breaks b.breaks) p.1) [
              | inl d ↦ inl (ltb-true a.day b.day d)
              | inr d ↦ let q = and_parts (a.day == b.day) (is_less_list a.breaks b.breaks) d in inr (eqb-true a.day b.day q.0, q.1)
            ],
          )
    ]

before_from : (a b : Row) → IsLater a b → is_before a b ≡ true
before_from a b (inl l) = or_left (nat_lt a.shift b.shift) ((a.shift == b.shift) && (nat_lt a.day b.day || ((a.day == b.day) && is_less_list a.breaks b.breaks))) (lt-ltb a.shift b.shift l)
before_from a b (inr p) =
    or_right (nat_lt a.shift b.shift) ((a.shift == b.shift) && (nat_lt a.day b.day || ((a.day == b.day) && is_less_list a.breaks b.breaks)))
    (and_from (a.shift == b.shift) (nat_lt a.day b.day || ((a.day == b.day) && is_less_list a.breaks b.breaks)) (eq-eqb a.shift b.shift p.0)
    (elim p.1 [
      | inl d ↦ or_left (nat_lt a.day b.day) ((a.day == b.day) && is_less_list a.breaks b.breaks) (lt-ltb a.day b.day d)
      | inr d ↦ or_right (nat_lt a.day b.day) ((a.day == b.day) && is_less_list a.breaks b.breaks) (and_from (a.day == b.day) (is_less_list a.breaks b.breaks) (eq-eqb a.day b.day d.0) d.1)
    ]))

pub before_trans : (a b c : Row) → is_before a b ≡ true → is_before b c ≡ true → is_before a c ≡ true
before_trans a b c h g =
    before_from a c (elim (before_parts a b h) [
      | inl l ↦ elim (before_parts b c g) [ inl m ↦ inl (omega arith) | inr q ↦ inl (omega (arith, q.0)) ]
      | inr p ↦ elim (before_parts b c g) [
        | inl m ↦ inl (omega (arith, p.0))
        | inr q ↦ inr (
          omega (arith, p.0, q.0),
          elim p.1 [
            | inl d ↦ elim q.1 [ inl e ↦ inl (omega arith) | inr e ↦ inl (omega (arith, e.0)) ]
            | inr d ↦ elim q.1 [ inl e ↦ inl (omega (arith, d.0)) | inr e ↦ inr (omega (arith, d.0, e.0), less_trans a.breaks b.breaks c.breaks d.1 e.1) ]
          ],
        )
      ]
    ])

-- rows of which each comes before the next
sorted_from : (rows : List Row) → list_all (λ p. is_before p.0 p.1) (zip rows (drop 1 rows)) ≡ true → Sorted IsBefore rows
sorted_from [] h = tt
sorted_from (x ∷ []) h = (λ y m. absurd m, tt)
sorted_from (x ∷ y ∷ rows) h =
    let p = and_parts (is_before x y) (list_all (λ p. is_before p.0 p.1) (zip (y ∷ rows) rows)) h in
    let s = sorted_from (y ∷ rows) p.1 in
    (λ z m. elim m [ inl e ↦ subst (λ (r : Row). is_before x r ≡ true) e p.0 | inr k ↦ before_trans x y z p.0 (s.0 z k) ], s)

pub legal_sorted : (i : Problem) (rows : List Row) → are_legal_rows i rows ≡ true → Sorted IsBefore rows
legal_sorted i rows h = sorted_from rows (legal_rows_parts i rows h).sorted
