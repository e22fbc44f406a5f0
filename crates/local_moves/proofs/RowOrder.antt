-- The order of rows.
use Rattle.local_moves.proofs.Common.{◌≡◌, ◌⊎◌, inl, inr, ℕ, zero, suc, ◌<◌, Bool, true, false, ◌&&◌, ◌||◌, ◌==◌, List, [], ◌∷◌, refl, sym, subst, arith, eqb-true, eq-eqb, nat_lt, slice_get, or_cases, or_left, or_right, and_parts, and_from, ltb-true, lt-ltb, false≢true, Break, same_break, is_less_break, is_less_list, Has, Sorted, Duty, Row, same_duty, duty_of, is_before, same_duty_decides, row_of, IsBefore}
use Rattle.std.specs.Prelude.{Some}
use Rattle.break_rules.proofs.LegalLists.{same_break_decides}
use Rattle.break_rules.proofs.Ordered.{less_apart}

pub is_false : (b : Bool) → (b ≡ true → ⊥) → b ≡ false
is_false true h = absurd (h refl)
is_false false h = refl

break_parts : (a b : Break) → is_less_break a b ≡ true → (a.start < b.start) ⊎ ((a.start ≡ b.start) × (a.len < b.len))
break_parts a b h =
    elim (or_cases (nat_lt a.start b.start) ((a.start == b.start) && nat_lt a.len b.len) h) [
      | inl l ↦ inl (ltb-true a.start b.start l)
      | inr r ↦ let p = and_parts (a.start == b.start) (nat_lt a.len b.len) r in inr (eqb-true a.start b.start p.0, ltb-true a.len b.len p.1)
    ]

break_from : (a b : Break) → (a.start < b.start) ⊎ ((a.start ≡ b.start) × (a.len < b.len)) → is_less_break a b ≡ true
break_from a b (inl l) = or_left (nat_lt a.start b.start) ((a.start == b.start) && nat_lt a.len b.len) (lt-ltb a.start b.start l)
break_from a b (inr p) =
    or_right (nat_lt a.start b.start) ((a.start == b.start) && nat_lt a.len b.len)
    (and_from (a.start == b.start) (nat_lt a.len b.len) (eq-eqb a.start b.start p.0) (lt-ltb a.len b.len p.1))

break_trans : (a b c : Break) → is_less_break a b ≡ true → is_less_break b c ≡ true → is_less_break a c ≡ true
break_trans a b c h g =
    break_from a c (elim (break_parts a b h) [
      | inl l ↦ elim (break_parts b c g) [ inl m ↦ inl (omega arith) | inr q ↦ inl (omega (arith, q.0)) ]
      | inr p ↦ elim (break_parts b c g) [ inl m ↦ inl (omega (arith, p.0)) | inr q ↦ inr (omega (arith, p.0, q.0), omega (arith, p.1, q.1)) ]
    ])

less_trans : (xs ys zs : List Break) → is_less_list xs ys ≡ true → is_less_list ys zs ≡ true → is_less_list xs zs ≡ true
less_trans [] [] zs h g = absurd (false≢true h)
less_trans [] (y ∷ ys) [] h g = absurd (false≢true g)
less_trans [] (y ∷ ys) (z ∷ zs) h g = refl
less_trans (x ∷ xs) [] zs h g = absurd (false≢true h)
less_trans (x ∷ xs) (y ∷ ys) [] h g = absurd (false≢true g)
less_trans (x ∷ xs) (y ∷ ys) (z ∷ zs) h g =
    elim (or_cases (is_less_break x y) (same_break x y && is_less_list xs ys) h) [
      | inl p ↦
          or_left (is_less_break x z) (same_break x z && is_less_list xs zs)
          (elim (or_cases (is_less_break y z) (same_break y z && is_less_list ys zs) g) [
            | inl q ↦ break_trans x y z p q
            | inr q ↦ subst (λ (b : Break). is_less_break x b ≡ true) ((same_break_decides y z).0 (and_parts (same_break y z) (is_less_list ys zs) q).0) p
          ])
      | inr p ↦
          let pe = and_parts (same_break x y) (is_less_list xs ys) p in
          let e : x ≡ y = (same_break_decides x y).0 pe.0 in
          elim (or_cases (is_less_break y z) (same_break y z && is_less_list ys zs) g) [
            | inl q ↦ or_left (is_less_break x z) (same_break x z && is_less_list xs zs) (subst (λ (b : Break). is_less_break b z ≡ true) (sym e) q)
            | inr q ↦
                let qe = and_parts (same_break y z) (is_less_list ys zs) q in
                or_right (is_less_break x z) (same_break x z && is_less_list xs zs)
                (and_from (same_break x z) (is_less_list xs zs) (subst (λ (b : Break). same_break b z ≡ true) (sym e) qe.0) (less_trans xs ys zs pe.1 qe.1))
          ]
    ]

abbrev pub IsLater : Row → Row → Type 0
IsLater a b = (a.shift < b.shift) ⊎ ((a.shift ≡ b.shift) × ((a.day < b.day) ⊎ ((a.day ≡ b.day) × (is_less_list a.breaks b.breaks ≡ true))))

pub before_parts : (a b : Row) → is_before a b ≡ true → IsLater a b
before_parts a b h =
    elim (or_cases (nat_lt a.shift b.shift) ((a.shift == b.shift) && (nat_lt a.day b.day || ((a.day == b.day) && is_less_list a.breaks b.breaks))) h) [
      | inl l ↦ inl (ltb-true a.shift b.shift l)
      | inr r ↦
          let p = and_parts (a.shift == b.shift) (nat_lt a.day b.day || ((a.day == b.day) && is_less_list a.breaks b.breaks)) r in
          inr (
            eqb-true a.shift b.shift p.0,
            elim (or_cases (nat_lt a.day b.day) ((a.day == b.day) && is_less_list a.breaks b.breaks) p.1) [
              | inl d ↦ inl (ltb-true a.day b.day d)
              | inr d ↦ let q = and_parts (a.day == b.day) (is_less_list a.breaks b.breaks) d in inr (eqb-true a.day b.day q.0, q.1)
            ],
          )
    ]

before_from : (a b : Row) → IsLater a b → is_before a b ≡ true
before_from a b (inl l) = or_left (nat_lt a.shift b.shift) ((a.shift == b.shift) && (nat_lt a.day b.day || ((a.day == b.day) && is_less_list a.breaks b.breaks))) (lt-ltb a.shift b.shift l)
before_from a b (inr p) =
    or_right (nat_lt a.shift b.shift) ((a.shift == b.shift) && (nat_lt a.day b.day || ((a.day == b.day) && is_less_list a.breaks b.breaks)))
    (and_from (a.shift == b.shift) (nat_lt a.day b.day || ((a.day == b.day) && is_less_list a.breaks b.breaks)) (eq-eqb a.shift b.shift p.0)
    (elim p.1 [
      | inl d ↦ or_left (nat_lt a.day b.day) ((a.day == b.day) && is_less_list a.breaks b.breaks) (lt-ltb a.day b.day d)
      | inr d ↦ or_right (nat_lt a.day b.day) ((a.day == b.day) && is_less_list a.breaks b.breaks) (and_from (a.day == b.day) (is_less_list a.breaks b.breaks) (eq-eqb a.day b.day d.0) d.1)
    ]))

pub before_trans : (a b c : Row) → is_before a b ≡ true → is_before b c ≡ true → is_before a c ≡ true
before_trans a b c h g =
    before_from a c (elim (before_parts a b h) [
      | inl l ↦ elim (before_parts b c g) [ inl m ↦ inl (omega arith) | inr q ↦ inl (omega (arith, q.0)) ]
      | inr p ↦ elim (before_parts b c g) [
        | inl m ↦ inl (omega (arith, p.0))
        | inr q ↦ inr (
          omega (arith, p.0, q.0),
          elim p.1 [
            | inl d ↦ elim q.1 [ inl e ↦ inl (omega arith) | inr e ↦ inl (omega (arith, e.0)) ]
            | inr d ↦ elim q.1 [ inl e ↦ inl (omega (arith, d.0)) | inr e ↦ inr (omega (arith, d.0, e.0), less_trans a.breaks b.breaks c.breaks d.1 e.1) ]
          ],
        )
      ]
    ])

-- a row does not come before a row with its duty
pub before_itself : (a b : Row) → duty_of a ≡ duty_of b → is_before a b ≡ true → ⊥
before_itself a b e h =
    let own : is_before (row_of (duty_of b) 1) (row_of (duty_of b) 1) ≡ true = subst (λ (d : Duty). is_before (row_of d 1) (row_of (duty_of b) 1) ≡ true) e h in
    elim (before_parts (row_of (duty_of b) 1) (row_of (duty_of b) 1) own) [
      | inl l ↦ omega arith
      | inr p ↦ elim p.1 [ inl d ↦ omega arith | inr d ↦ less_apart b.breaks b.breaks d.1 d.1 ]
    ]

-- so its duty is another
pub not_alike : (r : Row) (d : Duty) → is_before r (row_of d 1) ≡ true → same_duty (duty_of r) d ≡ false
not_alike r d h = is_false (same_duty (duty_of r) d) (λ t. before_itself r (row_of d 1) ((same_duty_decides (duty_of r) d).0 t) h)

pub not_alike_after : (r : Row) (d : Duty) → is_before (row_of d 1) r ≡ true → same_duty d (duty_of r) ≡ false
not_alike_after r d h = is_false (same_duty d (duty_of r)) (λ t. before_itself (row_of d 1) r ((same_duty_decides d (duty_of r)).0 t) h)

-- of rows in order each comes before every later one
pub in_order : (rows : List Row) (j k : ℕ) (a b : Row) → Sorted IsBefore rows → slice_get rows j ≡ Some a → slice_get rows k ≡ Some b → j < k → is_before a b ≡ true
in_order [] j k a b s e f l = absurd (cc)
in_order (x ∷ xs) j zero a b s e f l = absurd (omega arith)
in_order (x ∷ xs) zero (suc k) a b s e f l = let same : x ≡ a = cc in subst (λ (z : Row). is_before z b ≡ true) same (s.0 b (at xs k b f))
  where
    at : (xs : List Row) (k : ℕ) (b : Row) → slice_get xs k ≡ Some b → Has xs b
    at [] k b f = absurd (cc)
    at (x ∷ xs) zero b f = let same : x ≡ b = cc in inl same
    at (x ∷ xs) (suc k) b f = inr (at xs k b f)
in_order (x ∷ xs) (suc j) (suc k) a b s e f l = in_order xs j k a b s.1 e f (omega arith)
