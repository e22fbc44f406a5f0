-- Rows in order are told apart by how often each duty stands in them.
use Rattle.local_moves.proofs.Common.{◌≡◌, ◌⊎◌, inl, inr, ℕ, ◌+◌, ◌<◌, true, false, cond, List, [], ◌∷◌, ◌++◌, drop, refl, sym, ap, ◌∙◌, subst, arith, nat_lt, list_all, zip, cases_Bool, false≢true, ltb-true, and_parts, Sorted, Duty, Row, Problem, same_duty, count_of, duty_of, rota_of, is_before, is_legal_rota, are_legal_rows, same_duty_decides, AreAlike, alike_legal, legal_rows_parts, row_of, rows_of, rows_alike, rows_legal, IsBefore}
use Rattle.local_moves.proofs.RowOrder.{before_trans, before_itself}
use Rattle.local_moves.proofs.RowPlaces.{count_cons, none_later, some_of}

sorted_from : (rows : List Row) → list_all (λ p. is_before p.0 p.1) (zip rows (drop 1 rows)) ≡ true → Sorted IsBefore rows
sorted_from [] h = tt
sorted_from (x ∷ []) h = (λ y m. absurd m, tt)
sorted_from (x ∷ y ∷ rows) h =
    let p = and_parts (is_before x y) (list_all (λ p. is_before p.0 p.1) (zip (y ∷ rows) rows)) h in
    let s = sorted_from (y ∷ rows) p.1 in
    (λ z m. elim m [ inl e ↦ subst (λ (r : Row). is_before x r ≡ true) e p.0 | inr k ↦ before_trans x y z p.0 (s.0 z k) ], s)

pub legal_sorted : (i : Problem) (rows : List Row) → are_legal_rows i rows ≡ true → Sorted IsBefore rows
legal_sorted i rows h = sorted_from rows (legal_rows_parts i rows h).sorted

-- the first rows have the same duty
first_alike : (x y : Row) (xs ys : List Row) → Sorted IsBefore (x ∷ xs) → Sorted IsBefore (y ∷ ys) → 0 < x.count → 0 < y.count
    → ((d : Duty) → count_of (rota_of (x ∷ xs)) d ≡ count_of (rota_of (y ∷ ys)) d) → duty_of x ≡ duty_of y
first_alike x y xs ys s t p q h =
    elim (cases_Bool (same_duty (duty_of x) (duty_of y))) [
      | inl e ↦ (same_duty_decides (duty_of x) (duty_of y)).0 e
      | inr f ↦
          let g : same_duty (duty_of y) (duty_of x) ≡ false = elim (cases_Bool (same_duty (duty_of y) (duty_of x))) [
            | inl e ↦ absurd (false≢true (sym f ∙ (same_duty_decides (duty_of x) (duty_of y)).1 (sym ((same_duty_decides (duty_of y) (duty_of x)).0 e))))
            | inr k ↦ k
          ] in
          let own_x : count_of (rota_of (x ∷ xs)) (duty_of x) ≡ x.count + count_of (rota_of xs) (duty_of x) = own x xs in
          let own_y : count_of (rota_of (y ∷ ys)) (duty_of y) ≡ y.count + count_of (rota_of ys) (duty_of y) = own y ys in
          let of_x : count_of (rota_of (y ∷ ys)) (duty_of x) ≡ count_of (rota_of ys) (duty_of x) = other y ys (duty_of x) f in
          let of_y : count_of (rota_of (x ∷ xs)) (duty_of y) ≡ count_of (rota_of xs) (duty_of y) = other x xs (duty_of y) g in
          let hx = h (duty_of x) in
          let hy = h (duty_of y) in
          let a = some_of (duty_of x) ys (omega arith) in
          let b = some_of (duty_of y) xs (omega arith) in
          let yx : is_before y (row_of (duty_of x) 1) ≡ true = subst (λ (d : Duty). is_before y (row_of d 1) ≡ true) a.2 (t.0 a.0 a.1) in
          let xy : is_before x (row_of (duty_of y) 1) ≡ true = subst (λ (d : Duty). is_before x (row_of d 1) ≡ true) b.2 (s.0 b.0 b.1) in
          absurd (before_itself x x refl (before_trans x y x xy yx))
    ]
  where
    own : (r : Row) (rest : List Row) → count_of (rota_of (r ∷ rest)) (duty_of r) ≡ r.count + count_of (rota_of rest) (duty_of r)
    own r rest = count_cons (duty_of r) r rest ∙ ap (λ b. cond b r.count 0 + count_of (rota_of rest) (duty_of r)) ((same_duty_decides (duty_of r) (duty_of r)).1 refl)

    other : (r : Row) (rest : List Row) (d : Duty) → same_duty d (duty_of r) ≡ false → count_of (rota_of (r ∷ rest)) d ≡ count_of (rota_of rest) d
    other r rest d f = count_cons d r rest ∙ ap (λ b. cond b r.count 0 + count_of (rota_of rest) d) f ∙ omega arith

same_row : (x y : Row) → duty_of x ≡ duty_of y → x.count ≡ y.count → x ≡ y
same_row x y e n = ap (λ (d : Duty). row_of d x.count) e ∙ ap (λ (k : ℕ). row_of (duty_of y) k) n

pub same_rows : (a b : List Row) → Sorted IsBefore a → Sorted IsBefore b → list_all (λ r. nat_lt 0 r.count) a ≡ true → list_all (λ r. nat_lt 0 r.count) b ≡ true
    → ((d : Duty) → count_of (rota_of a) d ≡ count_of (rota_of b) d) → a ≡ b
same_rows [] [] s t p q h = refl
same_rows [] (y ∷ ys) s t p q h =
    let some : 0 < y.count = ltb-true 0 y.count (and_parts (nat_lt 0 y.count) (list_all (λ r. nat_lt 0 r.count) ys) q).0 in
    let c : count_of (rota_of (y ∷ ys)) (duty_of y) ≡ y.count + count_of (rota_of ys) (duty_of y) =
    count_cons (duty_of y) y ys ∙ ap (λ b. cond b y.count 0 + count_of (rota_of ys) (duty_of y)) ((same_duty_decides (duty_of y) (duty_of y)).1 refl) in
    let z : 0 ≡ count_of (rota_of (y ∷ ys)) (duty_of y) = h (duty_of y) in
    absurd (omega arith)
same_rows (x ∷ xs) [] s t p q h =
    let some : 0 < x.count = ltb-true 0 x.count (and_parts (nat_lt 0 x.count) (list_all (λ r. nat_lt 0 r.count) xs) p).0 in
    let c : count_of (rota_of (x ∷ xs)) (duty_of x) ≡ x.count + count_of (rota_of xs) (duty_of x) =
    count_cons (duty_of x) x xs ∙ ap (λ b. cond b x.count 0 + count_of (rota_of xs) (duty_of x)) ((same_duty_decides (duty_of x) (duty_of x)).1 refl) in
    let z : count_of (rota_of (x ∷ xs)) (duty_of x) ≡ 0 = h (duty_of x) in
    absurd (omega arith)
same_rows (x ∷ xs) (y ∷ ys) s t p q h =
    let pp = and_parts (nat_lt 0 x.count) (list_all (λ r. nat_lt 0 r.count) xs) p in
    let qq = and_parts (nat_lt 0 y.count) (list_all (λ r. nat_lt 0 r.count) ys) q in
    let e : duty_of x ≡ duty_of y = first_alike x y xs ys s t (ltb-true 0 x.count pp.0) (ltb-true 0 y.count qq.0) h in
    let same : same_duty (duty_of x) (duty_of x) ≡ true = (same_duty_decides (duty_of x) (duty_of x)).1 refl in
    let cross : same_duty (duty_of x) (duty_of y) ≡ true = (same_duty_decides (duty_of x) (duty_of y)).1 e in
    let back : same_duty (duty_of y) (duty_of x) ≡ true = (same_duty_decides (duty_of y) (duty_of x)).1 (sym e) in
    let a : count_of (rota_of (x ∷ xs)) (duty_of x) ≡ x.count + count_of (rota_of xs) (duty_of x) = count_cons (duty_of x) x xs ∙ ap (λ b. cond b x.count 0 + count_of (rota_of xs) (duty_of x)) same in
    let b : count_of (rota_of (y ∷ ys)) (duty_of x) ≡ y.count + count_of (rota_of ys) (duty_of x) = count_cons (duty_of x) y ys ∙ ap (λ b. cond b y.count 0 + count_of (rota_of ys) (duty_of x)) cross in
    let none_x : count_of (rota_of xs) (duty_of x) ≡ 0 = none_later (duty_of x) x xs s same in
    let none_y : count_of (rota_of ys) (duty_of x) ≡ 0 = none_later (duty_of x) y ys t back in
    let hx = h (duty_of x) in
    let n : x.count ≡ y.count = omega arith in
    let r : x ≡ y = same_row x y e n in
    ap (λ (z : Row). z ∷ xs) r
    ∙ ap (λ zs. y ∷ zs) (same_rows xs ys s.1 t.1 pp.1 qq.1 (λ d.
    let hd = h d in
    let cx = count_cons d x xs in
    let cy = count_cons d y ys in
    let k : ◌≡◌ {A = ℕ} (cond (same_duty d (duty_of x)) x.count 0) (cond (same_duty d (duty_of y)) y.count 0) = ap (λ (z : Row). cond (same_duty d (duty_of z)) z.count 0) r in
    omega arith))

-- legal rows with the same duties are the same
pub same_legal_rows : (i : Problem) (a b : List Row) → are_legal_rows i a ≡ true → are_legal_rows i b ≡ true → ((d : Duty) → count_of (rota_of a) d ≡ count_of (rota_of b) d) → a ≡ b
same_legal_rows i a b p q h = same_rows a b (legal_sorted i a p) (legal_sorted i b q) (legal_rows_parts i a p).counted (legal_rows_parts i b q).counted h

-- legal rows are the rows of their own duties
pub own_rows : (i : Problem) (rows : List Row) → are_legal_rows i rows ≡ true → rows ≡ rows_of i (rota_of rows)
own_rows i rows h =
    let legal : is_legal_rota i (rota_of rows) ≡ true = (legal_rows_parts i rows h).legal in
    same_legal_rows i rows (rows_of i (rota_of rows)) h (rows_legal i (rota_of rows) legal) (λ d. rows_alike i (rota_of rows) legal (same_duty d))

-- legal plans with the same duties have the same rows
pub alike_rows : (i : Problem) (a b : List Duty) → is_legal_rota i a ≡ true → AreAlike a b → rows_of i a ≡ rows_of i b
alike_rows i a b legal h =
    let other : is_legal_rota i b ≡ true = alike_legal i a b h legal in
    same_legal_rows i (rows_of i a) (rows_of i b) (rows_legal i a legal) (rows_legal i b other)
    (λ d. sym (rows_alike i a legal (same_duty d)) ∙ h (same_duty d) ∙ rows_alike i b other (same_duty d))
