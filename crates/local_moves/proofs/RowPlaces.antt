-- Where a duty stands among rows in order.
use Rattle.local_moves.proofs.Common.{◌≡◌, ◌⊎◌, inl, inr, ℕ, zero, suc, ◌+◌, ◌-◌, ◌*◌, ◌/◌, ◌<◌, ◌≤◌, Bool, true, false, cond, Some, List, [], ◌∷◌, ◌++◌, length, get_or, take, drop, set, replicate, refl, sym, ap, ◌∙◌, subst, arith, add-one, nat_lt, slice_get, list_all, cases_Bool, cases_lt, false≢true, ltb-true, lt-ltb, le-ltb, and_parts, count_by-append, count_by-replicate, Has, Sorted, Duty, Row, same_duty, count_of, duty_of, rota_of, is_before, same_duty_decides, slice_get_read, some_at, with_one_more, row_of, IsBefore, AreBefore, IsNotBefore, with_one_less}
use Rattle.greedy.proofs.Places.{place_on, place_alike, place_new, place_last}
use Rattle.local_moves.proofs.RowOrder.{is_false, before_trans, not_alike, not_alike_after, in_order}

-- ---- the halving
-- the rows up to one that comes before a duty come before it
pub before_more : (rows : List Row) (d : Duty) (k : ℕ) (r : Row) → Sorted IsBefore rows → slice_get rows k ≡ Some r → is_before r (row_of d 1) ≡ true → AreBefore rows d (k + 1)
before_more rows d k r s e h j x l f =
    elim (cases_lt j k) [
      | inl less ↦ before_trans x r (row_of d 1) (in_order rows j k x r s f e less) h
      | inr more ↦
          let same : j ≡ k = omega arith in
          let g : slice_get rows k ≡ Some x = subst (λ (n : ℕ). slice_get rows n ≡ Some x) same f in
          let both : Some r ≡ Some x = sym e ∙ g in
          let own : r ≡ x = cc in
          subst (λ (z : Row). is_before z (row_of d 1) ≡ true) own h
    ]

pub before_at : (rows : List Row) (d : Duty) (k : ℕ) (r : Row) → Sorted IsBefore rows → k < length rows → r ≡ get_or rows k r → is_before r (row_of d 1) ≡ true → AreBefore rows d (k + 1)
before_at rows d k r s l e h = before_more rows d k r s (slice_get_read rows (length rows) k r refl l e) h

pub not_before_at : (rows : List Row) (d : Duty) (k : ℕ) (r : Row) → k < length rows → r ≡ get_or rows k r → is_before r (row_of d 1) ≡ false → IsNotBefore rows d k
not_before_at rows d k r l e h x f =
    let both : Some r ≡ Some x = sym (slice_get_read rows (length rows) k r refl l e) ∙ f in
    let same : r ≡ x = cc in
    subst (λ (z : Row). is_before z (row_of d 1) ≡ false) same h

-- ---- a place by rows before it
first_before : (x : Row) (xs : List Row) (d : Duty) (k : ℕ) → AreBefore (x ∷ xs) d (suc k) → is_before x (row_of d 1) ≡ true
first_before x xs d k h = h 0 x (omega arith) refl

rest_before : (x : Row) (xs : List Row) (d : Duty) (k : ℕ) → AreBefore (x ∷ xs) d (suc k) → AreBefore xs d k
rest_before x xs d k h j r l e = h (suc j) r (omega arith) e

pub reaches : (d : Duty) (rows : List Row) (k : ℕ) → AreBefore rows d k → with_one_more d rows ≡ take k rows ++ with_one_more d (drop k rows)
reaches d rows zero h = refl
reaches d [] (suc k) h = refl
reaches d (x ∷ xs) (suc k) h = place_on d (x ∷ xs) 0 x refl (first_before x xs d k h) ∙ ap (λ zs. x ∷ zs) (reaches d xs k (rest_before x xs d k h))

pub skips : (d : Duty) (rows : List Row) (k : ℕ) → AreBefore rows d k → with_one_less d rows ≡ take k rows ++ with_one_less d (drop k rows)
skips d rows zero h = refl
skips d [] (suc k) h = refl
skips d (x ∷ xs) (suc k) h =
    ap (λ b. cond b (cond (nat_lt 1 x.count) (row_of (duty_of x) (x.count - 1) ∷ xs) xs) (x ∷ with_one_less d xs)) (not_alike x d (first_before x xs d k h))
    ∙ ap (λ zs. x ∷ zs) (skips d xs k (rest_before x xs d k h))

-- ---- how often a duty stands in rows
pub count_cons : (d : Duty) (x : Row) (xs : List Row) → count_of (rota_of (x ∷ xs)) d ≡ cond (same_duty d (duty_of x)) x.count 0 + count_of (rota_of xs) d
count_cons d x xs = count_by-append (same_duty d) (replicate x.count (duty_of x)) (rota_of xs) ∙ ap (λ n. n + count_of (rota_of xs) d) (count_by-replicate (same_duty d) x.count (duty_of x))

pub same_sides : (a b : Duty) → same_duty a b ≡ same_duty b a
same_sides a b =
    elim (cases_Bool (same_duty a b)) [
      | inl t ↦ t ∙ sym ((same_duty_decides b a).1 (sym ((same_duty_decides a b).0 t)))
      | inr f ↦ f ∙ sym (is_false (same_duty b a) (λ t. false≢true (sym f ∙ (same_duty_decides a b).1 (sym ((same_duty_decides b a).0 t)))))
    ]

none_of : (d : Duty) (rows : List Row) → ((r : Row) → Has rows r → same_duty d (duty_of r) ≡ false) → count_of (rota_of rows) d ≡ 0
none_of d [] h = refl
none_of d (x ∷ xs) h = count_cons d x xs ∙ ap (λ b. cond b x.count 0 + count_of (rota_of xs) d) (h x (inl refl)) ∙ omega (arith, none_of d xs (λ r m. h r (inr m)))

-- a duty that stands in rows has a row
pub some_of : (d : Duty) (rows : List Row) → 0 < count_of (rota_of rows) d → (r : Row) × Has rows r × (duty_of r ≡ d)
some_of d [] h = absurd (omega arith)
some_of d (x ∷ xs) h =
    elim (cases_Bool (same_duty d (duty_of x))) [
      | inl t ↦ (x, inl refl, sym ((same_duty_decides d (duty_of x)).0 t))
      | inr f ↦
          let c : count_of (rota_of (x ∷ xs)) d ≡ count_of (rota_of xs) d = count_cons d x xs ∙ ap (λ b. cond b x.count 0 + count_of (rota_of xs) d) f ∙ omega arith in
          let more = some_of d xs (omega arith) in
          (more.0, inr more.1, more.2)
    ]

skipped : (d : Duty) (x : Row) (xs : List Row) (k : ℕ) → AreBefore (x ∷ xs) d (suc k) → count_of (rota_of (x ∷ xs)) d ≡ count_of (rota_of xs) d
skipped d x xs k h = count_cons d x xs ∙ ap (λ b. cond b x.count 0 + count_of (rota_of xs) d) (same_sides d (duty_of x) ∙ not_alike x d (first_before x xs d k h)) ∙ omega arith

pub count_end : (d : Duty) (rows : List Row) (k : ℕ) → AreBefore rows d k → length rows ≤ k → count_of (rota_of rows) d ≡ 0
count_end d [] k h l = refl
count_end d (x ∷ xs) zero h l = absurd (omega arith)
count_end d (x ∷ xs) (suc k) h l = skipped d x xs k h ∙ count_end d xs k (rest_before x xs d k h) (omega arith)

-- a row with the duty comes before all later ones, so none of them has it
pub none_later : (d : Duty) (x : Row) (xs : List Row) → Sorted IsBefore (x ∷ xs) → same_duty (duty_of x) d ≡ true → count_of (rota_of xs) d ≡ 0
none_later d x xs s t =
    let e : duty_of x ≡ d = (same_duty_decides (duty_of x) d).0 t in
    none_of d xs (λ r m. not_alike_after r d (subst (λ (z : Duty). is_before (row_of z 1) r ≡ true) e (s.0 r m)))

-- a row that neither comes before the duty nor has it comes before all later ones, so none of them has the duty
none_beyond : (d : Duty) (x : Row) (xs : List Row) → Sorted IsBefore (x ∷ xs) → is_before x (row_of d 1) ≡ false → count_of (rota_of xs) d ≡ 0
none_beyond d x xs s f =
    none_of d xs (λ r m. is_false (same_duty d (duty_of r)) (λ t.
    let e : duty_of r ≡ d = sym ((same_duty_decides d (duty_of r)).0 t) in
    false≢true (sym f ∙ subst (λ (z : Duty). is_before x (row_of z 1) ≡ true) e (s.0 r m))))

pub count_here : (d : Duty) (rows : List Row) (k : ℕ) (r : Row) → Sorted IsBefore rows → AreBefore rows d k → slice_get rows k ≡ Some r → is_before r (row_of d 1) ≡ false → count_of (rota_of rows) d ≡ cond (same_duty (duty_of r) d) r.count 0
count_here d [] k r s h e f = absurd (cc)
count_here d (x ∷ xs) zero r s h e f =
    let same : x ≡ r = cc in
    let g : is_before x (row_of d 1) ≡ false = subst (λ (z : Row). is_before z (row_of d 1) ≡ false) (sym same) f in
    let one : count_of (rota_of (x ∷ xs)) d ≡ cond (same_duty (duty_of x) d) x.count 0 =
    count_cons d x xs ∙ ap (λ b. cond b x.count 0 + count_of (rota_of xs) d) (same_sides d (duty_of x)) ∙ omega (arith, none_beyond d x xs s g) in
    one ∙ ap (λ (z : Row). cond (same_duty (duty_of z) d) z.count 0) same
count_here d (x ∷ xs) (suc k) r s h e f = skipped d x xs k h ∙ count_here d xs k r s.1 (rest_before x xs d k h) e f

-- a duty that is there stands at its place
pub record IsThere (rows : List Row) (d : Duty) (k : ℕ) : Type 0 where
  pub row : Row
  pub at : slice_get rows k ≡ Some row
  pub within : k < length rows
  pub alike : same_duty (duty_of row) d ≡ true

pub found_there : (d : Duty) (rows : List Row) (k : ℕ) → Sorted IsBefore rows → AreBefore rows d k → IsNotBefore rows d k → 0 < count_of (rota_of rows) d → IsThere rows d k
found_there d rows k s h stops some =
    elim (cases_lt k (length rows)) [
      | inr far ↦ absurd (omega (arith, count_end d rows k h far))
      | inl near ↦
          let x = some_at rows k near in
          let c = count_here d rows k x.0 s h x.1 (stops x.0 x.1) in
          record {
            row = x.0;
            at = x.1;
            within = near;
            alike = elim (cases_Bool (same_duty (duty_of x.0) d)) [
              | inl t ↦ t
              | inr f ↦ let z : count_of (rota_of rows) d ≡ 0 = c ∙ ap (λ b. cond b x.0.count 0) f in absurd (omega arith)
            ];
          }
    ]

-- ---- one duty less
pub less_some : (d : Duty) (rows : List Row) (k : ℕ) (r : Row) → slice_get rows k ≡ Some r → same_duty (duty_of r) d ≡ true → nat_lt 1 r.count ≡ true
    → take k rows ++ with_one_less d (drop k rows) ≡ set rows k (row_of (duty_of r) (r.count - 1))
less_some d [] k r e h t = absurd (cc)
less_some d (x ∷ xs) zero r e h t =
    let same : x ≡ r = cc in
    subst (λ (z : Row). with_one_less d (z ∷ xs) ≡ row_of (duty_of r) (r.count - 1) ∷ xs) (sym same)
    (ap (λ b. cond b (cond (nat_lt 1 r.count) (row_of (duty_of r) (r.count - 1) ∷ xs) xs) (r ∷ with_one_less d xs)) h
    ∙ ap (λ b. cond b (row_of (duty_of r) (r.count - 1) ∷ xs) xs) t)
less_some d (x ∷ xs) (suc k) r e h t = ap (λ zs. x ∷ zs) (less_some d xs k r e h t)

pub less_last : (d : Duty) (rows : List Row) (k : ℕ) (r : Row) → slice_get rows k ≡ Some r → same_duty (duty_of r) d ≡ true → nat_lt 1 r.count ≡ false
    → take k rows ++ with_one_less d (drop k rows) ≡ take k rows ++ drop (suc k) rows
less_last d [] k r e h t = absurd (cc)
less_last d (x ∷ xs) zero r e h t =
    let same : x ≡ r = cc in
    subst (λ (z : Row). with_one_less d (z ∷ xs) ≡ xs) (sym same)
    (ap (λ b. cond b (cond (nat_lt 1 r.count) (row_of (duty_of r) (r.count - 1) ∷ xs) xs) (r ∷ with_one_less d xs)) h
    ∙ ap (λ b. cond b (row_of (duty_of r) (r.count - 1) ∷ xs) xs) t)
less_last d (x ∷ xs) (suc k) r e h t = ap (λ zs. x ∷ zs) (less_last d xs k r e h t)

-- one more and then one less
pub less_more : (d : Duty) (rows : List Row) → list_all (λ r. nat_lt 0 r.count) rows ≡ true → with_one_less d (with_one_more d rows) ≡ rows
less_more d [] h = ap (λ b. cond b [] (row_of d 1 ∷ [])) ((same_duty_decides d d).1 refl)
less_more d (r ∷ rows) h =
    elim (cases_Bool (is_before r (row_of d 1))) [
      | inl t ↦
          ap (with_one_less d) (ap (λ b. cond b (r ∷ with_one_more d rows) (cond (same_duty (duty_of r) d) (row_of (duty_of r) (r.count + 1) ∷ rows) (row_of d 1 ∷ r ∷ rows))) t)
          ∙ ap (λ b. cond b (cond (nat_lt 1 r.count) (row_of (duty_of r) (r.count - 1) ∷ with_one_more d rows) (with_one_more d rows)) (r ∷ with_one_less d (with_one_more d rows))) (not_alike r d t)
          ∙ ap (λ zs. r ∷ zs) (less_more d rows p.1)
      | inr f ↦ elim (cases_Bool (same_duty (duty_of r) d)) [
        | inl same ↦
            let some : 0 < r.count = ltb-true 0 r.count p.0 in
            let two : nat_lt 1 (r.count + 1) ≡ true = lt-ltb 1 (r.count + 1) (omega arith) in
            let one : r.count + 1 - 1 ≡ r.count = omega arith in
            ap (with_one_less d) (ap (λ b. cond b (r ∷ with_one_more d rows) (cond (same_duty (duty_of r) d) (row_of (duty_of r) (r.count + 1) ∷ rows) (row_of d 1 ∷ r ∷ rows))) f ∙ ap (λ b. cond b (row_of (duty_of r) (r.count + 1) ∷ rows) (row_of d 1 ∷ r ∷ rows)) same)
            ∙ ap (λ b. cond b (cond (nat_lt 1 (r.count + 1)) (row_of (duty_of r) (r.count + 1 - 1) ∷ rows) rows) (row_of (duty_of r) (r.count + 1) ∷ with_one_less d rows)) same
            ∙ ap (λ b. cond b (row_of (duty_of r) (r.count + 1 - 1) ∷ rows) rows) two
            ∙ ap (λ n. row_of (duty_of r) n ∷ rows) one
        | inr other ↦
            ap (with_one_less d) (ap (λ b. cond b (r ∷ with_one_more d rows) (cond (same_duty (duty_of r) d) (row_of (duty_of r) (r.count + 1) ∷ rows) (row_of d 1 ∷ r ∷ rows))) f ∙ ap (λ b. cond b (row_of (duty_of r) (r.count + 1) ∷ rows) (row_of d 1 ∷ r ∷ rows)) other)
            ∙ ap (λ b. cond b (r ∷ rows) (row_of d 1 ∷ with_one_less d (r ∷ rows))) ((same_duty_decides d d).1 refl)
      ]
    ]
  where
    p : (nat_lt 0 r.count ≡ true) × (list_all (λ r. nat_lt 0 r.count) rows ≡ true)
    p = and_parts (nat_lt 0 r.count) (list_all (λ r. nat_lt 0 r.count) rows) h

-- ---- what takes and adds a duty at its place
-- the row at the place of a duty that is there
pub own_row : (d : Duty) (slice rows : List Row) (k : ℕ) (r : Row) → slice ≡ rows → Sorted IsBefore rows → AreBefore slice d k → IsNotBefore slice d k → 0 < count_of (rota_of rows) d → r ≡ get_or rows k r
    → (k < length rows) × (slice_get rows k ≡ Some r) × (same_duty (duty_of r) d ≡ true)
own_row d slice rows k r same s h stops some at =
    let t = found_there d rows k s (subst (λ (xs : List Row). AreBefore xs d k) same h) (subst (λ (xs : List Row). IsNotBefore xs d k) same stops) some in
    let here = slice_get_read rows (length rows) k r refl t.within at in
    let both : Some t.row ≡ Some r = sym t.at ∙ here in
    let own : t.row ≡ r = cc in
    (t.within, here, subst (λ (z : Row). same_duty (duty_of z) d ≡ true) own t.alike)

pub place_within : (d : Duty) (slice rows : List Row) (k : ℕ) → slice ≡ rows → Sorted IsBefore rows → AreBefore slice d k → IsNotBefore slice d k → 0 < count_of (rota_of rows) d → k < length rows
place_within d slice rows k same s h stops some = (found_there d rows k s (subst (λ (xs : List Row). AreBefore xs d k) same h) (subst (λ (xs : List Row). IsNotBefore xs d k) same stops) some).within

-- one duty less in its row
pub taken_some : (d : Duty) (slice rows : List Row) (k : ℕ) (r : Row) (n : ℕ) → slice ≡ rows → Sorted IsBefore rows → AreBefore slice d k → IsNotBefore slice d k → 0 < count_of (rota_of rows) d → r ≡ get_or rows k r → 1 < r.count → n ≡ r.count - 1
    → set rows k (row_of (duty_of r) n) ≡ with_one_less d rows
taken_some d slice rows k r n same s h stops some at many down =
    let own = own_row d slice rows k r same s h stops some at in
    ap (λ m. set rows k (row_of (duty_of r) m)) down
    ∙ sym (less_some d rows k r own.1 own.2 (lt-ltb 1 r.count many))
    ∙ sym (skips d rows k (subst (λ (xs : List Row). AreBefore xs d k) same h))

-- the last one goes with its row
pub taken_last : (d : Duty) (slice rows : List Row) (k : ℕ) (r : Row) → slice ≡ rows → Sorted IsBefore rows → AreBefore slice d k → IsNotBefore slice d k → 0 < count_of (rota_of rows) d → r ≡ get_or rows k r → r.count ≤ 1
    → take k rows ++ drop (k + 1) rows ≡ with_one_less d rows
taken_last d slice rows k r same s h stops some at few =
    let own = own_row d slice rows k r same s h stops some at in
    ap (λ n. take k rows ++ drop n rows) (add-one k)
    ∙ sym (less_last d rows k r own.1 own.2 (le-ltb 1 r.count few))
    ∙ sym (skips d rows k (subst (λ (xs : List Row). AreBefore xs d k) same h))

-- how often a duty stands in rows
pub counted_at : (d : Duty) (slice rows : List Row) (k : ℕ) (r : Row) (b : Bool) → slice ≡ rows → Sorted IsBefore rows → AreBefore slice d k → IsNotBefore slice d k → k < length rows → r ≡ get_or rows k r → b ≡ same_duty (duty_of r) d → cond b r.count 0 ≡ count_of (rota_of rows) d
counted_at d slice rows k r b same s h stops l at test =
    let here = slice_get_read rows (length rows) k r refl l at in
    ap (λ b. cond b r.count 0) test
    ∙ sym (count_here d rows k r s (subst (λ (xs : List Row). AreBefore xs d k) same h) here (subst (λ (xs : List Row). IsNotBefore xs d k) same stops r here))

-- one duty more
pub same_read : (rows : List Row) (k : ℕ) (r q : Row) → k < length rows → r ≡ get_or rows k r → q ≡ get_or rows k q → r ≡ q
same_read rows k r q l at there =
    let both : Some r ≡ Some q = sym (slice_get_read rows (length rows) k r refl l at) ∙ slice_get_read rows (length rows) k q refl l there in
    cc

pub counted_read : (d : Duty) (rows : List Row) (k : ℕ) (r x : Row) (b : Bool) → Sorted IsBefore rows → AreBefore rows d k → IsNotBefore rows d k → k < length rows → r ≡ get_or rows k r → x ≡ get_or rows k x → b ≡ same_duty (duty_of r) d → b ≡ true
    → (get_or rows k x).count ≡ count_of (rota_of rows) d
counted_read d rows k r x b s h stops l at there test t =
    ap (λ (z : Row). z.count) (sym there ∙ sym (same_read rows k r x l at there))
    ∙ sym (ap (λ b. cond b r.count 0) t)
    ∙ counted_at d rows rows k r b refl s h stops l at test

pub added_alike : (d : Duty) (slice rows : List Row) (k : ℕ) (r q : Row) (b : Bool) → slice ≡ rows → AreBefore slice d k → IsNotBefore slice d k → k < length rows → r ≡ get_or rows k r → q ≡ get_or rows k q → b ≡ same_duty (duty_of q) d → b ≡ true
    → set rows k (row_of (duty_of r) (r.count + 1)) ≡ with_one_more d rows
added_alike d slice rows k r q b same h stops l at there test t =
    let here = slice_get_read rows (length rows) k r refl l at in
    let alike : same_duty (duty_of r) d ≡ true = ap (λ (z : Row). same_duty (duty_of z) d) (same_read rows k r q l at there) ∙ sym test ∙ t in
    sym (place_alike d rows k r here (subst (λ (xs : List Row). IsNotBefore xs d k) same stops r here) alike)
    ∙ sym (reaches d rows k (subst (λ (xs : List Row). AreBefore xs d k) same h))

pub added_other : (d : Duty) (slice rows : List Row) (k : ℕ) (r : Row) → slice ≡ rows → AreBefore slice d k → IsNotBefore slice d k → k < length rows → r ≡ get_or rows k r → same_duty (duty_of r) d ≡ false
    → take k rows ++ row_of d 1 ∷ drop k rows ≡ with_one_more d rows
added_other d slice rows k r same h stops l at other =
    let here = slice_get_read rows (length rows) k r refl l at in
    sym (place_new d rows k r here (subst (λ (xs : List Row). IsNotBefore xs d k) same stops r here) other)
    ∙ sym (reaches d rows k (subst (λ (xs : List Row). AreBefore xs d k) same h))

pub added_last : (d : Duty) (slice rows : List Row) (k : ℕ) → slice ≡ rows → AreBefore slice d k → length rows ≤ k → take k rows ++ row_of d 1 ∷ drop k rows ≡ with_one_more d rows
added_last d slice rows k same h l = sym (place_last d rows k l) ∙ sym (reaches d rows k (subst (λ (xs : List Row). AreBefore xs d k) same h))
