-- What is known of carried rows: where they come from, their order, and how many duties they have.
use Rattle.carried_rows.proofs.Common.{◌≡◌, inl, inr, ℕ, zero, suc, ◌+◌, ◌-◌, ◌<◌, ◌≤◌, true, false, ◌&&◌, ◌||◌, ◌==◌, List, [], ◌∷◌, ◌++◌, min, filter, refl, sym, ◌∙◌, subst, arith, eqb-true, eq-eqb, nat_lt, sum_by, Option, Some, None, option_map_or, flat_map, range_with_len, list_all, and_parts, and_from, or_left, or_right, cases_lt, cases_eq, cond_both, false≢true, lt-ltb, ltb-true, is_less_list, Has, Sorted, from_flat_map, from_filter, from_below, all_at, Sorted-flat_map, Sorted-filter, Sorted-range, Row, Problem, below, is_list_of, is_before, like_of, goes_to, moved, fitted, carried_on, carried_to, carried_of}
use Rattle.std.proofs.lemmas.List.Sums.{sum_by-append, sum_by-cons}
use Rattle.carried_rows.proofs.RowOrder.{IsBefore, before_parts}

-- ---- the order of rows

pub before_shift : (a b : Row) → a.shift < b.shift → is_before a b ≡ true
before_shift a b l = or_left (nat_lt a.shift b.shift) ((a.shift == b.shift) && (nat_lt a.day b.day || ((a.day == b.day) && is_less_list a.breaks b.breaks))) (lt-ltb a.shift b.shift l)

pub before_day : (a b : Row) → a.shift ≡ b.shift → a.day < b.day → is_before a b ≡ true
before_day a b e l =
    or_right (nat_lt a.shift b.shift) ((a.shift == b.shift) && (nat_lt a.day b.day || ((a.day == b.day) && is_less_list a.breaks b.breaks)))
    (and_from (a.shift == b.shift) (nat_lt a.day b.day || ((a.day == b.day) && is_less_list a.breaks b.breaks)) (eq-eqb a.shift b.shift e)
    (or_left (nat_lt a.day b.day) ((a.day == b.day) && is_less_list a.breaks b.breaks) (lt-ltb a.day b.day l)))

before_breaks : (a b : Row) → a.shift ≡ b.shift → a.day ≡ b.day → is_less_list a.breaks b.breaks ≡ true → is_before a b ≡ true
before_breaks a b e d l =
    or_right (nat_lt a.shift b.shift) ((a.shift == b.shift) && (nat_lt a.day b.day || ((a.day == b.day) && is_less_list a.breaks b.breaks)))
    (and_from (a.shift == b.shift) (nat_lt a.day b.day || ((a.day == b.day) && is_less_list a.breaks b.breaks)) (eq-eqb a.shift b.shift e)
    (or_right (nat_lt a.day b.day) ((a.day == b.day) && is_less_list a.breaks b.breaks) (and_from (a.day == b.day) (is_less_list a.breaks b.breaks) (eq-eqb a.day b.day d) l)))

-- rows of one shift and day are in the order of their breaks
less_breaks : (a b : Row) → a.shift ≡ b.shift → a.day ≡ b.day → is_before a b ≡ true → is_less_list a.breaks b.breaks ≡ true
less_breaks a b e d h =
    elim (before_parts a b h) [
      | inl l ↦ absurd (omega arith)
      | inr p ↦ elim p.1 [ inl l ↦ absurd (omega arith) | inr q ↦ q.1 ]
    ]

-- ---- rows that go to a shift

pub record Goes (j : Problem) (s t d : ℕ) (r : Row) : Type 0 where
  pub shift : r.shift ≡ s
  pub day : r.day ≡ d
  pub breaks : is_list_of j t r.breaks ≡ true

pub goes : (j : Problem) (s t day : ℕ) (r : Row) → goes_to j s t day r ≡ true → Goes j s t day r
goes j s t day r h =
    let q = and_parts ((r.shift == s) && (r.day == day)) (is_list_of j t r.breaks) h in
    let p = and_parts (r.shift == s) (r.day == day) q.0 in
    record { shift = eqb-true r.shift s p.0; day = eqb-true r.day day p.1; breaks = q.1 }

-- ---- rows that fit

positive : (n : ℕ) → (n == 0) ≡ false → 0 < n
positive n e = elim (cases_lt 0 n) [ inl l ↦ l | inr g ↦ absurd (false≢true (sym e ∙ eq-eqb n 0 (omega arith))) ]

-- each comes of a row, with room for some of its duties
pub record Fits (t : ℕ) (ys : List Row) (r : Row) : Type 0 where
  pub from : Row
  pub room : ℕ
  pub has : Has ys from
  pub some : 0 < room
  pub is : moved t room from ≡ r

pub fits : (t room : ℕ) (ys : List Row) (r : Row) → Has (fitted t room ys) r → Fits t ys r
fits t room [] r m = absurd m
fits t room (y ∷ ys) r m =
    cond_both (room == 0) [] (moved t room y ∷ fitted t (room - y.count) ys) (λ rs. Has rs r → Fits t (y ∷ ys) r)
    (λ e k. absurd k)
    (λ e k. elim k [
      | inl q ↦ record { from = y; room = room; has = inl refl; some = positive room e; is = q }
      | inr z ↦
          let f = fits t (room - y.count) ys r z in
          record { from = f.from; room = f.room; has = inr f.has; some = f.some; is = f.is }
    ])
    m

-- rows of one day in the order of their breaks are in order
abbrev pub IsLess : Row → Row → Type 0
IsLess a b = (a.day ≡ b.day) × (is_less_list a.breaks b.breaks ≡ true)

pub fitted_sorted : (t room : ℕ) (ys : List Row) → Sorted IsLess ys → Sorted IsBefore (fitted t room ys)
fitted_sorted t room [] s = tt
fitted_sorted t room (y ∷ ys) s =
    cond_both (room == 0) [] (moved t room y ∷ fitted t (room - y.count) ys) (Sorted IsBefore)
    (λ e. tt)
    (λ e. (
      λ z m.
          let f = fits t (room - y.count) ys z m in
          let l = s.0 f.from f.has in
          subst (λ (q : Row). is_before (moved t room y) q ≡ true) f.is (before_breaks (moved t room y) (moved t f.room f.from) refl l.0 l.1),
      fitted_sorted t (room - y.count) ys s.1,
    ))

min_room : (c room : ℕ) → min c room + (room - c) ≤ room
min_room c room = omega arith

-- they have no more duties than there is room for
pub fitted_few : (f : Row → ℕ) → ((r : Row) → f r ≤ r.count) → (t room : ℕ) (ys : List Row) → sum_by f (fitted t room ys) ≤ room
fitted_few f h t room [] = omega arith
fitted_few f h t room (y ∷ ys) =
    cond_both (room == 0) [] (moved t room y ∷ fitted t (room - y.count) ys) (λ rs. sum_by f rs ≤ room)
    (λ e. omega arith)
    (λ e.
    let a : sum_by f (moved t room y ∷ fitted t (room - y.count) ys) ≡ f (moved t room y) + sum_by f (fitted t (room - y.count) ys) = sum_by-cons f (moved t room y) (fitted t (room - y.count) ys) in
    let b : sum_by f (fitted t (room - y.count) ys) ≤ room - y.count = fitted_few f h t (room - y.count) ys in
    let c : f (moved t room y) ≤ min y.count room = h (moved t room y) in
    omega (arith, min_room y.count room))

-- ---- rows of a shift on a day

sorted_weaker : {X : Type 0} (S R : X → X → Type 0) (xs : List X) → ((x y : X) → Has xs x → Has xs y → S x y → R x y) → Sorted S xs → Sorted R xs
sorted_weaker S R [] h s = tt
sorted_weaker S R (x ∷ xs) h s = (λ y m. h x y (inl refl) (inr m) (s.0 y m), sorted_weaker S R xs (λ a b p q. h a b (inr p) (inr q)) s.1)

pub on_sorted : (j : Problem) (rows : List Row) (s t day : ℕ) → Sorted IsBefore rows → Sorted IsBefore (carried_on j rows s t day)
on_sorted j rows s t day o =
    let ys = filter (goes_to j s t day) rows in
    fitted_sorted t j.heads ys
    (sorted_weaker IsBefore IsLess ys (λ a b p q l.
    let g = goes j s t day a (from_filter (goes_to j s t day) rows a p).1 in
    let h = goes j s t day b (from_filter (goes_to j s t day) rows b q).1 in
    (g.day ∙ sym h.day, less_breaks a b (g.shift ∙ sym h.shift) (g.day ∙ sym h.day) l))
    (Sorted-filter IsBefore (goes_to j s t day) rows o))

-- what is known of a carried row of a shift on a day
pub record IsCarried (j : Problem) (t d : ℕ) (r : Row) : Type 0 where
  pub shift : r.shift ≡ t
  pub day : r.day ≡ d
  pub breaks : is_list_of j t r.breaks ≡ true
  pub some : nat_lt 0 r.count ≡ true

min_some : (c room : ℕ) → 0 < c → 0 < room → 0 < min c room
min_some c room p q = omega arith

pub on_carried : (j : Problem) (rows : List Row) (s t day : ℕ) (r : Row) → list_all (λ x. nat_lt 0 x.count) rows ≡ true → Has (carried_on j rows s t day) r → IsCarried j t day r
on_carried j rows s t day r counted m =
    let f = fits t j.heads (filter (goes_to j s t day) rows) r m in
    let q = from_filter (goes_to j s t day) rows f.from f.has in
    let g = goes j s t day f.from q.1 in
    let c : 0 < f.from.count = ltb-true 0 f.from.count (all_at (λ x. nat_lt 0 x.count) rows f.from counted q.0) in
    subst (λ (x : Row). IsCarried j t day x) f.is
    (record {
      shift = refl;
      day = g.day;
      breaks = g.breaks;
      some = lt-ltb 0 (min f.from.count f.room) (min_some f.from.count f.room c f.some);
    })

-- ---- rows of a shift

pub record IsCarriedTo (j : Problem) (t : ℕ) (r : Row) : Type 0 where
  pub on : IsCarried j t r.day r
  pub day : r.day < j.days

pub to_carried : (j : Problem) (rows : List Row) (s t : ℕ) (r : Row) → list_all (λ x. nat_lt 0 x.count) rows ≡ true → Has (carried_to j rows s t) r → IsCarriedTo j t r
to_carried j rows s t r counted m =
    let d = from_flat_map (carried_on j rows s t) (below j.days) r m in
    let o = on_carried j rows s t d.0 r counted d.2 in
    record {
      on = subst (λ (day : ℕ). IsCarried j t day r) (sym o.day) o;
      day = subst (λ (day : ℕ). day < j.days) (sym o.day) (from_below j.days d.0 d.1);
    }

pub to_sorted : (j : Problem) (rows : List Row) (s t : ℕ) → list_all (λ x. nat_lt 0 x.count) rows ≡ true → Sorted IsBefore rows → Sorted IsBefore (carried_to j rows s t)
to_sorted j rows s t counted o =
    Sorted-flat_map (λ x y. x < y) IsBefore (carried_on j rows s t) (below j.days)
    (λ day m. on_sorted j rows s t day o)
    (λ x y l a b p q.
    let g = on_carried j rows s t x a counted p in
    let h = on_carried j rows s t y b counted q in
    before_day a b (g.shift ∙ sym h.shift) (let e = g.day in let f = h.day in omega arith))
    (Sorted-range 0 j.days)

of_carried : (j : Problem) (rows : List Row) (t : ℕ) (r : Row) → list_all (λ x. nat_lt 0 x.count) rows ≡ true → (o : Option ℕ) → Has (option_map_or (λ s. carried_to j rows s t) o []) r → IsCarriedTo j t r
of_carried j rows t r counted None m = absurd m
of_carried j rows t r counted (Some s) m = to_carried j rows s t r counted m

pub shift_carried : (i j : Problem) (rows : List Row) (t : ℕ) (r : Row) → list_all (λ x. nat_lt 0 x.count) rows ≡ true → Has (carried_of i j rows t) r → IsCarriedTo j t r
shift_carried i j rows t r counted m = of_carried j rows t r counted (like_of i j t) m

of_sorted : (j : Problem) (rows : List Row) (t : ℕ) → list_all (λ x. nat_lt 0 x.count) rows ≡ true → Sorted IsBefore rows → (o : Option ℕ) → Sorted IsBefore (option_map_or (λ s. carried_to j rows s t) o [])
of_sorted j rows t counted o None = tt
of_sorted j rows t counted o (Some s) = to_sorted j rows s t counted o

pub shift_sorted : (i j : Problem) (rows : List Row) (t : ℕ) → list_all (λ x. nat_lt 0 x.count) rows ≡ true → Sorted IsBefore rows → Sorted IsBefore (carried_of i j rows t)
shift_sorted i j rows t counted o = of_sorted j rows t counted o (like_of i j t)

-- ---- sums over blocks of which one counts

none_sum : {Y : Type 0} (f : Y → ℕ) (g : ℕ → List Y) (a n : ℕ) → ((x : ℕ) → a ≤ x → sum_by f (g x) ≡ 0) → sum_by f (flat_map g (range_with_len a n)) ≡ 0
none_sum f g a zero h = omega arith
none_sum f g a (suc n) h =
    sum_by-append f (g a) (flat_map g (range_with_len (a + 1) n))
    ∙ (let p = h a (omega arith) in let q = none_sum f g (a + 1) n (λ x l. h x (omega arith)) in omega arith)

pub one_block : {Y : Type 0} (f : Y → ℕ) (g : ℕ → List Y) (a n k most : ℕ) → ((x : ℕ) → (x ≡ k → ⊥) → sum_by f (g x) ≡ 0) → sum_by f (g k) ≤ most → sum_by f (flat_map g (range_with_len a n)) ≤ most
one_block f g a zero k most none own = omega arith
one_block f g a (suc n) k most none own =
    let split : sum_by f (g a ++ flat_map g (range_with_len (a + 1) n)) ≡ sum_by f (g a) + sum_by f (flat_map g (range_with_len (a + 1) n)) = sum_by-append f (g a) (flat_map g (range_with_len (a + 1) n)) in
    elim (cases_eq a k) [
      | inl e ↦
          let p : sum_by f (g a) ≤ most = subst (λ (x : ℕ). sum_by f (g x) ≤ most) (sym e) own in
          let q : sum_by f (flat_map g (range_with_len (a + 1) n)) ≡ 0 = none_sum f g (a + 1) n (λ x l. none x (λ d. let bad : a < a = omega (arith, e, d) in omega arith)) in
          omega arith
      | inr ne ↦
          let p : sum_by f (g a) ≡ 0 = none a ne in
          let q : sum_by f (flat_map g (range_with_len (a + 1) n)) ≤ most = one_block f g (a + 1) n k most none own in
          omega arith
    ]

pub zero_sum : {Y : Type 0} (f : Y → ℕ) (ys : List Y) → ((y : Y) → Has ys y → f y ≡ 0) → sum_by f ys ≡ 0
zero_sum f [] h = omega arith
zero_sum f (y ∷ ys) h = sum_by-cons f y ys ∙ (let p = h y (inl refl) in let q = zero_sum f ys (λ z m. h z (inr m)) in omega arith)
