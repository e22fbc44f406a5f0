-- Every legal duty stands once among all duties, in the order of rows, and rows of numbers of duties.
use Rattle.shift_instance.proofs.Common.{◌≡◌, inl, inr, ℕ, zero, ◌<◌, Bool, true, false, cond, ◌&&◌, ◌||◌, ◌==◌, List, [], ◌∷◌, ◌++◌, map, filter, drop, replicate, length, refl, sym, ap, ◌∙◌, subst, arith, nat_lt, eq-eqb, Option, Some, None, slice_get, option_map_or, count_by, flat_map, list_all, zip, and_parts, and_from, or_left, or_right, eqb-true, cases_Bool, false≢true, lt-ltb, cond_both, ltb-false, Break, Rule, is_legal, legal_lists, same_list, is_less_list, Has, Sorted, from_map, Has-map, from_flat_map, Has-flat_map, Has-below, from_below, count_by_none, sum_by_same, count_by-flat_map, count_by-map, count_by-below, Shift, Duty, Problem, shift_list, below, same_duty, count_of, lists_of, is_list_of, is_legal_duty, is_before, rota_of}
use Rattle.break_rules.proofs.Once.{once_legal, count_by_and, cond_same}
use Rattle.break_rules.proofs.Ordered.{Sorted-map, Sorted-flat_map, Sorted-range, IsLess, Sorted-legal_lists}
use Rattle.shift_instance.specs.AllDuties.{all_duties, row_of}
use Rattle.shift_instance.proofs.Alike.{same_duty_decides}
use Rattle.shift_instance.proofs.Rotas.{legal_duty_parts, from_lists_of}

-- ---- every legal duty stands once

once_of : (o : Option (Shift × Rule)) (list : List Break) → option_map_or (λ x. is_legal x.1 x.0.len list) o false ≡ true → count_by (same_list list) (option_map_or (λ x. legal_lists x.1 x.0.len) o []) ≡ 1
once_of None list h = absurd (false≢true h)
once_of (Some x) list h = once_legal x.1 x.0.len list h

pub Has-all_duties : (i : Problem) (d : Duty) → is_legal_duty i d ≡ true → Has (all_duties i) d
Has-all_duties i d h =
    let l = legal_duty_parts i d h in
    Has-flat_map _ (below (length (shift_list i))) d.shift d (Has-below (length (shift_list i)) d.shift l.shift)
    (Has-flat_map (λ day. map (λ list. record { shift = d.shift; day = day; breaks = list }) (lists_of i d.shift)) (below i.days) d.day d (Has-below i.days d.day l.day)
    (Has-map (λ list. record { shift = d.shift; day = d.day; breaks = list }) (lists_of i d.shift) d.breaks l.listed))

pub from_all_duties : (i : Problem) (d : Duty) → Has (all_duties i) d → is_legal_duty i d ≡ true
from_all_duties i d h =
    let a = from_flat_map (λ s. flat_map (λ day. map (λ list. record { shift = s; day = day; breaks = list }) (lists_of i s)) (below i.days)) (below (length (shift_list i))) d h in
    let b = from_flat_map (λ day. map (λ list. record { shift = a.0; day = day; breaks = list }) (lists_of i a.0)) (below i.days) d a.2 in
    let c = from_map {X = List Break} {Y = Duty} (λ list. record { shift = a.0; day = b.0; breaks = list }) (lists_of i a.0) d b.2 in
    subst (λ x. is_legal_duty i x ≡ true) c.2
    (and_from (nat_lt b.0 i.days) (is_list_of i a.0 c.0) (lt-ltb b.0 i.days (from_below i.days b.0 b.1)) (from_lists_of i a.0 c.0 c.1))

pub once_in_duties : (i : Problem) (d : Duty) → is_legal_duty i d ≡ true → count_of (all_duties i) d ≡ 1
once_in_duties i d h =
    let l = legal_duty_parts i d h in
    let N = below (length (shift_list i)) in
    let with : ℕ → ℕ → List Duty = λ s day. map (λ list. record { shift = s; day = day; breaks = list }) (lists_of i s) in
    let of_shift : ℕ → List Duty = λ s. flat_map (with s) (below i.days) in
    let lists : count_by (same_list d.breaks) (lists_of i d.shift) ≡ 1 = once_of (slice_get (shift_list i) d.shift) d.breaks l.breaks in
    count_by-flat_map (same_duty d) of_shift N
    ∙ sum_by_same (λ s. count_by (same_duty d) (of_shift s)) (λ s. cond (d.shift == s) 1 0) N (λ s m.
    count_by-flat_map (same_duty d) (with s) (below i.days)
    ∙ sum_by_same (λ day. count_by (same_duty d) (with s day)) (λ day. cond ((d.shift == s) && (d.day == day)) 1 0) (below i.days) (λ day n.
    count_by-map (same_duty d) (λ list. record { shift = s; day = day; breaks = list }) (lists_of i s)
    ∙ count_by_and ((d.shift == s) && (d.day == day)) (same_list d.breaks) (lists_of i s)
    ∙ cond_same ((d.shift == s) && (d.day == day)) (count_by (same_list d.breaks) (lists_of i s)) 1 (λ e.
    subst (λ k. count_by (same_list d.breaks) (lists_of i k) ≡ 1) (eqb-true d.shift s (and_parts (d.shift == s) (d.day == day) e).0) lists))
    ∙ count_by_and (d.shift == s) (λ day. d.day == day) (below i.days)
    ∙ cond_same (d.shift == s) (count_by (λ day. d.day == day) (below i.days)) 1 (λ e. count_by-below d.day i.days l.day))
    ∙ count_by-below d.shift (length (shift_list i)) l.shift

-- a rota of legal duties has no other ones
pub no_count : (i : Problem) (rota : List Duty) (d : Duty) → ((x : Duty) → Has rota x → is_legal_duty i x ≡ true) → is_legal_duty i d ≡ false → count_of rota d ≡ 0
no_count i rota d legal h =
    count_by_none (same_duty d) rota (λ x m.
    elim (cases_Bool (same_duty d x)) [
      | inl t ↦ absurd (false≢true (sym h ∙ ap (is_legal_duty i) ((same_duty_decides d x).0 t) ∙ legal x m))
      | inr f ↦ f
    ])

-- ---- the order of duties

-- a duty comes before another, in the order of rows
abbrev pub IsBefore : Duty → Duty → Type 0
IsBefore a b = (m n : ℕ) → is_before (row_of a m) (row_of b n) ≡ true

pub Sorted-lists_of : (o : Option (Shift × Rule)) → Sorted IsLess (option_map_or (λ x. legal_lists x.1 x.0.len) o [])
Sorted-lists_of None = tt
Sorted-lists_of (Some x) = Sorted-legal_lists x.1 x.0.len

pub Sorted-all_duties : (i : Problem) → Sorted IsBefore (all_duties i)
Sorted-all_duties i =
    let with : ℕ → ℕ → List Duty = λ s day. map (λ list. record { shift = s; day = day; breaks = list }) (lists_of i s) in
    Sorted-flat_map (λ x y. x < y) IsBefore (λ s. flat_map (with s) (below i.days)) (below (length (shift_list i)))
    (λ s m. Sorted-flat_map (λ x y. x < y) IsBefore (with s) (below i.days)
    (λ day k. Sorted-map IsLess IsBefore (λ list. record { shift = s; day = day; breaks = list }) (lists_of i s)
    (λ x y l m n. or_right (nat_lt s s) ((s == s) && (nat_lt day day || ((day == day) && is_less_list x y)))
    (and_from (s == s) _ (eq-eqb s s refl) (or_right (nat_lt day day) ((day == day) && is_less_list x y) (and_from (day == day) (is_less_list x y) (eq-eqb day day refl) l))))
    (Sorted-lists_of (slice_get (shift_list i) s)))
    (λ x y l a b p q m n.
    let r = from_map {X = List Break} {Y = Duty} (λ list. record { shift = s; day = x; breaks = list }) (lists_of i s) a p in
    let t = from_map {X = List Break} {Y = Duty} (λ list. record { shift = s; day = y; breaks = list }) (lists_of i s) b q in
    subst (λ z. is_before (row_of z m) (row_of b n) ≡ true) r.2 (subst (λ z. is_before (row_of (record { shift = s; day = x; breaks = r.0 }) m) (row_of z n) ≡ true) t.2
    (or_right (nat_lt s s) ((s == s) && (nat_lt x y || ((x == y) && is_less_list r.0 t.0))) (and_from (s == s) _ (eq-eqb s s refl) (or_left (nat_lt x y) ((x == y) && is_less_list r.0 t.0) (lt-ltb x y l))))))
    (Sorted-range 0 i.days))
    (λ x y l a b p q m n.
    let r = from_flat_map (with x) (below i.days) a p in
    let t = from_flat_map (with y) (below i.days) b q in
    let u = from_map {X = List Break} {Y = Duty} (λ list. record { shift = x; day = r.0; breaks = list }) (lists_of i x) a r.2 in
    let v = from_map {X = List Break} {Y = Duty} (λ list. record { shift = y; day = t.0; breaks = list }) (lists_of i y) b t.2 in
    subst (λ z. is_before (row_of z m) (row_of b n) ≡ true) u.2 (subst (λ z. is_before (row_of (record { shift = x; day = r.0; breaks = u.0 }) m) (row_of z n) ≡ true) v.2
    (or_left (nat_lt x y) ((x == y) && (nat_lt r.0 t.0 || ((r.0 == t.0) && is_less_list u.0 v.0))) (lt-ltb x y l))))
    (Sorted-range 0 (length (shift_list i)))

-- elements that are in order are each in order with the next
pub adjacent : {X : Type 0} (R : X → X → Bool) (xs : List X) → Sorted (λ x y. R x y ≡ true) xs → list_all (λ p. R p.0 p.1) (zip xs (drop 1 xs)) ≡ true
adjacent R [] s = refl
adjacent R (x ∷ []) s = refl
adjacent R (x ∷ y ∷ xs) s = and_from (R x y) (list_all (λ p. R p.0 p.1) (zip (y ∷ xs) xs)) (s.0 y (inl refl)) (adjacent R (y ∷ xs) s.1)

-- rows with numbers of duties stand for so many of them
pub rows_of_counts : (f : Duty → ℕ) (ds : List Duty) → rota_of (map (λ d. row_of d (f d)) (filter (λ d. nat_lt 0 (f d)) ds)) ≡ flat_map (λ d. replicate (f d) d) ds
rows_of_counts f [] = refl
rows_of_counts f (d ∷ ds) =
    cond_both (nat_lt 0 (f d)) (d ∷ filter (λ d. nat_lt 0 (f d)) ds) (filter (λ d. nat_lt 0 (f d)) ds) (λ es. rota_of (map (λ d. row_of d (f d)) es) ≡ flat_map (λ d. replicate (f d) d) (d ∷ ds))
    (λ e. ap (λ zs. replicate (f d) d ++ zs) (rows_of_counts f ds))
    (λ e. rows_of_counts f ds ∙ ap (λ n. replicate n d ++ flat_map (λ d. replicate (f d) d) ds) (let z : zero ≡ f d = omega (arith, ltb-false 0 (f d) e) in z))
