-- A node that isn't settled has a class to split, and both parts have a smaller span.
use Rattle.head_splits.proofs.Common.{◌≡◌, inl, inr, ℕ, ◌+◌, ◌-◌, ◌<◌, ◌≤◌, Bool, true, false, cond, ◌&&◌, ◌||◌, ◌==◌, not, List, [], ◌∷◌, ◌++◌, map, length, take, drop, refl, sym, ap, ◌∙◌, subst, arith, nat_lt, Option, Some, None, slice_get, sum_by, IsSomeAnd, option_map_or, list_all, list_any, find, flat_map, and_parts, and_from, and_cases, or_parts, leb-false, ltb-true, lt-ltb, false≢true, cond_both, not_from_false, not-true, or_left, or_right, sum_by-cons, fold_push, sum_by-le-sum_by, take-append-drop, take_all, Break, Rule, is_legal, is_live, live_lists, same_list, break_lists, end_of, Has, Has-map, from_map, Has-flat_map, Has-filter, any_at, Has-below, StandInOrder, legal_in_order, live_from, live_rest, Has-all_lists, same_list_decides, short, Shift, Problem, shift_list, below, live_lists_of, is_shift_and, legal_duty_parts, slice_get_below, Class, Side, AtMost, AtLeast, Cut, same_class, raised, lowered, least_high, low, high, prefixes, class_of, is_closed, is_fixed, is_settled, split_class, is_live_class, live_classes, span, all_duties, from_all_duties}
use Rattle.std.proofs.lemmas.Bool.{eq-eqb}

-- ---- the class to split

find_some : {X : Type 0} (p : X → Bool) (xs : List X) → list_any p xs ≡ true → (x : X) × (find p xs ≡ Some x) × Has xs x × (p x ≡ true)
find_some p [] h = absurd (false≢true h)
find_some {X} p (x ∷ xs) h =
    elim (p x) as (λ b. p x ≡ b → (b || list_any p xs) ≡ true → (y : X) × (cond b (Some x) (find p xs) ≡ Some y) × Has (x ∷ xs) y × (p y ≡ true)) [
      | true ↦ λ e g. (x, refl, inl refl, e)
      | false ↦ λ e g. let r = find_some p xs g in (r.0, r.1, inr r.2, r.3)
    ] refl h

some_fails : {X : Type 0} (p : X → Bool) (xs : List X) → list_all p xs ≡ false → list_any (λ x. not (p x)) xs ≡ true
some_fails p [] h = absurd (false≢true (sym h))
some_fails p (x ∷ xs) h =
    elim (and_cases (p x) (list_all p xs) h) [
      | inl f ↦ or_left (not (p x)) (list_any (λ x. not (p x)) xs) (not_from_false (p x) f)
      | inr f ↦ or_right (not (p x)) (list_any (λ x. not (p x)) xs) (some_fails p xs f)
    ]

Has-prefixes : (list : List Break) → Has (prefixes list) list
Has-prefixes list = subst (Has (prefixes list)) (take_all (length list) list (omega arith)) (Has-map (λ n. take n list) (below (length list + 1)) (length list) (Has-below (length list + 1) (length list) (omega arith)))

live_of : (o : Option (Shift × Rule)) (list : List Break) (n : ℕ) → option_map_or (λ x. is_legal x.1 x.0.len list) o false ≡ true → option_map_or (λ x. is_live x.1 x.0.len (take n list)) o false ≡ true
live_of None list n h = absurd (false≢true h)
live_of (Some x) list n h = live_from x.1 x.0.len (take n list) (drop n list) (subst (λ l. is_legal x.1 x.0.len l ≡ true) (sym (take-append-drop n list)) h)

-- a node that isn't settled has a live class whose number is open
pub record Splits (i : Problem) (cuts : List Cut) : Type 0 where
  pub class : Class
  pub found : split_class i cuts ≡ Some class
  pub live : is_live_class i class ≡ true
  pub open_number : low cuts class < high i cuts class

pub unsettled_splits : (i : Problem) (cuts : List Cut) → is_settled i cuts ≡ false → Splits i cuts
unsettled_splits i cuts h =
    let d = find_some (λ d. not (is_closed i cuts d || is_fixed i cuts d)) (all_duties i) (some_fails (λ d. is_closed i cuts d || is_fixed i cuts d) (all_duties i) h) in
    let l = legal_duty_parts i d.0 (from_all_duties i d.0 d.2) in
    let p = or_parts (is_closed i cuts d.0) (is_fixed i cuts d.0) (not-true (is_closed i cuts d.0 || is_fixed i cuts d.0) d.3) in
    let whole : low cuts (class_of d.0.shift d.0.day d.0.breaks) < high i cuts (class_of d.0.shift d.0.day d.0.breaks) = leb-false _ _ p.1 in
    let test : Class → Bool = λ c. nat_lt (low cuts c) (high i cuts c) in
    let classes : List Class = map (class_of d.0.shift d.0.day) (prefixes d.0.breaks) in
    let c = find_some test classes (any_at test classes (class_of d.0.shift d.0.day d.0.breaks) (Has-map (class_of d.0.shift d.0.day) (prefixes d.0.breaks) d.0.breaks (Has-prefixes d.0.breaks)) (lt-ltb _ _ whole)) in
    let q = from_map (class_of d.0.shift d.0.day) (prefixes d.0.breaks) c.0 c.2 in
    let n = from_map (λ n. take n d.0.breaks) (below (length d.0.breaks + 1)) q.0 q.1 in
    let live : is_live_class i (class_of d.0.shift d.0.day (take n.0 d.0.breaks)) ≡ true =
    and_from _ _ (lt-ltb d.0.day i.days l.day) (live_of (slice_get (shift_list i) d.0.shift) d.0.breaks n.0 l.breaks) in
    record {
      class = c.0;
      found = ap (λ o. option_map_or (λ d. find test (map (class_of d.shift d.day) (prefixes d.breaks))) o None) d.1 ∙ c.1;
      live = subst (λ x. is_live_class i x ≡ true) q.2 (subst (λ l. is_live_class i (class_of d.0.shift d.0.day l) ≡ true) n.2 live);
      open_number = ltb-true _ _ c.3;
    }

-- ---- spans

sum_by-less : {X : Type 0} (f g : X → ℕ) (xs : List X) (x : X) → ((y : X) → f y ≤ g y) → Has xs x → f x < g x → sum_by f xs < sum_by g xs
sum_by-less f g [] x le h lt = absurd h
sum_by-less f g (y ∷ xs) x le h lt =
    let a : sum_by f (y ∷ xs) ≡ f y + sum_by f xs = sum_by-cons f y xs in
    let b : sum_by g (y ∷ xs) ≡ g y + sum_by g xs = sum_by-cons g y xs in
    let here : f y ≤ g y = le y in
    elim h [
      | inl e ↦
          let more : f y < g y = subst (λ z. f z < g z) (sym e) lt in
          let rest : sum_by f xs ≤ sum_by g xs = sum_by-le-sum_by f g xs le in
          omega arith
      | inr t ↦ let rest : sum_by f xs < sum_by g xs = sum_by-less f g xs x le t lt in omega arith
    ]

front_in_order : (from len : ℕ) (front rest : List Break) → StandInOrder from len (front ++ rest) → StandInOrder from len front
front_in_order from len [] rest h = let fits : from + length rest ≤ len = short from len rest h in omega arith
front_in_order from len (b ∷ bs) rest h = (h.0, h.1, front_in_order (end_of b) len bs rest h.2)

live_listed : (o : Option (Shift × Rule)) (list : List Break) → option_map_or (λ x. is_live x.1 x.0.len list) o false ≡ true → Has (option_map_or (λ x. live_lists x.1 x.0.len) o []) list
live_listed None list h = absurd (false≢true h)
live_listed (Some x) list h =
    let r = live_rest x.1 x.0.len list h in
    Has-filter (is_live x.1 x.0.len) (break_lists x.0.len 0 x.0.len) list (Has-all_lists x.0.len list (front_in_order 0 x.0.len list r.0 (legal_in_order x.1 x.0.len (list ++ r.0) r.1))) h

live_shift : (o : Option (Shift × Rule)) (list : List Break) → option_map_or (λ x. is_live x.1 x.0.len list) o false ≡ true → (x : Shift × Rule) × (o ≡ Some x)
live_shift None list h = absurd (false≢true h)
live_shift (Some x) list h = (x, refl)

pub Has-live_classes : (i : Problem) (c : Class) → is_live_class i c ≡ true → Has (live_classes i) c
Has-live_classes i c h =
    let p = and_parts (nat_lt c.day i.days) (is_shift_and i c.shift (λ x. is_live x.1 x.0.len c.prefix)) h in
    let s = live_shift (slice_get (shift_list i) c.shift) c.prefix p.1 in
    Has-flat_map (λ s. flat_map (λ day. map (class_of s day) (live_lists_of i s)) (below i.days)) (below (length (shift_list i))) c.shift c (Has-below (length (shift_list i)) c.shift (slice_get_below (shift_list i) c.shift s.0 s.1))
    (Has-flat_map (λ day. map (class_of c.shift day) (live_lists_of i c.shift)) (below i.days) c.day c (Has-below i.days c.day (ltb-true _ _ p.0))
    (Has-map (class_of c.shift c.day) (live_lists_of i c.shift) c.prefix (live_listed (slice_get (shift_list i) c.shift) c.prefix p.1)))

same_class_self : (c : Class) → same_class c c ≡ true
same_class_self c =
    and_from ((c.shift == c.shift) && (c.day == c.day)) (same_list c.prefix c.prefix)
    (and_from (c.shift == c.shift) (c.day == c.day) (eq-eqb c.shift c.shift refl) (eq-eqb c.day c.day refl))
    ((same_list_decides c.prefix c.prefix).1 refl)

low_more : (cuts : List Cut) (c : Cut) (x : Class) → low (cuts ++ c ∷ []) x ≡ cond (same_class c.class x) (raised c.side c.m (low cuts x)) (low cuts x)
low_more cuts c x = fold_push (λ n d. cond (same_class d.class x) (raised d.side d.m n) n) 0 cuts c

high_more : (i : Problem) (cuts : List Cut) (c : Cut) (x : Class) → high i (cuts ++ c ∷ []) x ≡ cond (same_class c.class x) (lowered c.side c.m (high i cuts x)) (high i cuts x)
high_more i cuts c x = fold_push (λ n d. cond (same_class d.class x) (lowered d.side d.m n) n) i.heads cuts c

-- a cut within a live class's range lowers the span
pub record Within (side : Side) (low high m : ℕ) : Type 0 where
  pub less : lowered side m high - raised side m low < high - low
  pub least : low ≤ raised side m low
  pub most : lowered side m high ≤ high

pub at_most_within : (low high m : ℕ) → low ≤ m → m < high → Within AtMost low high m
at_most_within low high m a b = record { less = omega arith; least = omega arith; most = omega arith }

pub at_least_within : (low high m : ℕ) → low ≤ m → m < high → Within AtLeast low high (m + 1)
at_least_within low high m a b = record { less = omega arith; least = omega arith; most = omega arith }

raised_least : (side : Side) (m n : ℕ) → n ≤ raised side m n
raised_least AtMost m n = omega arith
raised_least AtLeast m n = omega arith

lowered_most : (side : Side) (m n : ℕ) → lowered side m n ≤ n
lowered_most AtMost m n = omega arith
lowered_most AtLeast m n = omega arith

-- cuts leave no more than there was
pub high_most : (cuts : List Cut) (class : Class) (most : ℕ) → least_high most cuts class ≤ most
high_most [] class most = omega arith
high_most (c ∷ cuts) class most =
    let next : ℕ = cond (same_class c.class class) (lowered c.side c.m most) most in
    let rest : least_high next cuts class ≤ next = high_most cuts class next in
    let here : next ≤ most = cond_both (same_class c.class class) (lowered c.side c.m most) most (λ x. x ≤ most) (λ e. lowered_most c.side c.m most) (λ e. omega arith) in
    omega arith

pub span_less : (i : Problem) (cuts : List Cut) (class : Class) (side : Side) (m : ℕ) → is_live_class i class ≡ true → Within side (low cuts class) (high i cuts class) m
    → span i (cuts ++ record { class = class; side = side; m = m } ∷ []) < span i cuts
span_less i cuts class side m live w =
    let c : Cut = record { class = class; side = side; m = m } in
    sum_by-less (λ x. high i (cuts ++ c ∷ []) x - low (cuts ++ c ∷ []) x) (λ x. high i cuts x - low cuts x) (live_classes i) class
    (λ x.
    let a : low cuts x ≤ low (cuts ++ c ∷ []) x = subst (λ n. low cuts x ≤ n) (sym (low_more cuts c x)) (cond_both (same_class class x) (raised side m (low cuts x)) (low cuts x) (λ n. low cuts x ≤ n) (λ e. raised_least side m (low cuts x)) (λ e. omega arith)) in
    let b : high i (cuts ++ c ∷ []) x ≤ high i cuts x = subst (λ n. n ≤ high i cuts x) (sym (high_more i cuts c x)) (cond_both (same_class class x) (lowered side m (high i cuts x)) (high i cuts x) (λ n. n ≤ high i cuts x) (λ e. lowered_most side m (high i cuts x)) (λ e. omega arith)) in
    omega arith)
    (Has-live_classes i class live)
    (let a : low (cuts ++ c ∷ []) class ≡ raised side m (low cuts class) = low_more cuts c class ∙ ap (λ b. cond b (raised side m (low cuts class)) (low cuts class)) (same_class_self class) in
    let b : high i (cuts ++ c ∷ []) class ≡ lowered side m (high i cuts class) = high_more i cuts c class ∙ ap (λ b. cond b (lowered side m (high i cuts class)) (high i cuts class)) (same_class_self class) in
    omega (arith, w.less))

-- the laws as contracts say them
pub split_law : (i : Problem) (cuts : List Cut) → is_settled i cuts ≡ false → IsSomeAnd (split_class i cuts) (λ c. (is_live_class i c ≡ true) × (low cuts c < high i cuts c))
split_law i cuts h =
    let s = unsettled_splits i cuts h in
    subst (λ o. IsSomeAnd o (λ c. (is_live_class i c ≡ true) × (low cuts c < high i cuts c))) (sym s.found) (s.live, s.open_number)

pub span_left : (i : Problem) (cuts : List Cut) (class : Class) (m : ℕ) → is_live_class i class ≡ true → low cuts class ≤ m → m < high i cuts class → span i (cuts ++ record { class = class; side = AtMost; m = m } ∷ []) < span i cuts
span_left i cuts class m live a b = span_less i cuts class AtMost m live (at_most_within (low cuts class) (high i cuts class) m a b)

pub span_right : (i : Problem) (cuts : List Cut) (class : Class) (m : ℕ) → is_live_class i class ≡ true → low cuts class ≤ m → m < high i cuts class → span i (cuts ++ record { class = class; side = AtLeast; m = m + 1 } ∷ []) < span i cuts
span_right i cuts class m live a b = span_less i cuts class AtLeast (m + 1) live (at_least_within (low cuts class) (high i cuts class) m a b)
