-- The rounds of the greedy plan: each adds legal duties, and in the end no shift is left to take.
use Rattle.greedy.proofs.Common.{◌≡◌, ◌⊎◌, inl, inr, ℕ, zero, suc, ◌+◌, ◌*◌, ◌<◌, ◌≤◌, ℤ, pos, ◌-ℤ◌, ◌≤ℤ◌, ◌<ℤ◌, Bool, true, false, cond, ◌&&◌, ◌==◌, not, List, [], ◌∷◌, ◌++◌, filter, length, refl, sym, ap, ◌∙◌, subst, arith, nat_lt, nat_le, Option, Some, None, length-append, int_lt, is_some, unwrap_or, option_map_or, list_all, list_any, find, count_by, ints, and_parts, and_from, ltb-true, lt-ltb, le-leb, false≢true, cases_Bool, cases_eq, ne_eqb, sum_by-cons, Break, int_sum_by, Has, Has-map, from_map, from_filter, Has-filter, from_below, Has-append_cases, all_at, all_from, any_some, any_none, count_by-append, count_by-map, count_by_same, count_by_none, count_by-below, count_by_and, int_sum_by-same, int_sum_by_zero, Duty, Problem, shift_list, below, lists_of, is_list_of, is_legal_duty, is_on, heads_on, is_legal_rota, is_used, earned, from_lists_of, heads_within, best_duty, earned_with, is_greatest, marginal_prices, day_value, best_list, used_list, value_on, counts, gain, next_shift, new_duties, greedy_after, greedy_rota, legal_length}

pub lt_true : (a b : ℤ) → int_lt a b ≡ true → a <ℤ b
lt_true a b h = grind (arith, ints)

pub lt_false : (a b : ℤ) → int_lt a b ≡ false → b ≤ℤ a
lt_false a b h = grind (arith, ints)

-- what is found passes, and is there
pub find_some : {X : Type 0} (p : X → Bool) (xs : List X) (x : X) → find p xs ≡ Some x → Has xs x × (p x ≡ true)
find_some p [] x e = absurd (cc)
find_some p (y ∷ ys) x e =
    elim (cases_Bool (p y)) [
      | inl t ↦ let same : y ≡ x = (let f : Some y ≡ Some x = sym (ap (λ b. cond b (Some y) (find p ys)) t) ∙ e in cc) in (inl same, ap p (sym same) ∙ t)
      | inr f ↦ let r = find_some p ys x (sym (ap (λ b. cond b (Some y) (find p ys)) f) ∙ e) in (inr r.0, r.1)
    ]

-- where some element passes one is found
pub find_has : {X : Type 0} (p : X → Bool) (xs : List X) (x : X) → Has xs x → p x ≡ true → (y : X) × (find p xs ≡ Some y)
find_has p [] x m h = absurd m
find_has p (y ∷ ys) x m h =
    elim (cases_Bool (p y)) [
      | inl t ↦ (y, ap (λ b. cond b (Some y) (find p ys)) t)
      | inr f ↦ elim m [
        | inl e ↦ absurd (false≢true (sym f ∙ ap p e ∙ h))
        | inr r ↦ let z = find_has p ys x r h in (z.0, ap (λ b. cond b (Some y) (find p ys)) f ∙ z.1)
      ]
    ]

-- a shift of a value above 0 has a legal list, and its duties have the best one
valued : (o : Option (List Break)) (f : List Break → ℤ) → int_lt (pos 0) (option_map_or f o (pos 0)) ≡ true → (list : List Break) × (o ≡ Some list)
valued None f h = absurd (false≢true h)
valued (Some list) f h = (list, refl)

pub best_some : (i : Problem) (prices : List ℤ) (s day : ℕ) → int_lt (pos 0) (day_value i prices s day) ≡ true → (list : List Break) × (best_list i prices s day ≡ Some list)
unfolding day_value
best_some i prices s day h = valued (best_list i prices s day) (earned_with i prices s day) h

pub used_is : (i : Problem) (prices : List ℤ) (s day : ℕ) (list : List Break) → best_list i prices s day ≡ Some list → used_list i prices s day ≡ list
unfolding used_list
used_is i prices s day list e = ap (λ o. unwrap_or o []) e

pub listed : (i : Problem) (prices : List ℤ) (s day : ℕ) (list : List Break) → best_list i prices s day ≡ Some list → Has (lists_of i s) list
unfolding best_list
listed i prices s day list e = (find_some (is_greatest i prices s day) (lists_of i s) list e).0

pub best_listed : (i : Problem) (prices : List ℤ) (s day : ℕ) → int_lt (pos 0) (day_value i prices s day) ≡ true → Has (lists_of i s) (used_list i prices s day)
best_listed i prices s day h =
    let b = best_some i prices s day h in
    subst (λ (list : List Break). Has (lists_of i s) list) (sym (used_is i prices s day b.0 b.1)) (listed i prices s day b.0 b.1)

pub best_earns : (i : Problem) (prices : List ℤ) (s day : ℕ) → int_lt (pos 0) (day_value i prices s day) ≡ true → earned i prices (best_duty i prices s day) ≡ day_value i prices s day
unfolding day_value
best_earns i prices s day h =
    let b = best_some i prices s day h in
    ap (earned_with i prices s day) (used_is i prices s day b.0 b.1) ∙ sym (ap (λ o. option_map_or (earned_with i prices s day) o (pos 0)) b.1)

-- a day that counts has room, and a value above 0
pub counts_parts : (i : Problem) (rota : List Duty) (s day : ℕ) → counts i rota s day ≡ true → (heads_on rota s day < i.heads) × (int_lt (pos 0) (value_on i rota s day) ≡ true)
unfolding counts
counts_parts i rota s day h =
    let p = and_parts (nat_lt (heads_on rota s day) i.heads) (int_lt (pos 0) (value_on i rota s day)) h in
    (ltb-true _ _ p.0, p.1)

-- a new duty is of a day that counts
pub from_new_duties : (i : Problem) (rota : List Duty) (s : ℕ) (d : Duty) → Has (new_duties i rota s) d → (day : ℕ) × (day < i.days) × (counts i rota s day ≡ true) × (best_duty i (marginal_prices i rota) s day ≡ d)
unfolding new_duties
from_new_duties i rota s d h =
    let a = from_map {X = ℕ} {Y = Duty} (best_duty i (marginal_prices i rota) s) (filter (counts i rota s) (below i.days)) d h in
    let b = from_filter (counts i rota s) (below i.days) a.0 a.1 in
    (a.0, from_below i.days a.0 b.0, b.1, a.2)

pub new_duty_legal : (i : Problem) (rota : List Duty) (s : ℕ) (d : Duty) → Has (new_duties i rota s) d → is_legal_duty i d ≡ true
new_duty_legal i rota s d h =
    let a = from_new_duties i rota s d h in
    let listed = best_listed i (marginal_prices i rota) s a.0 (counts_parts i rota s a.0 a.2).1 in
    subst (λ (x : Duty). is_legal_duty i x ≡ true) a.3
    (and_from (nat_lt a.0 i.days) (is_list_of i s (used_list i (marginal_prices i rota) s a.0)) (lt-ltb a.0 i.days a.1) (from_lists_of i s _ listed))

-- of the elements that a filter keeps
pub count_by-filter_and : {X : Type 0} (p q : X → Bool) (xs : List X) → count_by p (filter q xs) ≡ count_by (λ x. q x && p x) xs
count_by-filter_and p q [] = refl
count_by-filter_and {X} p q (x ∷ xs) =
    let both : X → Bool = λ x. q x && p x in
    let rest : count_by p (filter q xs) ≡ count_by both xs = count_by-filter_and p q xs in
    elim (cases_Bool (q x)) [
      | inl t ↦ ap (λ b. count_by p (cond b (x ∷ filter q xs) (filter q xs))) t
          ∙ sum_by-cons (λ y. cond (p y) 1 0) x (filter q xs) ∙ ap (λ n. cond (p x) 1 0 + n) rest
          ∙ ap (λ b. cond (b && p x) 1 0 + count_by both xs) (sym t) ∙ sym (sum_by-cons (λ y. cond (both y) 1 0) x xs)
      | inr f ↦ ap (λ b. count_by p (cond b (x ∷ filter q xs) (filter q xs))) f
          ∙ rest ∙ (let z : count_by both xs ≡ 0 + count_by both xs = omega arith in z) ∙ ap (λ b. cond (b && p x) 1 0 + count_by both xs) (sym f) ∙ sym (sum_by-cons (λ y. cond (both y) 1 0) x xs)
    ]

-- how many new duties pass a test: as many as there are days that count and pass it
pub count_new : (i : Problem) (rota : List Duty) (s : ℕ) (p : Duty → Bool) → count_by p (new_duties i rota s) ≡ count_by (λ day. counts i rota s day && p (best_duty i (marginal_prices i rota) s day)) (below i.days)
unfolding new_duties
count_new i rota s p =
    count_by-map p (best_duty i (marginal_prices i rota) s) (filter (counts i rota s) (below i.days))
    ∙ count_by-filter_and (λ day. p (best_duty i (marginal_prices i rota) s day)) (counts i rota s) (below i.days)

-- of one number below n that passes
pub count_one : (q : ℕ → Bool) (x n : ℕ) → count_by (λ k. q k && (k == x)) (below n) ≡ cond (nat_lt x n && q x) 1 0
count_one q x n =
    count_by_same (λ k. q k && (k == x)) (λ k. q x && (x == k)) (below n) (λ k m.
    elim (cases_eq k x) [
      | inl e ↦ ap (λ j. q j && (j == x)) e ∙ ap (λ j. q x && (x == j)) (sym e)
      | inr ne ↦ ap (λ b. q k && b) (ne_eqb k x ne) ∙ and_no (q k) ∙ sym (ap (λ b. q x && b) (ne_eqb x k (λ e. ne (sym e))) ∙ and_no (q x))
    ])
    ∙ count_by_and (q x) (λ k. x == k) (below n)
    ∙ elim (cases_Bool (nat_lt x n)) [
      | inl t ↦ ap (λ c. cond (q x) c 0) (count_by-below x n (ltb-true x n t)) ∙ ap (λ b. cond (b && q x) 1 0) (sym t)
      | inr f ↦ ap (λ c. cond (q x) c 0) (count_by_none (λ k. x == k) (below n) (λ k m. ne_eqb x k (λ e. false≢true (sym f ∙ lt-ltb x n (let l : k < n = from_below n k m in omega arith)))))
          ∙ cond_zero (q x) ∙ ap (λ b. cond (b && q x) 1 0) (sym f)
    ]
  where
    and_no : (b : Bool) → (b && false) ≡ false
    and_no true = refl
    and_no false = refl

    cond_zero : (b : Bool) → ◌≡◌ {A = ℕ} (cond b 0 0) 0
    cond_zero true = refl
    cond_zero false = refl

-- a shift has one new duty on each day that counts, and no other shift has any
pub new_heads : (i : Problem) (rota : List Duty) (s k day : ℕ) → heads_on (new_duties i rota s) k day ≡ cond (s == k) (cond (nat_lt day i.days && counts i rota s day) 1 0) 0
new_heads i rota s k day =
    count_new i rota s (is_on k day)
    ∙ count_by_same (λ x. counts i rota s x && ((s == k) && (x == day))) (λ x. (s == k) && (counts i rota s x && (x == day))) (below i.days) (λ x m. moved (counts i rota s x) (s == k) (x == day))
    ∙ count_by_and (s == k) (λ x. counts i rota s x && (x == day)) (below i.days)
    ∙ ap (λ c. cond (s == k) c 0) (count_one (counts i rota s) day i.days)
  where
    moved : (a b c : Bool) → (a && (b && c)) ≡ (b && (a && c))
    moved true b c = refl
    moved false true c = refl
    moved false false c = refl

-- a legal plan stays legal
pub round_legal : (i : Problem) (rota : List Duty) (s : ℕ) → is_legal_rota i rota ≡ true → is_legal_rota i (rota ++ new_duties i rota s) ≡ true
round_legal i rota s legal =
    let p = and_parts (list_all (is_legal_duty i) rota) (list_all (λ d. nat_le (heads_on rota d.shift d.day) i.heads) rota) legal in
    let next = rota ++ new_duties i rota s in
    and_from (list_all (is_legal_duty i) next) (list_all (λ d. nat_le (heads_on next d.shift d.day) i.heads) next)
    (all_from (is_legal_duty i) next (λ d m. elim (Has-append_cases rota (new_duties i rota s) d m) [
      | inl old ↦ all_at (is_legal_duty i) rota d p.0 old
      | inr new ↦ new_duty_legal i rota s d new
    ]))
    (all_from (λ d. nat_le (heads_on next d.shift d.day) i.heads) next (λ d m. le-leb _ _ (within d.shift d.day)))
  where
    room : (e c : Bool) (h n : ℕ) → h ≤ n → (c ≡ true → h < n) → h + cond e (cond c 1 0) 0 ≤ n
    room true true h n l g = let l : h < n = g refl in omega arith
    room true false h n l g = omega arith
    room false c h n l g = omega arith

    within : (k day : ℕ) → heads_on (rota ++ new_duties i rota s) k day ≤ i.heads
    within k day =
        let e : heads_on (rota ++ new_duties i rota s) k day ≡ heads_on rota k day + heads_on (new_duties i rota s) k day = count_by-append (is_on k day) rota (new_duties i rota s) in
        let n : heads_on (new_duties i rota s) k day ≡ cond (s == k) (cond (nat_lt day i.days && counts i rota s day) 1 0) 0 = new_heads i rota s k day in
        let old : heads_on rota k day ≤ i.heads = heads_within i rota legal k day in
        let r : heads_on rota k day + cond (s == k) (cond (nat_lt day i.days && counts i rota s day) 1 0) 0 ≤ i.heads =
        elim (cases_eq s k) [
          | inl e ↦ room (s == k) (nat_lt day i.days && counts i rota s day) (heads_on rota k day) i.heads old (λ c.
              subst (λ (j : ℕ). heads_on rota j day < i.heads) e (counts_parts i rota s day (and_parts (nat_lt day i.days) (counts i rota s day) c).1).0)
          | inr ne ↦ subst (λ b. heads_on rota k day + cond b (cond (nat_lt day i.days && counts i rota s day) 1 0) 0 ≤ i.heads) (sym (ne_eqb s k ne)) (omega arith)
        ] in
        omega arith

-- a shift that is taken gains, so some day counts
pub gains_some : (c : ℕ → Bool) (v : ℕ → ℤ) (w : Bool) (g n : ℕ) → int_lt (pos 0) (int_sum_by (λ day. cond (c day) (v day) (pos 0)) (below n) -ℤ cond w (pos 0) (pos g)) ≡ true → list_any c (below n) ≡ true
gains_some c v w g n h =
    elim (cases_Bool (list_any c (below n))) [
      | inl t ↦ t
      | inr f ↦
          let none : int_sum_by (λ day. cond (c day) (v day) (pos 0)) (below n) ≡ pos 0 =
          int_sum_by-same (λ day. cond (c day) (v day) (pos 0)) (λ day. pos 0) (below n) (λ day m. ap (λ b. cond b (v day) (pos 0)) (any_none c (below n) day f m)) ∙ int_sum_by_zero (below n) in
          let l : pos 0 <ℤ (int_sum_by (λ day. cond (c day) (v day) (pos 0)) (below n) -ℤ cond w (pos 0) (pos g)) = lt_true _ _ h in
          absurd (weight w g (subst (λ z. pos 0 <ℤ (z -ℤ cond w (pos 0) (pos g))) none l))
    ]
  where
    weight : (w : Bool) (g : ℕ) → pos 0 <ℤ (pos 0 -ℤ cond w (pos 0) (pos g)) → ⊥
    weight true g h = omega (arith, ints)
    weight false g h = omega (arith, ints)

pub next_gains : (i : Problem) (rota : List Duty) (s : ℕ) → next_shift i rota ≡ Some s → (s < length (shift_list i)) × (int_lt (pos 0) (gain i rota s) ≡ true)
unfolding next_shift
next_gains i rota s e =
    let f = gain i rota in
    let n = length (shift_list i) in
    let r = find_some (λ s. int_lt (pos 0) (f s) && not (list_any (λ k. int_lt (f s) (f k)) (below n))) (below n) s e in
    (from_below n s r.0, (and_parts (int_lt (pos 0) (f s)) (not (list_any (λ k. int_lt (f s) (f k)) (below n))) r.1).0)

has_length : {X : Type 0} (xs : List X) (x : X) → Has xs x → 1 ≤ length xs
has_length [] x h = absurd h
has_length (y ∷ ys) x h = omega arith

pub round_grows : (i : Problem) (rota : List Duty) (s : ℕ) → next_shift i rota ≡ Some s → 1 ≤ length (new_duties i rota s)
unfolding gain new_duties
round_grows i rota s e =
    let g = next_gains i rota s e in
    let some = gains_some (counts i rota s) (λ day. value_on i rota s day) (is_used rota s) i.shift i.days g.1 in
    let day = any_some (counts i rota s) (below i.days) some in
    has_length _ _ (Has-map (best_duty i (marginal_prices i rota) s) (filter (counts i rota s) (below i.days)) day.0 (Has-filter (counts i rota s) (below i.days) day.0 day.1 day.2))

-- what a round makes of the plan
pub round_some : (i : Problem) (n : ℕ) (rota : List Duty) (s : ℕ) → next_shift i rota ≡ Some s → greedy_after i (suc n) rota ≡ greedy_after i n (rota ++ new_duties i rota s)
unfolding greedy_after
round_some i n rota s e = ap (λ o. option_map_or (λ s. greedy_after i n (rota ++ new_duties i rota s)) o rota) e

pub round_none : (i : Problem) (n : ℕ) (rota : List Duty) → next_shift i rota ≡ None → greedy_after i n rota ≡ rota
unfolding greedy_after
round_none i zero rota e = refl
round_none i (suc n) rota e = ap (λ o. option_map_or (λ s. greedy_after i n (rota ++ new_duties i rota s)) o rota) e

pub next_cases : (i : Problem) (rota : List Duty) → (next_shift i rota ≡ None) ⊎ ((s : ℕ) × (next_shift i rota ≡ Some s))
next_cases i rota = elim (next_shift i rota) as (λ o. (o ≡ None) ⊎ ((s : ℕ) × (o ≡ Some s))) [ None ↦ inl refl | Some s ↦ inr (s, refl) ]

pub rounds_none : (i : Problem) (rota : List Duty) → greedy_after i 0 rota ≡ rota
unfolding greedy_after
rounds_none i rota = refl

pub greedy_after_legal : (i : Problem) (n : ℕ) (rota : List Duty) → is_legal_rota i rota ≡ true → is_legal_rota i (greedy_after i n rota) ≡ true
unfolding greedy_after
greedy_after_legal i zero rota legal = legal
greedy_after_legal i (suc n) rota legal =
    elim (next_cases i rota) [
      | inl none ↦ subst (λ (zs : List Duty). is_legal_rota i zs ≡ true) (sym (round_none i (suc n) rota none)) legal
      | inr some ↦ subst (λ (zs : List Duty). is_legal_rota i zs ≡ true) (sym (round_some i n rota some.0 some.1)) (greedy_after_legal i n (rota ++ new_duties i rota some.0) (round_legal i rota some.0 legal))
    ]

-- after enough rounds no shift is left to take
ends : (i : Problem) (n : ℕ) (rota : List Duty) → is_legal_rota i rota ≡ true → length (shift_list i) * i.days * i.heads ≤ length rota + n → next_shift i (greedy_after i n rota) ≡ None
unfolding greedy_after
ends i zero rota legal few =
    elim (next_cases i rota) [
      | inl none ↦ none
      | inr some ↦
          let most : length (rota ++ new_duties i rota some.0) ≤ length (shift_list i) * i.days * i.heads = legal_length i (rota ++ new_duties i rota some.0) (round_legal i rota some.0 legal) in
          let more : 1 ≤ length (new_duties i rota some.0) = round_grows i rota some.0 some.1 in
          absurd (omega (arith, length-append rota (new_duties i rota some.0)))
    ]
ends i (suc n) rota legal few =
    elim (next_cases i rota) [
      | inl none ↦ ap (next_shift i) (round_none i (suc n) rota none) ∙ none
      | inr some ↦
          let more : 1 ≤ length (new_duties i rota some.0) = round_grows i rota some.0 some.1 in
          ap (next_shift i) (round_some i n rota some.0 some.1)
          ∙ ends i n (rota ++ new_duties i rota some.0) (round_legal i rota some.0 legal) (omega (arith, length-append rota (new_duties i rota some.0)))
    ]

pub greedy_ready : (i : Problem) → next_shift i (greedy_rota i) ≡ None
unfolding greedy_rota
greedy_ready i = ends i (length (shift_list i) * i.days * i.heads) [] refl (omega arith)

-- what one round more makes of the plan after some rounds
pub rounds_more : (i : Problem) (n : ℕ) (rota : List Duty) (s : ℕ) → next_shift i (greedy_after i n rota) ≡ Some s → greedy_after i (suc n) rota ≡ greedy_after i n rota ++ new_duties i (greedy_after i n rota) s
rounds_more i zero rota s e =
    let none : greedy_after i zero rota ≡ rota = rounds_none i rota in
    let here : next_shift i rota ≡ Some s = sym (ap (next_shift i) none) ∙ e in
    round_some i zero rota s here ∙ rounds_none i (rota ++ new_duties i rota s) ∙ sym (ap (λ (ds : List Duty). ds ++ new_duties i ds s) none)
rounds_more i (suc n) rota s e =
    elim (next_cases i rota) [
      | inl none ↦ absurd (false≢true (ap is_some (sym none ∙ sym (ap (next_shift i) (round_none i (suc n) rota none)) ∙ e)))
      | inr some ↦
          let one : greedy_after i (suc n) rota ≡ greedy_after i n (rota ++ new_duties i rota some.0) = round_some i n rota some.0 some.1 in
          round_some i (suc n) rota some.0 some.1
          ∙ rounds_more i n (rota ++ new_duties i rota some.0) s (sym (ap (next_shift i) one) ∙ e)
          ∙ sym (ap (λ (ds : List Duty). ds ++ new_duties i ds s) one)
    ]
