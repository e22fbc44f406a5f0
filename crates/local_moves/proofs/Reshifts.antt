-- What it needs and gives that all duties of a shift go over to another one.
use Rattle.local_moves.proofs.Common.{◌≡◌, ◌⊎◌, inl, inr, ℕ, zero, suc, ◌+◌, ◌*◌, ◌<◌, ◌≤◌, Bool, true, false, cond, not, ◌&&◌, ◌||◌, ◌==◌, nat_lt, max, List, [], ◌∷◌, ◌++◌, map, filter, take, replicate, length, get_or, Some, None, refl, sym, ap, ◌∙◌, subst, arith, add-one, append-nil, eqb-true, eq-eqb, slice_get, unwrap_or, count_by, and_parts, and_from, cases_Bool, cases_lt, ne_eqb, ltb-true, lt-ltb, ltb-false, le-ltb, false≢true, sum_by-cons, Break, is_legal, first_cause, no_cause, count_by_none, count_by_same, count_by_at_most, count_by-map, any_by_count, any_from_count, Has, Has-below, from_filter, from_map, Duty, Row, Problem, shift_list, below, same_duty, count_of, is_on, heads_on, is_list_of, is_legal_duty, is_legal_rota, is_used, lists_of, duty_of, rota_of, heads_within, legal_duties, from_lists_of, some_at, Has_at, kind_of, duties_of, duty, Absent, HeadsOver, IsExchanged, of_shift, list_after, reshifted, AreSameDuties, is_known, greatest, most_heads, pair_causes, heads_causes}
use Rattle.std.specs.Option.{option_map_or}
use Rattle.std.proofs.lemmas.List.Elements.{filter-append}
use Rattle.break_rules.specs.declared.Rule.{Rule}
use Rattle.shift_instance.specs.declared.Shift.{Shift}
use Rattle.shift_instance.specs.Kind.{Kind}
use Rattle.shift_instance.proofs.Ranges.{below_next}
use Rattle.greedy.proofs.Rounds.{count_by-filter_and}
use Rattle.local_moves.proofs.CountedRows.{rota_more}

-- ---- the duties of a shift among rows
filter_replicate : (q : Duty → Bool) (n : ℕ) (d : Duty) → filter q (replicate n d) ≡ cond (q d) (replicate n d) []
filter_replicate q zero d = none (q d)
  where
    none : (b : Bool) → ◌≡◌ {A = List Duty} [] (cond b [] [])
    none true = refl
    none false = refl
filter_replicate q (suc n) d =
    elim (cases_Bool (q d)) [
      | inl t ↦
          ap (λ b. cond b (d ∷ filter q (replicate n d)) (filter q (replicate n d))) t
          ∙ ap (λ ds. d ∷ ds) (filter_replicate q n d ∙ ap (λ b. cond b (replicate n d) []) t)
          ∙ sym (ap (λ b. cond b (d ∷ replicate n d) []) t)
      | inr f ↦
          ap (λ b. cond b (d ∷ filter q (replicate n d)) (filter q (replicate n d))) f
          ∙ filter_replicate q n d ∙ ap (λ b. cond b (replicate n d) []) f
          ∙ sym (ap (λ b. cond b (d ∷ replicate n d) []) f)
    ]

pub own_more : (s : ℕ) (rows : List Row) (k : ℕ) (r : Row) → k < length rows → r ≡ get_or rows k r
    → filter (λ d. d.shift == s) (rota_of (take (k + 1) rows)) ≡ filter (λ d. d.shift == s) (rota_of (take k rows)) ++ cond (r.shift == s) (replicate r.count (duty_of r)) []
own_more s rows k r l e =
    let q : Duty → Bool = λ d. d.shift == s in
    ap (λ n. filter q (rota_of (take n rows))) (add-one k)
    ∙ ap (filter q) (rota_more rows k r l e)
    ∙ filter-append q (rota_of (take k rows)) (replicate r.count (duty_of r))
    ∙ ap (λ ds. filter q (rota_of (take k rows)) ++ ds) (filter_replicate q r.count (duty_of r))

pub own_next : (s : ℕ) (rows : List Row) (k : ℕ) (r : Row) (now next : List Duty) → now ≡ filter (λ d. d.shift == s) (rota_of (take k rows)) → k < length rows → r ≡ get_or rows k r
    → r.shift ≡ s → next ≡ now ++ replicate r.count (duty_of r) → next ≡ filter (λ d. d.shift == s) (rota_of (take (k + 1) rows))
own_next s rows k r now next h l e same f =
    f ∙ ap (λ ds. ds ++ replicate r.count (duty_of r)) h
    ∙ sym (own_more s rows k r l e ∙ ap (λ b. filter (λ d. d.shift == s) (rota_of (take k rows)) ++ cond b (replicate r.count (duty_of r)) []) (eq-eqb r.shift s same))

pub own_other : (s : ℕ) (rows : List Row) (k : ℕ) (r : Row) (now : List Duty) → now ≡ filter (λ d. d.shift == s) (rota_of (take k rows)) → k < length rows → r ≡ get_or rows k r
    → (r.shift ≡ s → ⊥) → now ≡ filter (λ d. d.shift == s) (rota_of (take (k + 1) rows))
own_other s rows k r now h l e other =
    h
    ∙ sym (own_more s rows k r l e ∙ ap (λ b. filter (λ d. d.shift == s) (rota_of (take k rows)) ++ cond b (replicate r.count (duty_of r)) []) (ne_eqb r.shift s other) ∙ append-nil (filter (λ d. d.shift == s) (rota_of (take k rows))))

pub own_at : (s : ℕ) (rota : List Duty) (k : ℕ) (d : Duty) → k < length (filter (λ d. d.shift == s) rota) → (get_or (filter (λ d. d.shift == s) rota) k d).shift ≡ s
own_at s [] k d = λ l. absurd (omega (arith, l))
own_at s (x ∷ xs) k d =
    elim (cases_Bool (x.shift == s)) [
      | inl t ↦ subst (λ (ds : List Duty). k < length ds → (get_or ds k d).shift ≡ s) (sym (ap (λ b. cond b (x ∷ filter (λ d. d.shift == s) xs) (filter (λ d. d.shift == s) xs)) t)) (first k t (λ j l. own_at s xs j d l))
      | inr f ↦ subst (λ (ds : List Duty). k < length ds → (get_or ds k d).shift ≡ s) (sym (ap (λ b. cond b (x ∷ filter (λ d. d.shift == s) xs) (filter (λ d. d.shift == s) xs)) f)) (own_at s xs k d)
    ]
  where
    first : (k : ℕ) → (x.shift == s) ≡ true → ((j : ℕ) → j < length (filter (λ d. d.shift == s) xs) → (get_or (filter (λ d. d.shift == s) xs) j d).shift ≡ s)
        → k < length (x ∷ filter (λ d. d.shift == s) xs) → (get_or (x ∷ filter (λ d. d.shift == s) xs) k d).shift ≡ s
    first zero t rest l = eqb-true x.shift s t
    first (suc k) t rest l = rest k (omega arith)

max_three : (a b c : ℕ) → max (max a b) c ≡ max a (max b c)
max_three a b c = omega arith

greatest_push : (f : ℕ → ℕ) (xs : List ℕ) (k : ℕ) → greatest f (xs ++ k ∷ []) ≡ max (greatest f xs) (f k)
greatest_push f [] k = omega arith
greatest_push f (x ∷ xs) k = ap (max (f x)) (greatest_push f xs k) ∙ sym (max_three (f x) (greatest f xs) (f k))

pub greatest_more : (f : ℕ → ℕ) (n most next : ℕ) → most ≡ greatest f (below n) → next ≡ max most (f n) → next ≡ greatest f (below (n + 1))
greatest_more f n most next h e = e ∙ ap (λ m. max m (f n)) h ∙ sym (ap (greatest f) (below_next n) ∙ greatest_push f (below n) n)

at_most_greatest : (f : ℕ → ℕ) (xs : List ℕ) (k : ℕ) → Has xs k → f k ≤ greatest f xs
at_most_greatest f [] k m = absurd m
at_most_greatest f (x ∷ xs) k (inl e) = let a : f k ≡ f x = ap f (sym e) in omega arith
at_most_greatest f (x ∷ xs) k (inr m) = let a : f k ≤ greatest f xs = at_most_greatest f xs k m in omega arith

-- ---- shifts that are used
pub used_by_count : (rota : List Duty) (s : ℕ) → (duties_of rota s ≡ 0 → ⊥) → is_used rota s ≡ true
used_by_count rota s some = any_from_count (λ d. d.shift == s) rota (above (duties_of rota s) some)
  where
    above : (n : ℕ) → (n ≡ 0 → ⊥) → 0 < n
    above zero h = absurd (h refl)
    above (suc n) h = omega arith

pub unused_by_count : (rota : List Duty) (s : ℕ) → duties_of rota s ≡ 0 → is_used rota s ≡ false
unused_by_count rota s none = elim (cases_Bool (is_used rota s)) [
  | inl t ↦ let a : 0 < duties_of rota s = any_by_count (λ d. d.shift == s) rota t in absurd (omega arith)
  | inr f ↦ f
]

-- ---- why it is refused
not_true : (b : Bool) → not b ≡ false → b ≡ true
not_true true h = refl
not_true false h = absurd (false≢true (sym h))

-- what holds of two shifts between which duties may go over
pub record ArePair (i : Problem) (from to : ℕ) : Type 0 where
  pub from_known : from < length (shift_list i)
  pub to_known : to < length (shift_list i)
  pub kinds : of_shift i from (λ x. x.kind) ≡ of_shift i to (λ x. x.kind)

pub pair_parts : (i : Problem) (from to : ℕ) → first_cause (pair_causes i from to) ≡ None → ArePair i from to
pair_parts i from to h =
    let n = no_cause (pair_causes i from to) h in
    let p = and_parts (is_known i from) (is_known i to) (not_true (is_known i from && is_known i to) n.0) in
    record {
      from_known = ltb-true from (length (shift_list i)) p.0;
      to_known = ltb-true to (length (shift_list i)) p.1;
      kinds = eqb-true (of_shift i from (λ x. x.kind)) (of_shift i to (λ x. x.kind)) (not_true _ n.1.0);
    }

pub heads_absent : (i : Problem) (rota : List Duty) (from to : ℕ) → duties_of rota from ≡ 0 → Some Absent ≡ first_cause (heads_causes i rota from to)
heads_absent i rota from to none = sym (ap (λ b. cond (not b) (Some Absent) (first_cause ((nat_lt i.heads (most_heads i rota from to), HeadsOver (most_heads i rota from to)) ∷ []))) (unused_by_count rota from none))

heads_used : (i : Problem) (rota : List Duty) (from to : ℕ) → (duties_of rota from ≡ 0 → ⊥) → first_cause (heads_causes i rota from to) ≡ cond (nat_lt i.heads (most_heads i rota from to)) (Some (HeadsOver (most_heads i rota from to))) None
heads_used i rota from to some = ap (λ b. cond (not b) (Some Absent) (cond (nat_lt i.heads (most_heads i rota from to)) (Some (HeadsOver (most_heads i rota from to))) None)) (used_by_count rota from some)

pub heads_over : (i : Problem) (rota : List Duty) (from to n : ℕ) → (duties_of rota from ≡ 0 → ⊥) → n ≡ most_heads i rota from to → i.heads < n → Some (HeadsOver n) ≡ first_cause (heads_causes i rota from to)
heads_over i rota from to n some e l =
    ap (λ k. Some (HeadsOver k)) e
    ∙ sym (heads_used i rota from to some ∙ ap (λ b. cond b (Some (HeadsOver (most_heads i rota from to))) None) (lt-ltb i.heads (most_heads i rota from to) (subst (λ (k : ℕ). i.heads < k) e l)))

pub heads_fine : (i : Problem) (rota : List Duty) (from to n : ℕ) → (duties_of rota from ≡ 0 → ⊥) → n ≡ most_heads i rota from to → n ≤ i.heads → None ≡ first_cause (heads_causes i rota from to)
heads_fine i rota from to n some e l =
    sym (heads_used i rota from to some ∙ ap (λ b. cond b (Some (HeadsOver (most_heads i rota from to))) None) (le-ltb i.heads (most_heads i rota from to) (subst (λ (k : ℕ). k ≤ i.heads) e l)))

-- ---- what a move of all duties needs
pub own_there : (s : ℕ) (rota gone : List Duty) → gone ≡ filter (λ d. d.shift == s) rota → (d : Duty) → count_of gone d ≤ count_of rota d
own_there s rota gone h d =
    let a : count_of gone d ≡ count_by (λ (x : Duty). (x.shift == s) && same_duty d x) rota = ap (λ ds. count_of ds d) h ∙ count_by-filter_and (same_duty d) (λ x. x.shift == s) rota in
    let b : count_by (λ (x : Duty). (x.shift == s) && same_duty d x) rota ≤ count_of rota d = count_by_at_most (λ (x : Duty). (x.shift == s) && same_duty d x) (same_duty d) rota (λ x m t. (and_parts (x.shift == s) (same_duty d x) t).1) in
    omega arith

of_shift_at : (i : Problem) (s : ℕ) (f : Shift → ℕ) (x : Shift × Rule) → slice_get (shift_list i) s ≡ Some x → of_shift i s f ≡ f x.0
of_shift_at i s f x e = ap (λ o. option_map_or (λ (x : Shift × Rule). f x.0) o 0) e

-- the list of a duty that goes over is legal there
pub list_goes_over : (i : Problem) (from to : ℕ) (list least : List Break) → from < length (shift_list i) → to < length (shift_list i)
    → of_shift i from (λ x. x.kind) ≡ of_shift i to (λ x. x.kind) → slice_get (lists_of i to) 0 ≡ Some least → is_list_of i from list ≡ true → is_list_of i to (list_after i from to list) ≡ true
list_goes_over i from to list least hf ht kinds first legal =
    let x = some_at (shift_list i) from hf in
    let y = some_at (shift_list i) to ht in
    let a = kind_of i x.0 (Has_at (shift_list i) from x.0 x.1) in
    let b = kind_of i y.0 (Has_at (shift_list i) to y.0 y.1) in
    let same : x.0.0.kind ≡ y.0.0.kind = sym (of_shift_at i from (λ s. s.kind) x.0 x.1) ∙ kinds ∙ of_shift_at i to (λ s. s.kind) y.0 y.1 in
    let both : Some a.0 ≡ Some b.0 = sym a.1.at ∙ ap (slice_get i.kinds) same ∙ b.1.at in
    let kind : a.0 ≡ b.0 = cc in
    let rule : x.0.1 ≡ y.0.1 = a.1.rule ∙ ap (λ (k : Kind). k.rule) kind ∙ sym b.1.rule in
    let lf : of_shift i from (λ s. s.len) ≡ x.0.0.len = of_shift_at i from (λ s. s.len) x.0 x.1 in
    let lt : of_shift i to (λ s. s.len) ≡ y.0.0.len = of_shift_at i to (λ s. s.len) y.0 y.1 in
    let at_from : is_legal x.0.1 x.0.0.len list ≡ true = sym (ap (λ o. option_map_or (λ (x : Shift × Rule). is_legal x.1 x.0.len list) o false) x.1) ∙ legal in
    elim (cases_Bool (of_shift i from (λ s. s.len) == of_shift i to (λ s. s.len))) [
      | inl t ↦
          let len : x.0.0.len ≡ y.0.0.len = sym lf ∙ eqb-true _ _ t ∙ lt in
          let at_to : is_legal y.0.1 y.0.0.len list ≡ true = ap (λ (r : Rule). is_legal r y.0.0.len list) (sym rule) ∙ ap (λ (n : ℕ). is_legal x.0.1 n list) (sym len) ∙ at_from in
          ap (λ b. is_list_of i to (cond b list (unwrap_or (slice_get (lists_of i to) 0) []))) t
          ∙ ap (λ o. option_map_or (λ (x : Shift × Rule). is_legal x.1 x.0.len list) o false) y.1 ∙ at_to
      | inr f ↦
          ap (λ b. is_list_of i to (cond b list (unwrap_or (slice_get (lists_of i to) 0) []))) f
          ∙ ap (λ o. is_list_of i to (unwrap_or o [])) first
          ∙ from_lists_of i to least (Has_at (lists_of i to) 0 least first)
    ]

reshifted_own : (i : Problem) (from to : ℕ) (d : Duty) → (d.shift == from) ≡ true → reshifted i from to d ≡ duty to d.day (list_after i from to d.breaks)
reshifted_own i from to d t = ap (λ b. cond b (duty to d.day (list_after i from to d.breaks)) d) t

pub reshifted_legal : (i : Problem) (from to : ℕ) (rota gone made : List Duty) (least : List Break) → from < length (shift_list i) → to < length (shift_list i)
    → of_shift i from (λ x. x.kind) ≡ of_shift i to (λ x. x.kind) → slice_get (lists_of i to) 0 ≡ Some least → is_legal_rota i rota ≡ true
    → gone ≡ filter (λ d. d.shift == from) rota → made ≡ map (reshifted i from to) gone → count_by (λ d. not (is_legal_duty i d)) made ≡ 0
reshifted_legal i from to rota gone made least hf ht kinds first legal h e =
    ap (count_by (λ d. not (is_legal_duty i d))) e
    ∙ count_by_none (λ d. not (is_legal_duty i d)) (map (reshifted i from to) gone) (λ d m.
    let x = from_map (reshifted i from to) gone d m in
    let p = from_filter (λ (d : Duty). d.shift == from) rota x.0 (subst (λ (ds : List Duty). Has ds x.0) h x.1) in
    let own = legal_duties i rota legal x.0 p.0 in
    let list : is_list_of i from x.0.breaks ≡ true = subst (λ (s : ℕ). is_list_of i s x.0.breaks ≡ true) (eqb-true x.0.shift from p.1) own.breaks in
    let good : is_legal_duty i (duty to x.0.day (list_after i from to x.0.breaks)) ≡ true =
    and_from (nat_lt x.0.day i.days) (is_list_of i to (list_after i from to x.0.breaks)) (lt-ltb x.0.day i.days own.day) (list_goes_over i from to x.0.breaks least hf ht kinds first list) in
    ap not (ap (is_legal_duty i) (sym x.2 ∙ reshifted_own i from to x.0 p.1) ∙ good))

-- ---- heads
made_heads : (i : Problem) (from to : ℕ) (rota : List Duty) (s day : ℕ) → heads_on (map (reshifted i from to) (filter (λ d. d.shift == from) rota)) s day ≡ cond (to == s) (heads_on rota from day) 0
made_heads i from to rota s day =
    count_by-map (is_on s day) (reshifted i from to) (filter (λ d. d.shift == from) rota)
    ∙ count_by-filter_and (λ d. is_on s day (reshifted i from to d)) (λ d. d.shift == from) rota
    ∙ elim (cases_Bool (to == s)) [
      | inl t ↦
          count_by_same (λ d. (d.shift == from) && is_on s day (reshifted i from to d)) (is_on from day) rota (λ d m. here d t)
          ∙ sym (ap (λ b. cond b (heads_on rota from day) 0) t)
      | inr f ↦
          count_by_none (λ d. (d.shift == from) && is_on s day (reshifted i from to d)) rota (λ d m. away d f)
          ∙ sym (ap (λ b. cond b (heads_on rota from day) 0) f)
    ]
  where
    and_false : (b : Bool) → (b && false) ≡ false
    and_false true = refl
    and_false false = refl

    here : (d : Duty) → (to == s) ≡ true → ((d.shift == from) && is_on s day (reshifted i from to d)) ≡ is_on from day d
    here d t = elim (cases_Bool (d.shift == from)) [
      | inl own ↦
          ap (λ (x : Duty). (d.shift == from) && is_on s day x) (reshifted_own i from to d own)
          ∙ ap (λ b. (d.shift == from) && (b && (d.day == day))) t
      | inr other ↦
          ap (λ b. b && is_on s day (reshifted i from to d)) other ∙ sym (ap (λ b. b && (d.day == day)) other)
    ]

    away : (d : Duty) → (to == s) ≡ false → ((d.shift == from) && is_on s day (reshifted i from to d)) ≡ false
    away d f = elim (cases_Bool (d.shift == from)) [
      | inl own ↦
          ap (λ (x : Duty). (d.shift == from) && is_on s day x) (reshifted_own i from to d own)
          ∙ ap (λ b. (d.shift == from) && (b && (d.day == day))) f
          ∙ and_false (d.shift == from)
      | inr other ↦ ap (λ b. b && is_on s day (reshifted i from to d)) other
    ]

no_heads_later : (i : Problem) (rota : List Duty) (s day : ℕ) → is_legal_rota i rota ≡ true → i.days ≤ day → heads_on rota s day ≡ 0
no_heads_later i rota s day legal late =
    count_by_none (is_on s day) rota (λ d m.
    let l : d.day < i.days = (legal_duties i rota legal d m).day in
    ap (λ b. (d.shift == s) && b) (ne_eqb d.day day (λ e. absurd (omega (arith, l, e, late)))) ∙ and_false (d.shift == s))
  where
    and_false : (b : Bool) → (b && false) ≡ false
    and_false true = refl
    and_false false = refl

pub reshifted_heads : (i : Problem) (from to : ℕ) (rota gone made : List Duty) → is_legal_rota i rota ≡ true → nat_lt i.heads (most_heads i rota from to) ≡ false
    → gone ≡ filter (λ d. d.shift == from) rota → made ≡ map (reshifted i from to) gone → (s day : ℕ) → heads_on rota s day + heads_on made s day ≤ i.heads + heads_on gone s day
reshifted_heads i from to rota gone made legal few h e s day =
    let own : heads_on made s day ≡ cond (to == s) (heads_on rota from day) 0 = ap (λ ds. heads_on ds s day) (e ∙ ap (map (reshifted i from to)) h) ∙ made_heads i from to rota s day in
    elim (cases_Bool (to == s)) [
      | inl t ↦
          let one : heads_on made s day ≡ heads_on rota from day = own ∙ ap (λ b. cond b (heads_on rota from day) 0) t in
          let same : heads_on rota s day ≡ heads_on rota to day = ap (λ k. heads_on rota k day) (sym (eqb-true to s t)) in
          elim (cases_lt day i.days) [
            | inl l ↦
                let f : ℕ → ℕ = λ day. heads_on rota to day + heads_on rota from day in
                let a : heads_on rota to day + heads_on rota from day ≤ most_heads i rota from to = at_most_greatest f (below i.days) day (Has-below i.days day l) in
                let b : most_heads i rota from to ≤ i.heads = ltb-false i.heads (most_heads i rota from to) few in
                omega (arith, one, same, a, b)
            | inr late ↦ omega (arith, one, same, no_heads_later i rota to day legal late, no_heads_later i rota from day legal late)
          ]
      | inr f ↦
          let none : heads_on made s day ≡ 0 = own ∙ ap (λ b. cond b (heads_on rota from day) 0) f in
          let a : heads_on rota s day ≤ i.heads = heads_within i rota legal s day in
          omega (arith, none, a)
    ]

-- ---- what it makes
moved_counts : (p q : Duty → Bool) (f : Duty → Duty) (xs : List Duty) → ((d : Duty) → q d ≡ false → f d ≡ d) → count_by p (map f xs) + count_by p (filter q xs) ≡ count_by p xs + count_by p (map f (filter q xs))
moved_counts p q f [] h = refl
moved_counts p q f (d ∷ ds) h =
    let rest : count_by p (map f ds) + count_by p (filter q ds) ≡ count_by p ds + count_by p (map f (filter q ds)) = moved_counts p q f ds h in
    let new : count_by p (f d ∷ map f ds) ≡ cond (p (f d)) 1 0 + count_by p (map f ds) = sum_by-cons (λ x. cond (p x) 1 0) (f d) (map f ds) in
    let old : count_by p (d ∷ ds) ≡ cond (p d) 1 0 + count_by p ds = sum_by-cons (λ x. cond (p x) 1 0) d ds in
    elim (cases_Bool (q d)) [
      | inl t ↦
          let e : filter q (d ∷ ds) ≡ d ∷ filter q ds = ap (λ b. cond b (d ∷ filter q ds) (filter q ds)) t in
          let a : count_by p (filter q (d ∷ ds)) ≡ cond (p d) 1 0 + count_by p (filter q ds) = ap (count_by p) e ∙ sum_by-cons (λ x. cond (p x) 1 0) d (filter q ds) in
          let b : count_by p (map f (filter q (d ∷ ds))) ≡ cond (p (f d)) 1 0 + count_by p (map f (filter q ds)) = ap (λ xs. count_by p (map f xs)) e ∙ sum_by-cons (λ x. cond (p x) 1 0) (f d) (map f (filter q ds)) in
          omega (arith, rest, new, old, a, b)
      | inr g ↦
          let e : filter q (d ∷ ds) ≡ filter q ds = ap (λ b. cond b (d ∷ filter q ds) (filter q ds)) g in
          let a : count_by p (filter q (d ∷ ds)) ≡ count_by p (filter q ds) = ap (count_by p) e in
          let b : count_by p (map f (filter q (d ∷ ds))) ≡ count_by p (map f (filter q ds)) = ap (λ xs. count_by p (map f xs)) e in
          let same : ◌≡◌ {A = ℕ} (cond (p (f d)) 1 0) (cond (p d) 1 0) = ap (λ x. cond (p x) 1 0) (h d g) in
          omega (arith, rest, new, old, a, b, same)
    ]

pub reshifted_all : (i : Problem) (from to : ℕ) (rota gone made new : List Duty) → gone ≡ filter (λ d. d.shift == from) rota → made ≡ map (reshifted i from to) gone → IsExchanged rota gone made new → AreSameDuties new (map (reshifted i from to) rota)
reshifted_all i from to rota gone made new h e x d =
    let all : count_of new d + count_of gone d ≡ count_of rota d + count_of made d = x (same_duty d) in
    let a : count_of gone d ≡ count_of (filter (λ d. d.shift == from) rota) d = ap (λ ds. count_of ds d) h in
    let b : count_of made d ≡ count_of (map (reshifted i from to) (filter (λ d. d.shift == from) rota)) d = ap (λ ds. count_of ds d) (e ∙ ap (map (reshifted i from to)) h) in
    let c = moved_counts (same_duty d) (λ (d : Duty). d.shift == from) (reshifted i from to) rota (λ d f. ap (λ b. cond b (duty to d.day (list_after i from to d.breaks)) d) f) in
    omega (arith, all, a, b, c)
