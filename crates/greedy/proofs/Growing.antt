-- A legal plan that grows by one duty.
use Rattle.greedy.proofs.Common.{◌≡◌, inl, inr, ℕ, zero, suc, ◌+◌, ◌*◌, ◌/◌, ◌%◌, ◌<◌, ◌≤◌, ℤ, Some, Bool, true, false, cond, ◌&&◌, ◌==◌, nat_lt, nat_le, List, [], ◌∷◌, ◌++◌, map, filter, length, get_or, set, refl, sym, ap, ◌∙◌, subst, arith, eq-eqb, All, list_all, count_by, and_parts, and_from, eqb-true, lt-ltb, le-leb, cases_Bool, cases_eq, ne_eqb, get_or-set_same, get_or-set_other, get_or-replicate, sum_by_push, div-mul-add, mod-mul-add, mul-add-lt, mul-le-mul_right, Break, Has, Has-append_cases, from_below, from_map, from_filter, all_at, all_from, any_some, any_at, count_by_at_most, count_by_none, count_by-append, any_by_count, Has-from_count, Duty, Row, Problem, shift_list, below, same_duty, count_of, is_list_of, is_on, heads_on, is_used, is_legal_duty, is_legal_rota, IsValid, from_lists_of, heads_within, legal_duties, same_duty_decides, IsDraft, heads_at, with_one_more, duty, rows_of, best_list, all_duties, row_of, legal_length}
use Rattle.std.proofs.Common.{replicate}
use Rattle.std.proofs.lemmas.Grind.{common_steps}
use Rattle.rota_cost.specs.Cover.{Covering}
use Rattle.greedy.proofs.Rounds.{listed}
use Rattle.greedy.proofs.RowSteps.{rows_more, rows_none}

count_push : {X : Type 0} (p : X → Bool) (xs : List X) (x : X) → count_by p (xs ++ x ∷ []) ≡ count_by p xs + cond (p x) 1 0
count_push p xs x = sum_by_push (λ y. cond (p y) 1 0) xs x

-- a legal plan is legal with one duty more for which there is room
legal_add : (i : Problem) (rota : List Duty) (d : Duty) → is_legal_rota i rota ≡ true → is_legal_duty i d ≡ true → heads_on rota d.shift d.day < i.heads → is_legal_rota i (rota ++ d ∷ []) ≡ true
legal_add i rota d legal own room =
    let p = and_parts (list_all (is_legal_duty i) rota) (list_all (λ d. nat_le (heads_on rota d.shift d.day) i.heads) rota) legal in
    let next = rota ++ d ∷ [] in
    and_from (list_all (is_legal_duty i) next) (list_all (λ d. nat_le (heads_on next d.shift d.day) i.heads) next)
    (all_from (is_legal_duty i) next (λ x m. elim (Has-append_cases rota (d ∷ []) x m) [
      | inl old ↦ all_at (is_legal_duty i) rota x p.0 old
      | inr new ↦ elim new [ inl e ↦ subst (λ (z : Duty). is_legal_duty i z ≡ true) e own | inr none ↦ absurd none ]
    ]))
    (all_from (λ d. nat_le (heads_on next d.shift d.day) i.heads) next (λ x m. le-leb _ _ (within x.shift x.day)))
  where
    within : (k day : ℕ) → heads_on (rota ++ d ∷ []) k day ≤ i.heads
    within k day =
        let more : heads_on (rota ++ d ∷ []) k day ≡ heads_on rota k day + cond (is_on k day d) 1 0 = count_push (is_on k day) rota d in
        let old : heads_on rota k day ≤ i.heads = heads_within i rota legal k day in
        elim (cases_Bool (is_on k day d)) [
          | inl t ↦
              let q = and_parts (d.shift == k) (d.day == day) t in
              let less : heads_on rota k day < i.heads = subst (λ (n : ℕ). heads_on rota n day < i.heads) (eqb-true d.shift k q.0) (subst (λ (n : ℕ). heads_on rota d.shift n < i.heads) (eqb-true d.day day q.1) room) in
              let one : ◌≡◌ {A = ℕ} (cond (is_on k day d) 1 0) 1 = ap (λ b. cond b 1 0) t in
              omega arith
          | inr f ↦
              let no : ◌≡◌ {A = ℕ} (cond (is_on k day d) 1 0) 0 = ap (λ b. cond b 1 0) f in
              omega arith
        ]

-- two places are one where shift and day are the same
same_place : (d s day k other : ℕ) → day < d → other < d → s * d + day ≡ k * d + other → (s ≡ k) × (day ≡ other)
same_place d s day k other h g e = (
  sym (div-mul-add s d day h) ∙ ap (λ (j : ℕ). j / d) e ∙ div-mul-add k d other g,
  sym (mod-mul-add s d day h) ∙ ap (λ (j : ℕ). j % d) e ∙ mod-mul-add k d other g,
)

headed_add : (i : Problem) (rota : List Duty) (heads : List ℕ) (list : List Break) (s day k other : ℕ) → s < length (shift_list i) → day < i.days → other < i.days
    → length heads ≡ length (shift_list i) * i.days
    → heads_at i heads s day ≡ heads_on rota s day → heads_at i heads k other ≡ heads_on rota k other
    → heads_at i (set heads (s * i.days + day) (heads_at i heads s day + 1)) k other ≡ heads_on (rota ++ duty s day list ∷ []) k other
headed_add i rota heads list s day k other hs hd ho len here there =
    let d = duty s day list in
    let at = s * i.days + day in
    let to = k * i.days + other in
    let small : at < i.days * length (shift_list i) = mul-add-lt s i.days day (length (shift_list i)) hs hd in
    let more : heads_on (rota ++ d ∷ []) k other ≡ heads_on rota k other + cond ((s == k) && (day == other)) 1 0 = count_push (is_on k other) rota d in
    elim (cases_eq to at) [
      | inl e ↦
          let p = same_place i.days s day k other hd ho (sym e) in
          let yes : ◌≡◌ {A = ℕ} (cond ((s == k) && (day == other)) 1 0) 1 = ap (λ b. cond b 1 0) (and_from (s == k) (day == other) (eq-eqb s k p.0) (eq-eqb day other p.1)) in
          let a : get_or (set heads at (heads_at i heads s day + 1)) to 0 ≡ heads_at i heads s day + 1 = ap (λ j. get_or (set heads at (heads_at i heads s day + 1)) j 0) e ∙ get_or-set_same heads at (heads_at i heads s day + 1) 0 (omega arith) in
          let b : heads_at i heads s day ≡ heads_at i heads k other = ap (λ j. get_or heads j 0) (sym e) in
          a ∙ (let z : heads_at i heads s day + 1 ≡ heads_on rota k other + cond ((s == k) && (day == other)) 1 0 = omega arith in z) ∙ sym more
      | inr ne ↦
          let no : ◌≡◌ {A = ℕ} (cond ((s == k) && (day == other)) 1 0) 0 = ap (λ b. cond b 1 0) (apart s day k other i.days ne) in
          get_or-set_other heads at to (heads_at i heads s day + 1) 0 ne ∙ there
          ∙ (let z : heads_on rota k other ≡ heads_on rota k other + cond ((s == k) && (day == other)) 1 0 = omega arith in z) ∙ sym more
    ]
  where
    apart : (s day k other d : ℕ) → (k * d + other ≡ s * d + day → ⊥) → ((s == k) && (day == other)) ≡ false
    apart s day k other d ne =
        elim (cases_Bool ((s == k) && (day == other))) [
          | inl t ↦
              let p = and_parts (s == k) (day == other) t in
              absurd (ne (ap (λ j. j * d + other) (sym (eqb-true s k p.0)) ∙ ap (λ j. s * d + j) (sym (eqb-true day other p.1))))
          | inr f ↦ f
        ]

-- the plan with no duties
pub draft_none : (i : Problem) (cover : Covering) (heads : List ℕ) (rows : List Row) → IsValid i → cover ≡ record { instance = i; duties = [] } → heads ≡ replicate (length (shift_list i) * i.days) 0 → rows ≡ [] → IsDraft i cover heads rows
draft_none i cover heads rows valid ec eh er = record {
  valid = valid;
  instance = ap (λ (c : Covering). c.instance) ec;
  all_shifts = ap (λ (xs : List ℕ). length xs) eh ∙ length_copies (length (shift_list i) * i.days);
  headed = λ s day h g.
      let l : s * i.days + day < i.days * length (shift_list i) = mul-add-lt s i.days day (length (shift_list i)) h g in
      ap (λ (xs : List ℕ). heads_at i xs s day) eh ∙ get_or-replicate (length (shift_list i) * i.days) (s * i.days + day) 0 0 (omega arith)
      ∙ sym (ap (λ (c : Covering). heads_on c.duties s day) ec);
  legal = ap (λ (c : Covering). is_legal_rota i c.duties) ec;
  listed = er ∙ sym (rows_none i) ∙ sym (ap (λ (c : Covering). rows_of i c.duties) ec);
}
  where
    length_copies : (n : ℕ) → length {A = ℕ} (replicate n 0) ≡ n
    length_copies zero = refl
    length_copies (suc n) = omega (arith, length_copies n)

-- one duty more
pub draft_add : (i : Problem) (cover more : Covering) (heads raised : List ℕ) (rows longer : List Row) (s day : ℕ) (list : List Break)
    → IsDraft i cover heads rows → s < length (shift_list i) → day < i.days
    → is_legal_duty i (duty s day list) ≡ true → heads_on cover.duties s day < i.heads
    → more.instance ≡ cover.instance → more.duties ≡ cover.duties ++ duty s day list ∷ []
    → raised ≡ set heads (s * i.days + day) (heads_at i heads s day + 1)
    → longer ≡ with_one_more (duty s day list) rows
    → IsDraft i more raised longer
draft_add i cover more heads raised rows longer s day list h hs hd legal room same duties up one = record {
  valid = h.valid;
  instance = same ∙ h.instance;
  all_shifts = ap (λ (xs : List ℕ). length xs) up ∙ length_set heads (s * i.days + day) (heads_at i heads s day + 1) ∙ h.all_shifts;
  headed = λ k other hk ho.
      ap (λ xs. heads_at i xs k other) up
      ∙ headed_add i cover.duties heads list s day k other hs hd ho h.all_shifts (h.headed s day hs hd) (h.headed k other hk ho)
      ∙ sym (ap (λ ds. heads_on ds k other) duties);
  legal = ap (is_legal_rota i) duties ∙ legal_add i cover.duties (duty s day list) h.legal legal room;
  listed = one ∙ ap (with_one_more (duty s day list)) h.listed ∙ rows_more i cover.duties (duty s day list) legal ∙ sym (ap (rows_of i) duties);
}
  where
    length_set : (xs : List ℕ) (j v : ℕ) → length (set xs j v) ≡ length xs
    length_set xs j v = grind (arith, common_steps)

-- a legal plan has few duties
pub few_duties : (i : Problem) (rota : List Duty) → IsValid i → is_legal_rota i rota ≡ true → length rota ≤ 2000000
few_duties i rota valid legal =
    let most : length rota ≤ length (shift_list i) * i.days * i.heads = legal_length i rota legal in
    let b : length (shift_list i) * i.days ≤ 1024 * i.days = mul-le-mul_right i.days valid.shifts in
    let days : i.days ≤ 7 = valid.days in
    let c : length (shift_list i) * i.days ≤ 7168 = omega arith in
    let d : length (shift_list i) * i.days * i.heads ≤ 7168 * i.heads = mul-le-mul_right i.heads c in
    let few : i.heads ≤ 200 = valid.heads in
    omega arith

-- whether a shift is used, by the numbers of its days
pub used_here : (i : Problem) (rota : List Duty) (s day : ℕ) → 0 < heads_on rota s day → is_used rota s ≡ true
used_here i rota s day some =
    let d = Has-from_count (is_on s day) rota some in
    any_at (λ d. d.shift == s) rota d.0 d.1 (and_parts (d.0.shift == s) (d.0.day == day) d.2).0

pub used_not : (i : Problem) (rota : List Duty) (s : ℕ) → is_legal_rota i rota ≡ true → ((day : ℕ) → day < i.days → heads_on rota s day ≡ 0) → is_used rota s ≡ false
used_not i rota s legal none =
    elim (cases_Bool (is_used rota s)) [
      | inl u ↦
          let d = any_some (λ (d : Duty). d.shift == s) rota u in
          let l = legal_duties i rota legal d.0 d.1 in
          let some : 0 < heads_on rota s d.0.day = any_by_count (is_on s d.0.day) rota (any_at (is_on s d.0.day) rota d.0 d.1 (and_from (d.0.shift == s) (d.0.day == d.0.day) d.2 (eq-eqb d.0.day d.0.day refl))) in
          let no : heads_on rota s d.0.day ≡ 0 = none d.0.day l.day in
          absurd (omega arith)
      | inr f ↦ f
    ]

-- the days before a day have no duty on it
pub heads_before : (rota : List Duty) (s day : ℕ) (p : ℕ → Bool) (lists : ℕ → List Break) → heads_on (rota ++ map (λ day. duty s day (lists day)) (filter p (below day))) s day ≡ heads_on rota s day
heads_before rota s day p lists =
    let of : ℕ → Duty = λ day. duty s day (lists day) in
    let new = map of (filter p (below day)) in
    let none : heads_on new s day ≡ 0 = count_by_none (is_on s day) new (λ d m.
    let a = from_map {X = ℕ} {Y = Duty} of (filter p (below day)) d m in
    let l : a.0 < day = from_below day a.0 (from_filter p (below day) a.0 a.1).0 in
    ap (is_on s day) (sym a.2) ∙ ap (λ b. (s == s) && b) (ne_eqb a.0 day (λ e. absurd (omega arith))) ∙ and_no (s == s)) in
    let both : heads_on (rota ++ new) s day ≡ heads_on rota s day + heads_on new s day = count_by-append (is_on s day) rota new in
    omega arith
  where
    and_no : (b : Bool) → (b && false) ≡ false
    and_no true = refl
    and_no false = refl

has_at : {X : Type 0} (xs : List X) (k : ℕ) (d : X) → k < length xs → Has xs (get_or xs k d)
has_at [] k d h = absurd (omega arith)
has_at (x ∷ xs) zero d h = inl refl
has_at (x ∷ xs) (suc k) d h = inr (has_at xs k d (omega arith))

-- no row of a legal plan has many duties
pub rows_room : (i : Problem) (rota : List Duty) (rows : List Row) → IsValid i → is_legal_rota i rota ≡ true → rows ≡ rows_of i rota → All (λ r. r.count ≤ 200) rows
rows_room i rota rows valid legal e k d l =
    let m = subst (λ (rs : List Row). Has rs (get_or rows k d)) e (has_at rows k d l) in
    let x = from_map (λ d. row_of d (count_of rota d)) (filter (λ d. nat_lt 0 (count_of rota d)) (all_duties i)) (get_or rows k d) m in
    let count : (get_or rows k d).count ≡ count_of rota x.0 = ap (λ (r : Row). r.count) (sym x.2) in
    let most : count_of rota x.0 ≤ heads_on rota x.0.shift x.0.day = count_by_at_most (same_duty x.0) (is_on x.0.shift x.0.day) rota (λ y n t.
    subst (λ (z : Duty). is_on x.0.shift x.0.day z ≡ true) ((same_duty_decides x.0 y).0 t) (and_from (x.0.shift == x.0.shift) (x.0.day == x.0.day) (eq-eqb x.0.shift x.0.shift refl) (eq-eqb x.0.day x.0.day refl))) in
    let few : heads_on rota x.0.shift x.0.day ≤ i.heads = heads_within i rota legal x.0.shift x.0.day in
    let limit : i.heads ≤ 200 = valid.heads in
    omega arith

-- a best list makes a legal duty
pub best_legal : (i : Problem) (prices : List ℤ) (s day : ℕ) (list : List Break) → day < i.days → best_list i prices s day ≡ Some list → is_legal_duty i (duty s day list) ≡ true
best_legal i prices s day list hd e = and_from (nat_lt day i.days) (is_list_of i s list) (lt-ltb day i.days hd) (from_lists_of i s list (listed i prices s day list e))
