-- A legal plan that loses one duty.
use Rattle.local_moves.proofs.Common.{◌≡◌, ◌⊎◌, inl, inr, ℕ, ◌+◌, ◌-◌, ◌*◌, ◌/◌, ◌%◌, ◌<◌, ◌≤◌, true, false, cond, ◌&&◌, ◌==◌, not, nat_le, List, [], ◌∷◌, ◌++◌, length, get_or, set, refl, sym, ap, ◌∙◌, subst, arith, eq-eqb, list_all, count_by, and_parts, and_from, le-leb, cases_Bool, cases_eq, get_or-set_same, get_or-set_other, div-mul-add, mod-mul-add, mul-add-lt, all_from, all_at, all_by_count, all_from_count, Has-from_count, Duty, Row, Problem, shift_list, same_duty, count_of, is_on, heads_on, is_legal_duty, is_legal_rota, heads_within, same_duty_decides, AreAlike, Covering, without, IsWith, with_removed, with_pushed, legal_rows_parts, IsDraft, heads_at, rows_of, rows_legal, rows_more, with_one_less}
use Rattle.std.proofs.lemmas.Bool.{eqb-true}
use Rattle.std.proofs.lemmas.Grind.{common_steps}
use Rattle.local_moves.proofs.OwnRows.{alike_rows}
use Rattle.local_moves.proofs.RowPlaces.{less_more}

-- fewer duties are as legal
pub legal_rest : (i : Problem) (rest all : List Duty) (d : Duty) → IsWith rest d all → is_legal_rota i all ≡ true → is_legal_rota i rest ≡ true
legal_rest i rest all d h legal =
    let p = and_parts (list_all (is_legal_duty i) all) (list_all (λ d. nat_le (heads_on all d.shift d.day) i.heads) all) legal in
    let none : count_by (λ x. not (is_legal_duty i x)) all ≡ 0 = all_by_count (is_legal_duty i) all p.0 in
    let more : count_by (λ x. not (is_legal_duty i x)) all ≡ count_by (λ x. not (is_legal_duty i x)) rest + cond (not (is_legal_duty i d)) 1 0 = h.each (λ x. not (is_legal_duty i x)) in
    and_from (list_all (is_legal_duty i) rest) (list_all (λ d. nat_le (heads_on rest d.shift d.day) i.heads) rest)
    (all_from_count (is_legal_duty i) rest (omega arith))
    (all_from (λ d. nat_le (heads_on rest d.shift d.day) i.heads) rest (λ x m.
    le-leb (heads_on rest x.shift x.day) i.heads
    (let a : heads_on all x.shift x.day ≤ i.heads = heads_within i all legal x.shift x.day in
    let b : heads_on all x.shift x.day ≡ heads_on rest x.shift x.day + cond (is_on x.shift x.day d) 1 0 = h.each (is_on x.shift x.day) in
    omega arith)))

-- a duty of a legal plan is legal
pub legal_one : (i : Problem) (rota : List Duty) (d : Duty) → is_legal_rota i rota ≡ true → 0 < count_of rota d → is_legal_duty i d ≡ true
legal_one i rota d legal some =
    let p = and_parts (list_all (is_legal_duty i) rota) (list_all (λ d. nat_le (heads_on rota d.shift d.day) i.heads) rota) legal in
    let x = Has-from_count (same_duty d) rota some in
    subst (λ (z : Duty). is_legal_duty i z ≡ true) (sym ((same_duty_decides d x.0).0 x.2)) (all_at (is_legal_duty i) rota x.0 p.0 x.1)

-- the rows of a plan with one duty less
pub rows_less : (i : Problem) (rest all : List Duty) (d : Duty) → IsWith rest d all → is_legal_rota i all ≡ true → is_legal_duty i d ≡ true → with_one_less d (rows_of i all) ≡ rows_of i rest
rows_less i rest all d h legal own =
    let left : is_legal_rota i rest ≡ true = legal_rest i rest all d h legal in
    let alike : AreAlike all (rest ++ d ∷ []) = λ p. h.each p ∙ sym ((with_pushed rest d).each p) in
    ap (with_one_less d) (alike_rows i all (rest ++ d ∷ []) legal alike ∙ sym (rows_more i rest d own))
    ∙ less_more d (rows_of i rest) (legal_rows_parts i (rows_of i rest) (rows_legal i rest left)).counted

-- two places are one where shift and day are the same
same_place : (d s day k other : ℕ) → day < d → other < d → s * d + day ≡ k * d + other → (s ≡ k) × (day ≡ other)
same_place d s day k other h g e = (
  sym (div-mul-add s d day h) ∙ ap (λ (j : ℕ). j / d) e ∙ div-mul-add k d other g,
  sym (mod-mul-add s d day h) ∙ ap (λ (j : ℕ). j % d) e ∙ mod-mul-add k d other g,
)

apart : (s day k other d : ℕ) → (k * d + other ≡ s * d + day → ⊥) → ((s == k) && (day == other)) ≡ false
apart s day k other d ne =
    elim (cases_Bool ((s == k) && (day == other))) [
      | inl t ↦
          let p = and_parts (s == k) (day == other) t in
          absurd (ne (ap (λ j. j * d + other) (sym (eqb-true s k p.0)) ∙ ap (λ j. s * d + j) (sym (eqb-true day other p.1))))
      | inr f ↦ f
    ]

-- heads after a change of one number, where the heads of the plan change so
pub headed_set : (i : Problem) (now next : ℕ → ℕ → ℕ) (heads : List ℕ) (s day n k other : ℕ) → s < length (shift_list i) → day < i.days → other < i.days
    → length heads ≡ length (shift_list i) * i.days
    → heads_at i heads k other ≡ now k other → n ≡ next s day
    → ((((s == k) && (day == other)) ≡ false) → next k other ≡ now k other)
    → heads_at i (set heads (s * i.days + day) n) k other ≡ next k other
headed_set i now next heads s day n k other hs hd ho len there new stays =
    let at = s * i.days + day in
    let to = k * i.days + other in
    let small : at < i.days * length (shift_list i) = mul-add-lt s i.days day (length (shift_list i)) hs hd in
    elim (cases_eq to at) [
      | inl e ↦
          let p = same_place i.days s day k other hd ho (sym e) in
          ap (λ j. get_or (set heads at n) j 0) e ∙ get_or-set_same heads at n 0 (omega arith) ∙ new ∙ ap (λ j. next j day) p.0 ∙ ap (λ j. next k j) p.1
      | inr ne ↦ get_or-set_other heads at to n 0 ne ∙ there ∙ sym (stays (apart s day k other i.days ne))
    ]

pub draft_less : (i : Problem) (cover less : Covering) (heads lowered : List ℕ) (rows shorter : List Row) (d : Duty)
    → IsDraft i cover heads rows → 0 < count_of cover.duties d → d.shift < length (shift_list i) → d.day < i.days
    → less.instance ≡ cover.instance → less.duties ≡ without d cover.duties
    → lowered ≡ set heads (d.shift * i.days + d.day) (heads_at i heads d.shift d.day - 1)
    → shorter ≡ with_one_less d rows
    → IsDraft i less lowered shorter
draft_less i cover less heads lowered rows shorter d h some hs hd same duties down one =
    let w : IsWith (without d cover.duties) d cover.duties = with_removed cover.duties d some in
    let rest = without d cover.duties in
    let own : is_legal_duty i d ≡ true = legal_one i cover.duties d h.legal some in
    record {
      valid = h.valid;
      instance = same ∙ h.instance;
      all_shifts = ap (λ (xs : List ℕ). length xs) down ∙ length_set heads (d.shift * i.days + d.day) (heads_at i heads d.shift d.day - 1) ∙ h.all_shifts;
      headed = λ k other hk ho.
          ap (λ xs. heads_at i xs k other) down
          ∙ headed_set i (heads_on cover.duties) (heads_on rest) heads d.shift d.day (heads_at i heads d.shift d.day - 1) k other hs hd ho h.all_shifts (h.headed k other hk ho)
          (let a : heads_on cover.duties d.shift d.day ≡ heads_on rest d.shift d.day + cond (is_on d.shift d.day d) 1 0 = w.each (is_on d.shift d.day) in
          let b : ◌≡◌ {A = ℕ} (cond (is_on d.shift d.day d) 1 0) 1 = ap (λ b. cond b 1 0) (and_from (d.shift == d.shift) (d.day == d.day) (eq-eqb d.shift d.shift refl) (eq-eqb d.day d.day refl)) in
          let e : heads_at i heads d.shift d.day ≡ heads_on cover.duties d.shift d.day = h.headed d.shift d.day hs hd in
          omega arith)
          (λ f.
          let a : heads_on cover.duties k other ≡ heads_on rest k other + cond (is_on k other d) 1 0 = w.each (is_on k other) in
          let b : ◌≡◌ {A = ℕ} (cond (is_on k other d) 1 0) 0 = ap (λ b. cond b 1 0) f in
          omega arith)
          ∙ sym (ap (λ ds. heads_on ds k other) duties);
      legal = ap (is_legal_rota i) duties ∙ legal_rest i rest cover.duties d w h.legal;
      listed = one ∙ ap (with_one_less d) h.listed ∙ rows_less i rest cover.duties d w h.legal own ∙ sym (ap (rows_of i) duties);
    }
  where
    length_set : (xs : List ℕ) (j v : ℕ) → length (set xs j v) ≡ length xs
    length_set xs j v = grind (arith, common_steps)
