-- Cuts that fix how many duties each shift has on each day.
use Rattle.report_grafts.proofs.Common.{◌≡◌, inl, inr, ℕ, ◌+◌, ◌<◌, ◌≤◌, Bool, true, false, cond, not, List, [], ◌∷◌, ◌++◌, length, refl, sym, ap, ◌∙◌, subst, arith, Option, Some, None, slice_get, IsSomeAnd, flat_map, list_any, option_map_or, and_parts, cases_Bool, leb-true, le-leb, flat_map_more, Has, Has-flat_map, from_flat_map, Has-below, from_below, all_at, all_from, Duty, Row, Problem, shift_list, below, are_legal_rows, heads_on, is_legal_rota, lists_of, rota_of, Class, Cut, AtMost, AtLeast, class_count, meets, meets_cut, whole_class, is_nil, pins_on, pins_of_shift, pins_of, HaveSameHeads, PinsFixHeads}
use Rattle.break_rules.specs.declared.Rule.{Rule}
use Rattle.break_rules.specs.Breaks.{is_live, legal_lists}
use Rattle.shift_instance.specs.declared.Shift.{Shift}
use Rattle.shift_instance.proofs.Ranges.{below_next}
use Rattle.shift_instance.proofs.Rotas.{heads_within}
use Rattle.head_splits.proofs.Duality.{whole_class_count}

-- ---- a shift without a legal list

-- ---- one more day, and one more shift

pub one_more : (f : ℕ → List Cut) (old before after : List Cut) (n : ℕ) → before ≡ old ++ flat_map f (below n) → after ≡ before ++ f n → after ≡ old ++ flat_map f (below (n + 1))
one_more f old before after n e h =
    h ∙ ap (λ (cs : List Cut). cs ++ f n) e ∙ flat_map_more f old (below n) n ∙ ap (λ ns. old ++ flat_map f ns) (sym (below_next n))

-- ---- heads

-- legal rows have no more duties of a shift on a day than there may be
pub heads_few : (i : Problem) (rows : List Row) (s day : ℕ) → are_legal_rows i rows ≡ true → heads_on (rota_of rows) s day ≤ i.heads
heads_few i rows s day h = heads_within i (rota_of rows) (and_parts _ (is_legal_rota i (rota_of rows)) h).1 s day

pub heads_counted : (rows seen : List Row) (class : Class) (s day n : ℕ) → n ≡ class_count (rota_of seen) class → seen ≡ rows → class ≡ whole_class s day → n ≡ heads_on (rota_of rows) s day
heads_counted rows seen class s day n e same is =
    e ∙ ap (λ (rs : List Row). class_count (rota_of rs) class) same ∙ ap (class_count (rota_of rows)) is ∙ whole_class_count (rota_of rows) s day

-- ---- what pins fix

Has-pins : (i : Problem) (other : List Duty) (s day : ℕ) (c : Cut) → s < length (shift_list i) → is_nil (lists_of i s) ≡ false → day < i.days → Has (pins_on s day (heads_on other s day)) c → Has (pins_of i other) c
Has-pins i other s day c there some within h =
    let of_day : List Cut = flat_map (λ day. pins_on s day (heads_on other s day)) (below i.days) in
    Has-flat_map (pins_of_shift i other) (below (length (shift_list i))) s c (Has-below (length (shift_list i)) s there)
    (subst (λ b. Has (cond b [] of_day) c) (sym some) (Has-flat_map (λ day. pins_on s day (heads_on other s day)) (below i.days) day c (Has-below i.days day within) h))

fixed_by : (i : Problem) (rota other : List Duty) → meets rota (pins_of i other) ≡ true → HaveSameHeads i rota other
fixed_by i rota other h s day there some within =
    let n = heads_on other s day in
    let first : Cut = record { class = whole_class s day; side = AtMost; m = n } in
    let second : Cut = record { class = whole_class s day; side = AtLeast; m = n } in
    let most : class_count rota (whole_class s day) ≤ n = leb-true _ _ (all_at (meets_cut rota) (pins_of i other) first h (Has-pins i other s day first there some within (inl refl))) in
    let least : n ≤ class_count rota (whole_class s day) = leb-true _ _ (all_at (meets_cut rota) (pins_of i other) second h (Has-pins i other s day second there some within (inr (inl refl)))) in
    let counted : class_count rota (whole_class s day) ≡ heads_on rota s day = whole_class_count rota s day in
    omega (arith, most, least, counted)

pin_met : (i : Problem) (rota other : List Duty) (s day : ℕ) (c : Cut) → heads_on rota s day ≡ heads_on other s day → Has (pins_on s day (heads_on other s day)) c → meets_cut rota c ≡ true
pin_met i rota other s day c same h =
    let counted : class_count rota (whole_class s day) ≡ heads_on rota s day = whole_class_count rota s day in
    elim h [
      | inl e ↦ subst (λ (x : Cut). meets_cut rota x ≡ true) e (le-leb (class_count rota (whole_class s day)) (heads_on other s day) (omega (arith, same, counted)))
      | inr t ↦ elim t [
        | inl e ↦ subst (λ (x : Cut). meets_cut rota x ≡ true) e (le-leb (heads_on other s day) (class_count rota (whole_class s day)) (omega (arith, same, counted)))
        | inr none ↦ absurd none
      ]
    ]

shift_met : (i : Problem) (rota other : List Duty) (s : ℕ) (c : Cut) → HaveSameHeads i rota other → s < length (shift_list i) → Has (pins_of_shift i other s) c → meets_cut rota c ≡ true
shift_met i rota other s c same there h =
    let of_day : List Cut = flat_map (λ day. pins_on s day (heads_on other s day)) (below i.days) in
    elim (cases_Bool (is_nil (lists_of i s))) [
      | inl none ↦ absurd (subst (λ b. Has (cond b [] of_day) c) none h)
      | inr some ↦
          let d = from_flat_map (λ day. pins_on s day (heads_on other s day)) (below i.days) c (subst (λ b. Has (cond b [] of_day) c) some h) in
          pin_met i rota other s d.0 c (same s d.0 there some (from_below i.days d.0 d.1)) d.2
    ]

met_by : (i : Problem) (rota other : List Duty) → HaveSameHeads i rota other → meets rota (pins_of i other) ≡ true
met_by i rota other same =
    all_from (meets_cut rota) (pins_of i other) (λ c h.
    let s = from_flat_map (pins_of_shift i other) (below (length (shift_list i))) c h in
    shift_met i rota other s.0 c same (from_below (length (shift_list i)) s.0 s.1) s.2)

pub pins_fix : PinsFixHeads
pins_fix i rota other = (fixed_by i rota other, met_by i rota other)
