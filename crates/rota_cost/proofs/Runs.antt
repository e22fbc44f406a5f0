-- The running count of a shift and day, while rows are in order.
use Rattle.rota_cost.proofs.Common.{◌≡◌, inl, inr, ℕ, ◌+◌, ◌<◌, ◌≤◌, true, false, cond, ◌&&◌, ◌||◌, ◌==◌, List, [], ◌∷◌, ◌++◌, refl, sym, ap, ◌∙◌, arith, nat_lt, and_parts, eqb-true, ltb-true, or_cases, cases_lt, ne_eqb, and_left, and_right, is_less_list, Row, is_on, duty_of, is_before, heads_of, is_in_order, IsLater, IsRun}
use Rattle.rota_cost.specs.declared.judging.Run.{Run}
use Rattle.rota_cost.proofs.RowLaw.{order_push, heads_push}

-- where a row isn't of a shift and day, they have the duties that they had
push_off : (before : List Row) (r : Row) (s day : ℕ) → is_on s day (duty_of r) ≡ false → heads_of (before ++ r ∷ []) s day ≡ heads_of before s day
push_off before r s day off =
    let e : heads_of (before ++ r ∷ []) s day ≡ heads_of before s day + cond (is_on s day (duty_of r)) r.count 0 = heads_push before r s day in
    let z : ◌≡◌ {A = ℕ} (cond (is_on s day (duty_of r)) r.count 0) 0 = ap (λ b. cond b r.count 0) off in
    omega arith

-- a row of an earlier shift and day isn't of a later one
off_later : (r : Row) (s day : ℕ) → IsLater r.shift r.day s day → is_on s day (duty_of r) ≡ false
off_later r s day l =
    elim l [
      | inl a ↦ and_left _ (r.day == day) (ne_eqb r.shift s (λ e. absurd (omega arith)))
      | inr b ↦ and_right (r.shift == s) _ (ne_eqb r.day day (λ e. absurd (omega (arith, b.1))))
    ]

before_not_later : (a b : Row) → is_before a b ≡ true → IsLater b.shift b.day a.shift a.day → ⊥
before_not_later a b h l =
    elim (or_cases (nat_lt a.shift b.shift) ((a.shift == b.shift) && (nat_lt a.day b.day || ((a.day == b.day) && is_less_list a.breaks b.breaks))) h) [
      | inl less ↦ let low : a.shift < b.shift = ltb-true _ _ less in elim l [ inl p ↦ omega arith | inr q ↦ omega (arith, q.0) ]
      | inr rest ↦
          let p = and_parts (a.shift == b.shift) (nat_lt a.day b.day || ((a.day == b.day) && is_less_list a.breaks b.breaks)) rest in
          let same : a.shift ≡ b.shift = eqb-true _ _ p.0 in
          let days : a.day ≤ b.day = elim (or_cases (nat_lt a.day b.day) ((a.day == b.day) && is_less_list a.breaks b.breaks) p.1) [
            | inl d ↦ let low : a.day < b.day = ltb-true _ _ d in omega arith
            | inr d ↦ let e : a.day ≡ b.day = eqb-true _ _ (and_parts (a.day == b.day) (is_less_list a.breaks b.breaks) d).0 in omega arith
          ] in
          elim l [ inl q ↦ omega arith | inr q ↦ omega (arith, q.1) ]
    ]

later_trans : (s day t other u last : ℕ) → (IsLater t other s day → ⊥) → IsLater t other u last → IsLater s day u last
later_trans s day t other u last never l =
    elim (cases_lt s u) [
      | inl low ↦ inl low
      | inr high ↦
          let first : s ≤ t = elim (cases_lt t s) [ inl x ↦ absurd (never (inl x)) | inr y ↦ y ] in
          elim l [
            | inl x ↦ absurd (omega arith)
            | inr q ↦
                let e : t ≡ s = omega (arith, q.0) in
                let d : day ≤ other = elim (cases_lt other day) [ inl x ↦ absurd (never (inr (e, x))) | inr y ↦ y ] in
                inr (omega (arith, q.0), omega (arith, q.1))
          ]
    ]

-- the run behind a row in order
pub run_next : (before : List Row) (run : Run) (r : Row) (n : ℕ) → IsRun before run → is_in_order before r ≡ true → n ≡ heads_of (before ++ r ∷ []) r.shift r.day → IsRun (before ++ r ∷ []) (record { shift = r.shift; day = r.day; heads = n })
run_next before run r n h order e = record {
  heads = e;
  later = λ s day l. push_off before r s day (off_later r s day l) ∙ h.later s day (later_trans run.shift run.day r.shift r.day s day (h.order r order) l);
  order = λ q o. before_not_later r q (sym (order_push before r q) ∙ o);
}
