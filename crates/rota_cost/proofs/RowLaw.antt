-- Rows have no fault exactly where they are legal.
use Rattle.rota_cost.proofs.Common.{◌≡◌, inl, inr, ℕ, zero, suc, ◌+◌, ◌<◌, ◌≤◌, Bool, true, cond, ◌==◌, List, [], ◌∷◌, ◌++◌, length, drop, get_or, replicate, refl, sym, ap, ◌∙◌, subst, arith, sum_by, nat_le, nat_lt, Option, Some, None, append_assoc, Result, Ok, Err, MatchResult, IsOk, IsTrue, ◌↔◌, list_all, zip, option_or, and_parts, and_from, le-leb, ltb-true, ltb-false, lt-ltb, le-ltb, eqb-true, false≢true, cases_Bool, not-false, not_from_true, sum_by_push, sum_by-append, list_all-append, Has-append_right, Has-flat_map, all_at, all_from, Row, Problem, shift_list, is_list_of, is_on, heads_on, is_legal_duty, is_legal_rota, rota_of, duty_of, is_before, are_legal_rows, heads_within, legal_duties, heads_of, is_in_order, row_causes, fault_from, row_fault, heads_rows}
use Rattle.std.proofs.lemmas.List.{append-nil}
use Rattle.break_rules.specs.Causes.{first_cause}
use Rattle.break_rules.proofs.Causes.{no_cause, none_from_no_cause}
use Rattle.rota_cost.specs.declared.RowFault.{RowFault}
use Rattle.rota_cost.proofs.Counting.{LegalRows, legal_rows_parts, Has_copy}

or_none : {E : Type 0} (a b : Option E) → option_or a b ≡ None → (a ≡ None) × (b ≡ None)
or_none None b h = (refl, h)
or_none (Some x) b h = absurd (cc)

or_pass : {E : Type 0} (a b : Option E) → a ≡ None → b ≡ None → option_or a b ≡ None
or_pass None b h g = g
or_pass (Some x) b h g = absurd (cc)

-- a row without a fault
pub record RowOk (i : Problem) (before : List Row) (r : Row) : Type 0 where
  pub shift : r.shift < length (shift_list i)
  pub day : r.day < i.days
  pub breaks : is_list_of i r.shift r.breaks ≡ true
  pub counted : nat_lt 0 r.count ≡ true
  pub heads : heads_of (before ++ r ∷ []) r.shift r.day ≤ i.heads
  pub order : is_in_order before r ≡ true

pub ok_from_none : (i : Problem) (before : List Row) (r : Row) (at : ℕ) → first_cause (row_causes i before r at) ≡ None → RowOk i before r
ok_from_none i before r at h =
    let n = no_cause (row_causes i before r at) h in
    record { shift = ltb-true _ _ (not-false _ n.0); day = ltb-true _ _ (not-false _ n.1.0); breaks = not-false _ n.1.1.0; counted = not-false _ n.1.1.1.0; heads = ltb-false _ _ n.1.1.1.1.0; order = not-false _ n.1.1.1.1.1.0 }

none_from_ok : (i : Problem) (before : List Row) (r : Row) (at : ℕ) → RowOk i before r → first_cause (row_causes i before r at) ≡ None
none_from_ok i before r at k =
    none_from_no_cause (row_causes i before r at)
    (not_from_true _ (lt-ltb _ _ k.shift), (not_from_true _ (lt-ltb _ _ k.day), (not_from_true _ k.breaks, (not_from_true _ k.counted, (le-ltb _ _ k.heads, (not_from_true _ k.order, tt))))))

abbrev pub AllOk : Problem → List Row → List Row → Type 0
AllOk i before [] = Unit {0}
AllOk i before (r ∷ rows) = RowOk i before r × AllOk i (before ++ r ∷ []) rows

all_ok_from_none : (i : Problem) (before rows : List Row) → fault_from i before rows ≡ None → AllOk i before rows
all_ok_from_none i before [] h = tt
all_ok_from_none i before (r ∷ rows) h =
    let p = or_none (first_cause (row_causes i before r (length before))) (fault_from i (before ++ r ∷ []) rows) h in
    (ok_from_none i before r (length before) p.0, all_ok_from_none i (before ++ r ∷ []) rows p.1)

none_from_all_ok : (i : Problem) (before rows : List Row) → AllOk i before rows → fault_from i before rows ≡ None
none_from_all_ok i before [] h = refl
none_from_all_ok i before (r ∷ rows) h =
    or_pass (first_cause (row_causes i before r (length before))) (fault_from i (before ++ r ∷ []) rows) (none_from_ok i before r (length before) h.0) (none_from_all_ok i (before ++ r ∷ []) rows h.1)

-- ---- from rows without a fault to legal rows
pub order_push : (before : List Row) (r q : Row) → is_in_order (before ++ r ∷ []) q ≡ is_before r q
order_push [] r q = refl
order_push (p ∷ []) r q = refl
order_push (p ∷ o ∷ before) r q = order_push (o ∷ before) r q

sorted_from : (i : Problem) (before rows : List Row) → AllOk i before rows → list_all (λ p. is_before p.0 p.1) (zip rows (drop 1 rows)) ≡ true
sorted_from i before [] h = refl
sorted_from i before (r ∷ []) h = refl
sorted_from i before (r ∷ q ∷ rows) h =
    and_from (is_before r q) _ (sym (order_push before r q) ∙ h.1.0.order) (sorted_from i (before ++ r ∷ []) (q ∷ rows) h.1)

counted_from : (i : Problem) (before rows : List Row) → AllOk i before rows → list_all (λ r. nat_lt 0 r.count) rows ≡ true
counted_from i before [] h = refl
counted_from i before (r ∷ rows) h = and_from (nat_lt 0 r.count) _ h.0.counted (counted_from i (before ++ r ∷ []) rows h.1)

all_copies : {X : Type 0} (p : X → Bool) (n : ℕ) (x : X) → p x ≡ true → list_all p (replicate n x) ≡ true
all_copies p zero x h = refl
all_copies p (suc n) x h = and_from (p x) (list_all p (replicate n x)) h (all_copies p n x h)

duties_from : (i : Problem) (before rows : List Row) → AllOk i before rows → list_all (is_legal_duty i) (rota_of rows) ≡ true
duties_from i before [] h = refl
duties_from i before (r ∷ rows) h =
    list_all-append (is_legal_duty i) (replicate r.count (duty_of r)) (rota_of rows)
    ∙ and_from (list_all (is_legal_duty i) (replicate r.count (duty_of r))) (list_all (is_legal_duty i) (rota_of rows))
    (all_copies (is_legal_duty i) r.count (duty_of r) (and_from (nat_lt r.day i.days) (is_list_of i r.shift r.breaks) (lt-ltb _ _ h.0.day) h.0.breaks))
    (duties_from i (before ++ r ∷ []) rows h.1)

pub heads_push : (rows : List Row) (r : Row) (s day : ℕ) → heads_of (rows ++ r ∷ []) s day ≡ heads_of rows s day + cond (is_on s day (duty_of r)) r.count 0
heads_push rows r s day = sum_by_push (λ r. cond (is_on s day (duty_of r)) r.count 0) rows r

heads_more : (i : Problem) (before : List Row) (r : Row) → RowOk i before r → ((s day : ℕ) → heads_of before s day ≤ i.heads) → (s day : ℕ) → heads_of (before ++ r ∷ []) s day ≤ i.heads
heads_more i before r ok h s day =
    elim (cases_Bool (is_on s day (duty_of r))) [
      | inl on ↦
          let p = and_parts (r.shift == s) (r.day == day) on in
          let a : r.shift ≡ s = eqb-true _ _ p.0 in
          let b : r.day ≡ day = eqb-true _ _ p.1 in
          subst (λ (k : ℕ). heads_of (before ++ r ∷ []) k day ≤ i.heads) a (subst (λ (k : ℕ). heads_of (before ++ r ∷ []) r.shift k ≤ i.heads) b ok.heads)
      | inr off ↦
          let e : heads_of (before ++ r ∷ []) s day ≡ heads_of before s day + cond (is_on s day (duty_of r)) r.count 0 = heads_push before r s day in
          let z : ◌≡◌ {A = ℕ} (cond (is_on s day (duty_of r)) r.count 0) 0 = ap (λ b. cond b r.count 0) off in
          let k : heads_of before s day ≤ i.heads = h s day in
          omega arith
    ]

heads_all : (i : Problem) (before rows : List Row) → AllOk i before rows → ((s day : ℕ) → heads_of before s day ≤ i.heads) → (s day : ℕ) → heads_of (before ++ rows) s day ≤ i.heads
heads_all i before [] ok h s day = subst (λ (rows : List Row). heads_of rows s day ≤ i.heads) (sym (append-nil before)) (h s day)
heads_all i before (r ∷ rows) ok h s day =
    subst (λ (rows : List Row). heads_of rows s day ≤ i.heads) (append_assoc before (r ∷ []) rows)
    (heads_all i (before ++ r ∷ []) rows ok.1 (heads_more i before r ok.0 h) s day)

pub legal_from_none : (i : Problem) (rows : List Row) → row_fault i rows ≡ None → are_legal_rows i rows ≡ true
legal_from_none i rows h =
    let ok = all_ok_from_none i [] rows h in
    let rota = rota_of rows in
    let heads = all_from (λ d. nat_le (heads_on rota d.shift d.day) i.heads) rota (λ d m.
    le-leb _ _ (subst (λ (n : ℕ). n ≤ i.heads) (sym (heads_rows rows d.shift d.day)) (heads_all i [] rows ok (λ s day. omega arith) d.shift d.day))) in
    and_from _ (is_legal_rota i rota)
    (and_from (list_all (λ p. is_before p.0 p.1) (zip rows (drop 1 rows))) (list_all (λ r. nat_lt 0 r.count) rows) (sorted_from i [] rows ok) (counted_from i [] rows ok))
    (and_from (list_all (is_legal_duty i) rota) (list_all (λ d. nat_le (heads_on rota d.shift d.day) i.heads) rota) (duties_from i [] rows ok) heads)

-- ---- and back
order_at : (before : List Row) (r : Row) (rows : List Row) → list_all (λ p. is_before p.0 p.1) (zip (before ++ r ∷ rows) (drop 1 (before ++ r ∷ rows))) ≡ true → is_in_order before r ≡ true
order_at [] r rows h = refl
order_at (p ∷ []) r rows h = (and_parts (is_before p r) (list_all (λ p. is_before p.0 p.1) (zip (r ∷ rows) (drop 1 (r ∷ rows)))) h).0
order_at (p ∷ q ∷ before) r rows h =
    order_at (q ∷ before) r rows (and_parts (is_before p q) (list_all (λ p. is_before p.0 p.1) (zip (q ∷ (before ++ r ∷ rows)) (before ++ r ∷ rows))) h).1

ok_from : (i : Problem) (before rows : List Row) → LegalRows i (before ++ rows) → AllOk i before rows
ok_from i before [] h = tt
ok_from i before (r ∷ rows) h =
    let all = before ++ r ∷ rows in
    let m = Has-append_right before (r ∷ rows) r (inl refl) in
    let counted = all_at (λ r. nat_lt 0 r.count) all r h.counted m in
    let l = legal_duties i (rota_of all) h.legal (duty_of r) (Has-flat_map (λ r. replicate r.count (duty_of r)) all r (duty_of r) m (Has_copy r.count (duty_of r) counted)) in
    let whole : heads_on (rota_of all) r.shift r.day ≤ i.heads = heads_within i (rota_of all) h.legal r.shift r.day in
    let f : Row → ℕ = λ q. cond (is_on r.shift r.day (duty_of q)) q.count 0 in
    let same : heads_on (rota_of all) r.shift r.day ≡ heads_of all r.shift r.day = heads_rows all r.shift r.day in
    let split : sum_by f ((before ++ r ∷ []) ++ rows) ≡ sum_by f (before ++ r ∷ []) + sum_by f rows = sum_by-append f (before ++ r ∷ []) rows in
    let regrouped : sum_by f ((before ++ r ∷ []) ++ rows) ≡ heads_of all r.shift r.day = ap (sum_by f) (append_assoc before (r ∷ []) rows) in
    let front : heads_of (before ++ r ∷ []) r.shift r.day ≤ i.heads = omega arith in (
      record { shift = l.shift; day = l.day; breaks = l.breaks; counted = counted; heads = front; order = order_at before r rows h.sorted },
      ok_from i (before ++ r ∷ []) rows (subst (λ (rows : List Row). LegalRows i rows) (sym (append_assoc before (r ∷ []) rows)) h),
    )

pub none_from_legal : (i : Problem) (rows : List Row) → are_legal_rows i rows ≡ true → row_fault i rows ≡ None
none_from_legal i rows h = none_from_all_ok i [] rows (ok_from i [] rows (legal_rows_parts i rows h))

-- the last row before
pub order_last : (rows : List Row) (n : ℕ) (p r : Row) → length rows ≡ suc n → p ≡ get_or rows n p → is_in_order rows r ≡ is_before p r
order_last [] n p r h e = absurd (omega arith)
order_last (q ∷ []) zero p r h e = ap (λ (x : Row). is_before x r) (sym e)
order_last (q ∷ []) (suc n) p r h e = absurd (omega arith)
order_last (q ∷ o ∷ rows) zero p r h e = absurd (omega arith)
order_last (q ∷ o ∷ rows) (suc n) p r h e = order_last (o ∷ rows) n p r (omega arith) e

-- what judging rows answers, and whether they are legal
pub legal_by_answer : (i : Problem) (rows : List Row) (r : Result (Unit {0}) RowFault) → MatchResult r (λ _. row_fault i rows ≡ None) (λ e. row_fault i rows ≡ Some e) → IsOk r ↔ IsTrue (are_legal_rows i rows)
legal_by_answer i rows (Ok u) h = (λ _. legal_from_none i rows h, λ _. refl)
legal_by_answer i rows (Err e) h = (λ ok. absurd (false≢true ok), λ l. let none = none_from_legal i rows l in absurd (cc))
