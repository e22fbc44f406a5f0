-- What is known of shifts, from one price set to the next.
use Rattle.bound_sums.proofs.Common.{◌≡◌, ◌⊎◌, inl, inr, ℕ, ◌+◌, ◌*◌, ◌<◌, ◌≤◌, ℤ, pos, ◌≤ℤ◌, Bool, true, false, cond, List, [], ◌∷◌, length, set, get_or, refl, sym, ◌∙◌, subst, arith, Option, Some, None, slice_get, MatchOption, is_some, unsigned_abs, false≢true, cases_eq, cases_lt, Decides-int_eq, ints, All-from_get_or, Rule, Shift, Problem, day_slots, shift_list, slot_of, slots, lists_of, IsValid, price_of, sum_at, AreSmallPrices, sums_on, AreSumsByDay, Cut, Prices, is_nil, has_prefix_cut, IsKept, mark, AreMarks, AreValues}
use Rattle.std.specs.Ordering.{int_eq}
use Rattle.std.proofs.lemmas.Nat.{mod_below}
use Rattle.std.proofs.lemmas.Option.{slice_get-get_or}
use Rattle.std.proofs.lemmas.List.{get_or_past, get_or-set_same, get_or-set_other}
use Rattle.bound_sums.proofs.Unseen.{level, values_alone, values_with, values_unseen}

-- what is known of a shift, and what is found
module _ (i : Problem) (cuts : List Cut) (prices : Prices) (s : ℕ) (none : has_prefix_cut cuts s ≡ false) where
  pub known_values : (known : Option (List ℤ)) → is_some known ≡ true → IsKept i prices.slots s known → MatchOption known (is_nil (lists_of i s) ≡ true) (λ values. AreValues i cuts prices s i.days values)
  known_values None some held = absurd (false≢true some)
  known_values (Some values) some held = values_with i s cuts prices none values held

  pub found_kept : (found : Option (List ℤ)) → MatchOption found (is_nil (lists_of i s) ≡ true) (λ values. AreValues i cuts prices s i.days values) → IsKept i prices.slots s found
  found_kept None found = tt
  found_kept (Some values) found = values_alone i s cuts prices none values found

-- one place changed
pub kept_more : (P : ℕ → Option (List ℤ) → Type 0) (known : List (Option (List ℤ))) (k : ℕ) (entry : Option (List ℤ)) → k < length known → P k entry → (s : ℕ) → ((s ≡ k → ⊥) → P s (get_or known s None))
    → P s (get_or (set known k entry) s None)
kept_more P known k entry inside here s before =
    elim (cases_eq s k) [
      | inl e ↦ subst (λ (n : ℕ). P n (get_or (set known k entry) n None)) (sym e) (subst (P k) (sym (get_or-set_same known k entry None inside)) here)
      | inr ne ↦ subst (P s) (sym (get_or-set_other known k s entry None ne)) (before ne)
    ]

-- the shift of a number
some_shift : (xs : List (Shift × Rule)) (s : ℕ) → s < length xs → (x : Shift × Rule) × (slice_get xs s ≡ Some x)
some_shift [] s inside = absurd (omega arith)
some_shift (x ∷ xs) s inside = (get_or (x ∷ xs) s x, slice_get-get_or (x ∷ xs) s x inside)

-- marks
mark_cases : (old new : ℤ) → (mark old new ≡ pos 0) ⊎ (mark old new ≡ pos 1)
mark_cases old new = cases (int_eq old new)
  where
    cases : (b : Bool) → (cond b (pos 0) (pos 1) ≡ pos 0) ⊎ (cond b (pos 0) (pos 1) ≡ pos 1)
    cases true = inl refl
    cases false = inr refl

unmarked_same : (old new : ℤ) → mark old new ≡ pos 0 → old ≡ new
unmarked_same old new h = (Decides-int_eq old new).0 (cases (int_eq old new) h)
  where
    cases : (b : Bool) → cond b (pos 0) (pos 1) ≡ pos 0 → b ≡ true
    cases true h = refl
    cases false h = absurd (let one : pos 1 ≡ pos 0 = h in omega (arith, ints))

module _ (old new marks : List ℤ) (held : AreMarks old new marks) where
  mark_at : (t : ℕ) → (price_of marks t ≡ pos 0) ⊎ (price_of marks t ≡ pos 1)
  mark_at t =
      elim (cases_lt t (length new)) [
        | inl less ↦ elim (mark_cases (price_of old t) (price_of new t)) [ inl z ↦ inl (held.each t less ∙ z) | inr o ↦ inr (held.each t less ∙ o) ]
        | inr past ↦ inl (get_or_past marks t (pos 0) (let many = held.count in omega arith))
      ]

  pub marks_up : (t : ℕ) → pos 0 ≤ℤ price_of marks t
  marks_up t = elim (mark_at t) [ inl z ↦ (let e : price_of marks t ≡ pos 0 = z in omega (arith, ints)) | inr o ↦ (let e : price_of marks t ≡ pos 1 = o in omega (arith, ints)) ]

  pub marks_small : AreSmallPrices marks
  marks_small =
      All-from_get_or (λ (z : ℤ). unsigned_abs z ≤ 10000000000) marks (pos 0) (λ t inside.
      elim (mark_at t) [
        | inl z ↦ subst (λ (z : ℤ). unsigned_abs z ≤ 10000000000) (sym z) (omega arith)
        | inr o ↦ subst (λ (z : ℤ). unsigned_abs z ≤ 10000000000) (sym o) (omega arith)
      ])

  -- what is known of a shift without a marked slot stays known
  module _ (i : Problem) (s : ℕ) (valid : IsValid i) (count : length new ≡ slots i) (inside : s < length (shift_list i)) where
    abbrev pub SeesNoMark : Type 0
    SeesNoMark = (x : Shift × Rule) → slice_get (shift_list i) s ≡ Some x → (day : ℕ) → day < i.days → (offset : ℕ) → offset < x.0.len → price_of marks (slot_of i x.0 day offset) ≡ pos 0

    pub kept_unmarked : SeesNoMark → (known : Option (List ℤ)) → IsKept i old s known → IsKept i new s known
    kept_unmarked unmarked None kept = tt
    kept_unmarked unmarked (Some values) kept =
        let x = some_shift (shift_list i) s inside in
        values_unseen i s x.0 old new values x.1 (λ day less y is offset within.
        let t = slot_of i y.0 day offset in
        let below : t < slots i = mod_below (day * day_slots i + y.0.start + offset) (slots i) valid.some_slots in
        unmarked_same (price_of old t) (price_of new t) (sym (held.each t (omega arith)) ∙ unmarked y is day less offset within)) kept

-- no slot is marked between two sums that are the same
pub unmarked_between : (i : Problem) (shift : Shift) (marks : List ℤ) (lanes : List (List ℤ)) (day offset : ℕ) → AreSumsByDay i shift marks lanes → ((t : ℕ) → pos 0 ≤ℤ price_of marks t) → day < i.days
    → sum_at (sums_on day lanes) 0 ≡ sum_at (sums_on day lanes) shift.len → offset < shift.len → price_of marks (slot_of i shift day offset) ≡ pos 0
unmarked_between i shift marks lanes day offset sums up less same inside =
    sym (sums.each day less offset inside)
    ∙ level (sums_on day lanes) shift.len (λ o l. subst (λ (z : ℤ). pos 0 ≤ℤ z) (sym (sums.each day less o l)) (up (slot_of i shift day o))) same offset inside
