use Rattle.bound_sums.proofs.Common.{◌≡◌, ◌⊎◌, inl, inr, ◌≤◌, ◌<◌, ◌+◌, ℕ, ℤ, List, length, length-set, get_or, set, sym, ap, ◌∙◌, subst, arith, Option, None, shift_list, slot_of, price_of, Priced, IsKept, AreMarks}
use Rattle.bound_sums.proofs.Keeping.{kept_more, kept_unmarked, SeesNoMark}
use Rattle.bound_sums.proofs.changes.forget_changed.Goals.{then-not-sees_no_mark, else-not-sees_no_mark}
use Rattle.bound_sums.proofs.changes.forget_changed.Goals as goal

up_to : (s k : ℕ) → s < k + 1 → (s < k) ⊎ (s ≡ k)
up_to s k less = grind arith

pub loop-shift-preserved : goal.loop-shift-preserved
loop-shift-preserved c =
    let i = c.args.instance.now in
    let old = c.args.old.now in
    let new = c.args.new.now in
    let held = c.loop-shift.invariant in
    let k = c.loop-shift.shift in
    let known = c.loop-shift.known in
    let after = c.if-not-sees_no_mark.known in
    let places : length known ≡ length c.args.known.now = held.places in
    let all : length c.args.known.now ≡ length (shift_list i) = c.requires.places in
    let before = c.loop-shift-test.true in
    let end = c.loop-shift.auto.shift-end in
    let count = c.shifts.ensures.count in
    let few : length (shift_list i) ≤ 1024 = c.shifts.ensures.valid.shifts in
    let inside : k < length (shift_list i) = omega arith in
    let marks : AreMarks old new c.in_ok-marks.marks.items = c.in_ok-marks.ensures in
    elim c.if-not-sees_no_mark.branch [
      | then-not-sees_no_mark w ↦
          let is : after ≡ set known w.from.result None = w.known-is in
          let at : w.from.result ≡ k = w.from.ensures in
          let within : w.from.result < length known = omega arith in
          record {
            places = ap length is ∙ length-set known w.from.result None ∙ places;
            before = λ s. subst (λ (xs : List (Option (List ℤ))). IsKept i old s (get_or xs s None)) (sym is) (kept_more (IsKept i old) known w.from.result None within tt s (λ ne. held.before s));
            now = λ s less. subst (λ (xs : List (Option (List ℤ))). IsKept i new s (get_or xs s None)) (sym is) (kept_more (IsKept i new) known w.from.result None within tt s (λ ne.
                elim (up_to s k less) [ inl l ↦ held.now s l | inr e ↦ absurd (ne (e ∙ sym at)) ]));
          }
      | else-not-sees_no_mark w ↦
          let is : after ≡ known = w.known-is in
          let same : c.in_ok-sums.sums.prices ≡ c.in_ok-marks.marks.items = ap (λ (p : Priced). p.prices) c.in_ok-sums.ensures ∙ c.as_slice.ensures.value in
          let unmarked : SeesNoMark old new c.in_ok-marks.marks.items marks i k c.shifts.ensures.valid c.requires.new inside = λ x e day less offset within.
          ap (λ (ms : List ℤ). price_of ms (slot_of i x.0 day offset)) (sym same) ∙ c.sees_no_mark.ensures.unmarked w.if-not-sees_no_mark.false x e day less offset within in
          record {
            places = ap length is ∙ places;
            before = λ s. subst (λ (xs : List (Option (List ℤ))). IsKept i old s (get_or xs s None)) (sym is) (held.before s);
            now = λ s less. subst (λ (xs : List (Option (List ℤ))). IsKept i new s (get_or xs s None)) (sym is)
                (elim (up_to s k less) [
                  | inl l ↦ held.now s l
                  | inr e ↦ subst (λ (n : ℕ). IsKept i new n (get_or known n None)) (sym e) (kept_unmarked old new c.in_ok-marks.marks.items marks i k c.shifts.ensures.valid c.requires.new inside unmarked (get_or known k None) (held.before k))
                ]);
          }
    ]
