use Rattle.greedy.proofs.Common.{◌≡◌, ◌<◌, ◌∙◌, inl, inr, ℕ, ℤ, List, length, length-set, get_or, set, sym, ap, subst, arith, Option, None, rules, to_z, FitsSigned, w64, to_z-of_z, shift_list, some_at, sum_at, IsKnown}
use Rattle.greedy.proofs.Keeping.{known_left, place_set, up_to}
use Rattle.greedy.proofs.kept.forget_days.Goals.{then-before-day, else-before-day}
use Rattle.greedy.proofs.kept.forget_days.Goals as goal

pub loop-day-preserved : goal.loop-day-preserved
loop-day-preserved c =
    let i = c.args.instance.now in
    let s = c.args.shift in
    let old = c.args.old.now.prices in
    let new = c.args.new.now.prices in
    let day = c.loop-day.day in
    let known = c.loop-day.known in
    let held = c.loop-day.invariant in
    let many : length known ≡ 8 = held.many in
    let before = c.loop-day-test.true in
    let inside : day < length known = omega (arith, many, before) in
    elim c.if-before-day.branch [
      | then-before-day w ↦
          let is : c.if-before-day.known ≡ set known day None = w.known-is in
          record {
            many = ap length is ∙ length-set known day None ∙ many;
            before = λ d less. subst (λ (ds : List (Option ℤ)). IsKnown i old s d (get_or ds d None)) (sym is) (place_set (IsKnown i old s) None known day None inside tt d (λ ne. held.before d less));
            now = λ d soon less. subst (λ (ds : List (Option ℤ)). IsKnown i new s d (get_or ds d None)) (sym is) (place_set (IsKnown i new s) None known day None inside tt d (λ ne.
                elim (up_to d day soon) [ inl l ↦ held.now d l less | inr e ↦ absurd (ne e) ]));
          }
      | else-before-day w ↦
          let is : c.if-before-day.known ≡ known = w.known-is in
          let x = some_at (shift_list i) s c.requires.shift in
          let first : FitsSigned w64 (sum_at c.price_totals-before.result day) = search rules in
          let second : FitsSigned w64 (sum_at c.price_totals-now.result day) = search rules in
          let equal : sum_at c.price_totals-before.result day ≡ sum_at c.price_totals-now.result day =
          sym (to_z-of_z w64 (sum_at c.price_totals-before.result day) first) ∙ ap (to_z w64) w.if-before-day.false ∙ to_z-of_z w64 (sum_at c.price_totals-now.result day) second in
          record {
            many = ap length is ∙ many;
            before = λ d less. subst (λ (ds : List (Option ℤ)). IsKnown i old s d (get_or ds d None)) (sym is) (held.before d less);
            now = λ d soon less. subst (λ (ds : List (Option ℤ)). IsKnown i new s d (get_or ds d None)) (sym is) (elim (up_to d day soon) [
              | inl l ↦ held.now d l less
              | inr e ↦ subst (λ (n : ℕ). IsKnown i new s n (get_or known n None)) (sym e)
                  (let own : day < i.days = subst (λ (n : ℕ). n < i.days) e less in
                  known_left i s day x.0 x.1 old new (get_or known day None) c.requires.valid c.requires.falling
                  (sym (c.price_totals-before.ensures x.0 x.1 day own) ∙ equal ∙ c.price_totals-now.ensures x.0 x.1 day own) (held.before day own))
            ]);
          }
    ]
