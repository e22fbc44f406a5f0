use Rattle.break_layers.proofs.Common.{rules, ◌≡◌, ◌≢◌, ◌<◌, inl, inr, ℕ, ℤ, pos, get_or, [], List, refl, sym, ap, subst, ◌∙◌, arith, to_z, of_z, w64, to_z-of_z, AreSums, sum_at, NOTHING, number_in, IsValueOrNothing, AreLayers, layer_place}
use Rattle.price_sums.specs.Days.{sums_on}
use Rattle.break_layers.proofs.Ending.{layer_known, live_some, value_none, value_some}
use Rattle.break_layers.proofs.Following.{none_legal}
use Rattle.break_layers.proofs.days.most_by_lane.Goals as goal

pub returns-then-most : goal.returns-then-most
returns-then-most c =
    let rule = c.args.rule.now in
    let len = c.args.len in
    let sums = sums_on 0 c.args.sums.now in
    let table = c.set_layers.new.table.items in
    let layers : AreLayers rule len sums (sums_on 0 table) = c.in_ok-set_layers.ensures 0 (omega arith) c.requires.sums in
    let at : sum_at c.number_at-most.result 0 ≡ number_in (sums_on 0 table) (layer_place rule len c.opening.result) =
    c.number_at-most.ensures 0 (omega arith) ∙ ap (λ (l : List (List ℤ)). number_in (sums_on 0 l) c.place.result) c.deref.ensures.value ∙ ap (number_in (sums_on 0 table)) c.place.ensures in
    let first : ℤ = get_or c.number_at-most.result 0 (pos 0) in
    let none : first ≡ NOTHING = sym (to_z-of_z w64 first (search rules)) ∙ ap (to_z w64) c.if-most.true in
    none_legal rule len
    (value_none rule len sums [] c.requires.rule c.requires.sums
    (subst (IsValueOrNothing rule len sums []) (sym at ∙ none) (layer_known rule len sums [] c.requires.rule (sums_on 0 table) c.opening.result layers refl (c.opening.ensures rule))))

pub returns-else-most : goal.returns-else-most
returns-else-most c = λ day d s.
    let rule = c.args.rule.now in
    let len = c.args.len in
    let table = c.set_layers.new.table.items in
    let known : (day : ℕ) → day < 8 → AreSums len (sums_on day c.args.sums.now) → IsValueOrNothing rule len (sums_on day c.args.sums.now) [] (sum_at c.number_at-most.result day) =
    λ day d s.
    let sums = sums_on day c.args.sums.now in
    let layers : AreLayers rule len sums (sums_on day table) = c.in_ok-set_layers.ensures day d s in
    let at : sum_at c.number_at-most.result day ≡ number_in (sums_on day table) (layer_place rule len c.opening.result) =
    c.number_at-most.ensures day d ∙ ap (λ (l : List (List ℤ)). number_in (sums_on day l) c.place.result) c.deref.ensures.value ∙ ap (number_in (sums_on day table)) c.place.ensures in
    subst (IsValueOrNothing rule len sums []) (sym at) (layer_known rule len sums [] c.requires.rule (sums_on day table) c.opening.result layers refl (c.opening.ensures rule)) in
    let first = known 0 (omega arith) c.requires.sums in
    let some : sum_at c.number_at-most.result 0 ≢ NOTHING = λ none. c.if-most.false (ap (of_z w64) none) in
    value_some rule len (sums_on day c.args.sums.now) [] c.requires.rule s (sum_at c.number_at-most.result day)
    (elim first.reached [
      | inl none ↦ absurd (some none)
      | inr f ↦ live_some rule len (sums_on day c.args.sums.now) [] f.0 (sum_at c.number_at-most.result day) f.1 (known day d s)
    ]) (known day d s)
