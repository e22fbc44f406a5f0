use Rattle.cert_check.proofs.Common.{◌≡◌, ◌<◌, ◌≤◌, ◌^◌, ℕ, ℤ, false, List, [], Option, length, length-set, get_or, sym, ap, ◌∙◌, subst, arith, to_z, of_z, Some, refl, slice_get, ⊤, MatchOption, w128, unsigned_abs, to_z-of_z, Rule, is_live, is_legal, Shift, shift_list, Completes, sum_at, AreSums, Priced, AreSumsByDay, sums_on, cut_small, fits, IsGreatest, rest_worth, whole_worth, Break, IsMostEarned, IsValue, has_prefix_cut}
use Rattle.cert_check.proofs.ShiftTerms.{own_sums, own_value, values_set, own_nil}
use Rattle.cert_check.proofs.Values.{greatest_small}
use Rattle.cert_check.proofs.Whole.{whole_uncut}
use Rattle.cert_check.proofs.terms.values_by_layers.Goals as goal

pub layered_value-requires-clause-small : goal.layered_value-requires-clause-small
layered_value-requires-clause-small c k =
    subst (λ (xs : List ℕ). get_or xs k 0 ≤ 1000000000000) (sym c.as_slice-in-loop-day.ensures) (cut_small c.args.instance.now c.args.cuts.now c.args.prices.now c.requires.passes k)

pub layered_value-requires-clause-sums : goal.layered_value-requires-clause-sums
layered_value-requires-clause-sums c =
    let less : c.loop-day.day < c.args.instance.now.days = subst (λ (n : ℕ). c.loop-day.day < n) c.days-day-end.ensures.days c.loop-day-test.true in
    own_sums c.args.instance.now c.args.shift c.shift.result c.rule_of.result.now c.shift.ensures.shift c.rule_of.ensures.rule c.args.sums.now.prices c.along.result.now c.loop-day.day c.along.ensures less

pub loop-day-preserved : goal.loop-day-preserved
loop-day-preserved c =
    let i = c.args.instance.now in
    let cuts = c.as_slice.result.now in
    let prices = c.args.prices.now in
    let ps = c.as_slice-in-loop-day.result.now in
    let s = c.args.shift in
    let day = c.loop-day.day in
    let rule = c.rule_of.result.now in
    let len = c.shift.result.len in
    let lanes = c.along.result.now in
    let sums = sums_on day lanes in
    let less : day < i.days = subst (λ (n : ℕ). day < n) c.days-day-end.ensures.days c.loop-day-test.true in
    let of = subst (λ (ps : List ℤ). (x : Shift × Rule) → slice_get (shift_list i) s ≡ Some x → AreSumsByDay i x.0 ps lanes) (ap (λ (q : Priced). q.prices) c.requires.sums) c.along.ensures in
    let greatest : IsGreatest (Completes rule len []) (whole_worth cuts ps s day sums rule len []) c.in-Some-2.value =
    subst (λ (o : Option ℤ). MatchOption o (is_live rule len [] ≡ false) (λ v. IsGreatest (Completes rule len []) (whole_worth cuts ps s day sums rule len []) v)) c.in-Some-2.is c.in_ok-value.ensures.greatest in
    let size : unsigned_abs c.in-Some-2.value ≤ 2 ^ 74 = subst (λ (o : Option ℤ). MatchOption o ⊤ (λ v. unsigned_abs v ≤ 2 ^ 74)) c.in-Some-2.is c.in_ok-value.ensures.size in
    let own = own_value i s c.shift.result rule c.shift.ensures.shift c.rule_of.ensures.rule c.args.cuts.now cuts prices ps lanes day c.in-Some-2.value c.rule_of.ensures.valid c.as_slice.ensures c.as_slice-in-loop-day.ensures of less greatest size in
    let room : day < length c.loop-day.values = omega (arith, less, c.days-day-end.ensures.valid.days, c.loop-day.invariant.many) in
    let read : to_z w128 (of_z w128 c.in-Some-2.value) ≡ c.in-Some-2.value = to_z-of_z w128 _ (fits c.in-Some-2.value (2 ^ 74) size (omega arith)) in
    record {
      many = length-set c.loop-day.values c.from.result (to_z w128 (of_z w128 c.in-Some-2.value)) ∙ c.loop-day.invariant.many;
      known = values_set i c.args.cuts.now prices s day c.from.result c.loop-day.values c.in-Some-2.value _ c.from.ensures room read c.loop-day.invariant.known own;
    }

pub most_by_lane-requires-clause-sums : goal.most_by_lane-requires-clause-sums
most_by_lane-requires-clause-sums c =
    own_sums c.args.instance.now c.args.shift c.shift.result c.rule_of.result.now c.shift.ensures.shift c.rule_of.ensures.rule c.args.sums.now.prices c.along.result.now 0 c.along.ensures c.rule_of.ensures.valid.some_days

pub returns-in-Some : goal.returns-in-Some
returns-in-Some c =
    let i = c.args.instance.now in
    let cuts = c.args.cuts.now in
    let prices = c.args.prices.now in
    let s = c.args.shift in
    let rule = c.rule_of.result.now in
    let len = c.shift.result.len in
    let lanes = c.along.result.now in
    let most = c.in-Some.most in
    let of = subst (λ (ps : List ℤ). (x : Shift × Rule) → slice_get (shift_list i) s ≡ Some x → AreSumsByDay i x.0 ps lanes) (ap (λ (q : Priced). q.prices) c.requires.sums) c.along.ensures in
    let none : has_prefix_cut cuts s ≡ false = sym c.has_prefix_cut.ensures ∙ c.if-not-has_prefix_cut.true in
    let found : (day : ℕ) → day < 8 → AreSums len (sums_on day lanes) → IsMostEarned rule len (sums_on day lanes) [] (sum_at most day) =
    subst (λ (o : Option (List ℤ)). MatchOption o ((list : List Break) → is_legal rule len list ≡ false) (λ m. (day : ℕ) → day < 8 → AreSums len (sums_on day lanes) → IsMostEarned rule len (sums_on day lanes) [] (sum_at m day))) c.in-Some.is c.in_ok-most.ensures in
    record {
      each = λ day less.
          let week = c.rule_of.ensures.valid.days in
          let low : day < 8 = omega (arith, less, week) in
          let sums = sums_on day lanes in
          let small = own_sums i s c.shift.result rule c.shift.ensures.shift c.rule_of.ensures.rule c.args.sums.now.prices lanes day c.along.ensures less in
          let v : ℤ = sum_at most day in
          let earned = found day low small in
          let greatest : IsGreatest (Completes rule len []) (rest_worth sums rule len []) v = record { reached = earned.reached; greatest = earned.greatest } in
          let size = greatest_small sums rule len [] v small greatest in
          subst (IsValue i cuts prices s day) (sym (c.values_of_lane.ensures day low))
          (own_value i s c.shift.result rule c.shift.ensures.shift c.rule_of.ensures.rule cuts cuts prices prices.cuts lanes day v c.rule_of.ensures.valid refl refl of less
          (whole_uncut cuts prices.cuts s day sums rule len v none greatest) (omega (arith, size)));
    }

pub returns-in-None : goal.returns-in-None
returns-in-None c =
    let rule = c.rule_of.result.now in
    let len = c.shift.result.len in
    let lanes = c.along.result.now in
    own_nil c.args.instance.now c.args.shift c.shift.result rule c.shift.ensures.shift c.rule_of.ensures.rule
    (subst (λ (o : Option (List ℤ)). MatchOption o ((list : List Break) → is_legal rule len list ≡ false) (λ m. (day : ℕ) → day < 8 → AreSums len (sums_on day lanes) → IsMostEarned rule len (sums_on day lanes) [] (sum_at m day))) c.in-None.is c.in_ok-most.ensures)
