use Rattle.bound_sums.proofs.Common.{◌≡◌, ◌≤◌, ◌<◌, ◌+◌, ◌*◌, ◌^◌, ℕ, ℤ, ◌+ℤ◌, length, length-set, sym, ap, ◌∙◌, subst, arith, shift_list, term, int_sum_below_more, IsKept}
use Rattle.bound_sums.proofs.Keeping.{kept_more}
use Rattle.bound_sums.proofs.Sizes.{added, added_small}
use Rattle.bound_sums.proofs.kept.kept_terms.Goals as goal

pub loop-shift-preserved : goal.loop-shift-preserved
loop-shift-preserved g c =
    let i = c.args.instance.now in
    let slots = c.args.prices.now.slots in
    let few : length (shift_list i) ≤ 1024 = c.shifts.ensures.valid.shifts in
    let count = c.shifts.ensures.count in
    let held = c.loop-shift.invariant in
    let k = c.loop-shift.shift in
    let before = c.loop-shift-test.true in
    let end = c.loop-shift.auto.shift-end in
    let places : length c.loop-shift.known ≡ length c.args.known.now = held.places in
    let all : length c.args.known.now ≡ length (shift_list i) = c.requires.places in
    let at = c.from.ensures in
    let inside : c.from.result < length c.loop-shift.known = omega arith in
    let entry = c.values_of.new.known in
    let f : ℕ → ℤ = term i c.args.cuts.now c.args.prices.now in
    let limit : (k + 1) * 2 ^ 94 < 2 ^ 127 = omega arith in
    let z = c.found_term-sum.result in
    record {
      serves = c.values_of.ensures.serves;
      places = length-set c.loop-shift.known c.from.result entry ∙ places;
      kept = λ s. kept_more (IsKept i slots) c.loop-shift.known c.from.result entry inside (subst (λ n. IsKept i slots n entry) (sym at) c.values_of.ensures.kept) s (λ ne. held.kept s);
      sum = added _ z (f k) k (2 ^ 94) (record { sfits = c.found_term-sum.type_inv }) c.found_term-sum.ensures.term c.found_term-sum.ensures.small held.small limit
          ∙ ap (λ (z : ℤ). z +ℤ f k) held.sum ∙ sym (int_sum_below_more f k);
      small = added_small _ z (f k) k (2 ^ 94) (record { sfits = c.found_term-sum.type_inv }) c.found_term-sum.ensures.term c.found_term-sum.ensures.small held.small limit;
    }
