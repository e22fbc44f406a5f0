use Rattle.break_layers.proofs.Common.{◌≡◌, ℤ, List, map, sym, subst, ◌∙◌, arith, map-id, AreSums, AreLayers}
use Rattle.break_layers.proofs.values.LayerValues.new.Goals as goal

pub invariant_of-result : goal.invariant_of-result
invariant_of-result c =
    let rule = c.args.rule.now in
    let len = c.args.len in
    let same : map (λ (z : ℤ). z) c.deref.result.now ≡ c.args.sums.items = map-id c.deref.result.now ∙ c.deref.ensures.value in
    let table = c.set_layers.new.table.items in
    let made : AreLayers rule len (map (λ (z : ℤ). z) c.deref.result.now) (map (λ (z : ℤ). z) table) = c.in_ok-set_layers.ensures 0 (omega arith) (subst (AreSums len) (sym same) c.requires.sums) in
    (c.requires.rule, c.requires.sums, subst (λ (s : List ℤ). AreLayers rule len s table) same (subst (AreLayers rule len (map (λ (z : ℤ). z) c.deref.result.now)) (map-id table) made))
