use Rattle.pricing.proofs.Common.{◌≡◌, ◌+◌, ◌++◌, ◌∷◌, [], ℤ, length, length-append, sym, ap, subst, ◌∙◌, arith, w64, to_z-of_z, AreValues}
use Rattle.pricing.proofs.ByEdges.{values_more}
use Rattle.pricing.proofs.values.node_values.Goals as goal

pub loop-k-init : goal.loop-k-init
loop-k-init c = record { many = ap length c.in_ok-values.ensures.items; known = λ k list less st. absurd (omega (arith, less)) }

pub value_of-value-requires-clause-known : goal.value_of-value-requires-clause-known
value_of-value-requires-clause-known c =
    subst (AreValues c.args.rule.now c.args.len c.args.sums.now c.args.graph.now c.loop-k.k) (sym c.deref.ensures.value) c.loop-k.invariant.known

pub loop-k-preserved : goal.loop-k-preserved
loop-k-preserved c =
    let values = c.loop-k.values.items in
    let x = c.value_of-value.result in
    let i = c.loop-k.invariant in
    let items : c.push.new.self.items ≡ values ++ x ∷ [] =
    c.in_ok-push.ensures.items ∙ ap (λ (z : ℤ). values ++ z ∷ []) (to_z-of_z w64 x (record { sfits = c.value_of-value.type_inv })) in
    record {
      many = ap length items ∙ length-append values (x ∷ []) ∙ omega (arith, i.many);
      known = subst (AreValues c.args.rule.now c.args.len c.args.sums.now c.args.graph.now (c.loop-k.k + 1)) (sym items)
          (values_more c.args.rule.now c.args.len c.args.sums.now c.args.graph.now c.loop-k.k values x i.many i.known c.value_of-value.ensures);
    }

pub returns : goal.returns
returns c = λ k list less st. c.loop-k.invariant.known k list (omega (arith, less, c.loop-k-test.false)) st
