use Rattle.pricing.proofs.Common.{◌≡◌, ◌+◌, sym, ap, subst, ◌∙◌, to_z, of_z, w64, int_max, to_z-of_z, Edge, reach_of}
use Rattle.pricing.proofs.Most.{IsMostBefore, most_first, most_more, most_all, has_at, has_got}
use Rattle.pricing.proofs.values.most_reached.Goals as goal

pub loop-edge-init : goal.loop-edge-init
loop-edge-init c = record {
  most = λ fit.
      let reach = reach_of c.args.sums.now c.args.values.now in
      let is : c.reach-most.result ≡ reach c.args.first = c.reach-most.ensures (fit c.args.first (has_got c.args.edges.now 0 c.args.first c.requires.first)) in
      most_first reach c.args.edges.now c.args.first _ c.requires.first (sym is ∙ sym (to_z-of_z w64 c.reach-most.result (record { sfits = c.reach-most.type_inv })));
}

pub loop-edge-preserved : goal.loop-edge-preserved
loop-edge-preserved c = record {
  most = λ fit.
      let reach = reach_of c.args.sums.now c.args.values.now in
      let edges = c.args.edges.now in
      let i = c.loop-edge.edge-index in
      let d : Edge = record { stop = record { start = 0; len = 0 }; next = 0 } in
      let is = c.reach.ensures (fit _ (has_at edges i d c.loop-edge-test.true)) in
      let back : to_z w64 (of_z w64 c.reach.result) ≡ c.reach.result = to_z-of_z w64 c.reach.result (record { sfits = c.reach.type_inv }) in
      let most : to_z w64 (of_z w64 c.max-most.result) ≡ int_max (to_z w64 c.loop-edge.most-bits) c.reach.result =
      to_z-of_z w64 c.max-most.result (record { sfits = c.max-most.type_inv }) ∙ c.max-most.ensures.value ∙ ap (int_max (to_z w64 c.loop-edge.most-bits)) back in
      subst (IsMostBefore reach edges (i + 1)) (sym most) (most_more reach edges i d (to_z w64 c.loop-edge.most-bits) c.reach.result c.loop-edge-test.true (sym is) (c.loop-edge.invariant.most fit));
}

pub returns : goal.returns
returns c = λ fit. most_all (reach_of c.args.sums.now c.args.values.now) c.args.edges.now c.loop-edge.edge-index (to_z w64 c.loop-edge.most-bits) c.loop-edge-test.false (c.loop-edge.invariant.most fit)
