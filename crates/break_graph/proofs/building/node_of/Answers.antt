use Rattle.break_graph.proofs.Common.{◌≡◌, inl, inr, length, sym, ap, subst, ◌∙◌, arith, eqb-true, eqb-false, place_of, spot_of, walk_small, Node, LeadBelow}
use Rattle.break_graph.proofs.Nodes.{a_node, no_node}
use Rattle.break_graph.proofs.building.node_of.Goals as goal
use Rattle.break_graph.proofs.building.node_of.Goals.{else-is_empty-via-then-is_empty+else-not-ends, else-is_empty-via-else-is_empty}

pub returns-then-not-ends : goal.returns-then-not-ends
returns-then-not-ends c = record {
  exact = λ list walk at.
      let rule = c.args.rule.now in
      let len = c.args.len in
      let small = walk_small rule len list c.requires.rule walk in
      let is : c.spot_at-spot.result ≡ spot_of rule list = c.spot_at-spot.ensures.spot (spot_of rule list) small.offset (omega (arith, small.used)) (omega (arith, small.lunches)) at in
      no_node rule len c.args.numbers.now list c.spot_at-spot.result c.in_ok-edges.edges is (c.in_ok-edges.ensures.exact list is) (sym (c.ends.ensures list walk is) ∙ c.if-not-ends.true)
      (ap length (sym c.as_slice.ensures) ∙ eqb-true _ _ (sym c.is_empty.ensures ∙ c.if-is_empty.true));
  at = λ n e. absurd (cc);
  reached = λ n e. absurd (cc);
  back = λ bound n below e. absurd (cc);
}

pub returns : goal.returns
returns c =
    let rule = c.args.rule.now in
    let len = c.args.len in
    record {
      exact = λ list walk at.
          let small = walk_small rule len list c.requires.rule walk in
          let is : c.spot_at-spot.result ≡ spot_of rule list = c.spot_at-spot.ensures.spot (spot_of rule list) small.offset (omega (arith, small.used)) (omega (arith, small.lunches)) at in
          a_node rule len c.args.numbers.now list c.spot_at-spot.result c.in_ok-edges.edges is (c.in_ok-edges.ensures.exact list is)
          (elim c.else-is_empty.branch [
            | else-is_empty-via-then-is_empty+else-not-ends w ↦ inl (sym (w.ends.ensures list walk is) ∙ w.if-not-ends.false)
            | else-is_empty-via-else-is_empty w ↦ inr (λ none. eqb-false (length c.as_slice.result.now) 0 (sym c.is_empty.ensures ∙ w.if-is_empty.false) (ap length c.as_slice.ensures ∙ none))
          ]);
      at = λ n e. let same : c.spot_at-spot.result ≡ n.spot = ap (λ (o : Node). o.spot) (let s : record { spot = c.spot_at-spot.result; edges = c.in_ok-edges.edges } ≡ n = cc in s) in ap (place_of len) (sym same) ∙ c.spot_at-spot.ensures.place;
      reached = λ n e. c.requires.walked c.args.place (sym c.is_marked.ensures ∙ c.if-not-is_marked.false);
      back = λ bound n below e i x h.
          let same : c.in_ok-edges.edges ≡ n.edges = ap (λ (o : Node). o.edges) (let s : record { spot = c.spot_at-spot.result; edges = c.in_ok-edges.edges } ≡ n = cc in s) in
          subst (LeadBelow bound) same (c.in_ok-edges.ensures.back bound below) i x h;
    }
