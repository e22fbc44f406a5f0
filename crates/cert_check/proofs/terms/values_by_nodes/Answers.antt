use Rattle.cert_check.proofs.Common.{◌≡◌, ◌<◌, ◌≤◌, ◌-◌, ◌^◌, ℕ, ℤ, false, List, [], length, length-set, get_or, refl, sym, ap, ◌∙◌, subst, arith, to_z, of_z, Some, slice_get, w128, to_z-of_z, Rule, Shift, shift_list, sum_at, Priced, AreSumsByDay, sums_on, IsValue, cut_small, fits, has_prefix_cut, AreValues}
use Rattle.cert_check.proofs.ShiftTerms.{own_graph, own_sums, own_value, values_set}
use Rattle.cert_check.proofs.Values.{greatest_small}
use Rattle.cert_check.proofs.WaysOn.{opening_node}
use Rattle.cert_check.proofs.Whole.{whole_uncut}
use Rattle.cert_check.proofs.terms.values_by_nodes.Goals as goal

pub set_rest_lanes-requires-clause-graph : goal.set_rest_lanes-requires-clause-graph
set_rest_lanes-requires-clause-graph c =
    own_graph c.args.instance.now c.args.shift c.shift-len.result c.rule_of-rule.result.now c.shift-len.ensures.shift c.rule_of-rule.ensures.rule c.args.graph.now c.requires.graph

pub best_below-requires-clause-small : goal.best_below-requires-clause-small
best_below-requires-clause-small c k =
    subst (λ (xs : List ℕ). get_or xs k 0 ≤ 1000000000000) (sym c.as_slice-in-loop-day.ensures) (cut_small c.args.instance.now c.args.cuts.now c.args.prices.now c.requires.passes k)

pub best_below-requires-clause-sums : goal.best_below-requires-clause-sums
best_below-requires-clause-sums c =
    let less : c.loop-day.day < c.args.instance.now.days = subst (λ (n : ℕ). c.loop-day.day < n) c.days-day-end.ensures.days c.loop-day-test.true in
    own_sums c.args.instance.now c.args.shift c.shift-len.result c.rule_of-rule.result.now c.shift-len.ensures.shift c.rule_of-rule.ensures.rule c.args.sums.now.prices c.along-sums.result.now c.loop-day.day c.along-sums.ensures less

pub best_below-requires-clause-stands : goal.best_below-requires-clause-stands
best_below-requires-clause-stands c =
    let i = c.args.instance.now in
    let graph = c.args.graph.now in
    let rule = c.rule_of-rule.result.now in
    let len = c.shift-len.result.len in
    let day = c.loop-day.day in
    let less : day < i.days = subst (λ (n : ℕ). day < n) c.days-day-end.ensures.days c.loop-day-test.true in
    let week = c.days-day-end.ensures.valid.days in
    let low : day < 8 = omega (arith, less, week) in
    let sums = sums_on day c.along-sums.result.now in
    let small = own_sums i c.args.shift c.shift-len.result rule c.shift-len.ensures.shift c.rule_of-rule.ensures.rule c.args.sums.now.prices c.along-sums.result.now day c.along-sums.ensures less in
    let whole = own_graph i c.args.shift c.shift-len.result rule c.shift-len.ensures.shift c.rule_of-rule.ensures.rule graph c.requires.graph in
    opening_node graph c.deref-in-loop-day.result.now day rule len sums c.node_count-nodes.result low whole c.node_count-nodes.ensures (omega (arith, c.if-nodes-eq0.false))
    (subst (λ (lanes : List (List ℤ)). AreValues rule len sums graph (length graph) (sums_on day lanes)) (sym c.deref-in-loop-day.ensures.value) (c.in_ok-set_rest_lanes.ensures day low small))

pub loop-day-preserved : goal.loop-day-preserved
loop-day-preserved c =
    let i = c.args.instance.now in
    let prices = c.args.prices.now in
    let less : c.loop-day.day < i.days = subst (λ (n : ℕ). c.loop-day.day < n) c.days-day-end.ensures.days c.loop-day-test.true in
    let of = subst (λ (ps : List ℤ). (x : Shift × Rule) → slice_get (shift_list i) c.args.shift ≡ Some x → AreSumsByDay i x.0 ps c.along-sums.result.now) (ap (λ (q : Priced). q.prices) c.requires.sums) c.along-sums.ensures in
    let own =
    own_value i c.args.shift c.shift-len.result c.rule_of-rule.result.now c.shift-len.ensures.shift c.rule_of-rule.ensures.rule c.args.cuts.now c.as_slice.result.now prices c.as_slice-in-loop-day.result.now c.along-sums.result.now
    c.loop-day.day c.in_ok-value.value c.rule_of-rule.ensures.valid c.as_slice.ensures c.as_slice-in-loop-day.ensures of less c.in_ok-value.ensures.greatest c.in_ok-value.ensures.size in
    let room : c.loop-day.day < length c.loop-day.values = omega (arith, less, c.days-day-end.ensures.valid.days, c.loop-day.invariant.many) in
    let read : to_z w128 (of_z w128 c.in_ok-value.value) ≡ c.in_ok-value.value = to_z-of_z w128 _ (fits c.in_ok-value.value (2 ^ 74) c.in_ok-value.ensures.size (omega arith)) in
    record {
      many = length-set c.loop-day.values c.from.result (to_z w128 (of_z w128 c.in_ok-value.value)) ∙ c.loop-day.invariant.many;
      known = values_set i c.args.cuts.now prices c.args.shift c.loop-day.day c.from.result c.loop-day.values c.in_ok-value.value _ c.from.ensures room read c.loop-day.invariant.known own;
    }

pub returns-then-not-has_prefix_cut : goal.returns-then-not-has_prefix_cut
returns-then-not-has_prefix_cut c =
    let i = c.args.instance.now in
    let graph = c.args.graph.now in
    let cuts = c.args.cuts.now in
    let prices = c.args.prices.now in
    let s = c.args.shift in
    let rule = c.rule_of-rule.result.now in
    let len = c.shift-len.result.len in
    let along = c.along-sums.result.now in
    let nodes = c.node_count-nodes.result in
    let count : nodes ≡ length graph = c.node_count-nodes.ensures in
    let some : 0 < nodes = omega (arith, c.if-nodes-eq0.false) in
    let whole = own_graph i s c.shift-len.result rule c.shift-len.ensures.shift c.rule_of-rule.ensures.rule graph c.requires.graph in
    let of = subst (λ (ps : List ℤ). (x : Shift × Rule) → slice_get (shift_list i) s ≡ Some x → AreSumsByDay i x.0 ps along) (ap (λ (q : Priced). q.prices) c.requires.sums) c.along-sums.ensures in
    let none : has_prefix_cut cuts s ≡ false = sym c.has_prefix_cut.ensures ∙ c.if-not-has_prefix_cut.true in
    record {
      each = λ day less.
          let week = c.rule_of-rule.ensures.valid.days in
          let low : day < 8 = omega (arith, less, week) in
          let sums = sums_on day along in
          let small = own_sums i s c.shift-len.result rule c.shift-len.ensures.shift c.rule_of-rule.ensures.rule c.args.sums.now.prices along day c.along-sums.ensures less in
          let known = subst (λ (lanes : List (List ℤ)). AreValues rule len sums graph (length graph) (sums_on day lanes)) (sym c.deref.ensures.value) (c.in_ok-set_rest_lanes.ensures day low small) in
          let node = opening_node graph c.deref.result.now day rule len sums nodes low whole count some known in
          let v : ℤ = sum_at (sums_on day c.deref.result.now) (nodes - 1) in
          let greatest = node.values (nodes - 1) [] (omega (arith, count, some)) node.stands in
          let size = greatest_small sums rule len [] v small greatest in
          subst (IsValue i c.args.cuts.now prices s day) (sym (c.values_of_lane.ensures day low ∙ c.lane_at.ensures day))
          (own_value i s c.shift-len.result rule c.shift-len.ensures.shift c.rule_of-rule.ensures.rule c.args.cuts.now cuts prices prices.cuts along day v c.rule_of-rule.ensures.valid refl refl of less
          (whole_uncut cuts prices.cuts s day sums rule len v none greatest) (omega (arith, size)));
    }
