use Rattle.pricing.proofs.Common.{◌≡◌, ◌+◌, ◌++◌, ◌∷◌, [], ◌<◌, ◌≤◌, ℕ, ℤ, List, length, take, length-append, nat_le, sym, ap, subst, ◌∙◌, arith, inl, inr, to_z, of_z, w64, count_by, cases_lt, le-leb, lt-leb, to_z-of_z, count_by_more_yes, count_by_more_no, Node, node_at, AreValues, IsValue}
use Rattle.pricing.proofs.ByEdges.{values_more}
use Rattle.pricing.proofs.Reached.{count_first}
use Rattle.pricing.proofs.values.values_anew.Given.{Over}
use Rattle.pricing.proofs.values.values_anew.Goals as goal
use Rattle.pricing.proofs.values.values_anew.Goals.{After-push}

-- the steps with one node more
with_node : (nodes : List Node) (k last start before now : ℕ) → k < length nodes
    → before ≤ start + count_by (λ n. nat_le n.spot.offset last) (take k nodes)
    → now ≤ before + 1 → (last < (node_at nodes k).spot.offset → now ≡ before)
    → now ≤ start + count_by (λ n. nat_le n.spot.offset last) (take (k + 1) nodes)
with_node nodes k last start before now inside so_far step none =
    let node : Node = record { spot = record { offset = 0; used = 0; lunches = 0 }; edges = [] } in
    elim (cases_lt last (node_at nodes k).spot.offset) [
      | inl behind ↦
          let more : count_by (λ n. nat_le n.spot.offset last) (take (k + 1) nodes) ≡ count_by (λ n. nat_le n.spot.offset last) (take k nodes) =
          count_by_more_no (λ n. nat_le n.spot.offset last) nodes k node inside (lt-leb (node_at nodes k).spot.offset last behind) in
          omega (arith, none behind)
      | inr early ↦
          let more : count_by (λ n. nat_le n.spot.offset last) (take (k + 1) nodes) ≡ count_by (λ n. nat_le n.spot.offset last) (take k nodes) + 1 =
          count_by_more_yes (λ n. nat_le n.spot.offset last) nodes k node inside (le-leb (node_at nodes k).spot.offset last early) in
          omega arith
    ]

-- the steps with this node
counted : (g : Over) (c : After-push g) → c.value_anew-value.new.steps ≤ c.args.steps.now + count_by (λ n. nat_le n.spot.offset c.args.last) (take (c.loop-k.k + 1) c.args.graph.now)
counted g c =
    with_node c.args.graph.now c.loop-k.k c.args.last c.args.steps.now c.loop-k.steps c.value_anew-value.new.steps (subst (λ n. c.loop-k.k < n) c.node_count-k-end.ensures c.loop-k-test.true) c.loop-k.invariant.steps
    c.value_anew-value.ensures.step c.value_anew-value.ensures.none

pub loop-k-preserved : goal.loop-k-preserved
loop-k-preserved g c =
    let own = (goal.at.loop-k-preserved g c).After-push in
    let values = c.loop-k.values.items in
    let x : ℤ = to_z w64 (of_z w64 c.value_anew-value.result) in
    let is : x ≡ c.value_anew-value.result = to_z-of_z w64 c.value_anew-value.result (record { sfits = c.value_anew-value.type_inv }) in
    let i = c.loop-k.invariant in
    let items : c.push.new.self.items ≡ values ++ x ∷ [] = c.in_ok-push.ensures.items in
    record {
      many = ap length items ∙ length-append values (x ∷ []) ∙ omega (arith, i.many);
      known = subst (AreValues c.args.rule.now c.args.len c.args.sums.now c.args.graph.now (c.loop-k.k + 1)) (sym items)
          (values_more c.args.rule.now c.args.len c.args.sums.now c.args.graph.now c.loop-k.k values x i.many i.known
          (λ list st. subst (IsValue c.args.rule.now c.args.len c.args.sums.now list) (sym is) (c.value_anew-value.ensures.value list st)));
      steps = counted g own;
    }

pub returns-in_err-push-clause-steps : goal.returns-in_err-push-clause-steps
returns-in_err-push-clause-steps g c =
    let here : c.value_anew-value.new.steps ≤ c.args.steps.now + count_by (λ n. nat_le n.spot.offset c.args.last) (take (c.loop-k.k + 1) c.args.graph.now) = counted g (goal.at.returns-in_err-push-clause-steps g c).After-push in
    let all : count_by (λ n. nat_le n.spot.offset c.args.last) (take (c.loop-k.k + 1) c.args.graph.now) ≤ count_by (λ n. nat_le n.spot.offset c.args.last) c.args.graph.now = count_first (λ n. nat_le n.spot.offset c.args.last) (c.loop-k.k + 1) c.args.graph.now in
    omega arith
