use Rattle.cert_check.proofs.Common.{◌≡◌, ◌+◌, ◌∷◌, [], ℤ, List, refl, sym, ap, subst, ◌∙◌, map, take, get_or, Some, None, int_max, nil_from_length, Break, Edge, node_at, sum_at, sums_on, worth_with_start, Through, IsGreatest}
use Rattle.cert_check.proofs.Greatest.{greatest_none}
use Rattle.cert_check.proofs.Values.{no_edge}
use Rattle.cert_check.proofs.WithStart.{edge_more, edges_all, edges_none, first_stop, other_stops, all_other_stops, first_has, other_has}
use Rattle.cert_check.proofs.rests.most_with_start.Goals as goal

pub returns-in_default : goal.returns-in_default
returns-in_default c = λ day less small known list st.
    let nodes = c.args.graph.now in
    let k = c.args.k in
    let sums = sums_on day c.args.sums.now in
    let edges : c.edges.result.now ≡ (node_at nodes k).edges = c.edges.ensures in
    edges_none c.args.rule.now c.args.len sums (sums_on day c.args.values.now) nodes k (node_at nodes k).edges list c.requires.rule c.requires.graph c.requires.node refl st (sum_at c.lane_at.result.now day)
    (sym edges ∙ nil_from_length c.edges.result.now c.in_default.ensures.cases) (c.lane_at.ensures day ∙ ap (sum_at sums) c.from.ensures)

pub loop-edge-init : goal.loop-edge-init
loop-edge-init c = λ day less small known list st.
    let rule = c.args.rule.now in
    let len = c.args.len in
    let nodes = c.args.graph.now in
    let k = c.args.k in
    let sums = sums_on day c.args.sums.now in
    let values = sums_on day c.args.values.now in
    let first = c.in-Some.first.now in
    let edges = (node_at nodes k).edges in
    let are : edges ≡ first ∷ c.in-Some.others.now = sym c.edges.ensures ∙ c.in-Some.ensures.cases.0 in
    subst (λ (bs : List Break). IsGreatest (Through rule len list bs) (worth_with_start sums rule len list) (sum_at c.had_by-most.result day)) (first_stop edges first c.in-Some.others.now are)
    (edge_more rule len sums values nodes k edges list c.requires.rule c.requires.graph c.requires.node refl st [] first None (sum_at c.had_by-most.result day) small known (first_has edges first c.in-Some.others.now are)
    (greatest_none rule len list (worth_with_start sums rule len list)) (c.had_by-most.ensures day less))

pub loop-edge-preserved : goal.loop-edge-preserved
loop-edge-preserved c = λ day less small known list st.
    let rule = c.args.rule.now in
    let len = c.args.len in
    let nodes = c.args.graph.now in
    let k = c.args.k in
    let sums = sums_on day c.args.sums.now in
    let values = sums_on day c.args.values.now in
    let first = c.in-Some.first.now in
    let others = c.in-Some.others.now in
    let i = c.loop-edge.edge-index in
    let edges = (node_at nodes k).edges in
    let are : edges ≡ first ∷ others = sym c.edges.ensures ∙ c.in-Some.ensures.cases.0 in
    let worth : List Break → ℤ = worth_with_start sums rule len list in
    subst (IsGreatest (Through rule len list (map (λ (e : Edge). e.stop) (take (i + 1 + 1) edges))) worth) (sym (c.raise_lane.ensures day less))
    (subst (λ (bs : List Break). IsGreatest (Through rule len list bs) worth (int_max (sum_at c.loop-edge.most day) (sum_at c.had_by.result day))) (other_stops edges first others are i c.loop-edge-test.true)
    (edge_more rule len sums values nodes k edges list c.requires.rule c.requires.graph c.requires.node refl st (map (λ (e : Edge). e.stop) (take (i + 1) edges)) (get_or others i no_edge) (Some (sum_at c.loop-edge.most day))
    (sum_at c.had_by.result day) small known (other_has edges first others are i c.loop-edge-test.true) (c.loop-edge.invariant day less small known list st) (c.had_by.ensures day less)))

pub returns : goal.returns
returns c = λ day less small known list st.
    let rule = c.args.rule.now in
    let len = c.args.len in
    let nodes = c.args.graph.now in
    let k = c.args.k in
    let sums = sums_on day c.args.sums.now in
    let first = c.in-Some.first.now in
    let others = c.in-Some.others.now in
    let edges = (node_at nodes k).edges in
    let are : edges ≡ first ∷ others = sym c.edges.ensures ∙ c.in-Some.ensures.cases.0 in
    edges_all rule len sums (sums_on day c.args.values.now) nodes k edges list c.requires.rule c.requires.graph c.requires.node refl st (sum_at c.loop-edge.most day)
    (subst (λ (bs : List Break). IsGreatest (Through rule len list bs) (worth_with_start sums rule len list) (sum_at c.loop-edge.most day)) (all_other_stops edges first others are c.loop-edge.edge-index c.loop-edge-test.false)
    (c.loop-edge.invariant day less small known list st))
