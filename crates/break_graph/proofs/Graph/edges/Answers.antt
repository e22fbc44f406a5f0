use Rattle.break_graph.proofs.Common.{rules, ◌≡◌, ◌<◌, ◌≤◌, List, length, ap, ◌∙◌, arith, between, Edge, FlatNode, Node, node_at, begin_at}
use Rattle.break_graph.proofs.Flat.{length-nodes_from, edges_flat, begins_first, ends_within}
use Rattle.break_graph.proofs.Graph.edges.Goals as goal

pub begin_of-begin-requires : goal.begin_of-begin-requires
begin_of-begin-requires c =
    let all = length-nodes_from 0 c.self.inside.nodes.items c.self.inside.edges.items in
    let view = ap length c.self.view_is in
    omega (arith, ap length c.deref.ensures.value)

pub index-requires : goal.index-requires
index-requires c =
    let all = length-nodes_from 0 c.self.inside.nodes.items c.self.inside.edges.items in
    let view = ap length c.self.view_is in
    omega arith

pub offset_bounds-deref-begin : goal.offset_bounds-deref-begin
offset_bounds-deref-begin c =
    let nodes = c.self.inside.nodes.items in
    let edges = c.self.inside.edges.items in
    let all = length-nodes_from 0 nodes edges in
    let view = ap length c.self.view_is in
    let inside : c.args.node < length nodes = omega arith in
    let begin : c.begin_of-begin.result ≡ begin_at nodes c.args.node = c.begin_of-begin.ensures ∙ ap (λ (ns : List FlatNode). begin_at ns c.args.node) c.deref.ensures.value in
    let first = begins_first nodes edges c.args.node c.index.result.now inside c.index.ensures c.self.invariant in
    let last = ends_within nodes edges c.args.node c.index.result.now inside c.index.ensures c.self.invariant in
    let start : c.begin_of-begin.result ≤ c.index.result.now.end = omega arith in
    let end : c.index.result.now.end ≤ length c.deref-2.result.now = omega (arith, ap length c.deref-2.ensures.value) in
    search rules

pub slice_bounds-result-count : goal.slice_bounds-result-count
slice_bounds-result-count c =
    let nodes = c.self.inside.nodes.items in
    let edges = c.self.inside.edges.items in
    let all = length-nodes_from 0 nodes edges in
    let view = ap length c.self.view_is in
    let inside : c.args.node < length nodes = omega arith in
    let begin : c.begin_of-begin.result ≡ begin_at nodes c.args.node = c.begin_of-begin.ensures ∙ ap (λ (ns : List FlatNode). begin_at ns c.args.node) c.deref.ensures.value in
    let first = begins_first nodes edges c.args.node c.index.result.now inside c.index.ensures c.self.invariant in
    let last = ends_within nodes edges c.args.node c.index.result.now inside c.index.ensures c.self.invariant in
    let start : c.begin_of-begin.result ≤ c.index.result.now.end = omega arith in
    let end : c.index.result.now.end ≤ length c.deref-2.result.now = omega (arith, ap length c.deref-2.ensures.value) in
    start

pub slice_bounds-result-start : goal.slice_bounds-result-start
slice_bounds-result-start c =
    let nodes = c.self.inside.nodes.items in
    let edges = c.self.inside.edges.items in
    let all = length-nodes_from 0 nodes edges in
    let view = ap length c.self.view_is in
    let inside : c.args.node < length nodes = omega arith in
    let begin : c.begin_of-begin.result ≡ begin_at nodes c.args.node = c.begin_of-begin.ensures ∙ ap (λ (ns : List FlatNode). begin_at ns c.args.node) c.deref.ensures.value in
    let first = begins_first nodes edges c.args.node c.index.result.now inside c.index.ensures c.self.invariant in
    let last = ends_within nodes edges c.args.node c.index.result.now inside c.index.ensures c.self.invariant in
    let start : c.begin_of-begin.result ≤ c.index.result.now.end = omega arith in
    let end : c.index.result.now.end ≤ length c.deref-2.result.now = omega (arith, ap length c.deref-2.ensures.value) in
    search rules

pub slice_bounds-result-end : goal.slice_bounds-result-end
slice_bounds-result-end c =
    let nodes = c.self.inside.nodes.items in
    let edges = c.self.inside.edges.items in
    let all = length-nodes_from 0 nodes edges in
    let view = ap length c.self.view_is in
    let inside : c.args.node < length nodes = omega arith in
    let begin : c.begin_of-begin.result ≡ begin_at nodes c.args.node = c.begin_of-begin.ensures ∙ ap (λ (ns : List FlatNode). begin_at ns c.args.node) c.deref.ensures.value in
    let first = begins_first nodes edges c.args.node c.index.result.now inside c.index.ensures c.self.invariant in
    let last = ends_within nodes edges c.args.node c.index.result.now inside c.index.ensures c.self.invariant in
    let start : c.begin_of-begin.result ≤ c.index.result.now.end = omega arith in
    let end : c.index.result.now.end ≤ length c.deref-2.result.now = omega (arith, ap length c.deref-2.ensures.value) in
    search rules

pub returns : goal.returns
returns c =
    let nodes = c.self.inside.nodes.items in
    let edges = c.self.inside.edges.items in
    let all = length-nodes_from 0 nodes edges in
    let view = ap length c.self.view_is in
    let inside : c.args.node < length nodes = omega arith in
    let begin : c.begin_of-begin.result ≡ begin_at nodes c.args.node = c.begin_of-begin.ensures ∙ ap (λ (ns : List FlatNode). begin_at ns c.args.node) c.deref.ensures.value in
    ap (λ (es : List Edge). between c.begin_of-begin.result c.index.result.now.end es) c.deref-2.ensures.value
    ∙ ap (λ k. between k c.index.result.now.end edges) begin
    ∙ edges_flat nodes edges c.args.node c.index.result.now inside c.index.ensures
    ∙ ap (λ (ns : List Node). (node_at ns c.args.node).edges) c.self.view_is
