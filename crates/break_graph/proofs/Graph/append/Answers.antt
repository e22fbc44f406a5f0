use Rattle.break_graph.proofs.Common.{◌≡◌, ◌++◌, [], ◌∷◌, List, length, sym, ap, ◌∙◌, subst, arith, Edge, FlatNode, Node, nodes_from, AreFlat}
use Rattle.break_graph.proofs.Flat.{nodes_more, flat_more}
use Rattle.break_graph.proofs.Graph.append.Goals as goal

pub invariant_of-self-2 : goal.invariant_of-self-2
invariant_of-self-2 c =
    let nodes = c.self.inside.nodes.items in
    let edges = c.self.inside.edges.items in
    let node = c.args.node in
    let flat : FlatNode = record { spot = node.spot; end = c.len-end.result } in
    let new_nodes : c.push.new.self.items ≡ nodes ++ flat ∷ [] = c.in_ok-push.ensures.items ∙ ap (λ (ns : List FlatNode). ns ++ flat ∷ []) c.in_ok-reserve.ensures.items in
    let new_edges : c.extend_from_slice.new.self.items ≡ edges ++ node.edges = c.in_ok-extend_from_slice.ensures.items ∙ ap (λ (es : List Edge). edges ++ es) c.as_slice.ensures in
    let count : length c.extend_from_slice.new.self.items ≡ c.len-end.result = omega arith in
    let end : length (edges ++ node.edges) ≡ c.len-end.result = ap length (sym new_edges) ∙ count in
    subst (λ (ns : List FlatNode). AreFlat 0 ns c.extend_from_slice.new.self.items) (sym new_nodes)
    (subst (λ (es : List Edge). AreFlat 0 (nodes ++ flat ∷ []) es) (sym new_edges) (flat_more 0 nodes edges node.edges flat c.self.invariant end))

pub returns : goal.returns
returns c =
    let nodes = c.self.inside.nodes.items in
    let edges = c.self.inside.edges.items in
    let node = c.args.node in
    let flat : FlatNode = record { spot = node.spot; end = c.len-end.result } in
    let new_nodes : c.push.new.self.items ≡ nodes ++ flat ∷ [] = c.in_ok-push.ensures.items ∙ ap (λ (ns : List FlatNode). ns ++ flat ∷ []) c.in_ok-reserve.ensures.items in
    let new_edges : c.extend_from_slice.new.self.items ≡ edges ++ node.edges = c.in_ok-extend_from_slice.ensures.items ∙ ap (λ (es : List Edge). edges ++ es) c.as_slice.ensures in
    let count : length c.extend_from_slice.new.self.items ≡ c.len-end.result = omega arith in
    let end : length (edges ++ node.edges) ≡ c.len-end.result = ap length (sym new_edges) ∙ count in
    ap (λ (ns : List FlatNode). nodes_from 0 ns c.extend_from_slice.new.self.items) new_nodes
    ∙ ap (λ (es : List Edge). nodes_from 0 (nodes ++ flat ∷ []) es) new_edges
    ∙ nodes_more 0 nodes edges node.edges flat c.self.invariant end
    ∙ ap (λ (ns : List Node). ns ++ node ∷ []) c.self.view_is
