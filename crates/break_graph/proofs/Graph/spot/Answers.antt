use Rattle.break_graph.proofs.Common.{◌<◌, List, length, ap, ◌∙◌, arith, Node, node_at}
use Rattle.break_graph.proofs.Flat.{length-nodes_from, spot_flat}
use Rattle.break_graph.proofs.Graph.spot.Goals as goal

pub index-requires : goal.index-requires
index-requires c =
    let all = length-nodes_from 0 c.self.inside.nodes.items c.self.inside.edges.items in
    let view = ap length c.self.view_is in
    omega arith

pub returns : goal.returns
returns c =
    let nodes = c.self.inside.nodes.items in
    let edges = c.self.inside.edges.items in
    let all = length-nodes_from 0 nodes edges in
    let view = ap length c.self.view_is in
    let inside : c.args.node < length nodes = omega arith in
    spot_flat nodes edges c.args.node c.index.result.now inside c.index.ensures ∙ ap (λ (ns : List Node). (node_at ns c.args.node).spot) c.self.view_is
