use Rattle.break_graph.proofs.Common.{length, ap, arith}
use Rattle.break_graph.proofs.Flat.{length-nodes_from}
use Rattle.break_graph.proofs.Graph.node_count.Goals as goal

pub returns : goal.returns
returns c =
    let all = length-nodes_from 0 c.self.inside.nodes.items c.self.inside.edges.items in
    let view = ap length c.self.view_is in
    omega arith
