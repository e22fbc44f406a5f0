use Rattle.break_graph.proofs.Common.{◌≡◌, List, length, sum_by, ap, ◌∙◌, arith, Node}
use Rattle.break_graph.proofs.Flat.{edges_counted}
use Rattle.break_graph.proofs.Graph.edges_in_all.Goals as goal

pub returns : goal.returns
returns c =
    let all : length c.self.inside.edges.items ≡ sum_by (λ (n : Node). length n.edges) c.args.self.now =
    edges_counted c.self.inside.nodes.items c.self.inside.edges.items c.self.invariant ∙ ap (λ (ns : List Node). sum_by (λ (n : Node). length n.edges) ns) c.self.view_is in
    omega arith
