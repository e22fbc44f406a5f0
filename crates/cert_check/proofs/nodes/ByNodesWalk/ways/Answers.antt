use Rattle.cert_check.proofs.Common.{◌≡◌, ℕ, List, map, sym, subst, IfOk-weaker, Break, Edge, AreWays, IsAtNode}
use Rattle.cert_check.proofs.WaysOn.{node_ways}
use Rattle.cert_check.proofs.nodes.ByNodesWalk.ways.Goals as goal

pub returns : goal.returns
returns c =
    let graph = c.args.self.now.graph.now in
    let lanes = c.args.self.now.values.now in
    let day = c.args.self.now.day in
    let edges = c.edges.result.now in
    IfOk-weaker c.stops_with_nodes.result (λ ways. ways.items ≡ map (λ (e : Edge). (e.stop, e.next)) edges) _
    (λ ways are rule len sums list s. subst (λ (ws : List (Break × ℕ)). AreWays (IsAtNode graph lanes day rule len sums) rule len list ws) (sym are) (node_ways graph lanes day rule len sums c.args.place list edges s c.edges.ensures))
    c.stops_with_nodes.ensures
