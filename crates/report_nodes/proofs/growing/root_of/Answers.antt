use Rattle.report_nodes.proofs.Common.{◌≡◌, ◌∷◌, [], rules, new_node}
use Rattle.report_nodes.proofs.Grown.{root_room}
use Rattle.report_nodes.proofs.growing.root_of.Goals as goal

pub returns-clause-room : goal.returns-clause-room
returns-clause-room c =
    let same : c.in_ok-nodes.nodes.items ≡ new_node c.args.base ∷ [] = search rules in
    root_room c.args.base c.in_ok-nodes.nodes.items same c.requires
