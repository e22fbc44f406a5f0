-- By what walks over the legal lists of a shift find their way.
use Rattle.std.specs.Prelude.{◌≡◌, ℕ, List, Option, Some, None}
use Rattle.break_rules.specs.declared.Rule.{Rule}
use Rattle.break_graph.specs.declared.Node.{Node}
use Rattle.break_graph.specs.Graph.{IsGraph}
use Rattle.list_walks.specs.declared.walks.Guide.{Guide}
use Rattle.list_walks.specs.declared.walks.Guide.TheVariants.{Graph, Layers}

-- the nodes of a graph that guides, if one does
abbrev pub nodes_of : Guide → Option (List Node)
nodes_of (Graph g) = Some g.now
nodes_of (Layers v) = None

-- a guide of a rule and a length: their graph, or layers of them
abbrev pub Guides : Rule → ℕ → Guide → Type 0
Guides rule len (Graph g) = IsGraph rule len g.now
Guides rule len (Layers v) = (v.rule ≡ rule) × (v.len ≡ len)
