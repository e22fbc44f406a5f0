-- The ways on from where a list of breaks stands, by a graph and by layers.
use Rattle.std.specs.Prelude.{List}
use Rattle.break_graph.specs.declared.Edge.{Edge}
use Rattle.break_graph.specs.declared.Node.{Node}
use Rattle.break_graph.specs.Graph.{node_at}
use Rattle.break_layers.specs.declared.ways.Way.{Way as LayerWay}
use Rattle.list_walks.specs.declared.steps.WalkWay.{WalkWay}

-- the way along an edge of a graph
abbrev pub way_along : List Node → Edge → WalkWay
way_along nodes e = record { stop = e.stop; at = record { spot = (node_at nodes e.next).spot; node = e.next } }

-- the way of layers, without a node
abbrev pub way_to : LayerWay → WalkWay
way_to w = record { stop = w.stop; at = record { spot = w.spot; node = 0 } }
