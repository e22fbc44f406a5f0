-- Where lists of breaks stand on walks over the legal lists of a shift, and how they go on.
use Rattle.std.specs.Prelude.{◌≡◌, ℕ, ◌-◌, ◌<◌, ◌==◌, true, IsTrue, IfSome, List, [], ◌∷◌, ◌++◌, map, length, slice_get, Option, Some}
use Rattle.break_rules.specs.declared.Break.{Break}
use Rattle.break_rules.specs.declared.Rule.{Rule}
use Rattle.break_rules.specs.Breaks.{is_legal, is_live}
use Rattle.break_rules.specs.Walk.{is_walk, spot_of}
use Rattle.break_graph.specs.declared.Node.{Node}
use Rattle.break_graph.specs.Graph.{StandsAt, live_nexts}
use Rattle.list_walks.specs.declared.steps.Standing.{Standing}
use Rattle.list_walks.specs.declared.steps.WalkWay.{WalkWay}

-- the rule and the length of a shift, and the nodes of the graph along which walks go, if they go along one
pub record Walks : Type 0 where
  pub rule : Rule
  pub len : ℕ
  pub nodes : Option (List Node)

-- a list of breaks stands somewhere: it is a walk to the spot, some legal list begins with it, and in a graph it stands at the node
pub record Stands (walks : Walks) (at : Standing) (list : List Break) : Type 0 where
  pub walk : IsTrue (is_walk walks.rule walks.len list)
  pub live : is_live walks.rule walks.len list ≡ true
  pub spot : at.spot ≡ spot_of walks.rule list
  pub node : IfSome walks.nodes (λ nodes. StandsAt walks.rule walks.len nodes at.node list)

-- the ways on from where a list stands: the breaks with which some legal list goes on, in rising order, each with where the list with that
-- break stands, which is nearer to the end of the shift; and there are none exactly where the list is legal
pub record AreWaysOn (walks : Walks) (at : Standing) (list : List Break) (ways : List WalkWay) : Type 0 where
  pub stops : map (λ w. w.stop) ways ≡ live_nexts walks.rule walks.len list
  pub stand : (i : ℕ) (w : WalkWay) → slice_get ways i ≡ Some w → Stands walks w.at (list ++ w.stop ∷ [])
  pub nearer : (i : ℕ) (w : WalkWay) → slice_get ways i ≡ Some w → walks.len - w.at.spot.offset < walks.len - at.spot.offset
  pub ends : (length ways == 0) ≡ is_legal walks.rule walks.len list

-- the opening spot at the last node of a graph
pub record StandsLast (nodes : List Node) (at : Standing) : Type 0 where
  pub some : 0 < length nodes
  pub node : at.node ≡ length nodes - 1
  pub spot : (rule : Rule) → at.spot ≡ spot_of rule []

-- the opening spot of a rule and a length by which some list is legal
pub record IsOpening (rule : Rule) (len : ℕ) (at : Standing) : Type 0 where
  pub live : is_live rule len [] ≡ true
  pub spot : at.spot ≡ spot_of rule []
