-- The graph of the spots that a walk from break to break reaches and from which some legal list of breaks goes on.
use Rattle.std.specs.Prelude.{◌≡◌, ◌≢◌, ℕ, ◌-◌, ◌<◌, true, false, IsTrue, List, [], ◌∷◌, ◌++◌, map, filter, ◌==◌, length, slice_get, slice_index_or, Some}
use Rattle.break_rules.specs.declared.Break.{Break}
use Rattle.break_rules.specs.declared.Rule.{Rule}
use Rattle.break_rules.specs.Breaks.{is_legal, is_live}
use Rattle.break_rules.specs.Live.{place_of}
use Rattle.break_rules.specs.Walk.{nexts_of, spot_of, is_walk}
use Rattle.break_graph.specs.declared.Edge.{Edge}
use Rattle.break_graph.specs.declared.Node.{Node}

-- the node of a number, and one at the opening spot without edges where there is none
abbrev pub node_at : List Node → ℕ → Node
node_at nodes k = slice_index_or nodes k (record { spot = record { offset = 0; used = 0; lunches = 0 }; edges = [] })

-- the breaks that may come next behind a walk and with which some legal list goes on
abbrev pub live_nexts : Rule → ℕ → List Break → List Break
live_nexts rule len list = filter (λ b. is_live rule len (list ++ b ∷ [])) (nexts_of rule len (spot_of rule list))

-- a list of breaks stands at a node: it is a walk to the node's spot, and some legal list begins with it
pub record StandsAt (rule : Rule) (len : ℕ) (nodes : List Node) (k : ℕ) (list : List Break) : Type 0 where
  pub within : k < length nodes
  pub walk : IsTrue (is_walk rule len list)
  pub spot : (node_at nodes k).spot ≡ spot_of rule list
  pub live : is_live rule len list ≡ true

-- the nodes of a rule and a length: there are none where no list is legal, and else the empty list stands at the last one. The
-- edges of a node have the breaks with which its lists go on, in rising order, and lead to earlier nodes, where those lists
-- with that break stand. A node has no edge exactly where its lists are legal. Each node is that of some list, and the nodes stand
-- in the order of their spots' places, so no spot has two.
pub record IsGraph (rule : Rule) (len : ℕ) (nodes : List Node) : Type 0 where
  pub none : nodes ≡ [] → is_live rule len [] ≡ false
  pub opening : nodes ≢ [] → StandsAt rule len nodes (length nodes - 1) []
  pub edges : (k : ℕ) (list : List Break) → StandsAt rule len nodes k list → map (λ e. e.stop) (node_at nodes k).edges ≡ live_nexts rule len list
  pub back : (k i : ℕ) (e : Edge) → k < length nodes → slice_get (node_at nodes k).edges i ≡ Some e → e.next < k
  pub behind : (k i : ℕ) (e : Edge) (list : List Break) → StandsAt rule len nodes k list → slice_get (node_at nodes k).edges i ≡ Some e → StandsAt rule len nodes e.next (list ++ e.stop ∷ [])
  pub ends : (k : ℕ) (list : List Break) → StandsAt rule len nodes k list → (length (node_at nodes k).edges == 0) ≡ is_legal rule len list
  pub reached : (k : ℕ) → k < length nodes → (list : List Break) × StandsAt rule len nodes k list
  pub order : (j k : ℕ) → j < k → k < length nodes → place_of len (node_at nodes j).spot < place_of len (node_at nodes k).spot
