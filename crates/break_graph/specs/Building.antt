-- What is known while a graph is built: the spots that walks reach, and the nodes and numbers made so far.
use Rattle.std.specs.Prelude.{◌≡◌, ℕ, ◌<◌, Bool, true, false, ◌==◌, IsTrue, List, [], ◌∷◌, ◌++◌, map, length, slice_get, slice_index_or, Option, Some, None, MatchOption}
use Rattle.std.specs.List.{filter_map}
use Rattle.break_rules.specs.declared.Break.{Break}
use Rattle.break_rules.specs.declared.Rule.{Rule}
use Rattle.break_rules.specs.declared.Spot.{Spot}
use Rattle.break_rules.specs.Breaks.{is_legal, is_live}
use Rattle.break_rules.specs.Live.{place_of}
use Rattle.break_rules.specs.Walk.{nexts_of, spot_of, is_walk}
use Rattle.break_graph.specs.declared.Edge.{Edge}
use Rattle.break_graph.specs.declared.Node.{Node}
use Rattle.break_graph.specs.Graph.{node_at, live_nexts, StandsAt}

-- the place of a list's spot is marked in a table
abbrev pub IsMarked : Rule → ℕ → List Bool → List Break → Type 0
IsMarked rule len table list = slice_index_or table (place_of len (spot_of rule list)) false ≡ true

-- the place of each walk's spot is marked
abbrev pub AreMarked : Rule → ℕ → List Bool → Type 0
AreMarked rule len table = (list : List Break) → IsTrue (is_walk rule len list) → IsMarked rule len table list

-- each marked place is that of some walk's spot
abbrev pub AreReached : Rule → ℕ → List Bool → Type 0
AreReached rule len table = (place : ℕ) → slice_index_or table place false ≡ true → (list : List Break) × IsTrue (is_walk rule len list) × (place_of len (spot_of rule list) ≡ place)

-- the number of the node of a place, if it has one
abbrev pub number_at : List (Option ℕ) → ℕ → Option ℕ
number_at numbers place = slice_index_or numbers place None

-- all numbers are below a bound
abbrev pub AreBelow : ℕ → List (Option ℕ) → Type 0
AreBelow bound numbers = (place k : ℕ) → number_at numbers place ≡ Some k → k < bound

-- all edges lead to nodes below a bound
abbrev pub LeadBelow : ℕ → List Edge → Type 0
LeadBelow bound edges = (i : ℕ) (e : Edge) → slice_get edges i ≡ Some e → e.next < bound

-- the edge by a break to the node of a number, if there is one
abbrev pub edge_to : Break → Option ℕ → Option Edge
edge_to b None = None
edge_to b (Some k) = Some (record { stop = b; next = k })

-- the edges of a list by some breaks, each to the node behind it
abbrev pub edges_by : Rule → ℕ → List (Option ℕ) → List Break → List Break → List Edge
edges_by rule len numbers list = filter_map (λ b. edge_to b (number_at numbers (place_of len (spot_of rule (list ++ b ∷ [])))))

-- the node of a spot with these edges, unless it has none and no list is legal there
abbrev pub node_if : Bool → Spot → List Edge → Option Node
node_if false spot [] = None
node_if false spot (e ∷ es) = Some (record { spot = spot; edges = e ∷ es })
node_if true spot edges = Some (record { spot = spot; edges = edges })

-- the node at which a list stands, by the numbers of the nodes of later spots
abbrev pub node_by : Rule → ℕ → List (Option ℕ) → List Break → Option Node
node_by rule len numbers list =
    node_if (is_legal rule len list) (spot_of rule list) (edges_by rule len numbers list (nexts_of rule len (spot_of rule list)))

-- the node of a place, if it has one, by the numbers of the nodes of later spots
pub record IsNodeOf (rule : Rule) (len place : ℕ) (numbers : List (Option ℕ)) (found : Option Node) : Type 0 where
  pub exact : (list : List Break) → IsTrue (is_walk rule len list) → place_of len (spot_of rule list) ≡ place → found ≡ node_by rule len numbers list
  pub at : (n : Node) → found ≡ Some n → place_of len n.spot ≡ place
  pub reached : (n : Node) → found ≡ Some n → (list : List Break) × IsTrue (is_walk rule len list) × (place_of len (spot_of rule list) ≡ place)
  pub back : (bound : ℕ) (n : Node) → AreBelow bound numbers → found ≡ Some n → LeadBelow bound n.edges

-- the nodes of the places before one, and the numbers of these places
pub record AreDrafted (rule : Rule) (len before : ℕ) (nodes : List Node) (numbers : List (Option ℕ)) : Type 0 where
  pub within : AreBelow (length nodes) numbers
  pub known : (list : List Break) → IsTrue (is_walk rule len list) → place_of len (spot_of rule list) < before
      → MatchOption (number_at numbers (place_of len (spot_of rule list))) (is_live rule len list ≡ false) (λ k. StandsAt rule len nodes k list)
  pub edges : (k : ℕ) (list : List Break) → StandsAt rule len nodes k list → map (λ e. e.stop) (node_at nodes k).edges ≡ live_nexts rule len list
  pub back : (k : ℕ) → k < length nodes → LeadBelow k (node_at nodes k).edges
  pub behind : (k i : ℕ) (e : Edge) (list : List Break) → StandsAt rule len nodes k list → slice_get (node_at nodes k).edges i ≡ Some e → StandsAt rule len nodes e.next (list ++ e.stop ∷ [])
  pub ends : (k : ℕ) (list : List Break) → StandsAt rule len nodes k list → (length (node_at nodes k).edges == 0) ≡ is_legal rule len list
  pub reached : (k : ℕ) → k < length nodes → (list : List Break) × StandsAt rule len nodes k list
  pub placed : (k : ℕ) → k < length nodes → place_of len (node_at nodes k).spot < before
  pub order : (j k : ℕ) → j < k → k < length nodes → place_of len (node_at nodes j).spot < place_of len (node_at nodes k).spot
