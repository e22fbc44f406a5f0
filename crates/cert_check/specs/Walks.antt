-- Where break lists stand on a walk along the legal lists of a shift, and what is known there.
use Rattle.std.specs.Prelude.{◌≡◌, ℕ, ◌<◌, ℤ, true, IsTrue, All, List, [], ◌∷◌, ◌++◌, length, map}
use Rattle.break_rules.specs.declared.Break.{Break}
use Rattle.break_rules.specs.declared.Rule.{Rule}
use Rattle.break_rules.specs.declared.Spot.{Spot}
use Rattle.break_rules.specs.Breaks.{is_live}
use Rattle.break_rules.specs.Walk.{is_walk, spot_of}
use Rattle.break_graph.specs.declared.Node.{Node}
use Rattle.break_graph.specs.Graph.{IsGraph, StandsAt, live_nexts}
use Rattle.price_sums.specs.Days.{sums_on}
use Rattle.break_layers.specs.Rests.{Priced}
use Rattle.cert_check.specs.Rests.{AreValues}

-- some list stands at a place
abbrev pub HasList : {P : Type 0} → (Rule → ℕ → List ℤ → P → List Break → Type 0) → P → Type 0
HasList stands place = (rule : Rule) × (len : ℕ) × (sums : List ℤ) × (list : List Break) × stands rule len sums place list

-- the breaks with which some legal list goes on behind a list, each with a place where the list stands that has it too
pub record AreWays {P : Type 0} (stands : P → List Break → Type 0) (rule : Rule) (len : ℕ) (list : List Break) (ways : List (Break × P)) : Type 0 where
  pub stops : map (λ w. w.0) ways ≡ live_nexts rule len list
  pub places : All (λ w. stands w.1 (list ++ w.0 ∷ [])) ways

-- a list stands at a node of a shift's graph, and the numbers of a day in some lanes are what rests earn behind the nodes
pub record IsAtNode (graph : List Node) (lanes : List (List ℤ)) (day : ℕ) (rule : Rule) (len : ℕ) (sums : List ℤ) (node : ℕ) (list : List Break) : Type 0 where
  pub has_lane : day < 8
  pub whole : IsGraph rule len graph
  pub stands : StandsAt rule len graph node list
  pub values : AreValues rule len sums graph (length graph) (sums_on day lanes)

-- a list with which some legal list begins is a walk to a spot, and layers were made for such walks
pub record IsAtSpot (layers : Priced) (rule : Rule) (len : ℕ) (sums : List ℤ) (spot : Spot) (list : List Break) : Type 0 where
  pub made_for : layers ≡ record { rule = rule; len = len; sums = sums }
  pub walk : IsTrue (is_walk rule len list)
  pub reaches : spot ≡ spot_of rule list
  pub live : is_live rule len list ≡ true
