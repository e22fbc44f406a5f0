-- The values of the nodes of a graph: what the best rests of the lists that stand there earn.
use Rattle.std.specs.Prelude.{◌≡◌, ℕ, ◌<◌, ℤ, ◌+ℤ◌, ◌≤ℤ◌, List, [], ◌∷◌, ◌++◌, length, FitsSigned}
use Rattle.std.specs.Int.{w64}
use Rattle.break_rules.specs.declared.Break.{Break}
use Rattle.break_rules.specs.declared.Rule.{Rule}
use Rattle.break_rules.specs.Ranges.{IsRule}
use Rattle.break_rules.specs.Lists.{Has}
use Rattle.break_graph.specs.declared.Edge.{Edge}
use Rattle.break_graph.specs.declared.Node.{Node}
use Rattle.break_graph.specs.Graph.{IsGraph, StandsAt}
use Rattle.price_sums.specs.Along.{sum_at, AreSums, Completes}
use Rattle.break_layers.specs.Rests.{IsBestRest, IsBestTail, rest_worth, Priced}

-- what a list's best rest earns
abbrev pub IsValue : Rule → ℕ → List ℤ → List Break → ℤ → Type 0
IsValue rule len sums list value = (rest : List Break) × IsBestRest (Completes rule len list) (rest_worth sums rule len list) value rest

-- for the first so many nodes, what the best rests of the lists that stand there earn
abbrev pub AreValues : Rule → ℕ → List ℤ → List Node → ℕ → List ℤ → Type 0
AreValues rule len sums nodes before values =
    (k : ℕ) (list : List Break) → k < before → StandsAt rule len nodes k list → IsValue rule len sums list (sum_at values k)

-- what an edge reaches: the sum of the prices before its break, and the value of the node behind it
abbrev pub reach_of : List ℤ → List ℤ → Edge → ℤ
reach_of sums values e = sum_at sums e.stop.start +ℤ sum_at values e.next

-- what some edges reach fits
abbrev pub AreFit : (Edge → ℤ) → List Edge → Type 0
AreFit reach edges = (e : Edge) → Has edges e → FitsSigned w64 (reach e)

-- the most that one of some edges reaches
pub record IsMostReached (reach : Edge → ℤ) (edges : List Edge) (most : ℤ) : Type 0 where
  pub reached : (e : Edge) × Has edges e × (reach e ≡ most)
  pub greatest : (e : Edge) → Has edges e → reach e ≤ℤ most

-- the first of some edges that reaches a number
pub record IsFirstWith (reach : Edge → ℤ) (edges : List Edge) (most : ℤ) : Type 0 where
  pub before : List Edge
  pub edge : Edge
  pub after : List Edge
  pub whole : edges ≡ before ++ edge ∷ after
  pub reaches : reach edge ≡ most
  pub none : (x : Edge) → Has before x → reach x ≡ most → ⊥

-- an edge from where a list stands, with which each best rest behind it makes a best rest
pub record LeadsOn (rule : Rule) (len : ℕ) (sums : List ℤ) (nodes : List Node) (list : List Break) (e : Edge) : Type 0 where
  pub behind : StandsAt rule len nodes e.next (list ++ e.stop ∷ [])
  pub best : (tail : List Break) → IsBestTail rule len sums (list ++ e.stop ∷ []) tail → IsBestTail rule len sums list (e.stop ∷ tail)

-- a rule, the length of the shifts that are meant, the nodes of their graph, and the sums of the prices of their offsets
pub record PricedNodes : Type 0 where
  pub rule : Rule
  pub len : ℕ
  pub nodes : List Node
  pub sums : List ℤ

-- the same without the nodes
abbrev pub priced_of : PricedNodes → Priced
priced_of p = record { rule = p.rule; len = p.len; sums = p.sums }

-- what is kept of the best rests
pub record AreBestRests (rule : Rule) (len : ℕ) (nodes : List Node) (sums values : List ℤ) : Type 0 where
  pub well_formed : IsRule rule
  pub graph : IsGraph rule len nodes
  pub small : AreSums len sums
  pub known : AreValues rule len sums nodes (length nodes) values

-- what is kept of the best rests by layers
pub record AreLayerRests (rule : Rule) (len : ℕ) (sums : List ℤ) (values : Priced) : Type 0 where
  pub well_formed : IsRule rule
  pub small : AreSums len sums
  pub known : values ≡ record { rule = rule; len = len; sums = sums }
