-- What tables keep from one change of prices to the next.
use Rattle.std.specs.Prelude.{◌≡◌, ℕ, ◌+◌, ◌<◌, ◌≤◌, ℤ, ◌+ℤ◌, ◌≤ℤ◌, Bool, true, false, int_lt, List, [], ◌∷◌, ◌++◌, length, map, slice_get, take, Option, Some, None, if◌then◌else◌}
use Rattle.break_rules.specs.declared.Break.{Break}
use Rattle.break_rules.specs.declared.Rule.{Rule}
use Rattle.std.specs.Arc.{arc_value}
use Rattle.std.specs.List.{IsDistinct, list_any}
use Rattle.break_rules.specs.Breaks.{same_list, is_less_break}
use Rattle.break_rules.specs.Walk.{spot_of}
use Rattle.break_layers.specs.declared.ways.Way.{Way}
use Rattle.break_layers.specs.Rests.{IsMostEarned, Priced}
use Rattle.break_layers.specs.Ways.{live_stops}
use Rattle.break_rules.specs.Lists.{Has}
use Rattle.break_graph.specs.declared.Edge.{Edge}
use Rattle.break_graph.specs.declared.Node.{Node}
use Rattle.break_graph.specs.Graph.{IsGraph, StandsAt, node_at}
use Rattle.shift_instance.specs.declared.Shift.{Shift}
use Rattle.shift_instance.specs.Problem.{Problem, shift_list, slots, slot_of}
use Rattle.shift_instance.specs.Worth.{price_of}
use Rattle.price_sums.specs.Along.{sum_at, ArePricesOf, AreSmallPrices}
use Rattle.pricing.specs.declared.found.Found.{Found}
use Rattle.pricing.specs.declared.anew.KeptSearch.{KeptSearch}
use Rattle.pricing.specs.declared.anew.KeptSearch.TheVariants.{OverGraph, ByLayers}
use Rattle.pricing.specs.Values.{IsValue, AreBestRests, PricedNodes, priced_of}
use Rattle.pricing.specs.Found.{leads_further, Covers, CoversFrom, IsBestFound, IsLegal}
use Rattle.pricing.specs.Tables.{Tabled, IsShiftOf}

-- some lists are the beginnings of the bonuses' prefixes but the empty one
pub record AreBeginnings (bonus : List (List Break × ℤ)) (lists : List (List Break)) : Type 0 where
  pub each : (list : List Break) → Has lists list → (b : Break) × (bs : List Break) × (list ≡ b ∷ bs) × (leads_further bonus list ≡ true)
  pub all : (b : Break) (bs : List Break) → leads_further bonus (b ∷ bs) ≡ true → Has lists (b ∷ bs)
  pub once : IsDistinct same_list lists

-- the beginnings of a prefix but the empty one
abbrev pub IsBeginning : List Break → List Break → Type 0
IsBeginning prefix list = (k : ℕ) × (k < length prefix) × (list ≡ take (k + 1) prefix)

-- among some lists are the first beginnings of a prefix, up to a length
abbrev pub HaveFirst : List (List Break) → List Break → ℕ → Type 0
HaveFirst lists prefix many = (k : ℕ) → k < many → Has lists (take (k + 1) prefix)

-- two price lists have the same price at an offset of a shift on a day
abbrev pub HaveSamePrice : Problem → Shift → ℕ → List ℤ → List ℤ → ℕ → Type 0
HaveSamePrice i shift day old new offset = price_of new (slot_of i shift day offset) ≡ price_of old (slot_of i shift day offset)

-- the greatest offset below one at which two price lists differ, if they do
abbrev pub IsLastChange : Problem → Shift → ℕ → List ℤ → List ℤ → ℕ → Option ℕ → Type 0
IsLastChange i shift day old new before None = (offset : ℕ) → offset < before → HaveSamePrice i shift day old new offset
IsLastChange i shift day old new before (Some last) =
    (last < before) × (HaveSamePrice i shift day old new last → ⊥) × ((offset : ℕ) → last < offset → offset < before → HaveSamePrice i shift day old new offset)

-- the values of the nodes behind an offset, by the sums of prices
abbrev pub AreValuesAbove : Rule → ℕ → List ℤ → List Node → ℕ → List ℤ → Type 0
AreValuesAbove rule len sums nodes last values =
    (k : ℕ) (list : List Break) → last < (node_at nodes k).spot.offset → StandsAt rule len nodes k list → IsValue rule len sums list (sum_at values k)

-- the nodes of a graph that is kept, and none where none is
abbrev pub nodes_of : KeptSearch → List Node
nodes_of (OverGraph graph values) = arc_value graph
nodes_of ByLayers = []

-- a graph that is kept is the one of a rule and a length
abbrev pub IsGraphKept : Rule → ℕ → KeptSearch → Type 0
IsGraphKept rule len (OverGraph graph values) = IsGraph rule len (arc_value graph)
IsGraphKept rule len ByLayers = Unit {0}

-- the values that are kept of the nodes behind an offset are right, by the sums of prices
abbrev pub AreKeptAbove : Rule → ℕ → List ℤ → ℕ → KeptSearch → Type 0
AreKeptAbove rule len sums last (OverGraph graph values) = AreValuesAbove rule len sums (arc_value graph) last values.items
AreKeptAbove rule len sums last ByLayers = Unit {0}

-- the values that are kept of all nodes are right
abbrev pub AreRestsKept : Rule → ℕ → List ℤ → KeptSearch → Type 0
AreRestsKept rule len sums (OverGraph graph values) = AreBestRests rule len (arc_value graph) sums values.items
AreRestsKept rule len sums ByLayers = Unit {0}

-- what is known of a shift at some prices: by the sums of the prices, the values of the nodes of a graph that is kept, and the best list
pub record IsFoundAt (i : Problem) (x : Shift × Rule) (day : ℕ) (prices : List ℤ) (bonus : List (List Break × ℤ)) (kept : KeptSearch) (best : Option Found) : Type 0 where
  pub sums : List ℤ
  pub sums_of : ArePricesOf i x.0 day prices sums
  pub rests : AreRestsKept x.1 x.0.len sums kept
  pub is_best : IsBestFound (record { rule = x.1; len = x.0.len; sums = sums }) bonus best

-- what tables keep
pub record AreTables (t : Tabled) (lists : List (List Break)) (kept : KeptSearch) (best : Option Found) : Type 0 where
  pub shift : t.shift < length (shift_list t.instance)
  pub count : length t.prices ≡ slots t.instance
  pub small : AreSmallPrices t.prices
  pub beginnings : AreBeginnings t.bonus lists
  pub short : (x : Shift × Rule) → IsShiftOf t.instance t.shift x → x.0.len ≤ slots t.instance
  pub found : (x : Shift × Rule) → IsShiftOf t.instance t.shift x → IsFoundAt t.instance x t.day t.prices t.bonus kept best

-- whether a list is among some lists
abbrev pub is_named : List (List Break) → List Break → Bool
is_named named list = list_any (same_list list) named

-- legal lists: what covers them covers each legal list that leaves all prefixes directly behind some breaks, where the named lists are the beginnings of these prefixes
pub record AreEnoughAround (p : Priced) (named : List (List Break)) (front : List Break) (lists : List (List Break)) : Type 0 where
  pub legal : (list : List Break) → Has lists list → IsLegal p list
  pub covers : (entries : List (List Break × ℤ)) (best : Option Found) → AreBeginnings entries named → ((list : List Break) → Has lists list → Covers p entries best list) → CoversFrom p entries best front

-- what the best rests reach that go on with a break: the prices before it, and what is earned behind it
abbrev pub Reaches : Priced → List Break → Break → ℤ → Type 0
Reaches p front stop reach = (value : ℤ) × IsMostEarned p.rule p.len p.sums (front ++ stop ∷ []) value × (reach ≡ sum_at p.sums stop.start +ℤ value)

-- of those of some breaks that lead to no named list, the first that reaches most
pub record IsBestStop (p : Priced) (named : List (List Break)) (front stops : List Break) (stop : Break) (reach : ℤ) : Type 0 where
  pub among : Has stops stop
  pub leaves : is_named named (front ++ stop ∷ []) ≡ false
  pub reaches : Reaches p front stop reach
  pub greatest : (b : Break) → Has stops b → is_named named (front ++ b ∷ []) ≡ false → (other : ℤ) × Reaches p front b other × (other ≤ℤ reach) × (other ≡ reach → is_less_break b stop ≡ false)

-- the same as a way of some kind that fits, with what it reaches, where some break leads to no named list
abbrev pub IsBestBy : {W : Type 0} → (W → Break) → (W → Type 0) → Priced → List (List Break) → List Break → List Break → Option (W × ℤ) → Type 0
IsBestBy stop Fits p named front stops None = (b : Break) → Has stops b → is_named named (front ++ b ∷ []) ≡ true
IsBestBy stop Fits p named front stops (Some best) = IsBestStop p named front stops (stop best.0) best.1 × Fits best.0

-- the same as a way to the spot behind it
abbrev pub IsBestWay : Priced → List (List Break) → List Break → List Break → Option (Way × ℤ) → Type 0
IsBestWay p named front stops best = IsBestBy (λ (w : Way). w.stop) (λ w. w.spot ≡ spot_of p.rule (front ++ w.stop ∷ [])) p named front stops best

-- the same as an edge to the node behind it
abbrev pub IsBestEdge : PricedNodes → List (List Break) → List Break → List Break → Option (Edge × ℤ) → Type 0
IsBestEdge p named front stops best = IsBestBy (λ (e : Edge). e.stop) (λ e. StandsAt p.rule p.len p.nodes e.next (front ++ e.stop ∷ [])) (priced_of p) named front stops best

-- the better of what was found so far and a later way
abbrev pub better_way : {W : Type 0} → Option (W × ℤ) → W → ℤ → Option (W × ℤ)
better_way None way reach = Some (way, reach)
better_way (Some best) way reach = if int_lt best.1 reach then Some (way, reach) else Some best

-- the ways on behind some breaks
pub record AreWays (p : Priced) (front : List Break) (ways : List Way) : Type 0 where
  pub stops : map (λ (w : Way). w.stop) ways ≡ live_stops p.rule p.len front
  pub spots : (i : ℕ) (w : Way) → slice_get ways i ≡ Some w → w.spot ≡ spot_of p.rule (front ++ w.stop ∷ [])
