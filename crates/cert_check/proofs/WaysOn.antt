-- The ways on from a place of a walk.
use Rattle.cert_check.proofs.Common.{◌≡◌, inl, inr, ℕ, zero, suc, ◌+◌, ◌-◌, ◌<◌, ◌≤◌, ℤ, pos, false, true, List, [], ◌∷◌, ◌++◌, length, map, take, get_or, refl, sym, ap, ◌∙◌, subst, arith, Option, Some, None, slice_get, IsTrue, MatchOption, is_some, unwrap_or, false≢true, take_more, take_all, map-append, length-map, get_or-map, Break, Rule, Spot, is_live, end_of_all, nexts_of, spot_of, is_walk, Has, from_filter, walk_on, Edge, StandsAt, IsGraph, node_at, live_nexts, Completes, sums_on, Way, IsMostEarned, rest_worth, AreValues, IsGreatest, AreWays, IsAtNode, IsAtSpot}
use Rattle.break_rules.proofs.FirstList.{nearer}
use Rattle.break_graph.specs.declared.Node.{Node}
use Rattle.break_layers.specs.Rests.{Priced}
use Rattle.break_layers.specs.Ways.{live_stops}
use Rattle.break_layers.proofs.Following.{most_live}
use Rattle.cert_check.proofs.Values.{no_edge, edge_behind}

-- what stands at some place of a list is among what it maps to
has_mapped : {X Y : Type 0} (f : X → Y) (xs : List X) (i : ℕ) (d : X) → i < length xs → Has (map f xs) (f (get_or xs i d))
has_mapped f [] i d l = absurd (omega arith)
has_mapped f (x ∷ xs) zero d l = inl refl
has_mapped f (x ∷ xs) (suc i) d l = inr (has_mapped f xs i d (omega arith))

-- a break with which some legal list goes on
abbrev is_next : (rule : Rule) (len : ℕ) (list : List Break) (b : Break) → Has (live_nexts rule len list) b → Has (nexts_of rule len (spot_of rule list)) b × (is_live rule len (list ++ b ∷ []) ≡ true)
is_next rule len list b h = from_filter (λ b. is_live rule len (list ++ b ∷ [])) (nexts_of rule len (spot_of rule list)) b h

module _ {P : Type 0} (stands : P → List Break → Type 0) (rule : Rule) (len : ℕ) (list : List Break) (ways : List (Break × P)) (are : AreWays stands rule len list ways) where
  -- the breaks of the first ways, and of one more
  pub way_more : (i : ℕ) (w : Break × P) → i < length ways → w ≡ get_or ways i w → map (λ (w : Break × P). w.0) (take (i + 1) ways) ≡ map (λ (w : Break × P). w.0) (take i ways) ++ w.0 ∷ []
  way_more i w inside is =
      ap (map (λ (w : Break × P). w.0)) (take_more ways i w inside) ∙ map-append (λ (w : Break × P). w.0) (take i ways) (get_or ways i w ∷ [])
      ∙ ap (λ (x : Break × P). map (λ (w : Break × P). w.0) (take i ways) ++ x.0 ∷ []) (sym is)

  -- the place behind a way
  pub way_place : (i : ℕ) (w : Break × P) → i < length ways → w ≡ get_or ways i w → stands w.1 (list ++ w.0 ∷ [])
  way_place i w inside is = subst (λ (x : Break × P). stands x.1 (list ++ x.0 ∷ [])) (sym is) (are.places i w inside)

  -- each way leads nearer to the end of the shift
  pub way_nearer : (i : ℕ) (w : Break × P) → i < length ways → w ≡ get_or ways i w → len - end_of_all (list ++ w.0 ∷ []) < len - end_of_all list
  way_nearer i w inside is =
      let has : Has (map (λ (w : Break × P). w.0) ways) (get_or ways i w).0 = has_mapped (λ (w : Break × P). w.0) ways i w inside in
      let own : Has (live_nexts rule len list) w.0 = subst (λ (x : Break × P). Has (live_nexts rule len list) x.0) (sym is) (subst (λ (bs : List Break). Has bs (get_or ways i w).0) are.stops has) in
      nearer rule len list (spot_of rule list) (spot_of rule (list ++ w.0 ∷ [])) w.0 refl refl (is_next rule len list w.0 own).0

  -- the breaks of all ways
  pub ways_all : (i : ℕ) → length ways ≤ i → map (λ (w : Break × P). w.0) (take i ways) ≡ live_nexts rule len list
  ways_all i l = ap (map (λ (w : Break × P). w.0)) (take_all i ways l) ∙ are.stops

-- the breaks of pairs
first_parts : {X Y : Type 0} (stop : X → Break) (place : X → Y) (xs : List X) → map (λ (p : Break × Y). p.0) (map (λ x. (stop x, place x)) xs) ≡ map stop xs
first_parts stop place [] = refl
first_parts stop place (x ∷ xs) = ap (λ (bs : List Break). stop x ∷ bs) (first_parts stop place xs)

-- the edges of a node are ways
pub node_ways : (graph : List Node) (lanes : List (List ℤ)) (day : ℕ) (rule : Rule) (len : ℕ) (sums : List ℤ) (node : ℕ) (list : List Break) (edges : List Edge) → IsAtNode graph lanes day rule len sums node list
    → edges ≡ (node_at graph node).edges → AreWays (IsAtNode graph lanes day rule len sums) rule len list (map (λ (e : Edge). (e.stop, e.next)) edges)
node_ways graph lanes day rule len sums node list edges s are =
    let f : Edge → Break × ℕ = λ e. (e.stop, e.next) in
    record {
      stops = first_parts (λ (e : Edge). e.stop) (λ (e : Edge). e.next) edges ∙ ap (map (λ (e : Edge). e.stop)) are ∙ s.whole.edges node list s.stands;
      places = λ k d inside.
          let l : k < length edges = subst (λ n. k < n) (length-map edges f) inside in
          let behind : IsAtNode graph lanes day rule len sums (get_or edges k no_edge).next (list ++ (get_or edges k no_edge).stop ∷ []) =
          record { has_lane = s.has_lane; whole = s.whole; stands = edge_behind rule len graph node edges s.whole s.stands.within are k list l s.stands; values = s.values } in
          subst (λ (p : Break × ℕ). IsAtNode graph lanes day rule len sums p.1 (list ++ p.0 ∷ [])) (sym (get_or-map f edges k no_edge d l)) behind;
    }

no_way : Way
no_way = record { stop = record { start = 0; len = 0 }; spot = record { offset = 0; used = 0; lunches = 0 } }

some_at : {X : Type 0} (xs : List X) (i : ℕ) (d : X) → i < length xs → slice_get xs i ≡ Some (get_or xs i d)
some_at [] i d l = absurd (omega arith)
some_at (x ∷ xs) zero d l = refl
some_at (x ∷ xs) (suc i) d l = some_at xs i d (omega arith)

-- the ways by layers are ways
pub spot_ways : (layers : Priced) (rule : Rule) (len : ℕ) (sums : List ℤ) (spot : Spot) (list : List Break) (ways : List Way) → IsAtSpot layers rule len sums spot list
    → (IsTrue (is_walk layers.rule layers.len list) → spot ≡ spot_of layers.rule list → map (λ (w : Way). w.stop) ways ≡ live_stops layers.rule layers.len list)
    → (IsTrue (is_walk layers.rule layers.len list) → spot ≡ spot_of layers.rule list → (i : ℕ) (w : Way) → slice_get ways i ≡ Some w → w.spot ≡ spot_of layers.rule (list ++ w.stop ∷ []))
    → AreWays (IsAtSpot layers rule len sums) rule len list (map (λ (w : Way). (w.stop, w.spot)) ways)
spot_ways layers rule len sums spot list ways s stops spots =
    let f : Way → Break × Spot = λ w. (w.stop, w.spot) in
    let own_stops : map (λ (w : Way). w.stop) ways ≡ live_nexts rule len list =
    subst (λ (p : Priced). IsTrue (is_walk p.rule p.len list) → spot ≡ spot_of p.rule list → map (λ (w : Way). w.stop) ways ≡ live_stops p.rule p.len list) s.made_for stops s.walk s.reaches in
    let own_spots = subst (λ (p : Priced). IsTrue (is_walk p.rule p.len list) → spot ≡ spot_of p.rule list → (i : ℕ) (w : Way) → slice_get ways i ≡ Some w → w.spot ≡ spot_of p.rule (list ++ w.stop ∷ [])) s.made_for spots s.walk s.reaches in
    record {
      stops = first_parts (λ (w : Way). w.stop) (λ (w : Way). w.spot) ways ∙ own_stops;
      places = λ k d inside.
          let l : k < length ways = subst (λ n. k < n) (length-map ways f) inside in
          let w = get_or ways k no_way in
          let next = is_next rule len list w.stop (subst (λ (bs : List Break). Has bs w.stop) own_stops (has_mapped (λ (w : Way). w.stop) ways k no_way l)) in
          let behind : IsAtSpot layers rule len sums w.spot (list ++ w.stop ∷ []) =
          record { made_for = s.made_for; walk = walk_on rule len list w.stop s.walk next.0; reaches = own_spots k w (some_at ways k no_way l); live = next.1 } in
          subst (λ (p : Break × Spot). IsAtSpot layers rule len sums p.1 (list ++ p.0 ∷ [])) (sym (get_or-map f ways k no_way d l)) behind;
    }

-- the value at a spot
pub spot_value : (layers : Priced) (rule : Rule) (len : ℕ) (sums : List ℤ) (spot : Spot) (list : List Break) (found : Option ℤ) → IsAtSpot layers rule len sums spot list
    → (IsTrue (is_walk layers.rule layers.len list) → spot ≡ spot_of layers.rule list → MatchOption found (is_live layers.rule layers.len list ≡ false) (IsMostEarned layers.rule layers.len layers.sums list))
    → IsGreatest (Completes rule len list) (rest_worth sums rule len list) (unwrap_or found (pos 0))
spot_value layers rule len sums spot list found s known =
    by found (subst (λ (p : Priced). IsTrue (is_walk p.rule p.len list) → spot ≡ spot_of p.rule list → MatchOption found (is_live p.rule p.len list ≡ false) (IsMostEarned p.rule p.len p.sums list)) s.made_for known s.walk s.reaches)
  where
    by : (o : Option ℤ) → MatchOption o (is_live rule len list ≡ false) (IsMostEarned rule len sums list) → IsGreatest (Completes rule len list) (rest_worth sums rule len list) (unwrap_or o (pos 0))
    by None dead = absurd (false≢true (sym dead ∙ s.live))
    by (Some v) most = record { reached = most.reached; greatest = most.greatest }

-- where a value is known at the opening spot, the empty list stands there
pub opening_spot : (layers : Priced) (rule : Rule) (len : ℕ) (sums : List ℤ) (spot : Spot) (found : Option ℤ) → layers ≡ record { rule = rule; len = len; sums = sums } → spot ≡ spot_of rule []
    → (IsTrue (is_walk layers.rule layers.len []) → spot ≡ spot_of layers.rule [] → MatchOption found (is_live layers.rule layers.len [] ≡ false) (IsMostEarned layers.rule layers.len layers.sums [])) → is_some found ≡ true
    → IsAtSpot layers rule len sums spot []
opening_spot layers rule len sums spot found made at known some =
    let own : Priced = record { rule = rule; len = len; sums = sums } in
    let there = subst (λ (p : Priced). IsTrue (is_walk p.rule p.len []) → spot ≡ spot_of p.rule [] → MatchOption found (is_live p.rule p.len [] ≡ false) (IsMostEarned p.rule p.len p.sums [])) made known refl at in
    record { made_for = made; walk = refl; reaches = at; live = by found some there }
  where
    by : (o : Option ℤ) → is_some o ≡ true → MatchOption o (is_live rule len [] ≡ false) (IsMostEarned rule len sums []) → is_live rule len [] ≡ true
    by None e m = absurd (false≢true e)
    by (Some v) e m = most_live rule len sums [] v m

-- the empty list stands at the last node of a graph
pub opening_node : (graph : List Node) (lanes : List (List ℤ)) (day : ℕ) (rule : Rule) (len : ℕ) (sums : List ℤ) (nodes : ℕ) → day < 8 → IsGraph rule len graph → nodes ≡ length graph → 0 < nodes
    → AreValues rule len sums graph (length graph) (sums_on day lanes) → IsAtNode graph lanes day rule len sums (nodes - 1) []
opening_node graph lanes day rule len sums nodes low whole count some values =
    let opening = whole.opening (λ none. let empty : length graph ≡ 0 = ap length none in omega (arith, some, count, empty)) in
    record { has_lane = low; whole = whole; stands = subst (λ n. StandsAt rule len graph (n - 1) []) (sym count) opening; values = values }
