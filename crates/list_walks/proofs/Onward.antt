-- How lists go on from where they stand.
use Rattle.std.proofs.Common.{◌≡◌, inl, inr, ℕ, ◌-◌, ◌<◌, ◌==◌, Bool, true, false, Option, Some, None, List, [], ◌∷◌, ◌++◌, map, length, refl, sym, ap, ◌∙◌, subst, append_assoc, arith}
use Rattle.std.specs.Prelude.{IfSome, slice_get}
use Rattle.std.specs.Option.{option_map}
use Rattle.std.proofs.lemmas.Bool.{cases_Bool, ne_eqb}
use Rattle.std.proofs.lemmas.List.{length-map}
use Rattle.std.proofs.lemmas.List.Sums.{fold-append}
use Rattle.std.proofs.lemmas.Option.{slice_get-map}
use Rattle.std.proofs.lemmas.Simd.{map-map}
use Rattle.break_rules.specs.declared.Break.{Break}
use Rattle.break_rules.specs.declared.Rule.{Rule}
use Rattle.break_rules.specs.declared.Spot.{Spot}
use Rattle.break_rules.specs.Breaks.{end_of, is_legal, is_live}
use Rattle.break_rules.specs.Ranges.{IsRule}
use Rattle.break_rules.specs.Walk.{end_of_all, nexts_of, spot_of}
use Rattle.break_rules.proofs.LegalLists.{live_rest, no_longer_list}
use Rattle.break_rules.specs.Lists.{Has}
use Rattle.break_rules.proofs.Lists.{Has-map, Has-filter, from_filter}
use Rattle.break_rules.proofs.Reaching.{live_cases, live_walks, walk_small}
use Rattle.break_rules.proofs.Steps.{bounds, from_next}
use Rattle.break_graph.specs.declared.Node.{Node}
use Rattle.break_graph.specs.Graph.{IsGraph, StandsAt, live_nexts, node_at}
use Rattle.break_graph.proofs.Elements.{Has-get}
use Rattle.break_graph.proofs.Marks.{walk_front}
use Rattle.break_layers.specs.declared.ways.Way.{Way as LayerWay}
use Rattle.list_walks.specs.declared.steps.Standing.{Standing}
use Rattle.list_walks.specs.declared.steps.WalkWay.{WalkWay}
use Rattle.list_walks.specs.Stands.{Walks, Stands, AreWaysOn}
use Rattle.list_walks.specs.Steps.{way_along, way_to}

-- the origin of an element at a place
from_mapped : {X Y : Type 0} (f : X → Y) (xs : List X) (i : ℕ) (y : Y) → slice_get (map f xs) i ≡ Some y → (x : X) × (slice_get xs i ≡ Some x) × (f x ≡ y)
from_mapped {X} {Y} f xs i y h = by (slice_get xs i) refl (sym (slice_get-map f xs i) ∙ h)
  where
    by : (o : Option X) → slice_get xs i ≡ o → option_map f o ≡ Some y → (x : X) × (slice_get xs i ≡ Some x) × (f x ≡ y)
    by None is e = cc
    by (Some x) is e = (x, is, let same : f x ≡ y = cc in same)

-- a list without elements
none_has : {X : Type 0} (xs : List X) → ((x : X) → Has xs x → ⊥) → (length xs == 0) ≡ true
none_has [] h = refl
none_has (x ∷ xs) h = absurd (h x (inl refl))

some_has : {X : Type 0} (xs : List X) (x : X) → Has xs x → (length xs == 0) ≡ false
some_has [] x m = absurd m
some_has (y ∷ xs) x m = ne_eqb (length (y ∷ xs)) 0 (λ e. omega arith)

-- a list with which some legal list begins goes on unless it is legal
pub none_on : (rule : Rule) (len : ℕ) (list : List Break) → is_live rule len list ≡ true → (length (live_nexts rule len list) == 0) ≡ is_legal rule len list
none_on rule len list live =
    let passes : Break → Bool = λ b. is_live rule len (list ++ b ∷ []) in
    elim (cases_Bool (is_legal rule len list)) [
      | inl t ↦ none_has (live_nexts rule len list) (λ b m.
          let p = from_filter passes (nexts_of rule len (spot_of rule list)) b m in
          let r = live_rest rule len (list ++ b ∷ []) p.1 in
          let none : b ∷ r.0 ≡ [] = no_longer_list rule len list (b ∷ r.0) t (sym (ap (is_legal rule len) (append_assoc list (b ∷ []) r.0)) ∙ r.1) in
          cc) ∙ sym t
      | inr f ↦ elim (live_cases rule len list live) [
        | inl t ↦ cc
        | inr n ↦ some_has (live_nexts rule len list) n.0 (Has-filter passes (nexts_of rule len (spot_of rule list)) n.0 n.2 n.1) ∙ sym f
      ]
    ]

-- with a break more a list ends nearer to the end of the shift
pub ends_nearer : (rule : Rule) (len : ℕ) (list : List Break) (b : Break) → IsRule rule → is_live rule len (list ++ b ∷ []) ≡ true
    → len - (spot_of rule (list ++ b ∷ [])).offset < len - (spot_of rule list).offset
ends_nearer rule len list b r live =
    let walk = live_walks rule len (list ++ b ∷ []) live in
    let front = walk_front rule len list b walk in
    let e : end_of_all (list ++ b ∷ []) ≡ end_of b = fold-append (λ (at : ℕ) (c : Break). end_of c) 0 list (b ∷ []) in
    let s = walk_small rule len (list ++ b ∷ []) r walk in
    let f = bounds rule len (spot_of rule list).offset (spot_of rule list).used b (from_next rule len (spot_of rule list) b front.1) in
    omega (arith, e, s.offset, f.later, f.some)

pub stands_nearer : (walks : Walks) (at next : Standing) (list : List Break) (b : Break) → IsRule walks.rule → Stands walks at list → Stands walks next (list ++ b ∷ [])
    → walks.len - next.spot.offset < walks.len - at.spot.offset
stands_nearer walks at next list b r s t =
    let one : next.spot.offset ≡ (spot_of walks.rule (list ++ b ∷ [])).offset = ap (λ (x : Spot). x.offset) t.spot in
    let two : at.spot.offset ≡ (spot_of walks.rule list).offset = ap (λ (x : Spot). x.offset) s.spot in
    let n = ends_nearer walks.rule walks.len list b r t.live in
    omega (arith, one, two, n)

-- along a graph
module _ (walks : Walks) (nodes : List Node) (h : walks.nodes ≡ Some nodes) (r : IsRule walks.rule) (g : IsGraph walks.rule walks.len nodes) where
  pub stands_at : (at : Standing) (list : List Break) → Stands walks at list → StandsAt walks.rule walks.len nodes at.node list
  stands_at at list s = subst (λ (o : Option (List Node)). IfSome o (λ ns. StandsAt walks.rule walks.len ns at.node list)) h s.node

  stands_by : (node : ℕ) (list : List Break) → StandsAt walks.rule walks.len nodes node list → Stands walks (record { spot = (node_at nodes node).spot; node = node }) list
  stands_by node list s = record {
    walk = s.walk;
    live = s.live;
    spot = s.spot;
    node = subst (λ (o : Option (List Node)). IfSome o (λ ns. StandsAt walks.rule walks.len ns node list)) (sym h) s;
  }

  pub ways_on_along : (at : Standing) (list : List Break) (ways : List WalkWay) → ways ≡ map (way_along nodes) (node_at nodes at.node).edges → Stands walks at list → AreWaysOn walks at list ways
  ways_on_along at list ways is s =
      let edges = (node_at nodes at.node).edges in
      let here = stands_at at list s in
      record {
        stops = ap (map (λ (w : WalkWay). w.stop)) is ∙ map-map (λ (w : WalkWay). w.stop) (way_along nodes) edges ∙ g.edges at.node list here;
        stand = stand;
        nearer = λ i w m. stands_nearer walks at w.at list w.stop r s (stand i w m);
        ends = ap (λ (ws : List WalkWay). length ws == 0) is ∙ ap (λ (n : ℕ). n == 0) (length-map edges (way_along nodes)) ∙ g.ends at.node list here;
      }
    where
      stand : (i : ℕ) (w : WalkWay) → slice_get ways i ≡ Some w → Stands walks w.at (list ++ w.stop ∷ [])
      stand i w m =
          let e = from_mapped (way_along nodes) (node_at nodes at.node).edges i w (ap (λ (ws : List WalkWay). slice_get ws i) (sym is) ∙ m) in
          let behind = g.behind at.node i e.0 list (stands_at at list s) e.1 in
          subst (λ (v : WalkWay). Stands walks v.at (list ++ v.stop ∷ [])) e.2 (stands_by e.0.next (list ++ e.0.stop ∷ []) behind)

-- by layers
pub ways_on_by : (walks : Walks) → walks.nodes ≡ None → IsRule walks.rule → (at : Standing) (list : List Break) (found : List LayerWay) (ways : List WalkWay) → ways ≡ map way_to found
    → map (λ (w : LayerWay). w.stop) found ≡ live_nexts walks.rule walks.len list
    → ((i : ℕ) (w : LayerWay) → slice_get found i ≡ Some w → w.spot ≡ spot_of walks.rule (list ++ w.stop ∷ []))
    → Stands walks at list → AreWaysOn walks at list ways
ways_on_by walks h r at list found ways is stops spots s =
    record {
      stops = all;
      stand = stand;
      nearer = λ i w m. stands_nearer walks at w.at list w.stop r s (stand i w m);
      ends = ap (λ (n : ℕ). n == 0) (sym (length-map ways (λ (w : WalkWay). w.stop))) ∙ ap (λ (bs : List Break). length bs == 0) all ∙ none_on walks.rule walks.len list s.live;
    }
  where
    all : map (λ (w : WalkWay). w.stop) ways ≡ live_nexts walks.rule walks.len list
    all = ap (map (λ (w : WalkWay). w.stop)) is ∙ map-map (λ (w : WalkWay). w.stop) way_to found ∙ stops

    stand : (i : ℕ) (w : WalkWay) → slice_get ways i ≡ Some w → Stands walks w.at (list ++ w.stop ∷ [])
    stand i w m =
        let v = from_mapped way_to found i w (ap (λ (ws : List WalkWay). slice_get ws i) (sym is) ∙ m) in
        let has : Has (live_nexts walks.rule walks.len list) v.0.stop = subst (λ (bs : List Break). Has bs v.0.stop) stops (Has-map (λ (w : LayerWay). w.stop) found v.0 (Has-get found i v.0 v.1)) in
        let live : is_live walks.rule walks.len (list ++ v.0.stop ∷ []) ≡ true = (from_filter (λ b. is_live walks.rule walks.len (list ++ b ∷ [])) (nexts_of walks.rule walks.len (spot_of walks.rule list)) v.0.stop has).1 in
        let stands : Stands walks (way_to v.0).at (list ++ v.0.stop ∷ []) = record {
          walk = live_walks walks.rule walks.len (list ++ v.0.stop ∷ []) live;
          live = live;
          spot = spots i v.0 v.1;
          node = subst (λ (o : Option (List Node)). IfSome o (λ ns. StandsAt walks.rule walks.len ns 0 (list ++ v.0.stop ∷ []))) (sym h) tt;
        } in
        subst (λ (u : WalkWay). Stands walks u.at (list ++ u.stop ∷ [])) v.2 stands
