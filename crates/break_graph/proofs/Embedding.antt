-- Each graph of a rule and a length has the nodes that are made for it, in their order, with as many edges.
use Rattle.break_graph.proofs.Common.{◌≡◌, ◌≢◌, inl, inr, ℕ, zero, suc, ◌+◌, ◌<◌, ◌≤◌, true, List, [], length, map, take, sum_by, sym, ap, ◌∙◌, subst, arith, Option, false≢true, cases_lt, length-map, take_all, take-take, sum_by_more, sum_by-take-le, Break, Rule, is_live, place_of, Edge, Node, node_at, StandsAt, IsGraph, AreDrafted}
use Rattle.break_graph.proofs.Fronts.{live_front, edge_on, stands_on}

-- the number of the edges of all nodes
abbrev pub edges_in : List Node → ℕ
edges_in nodes = sum_by (λ (n : Node). length n.edges) nodes

abbrev blank : Node
blank = record { spot = record { offset = 0; used = 0; lunches = 0 }; edges = [] }

module _ (rule : Rule) (len : ℕ) (g : List Node) (is : IsGraph rule len g) where
  -- each list with which some legal list begins stands at some node
  stands_before : (list : List Break) → is_live rule len list ≡ true → (i : ℕ) → i ≤ length list → (k : ℕ) × StandsAt rule len g k (take i list)
  stands_before list live zero h =
      let some : g ≢ [] = λ e. false≢true (sym (is.none e) ∙ live_front rule len [] list live) in
      (_, is.opening some)
  stands_before list live (suc i) h =
      let d : Break = record { start = 0; len = 0 } in
      let inside : i < length list = omega arith in
      let before = stands_before list live i (omega arith) in
      let e = edge_on rule len g is before.0 list i d inside before.1 live in
      let next : i + 1 ≡ suc i = omega arith in
      (e.0.next, subst (λ n. StandsAt rule len g e.0.next (take n list)) next (stands_on rule len g is before.0 list i d inside before.1 e.0 e.1 e.2))

  stands : (list : List Break) → is_live rule len list ≡ true → (k : ℕ) × StandsAt rule len g k list
  stands list live =
      let at = stands_before list live (length list) (omega arith) in
      (at.0, subst (StandsAt rule len g at.0) (take_all (length list) list (omega arith)) at.1)

  module _ (before : ℕ) (nodes : List Node) (numbers : List (Option ℕ)) (made : AreDrafted rule len before nodes numbers) where
    -- a node of the graph with the spot of one that is made, and with as many edges
    twin : (j : ℕ) → j < length nodes
        → (k : ℕ) × (k < length g) × (place_of len (node_at nodes j).spot ≡ place_of len (node_at g k).spot) × (length (node_at nodes j).edges ≡ length (node_at g k).edges)
    twin j h =
        let list = (made.reached j h).0 in
        let here = (made.reached j h).1 in
        let k = (stands list here.live).0 in
        let there = (stands list here.live).1 in
        let stops : map (λ (e : Edge). e.stop) (node_at nodes j).edges ≡ map (λ (e : Edge). e.stop) (node_at g k).edges = made.edges j list here ∙ sym (is.edges k list there) in (
          k,
          there.within,
          ap (place_of len) (here.spot ∙ sym there.spot),
          sym (length-map (node_at nodes j).edges (λ (e : Edge). e.stop)) ∙ ap length stops ∙ length-map (node_at g k).edges (λ (e : Edge). e.stop),
        )

    -- a node of a lesser place comes earlier
    comes_before : (k x : ℕ) → k < length g → x < length g → place_of len (node_at g x).spot < place_of len (node_at g k).spot → x < k
    comes_before k x hk hx less =
        elim (cases_lt x k) [
          | inl l ↦ l
          | inr ge ↦ elim (cases_lt k x) [
            | inl l ↦ let more = is.order k x l hx in absurd (omega arith)
            | inr le ↦
                let same : k ≡ x = omega arith in
                let places : place_of len (node_at g k).spot ≡ place_of len (node_at g x).spot = ap (λ (i : ℕ). place_of len (node_at g i).spot) same in
                absurd (omega arith)
          ]
        ]

    -- the first nodes have no more edges than the first ones of the graph, where those have all their spots
    fewer_first : (j m : ℕ) → j ≤ length nodes → m ≤ length g
        → ((i k : ℕ) → i < j → k < length g → place_of len (node_at nodes i).spot ≡ place_of len (node_at g k).spot → k < m)
        → edges_in (take j nodes) ≤ edges_in (take m g)
    fewer_first zero m lj lm earlier = omega arith
    fewer_first (suc j) m lj lm earlier =
        let inside : j < length nodes = omega arith in
        let t = twin j inside in
        let k = t.0 in
        let less : k < m = earlier j k (omega arith) t.1 t.2 in
        let rest : edges_in (take j nodes) ≤ edges_in (take k g) = fewer_first j k (omega arith) (omega arith)
        (λ i x li lx e. let lower = made.order i j li inside in let same = t.2 in comes_before k x t.1 lx (omega arith)) in
        let next : j + 1 ≡ suc j = omega arith in
        let here : edges_in (take (suc j) nodes) ≡ edges_in (take j nodes) + length (node_at nodes j).edges =
        subst (λ n. edges_in (take n nodes) ≡ edges_in (take j nodes) + length (node_at nodes j).edges) next (sum_by_more (λ (n : Node). length n.edges) nodes j blank inside) in
        let there : edges_in (take (k + 1) g) ≡ edges_in (take k g) + length (node_at g k).edges = sum_by_more (λ (n : Node). length n.edges) g k blank t.1 in
        let part : edges_in (take (k + 1) g) ≤ edges_in (take m g) =
        subst (λ (ns : List Node). edges_in ns ≤ edges_in (take m g)) (take-take (k + 1) m g (omega arith)) (sum_by-take-le (λ (n : Node). length n.edges) (take m g) (k + 1)) in
        let equal = t.3 in
        omega arith

    fewer_edges : edges_in nodes ≤ edges_in g
    fewer_edges =
        let first = fewer_first (length nodes) (length g) (omega arith) (omega arith) (λ i k li lk e. lk) in
        subst (λ (ns : List Node). edges_in ns ≤ edges_in g) (take_all (length nodes) nodes (omega arith))
        (subst (λ (ns : List Node). edges_in (take (length nodes) nodes) ≤ edges_in ns) (take_all (length g) g (omega arith)) first)

    -- where the nodes made so far have too many edges, so has the graph
    pub too_many : (most : ℕ) → most < edges_in nodes → most < edges_in g
    too_many most more = let fewer = fewer_edges in omega arith
