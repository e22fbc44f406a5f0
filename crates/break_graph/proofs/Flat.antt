-- The nodes of a graph by number, and one node more, where their edges lie in one list.
use Rattle.break_graph.proofs.Common.{◌≡◌, ℕ, zero, suc, ◌+◌, ◌-◌, ◌<◌, ◌≤◌, List, [], ◌∷◌, ◌++◌, length, map, take, drop, get_or, sum_by, refl, sym, ap, ◌∙◌, subst, arith, between, length-append, get_or-map, take-append-le, take_all, drop_at, sum_by-cons, Edge, FlatNode, Node, node_at, nodes_from, AreFlat, begin_at}
use Rattle.std.proofs.lemmas.List.Edits.{length-between}
use Rattle.std.proofs.lemmas.Slice.{between_is}

-- ---- by number

pub length-nodes_from : (begin : ℕ) (ns : List FlatNode) (edges : List Edge) → length (nodes_from begin ns edges) ≡ length ns
length-nodes_from begin [] edges = refl
length-nodes_from begin (n ∷ ns) edges = ap suc (length-nodes_from n.end ns edges)

node_from : (begin : ℕ) (ns : List FlatNode) (edges : List Edge) (k : ℕ) (d : FlatNode) → k < length ns
    → node_at (nodes_from begin ns edges) k ≡ record { spot = (get_or ns k d).spot; edges = between (get_or (begin ∷ map (λ n. n.end) ns) k 0) (get_or ns k d).end edges }
node_from begin [] edges k d h = absurd (omega arith)
node_from begin (n ∷ ns) edges zero d h = refl
node_from begin (n ∷ ns) edges (suc k) d h = node_from n.end ns edges k d (omega arith)

begins_within : (begin : ℕ) (ns : List FlatNode) (edges : List Edge) → AreFlat begin ns edges → begin ≤ length edges
begins_within begin [] edges f = omega arith
begins_within begin (n ∷ ns) edges f = let rest = begins_within n.end ns edges f.1 in let here = f.0 in omega arith

lies_within : (begin : ℕ) (ns : List FlatNode) (edges : List Edge) (k : ℕ) (d : FlatNode) → AreFlat begin ns edges → k < length ns
    → (get_or (begin ∷ map (λ n. n.end) ns) k 0 ≤ (get_or ns k d).end) × ((get_or ns k d).end ≤ length edges)
lies_within begin [] edges k d f h = absurd (omega arith)
lies_within begin (n ∷ ns) edges zero d f h = (f.0, begins_within n.end ns edges f.1)
lies_within begin (n ∷ ns) edges (suc k) d f h = lies_within n.end ns edges k d f.1 (omega arith)

module _ (ns : List FlatNode) (edges : List Edge) (k : ℕ) (n : FlatNode) (h : k < length ns) (is : n ≡ get_or ns k n) where
  pub spot_flat : n.spot ≡ (node_at (nodes_from 0 ns edges) k).spot
  spot_flat = ap (λ (m : FlatNode). m.spot) is ∙ sym (ap (λ (m : Node). m.spot) (node_from 0 ns edges k n h))

  pub edges_flat : between (begin_at ns k) n.end edges ≡ (node_at (nodes_from 0 ns edges) k).edges
  edges_flat = ap (λ (m : FlatNode). between (begin_at ns k) m.end edges) is ∙ sym (ap (λ (m : Node). m.edges) (node_from 0 ns edges k n h))

  pub begins_first : AreFlat 0 ns edges → begin_at ns k ≤ n.end
  begins_first f = subst (λ (m : FlatNode). begin_at ns k ≤ m.end) (sym is) (lies_within 0 ns edges k n f h).0

  pub ends_within : AreFlat 0 ns edges → n.end ≤ length edges
  ends_within f = subst (λ (m : FlatNode). m.end ≤ length edges) (sym is) (lies_within 0 ns edges k n f h).1

-- ---- all edges

edges_from : (begin : ℕ) (ns : List FlatNode) (edges : List Edge) → AreFlat begin ns edges → begin + sum_by (λ (n : Node). length n.edges) (nodes_from begin ns edges) ≡ length edges
edges_from begin [] edges f = omega arith
edges_from begin (n ∷ ns) edges f =
    let node : Node = record { spot = n.spot; edges = between begin n.end edges } in
    let ordered = f.0 in
    let rest = edges_from n.end ns edges f.1 in
    let all = sum_by-cons (λ (n : Node). length n.edges) node (nodes_from n.end ns edges) in
    let long = length-between edges begin n.end (begins_within n.end ns edges f.1) in
    omega arith

pub edges_counted : (ns : List FlatNode) (edges : List Edge) → AreFlat 0 ns edges → length edges ≡ sum_by (λ (n : Node). length n.edges) (nodes_from 0 ns edges)
edges_counted ns edges f = let all = edges_from 0 ns edges f in omega arith

-- ---- one node more

between_front : (xs ys : List Edge) (i j : ℕ) → j ≤ length xs → between i j (xs ++ ys) ≡ between i j xs
between_front xs ys i j h = between_is (xs ++ ys) i j ∙ ap (drop i) (take-append-le j xs ys h) ∙ sym (between_is xs i j)

between_rest : (xs ys : List Edge) (i j : ℕ) → i ≡ length xs → length (xs ++ ys) ≡ j → between i j (xs ++ ys) ≡ ys
between_rest xs ys i j e l =
    let long = length-append xs ys in
    ap (take (j - i)) (drop_at xs ys i (sym e)) ∙ take_all (j - i) ys (omega arith)

pub nodes_more : (begin : ℕ) (ns : List FlatNode) (edges more : List Edge) (n : FlatNode) → AreFlat begin ns edges → length (edges ++ more) ≡ n.end
    → nodes_from begin (ns ++ n ∷ []) (edges ++ more) ≡ nodes_from begin ns edges ++ record { spot = n.spot; edges = more } ∷ []
nodes_more begin [] edges more n f l = ap (λ (es : List Edge). record { spot = n.spot; edges = es } ∷ []) (between_rest edges more begin n.end f l)
nodes_more begin (m ∷ ms) edges more n f l =
    ap (λ (es : List Edge). record { spot = m.spot; edges = es } ∷ nodes_from m.end (ms ++ n ∷ []) (edges ++ more)) (between_front edges more begin m.end (begins_within m.end ms edges f.1))
    ∙ ap (λ (rest : List Node). record { spot = m.spot; edges = between begin m.end edges } ∷ rest) (nodes_more m.end ms edges more n f.1 l)

pub flat_more : (begin : ℕ) (ns : List FlatNode) (edges more : List Edge) (n : FlatNode) → AreFlat begin ns edges → length (edges ++ more) ≡ n.end → AreFlat begin (ns ++ n ∷ []) (edges ++ more)
flat_more begin [] edges more n f l = let long = length-append edges more in (omega arith, sym l)
flat_more begin (m ∷ ms) edges more n f l = (f.0, flat_more m.end ms edges more n f.1 l)
