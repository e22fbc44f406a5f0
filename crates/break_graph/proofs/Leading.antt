-- The first legal list, along the first edges of a graph.
use Rattle.break_graph.proofs.Common.{◌≡◌, ◌≢◌, inl, inr, ℕ, ◌==◌, ◌+◌, ◌-◌, ◌<◌, ◌≤◌, arith, Bool, true, cond, List, [], ◌∷◌, ◌++◌, length, map, filter, refl, sym, ap, ◌∙◌, subst, append-nil, Some, None, Option, slice_get, find, cases_Bool, Break, Rule, is_legal, is_live, legal_lists, nexts_of, spot_of, first_legal, first_step, no_longer_list, Edge, Node, IsGraph, StandsAt, node_at}

-- what passes a test first
found_first : {X : Type 0} (p : X → Bool) (xs : List X) (x : X) (rest : List X) → filter p xs ≡ x ∷ rest → find p xs ≡ Some x
found_first p [] x rest e = absurd (cc (e))
found_first {X} p (y ∷ ys) x rest e =
    elim (cases_Bool (p y)) [
      | inl q ↦
          let here : y ∷ filter p ys ≡ x ∷ rest = sym (ap (λ t. cond t (y ∷ filter p ys) (filter p ys)) q) ∙ e in
          let same : y ≡ x = cc in
          ap (λ t. cond t (Some y) (find p ys)) q ∙ ap Some same
      | inr q ↦ ap (λ t. cond t (Some y) (find p ys)) q ∙ found_first p ys x rest (sym (ap (λ t. cond t (y ∷ filter p ys) (filter p ys)) q) ∙ e)
    ]

first_stop : (edges : List Edge) (e : Edge) → Some e ≡ slice_get edges 0 → (rest : List Break) × (map (λ e. e.stop) edges ≡ e.stop ∷ rest)
first_stop [] e h = absurd (cc (h))
first_stop (x ∷ xs) e h = (map (λ e. e.stop) xs, let same : x ≡ e = cc in ap (λ (z : Edge). z.stop ∷ map (λ e. e.stop) xs) same)

no_edge : (edges : List Edge) → ◌≡◌ {A = Option Edge} None (slice_get edges 0) → (length edges == 0) ≡ true
no_edge [] h = refl
no_edge (x ∷ xs) h = absurd (cc (h))

module _ (rule : Rule) (len : ℕ) (nodes : List Node) (k : ℕ) (list tail : List Break) (g : IsGraph rule len nodes) (st : StandsAt rule len nodes k list) (first : slice_get (legal_lists rule len) 0 ≡ Some (list ++ tail)) where
  -- the first edge of a node leads on to the first legal list
  pub first_on : (e : Edge) → Some e ≡ slice_get (node_at nodes k).edges 0 → (rest : List Break) × (slice_get (legal_lists rule len) 0 ≡ Some ((list ++ e.stop ∷ []) ++ rest))
  first_on e h =
      let s = first_stop (node_at nodes k).edges e h in
      first_step rule len list e.stop tail first
      (found_first (λ n. is_live rule len (list ++ n ∷ [])) (nexts_of rule len (spot_of rule list)) e.stop s.0 (sym (g.edges k list st) ∙ s.1))

  -- a list at a node without edges is whole
  pub first_whole : ◌≡◌ {A = Option Edge} None (slice_get (node_at nodes k).edges 0) → Some list ≡ slice_get (legal_lists rule len) 0
  first_whole h =
      let legal : is_legal rule len list ≡ true = sym (g.ends k list st) ∙ no_edge (node_at nodes k).edges h in
      let none : tail ≡ [] = no_longer_list rule len list tail legal (first_legal rule len (list ++ tail) first) in
      sym (first ∙ ap (λ l. Some (list ++ l)) none ∙ ap Some (append-nil list))

-- the node where walks begin
pub no_nodes : (nodes : List Node) → length nodes < 1 → nodes ≡ []
no_nodes [] h = refl
no_nodes (n ∷ ns) h = absurd (omega arith)

some_nodes : (nodes : List Node) → 1 ≤ length nodes → nodes ≢ []
some_nodes nodes h e = let none : length nodes ≡ 0 = ap length e in omega arith

pub last_node : (rule : Rule) (len : ℕ) (nodes : List Node) (k : ℕ) → IsGraph rule len nodes → k + 1 ≡ length nodes → StandsAt rule len nodes k []
last_node rule len nodes k g is =
    let last : length nodes - 1 ≡ k = omega arith in
    subst (λ n. StandsAt rule len nodes n []) last (g.opening (some_nodes nodes (omega arith)))
