-- The values of the nodes, one after another.
use Rattle.cert_check.proofs.Common.{◌≡◌, ℕ, zero, suc, ◌+◌, ◌*◌, ◌<◌, ◌≤◌, ℤ, ◌+ℤ◌, ◌-ℤ◌, List, [], ◌∷◌, ◌++◌, length, map, take, refl, sym, ap, ◌∙◌, subst, arith, Some, get_or, FitsSigned, slice_get, w64, unsigned_abs, fits_signed_from_abs, take_more, get_or_default, fold-append, Break, Rule, end_of, IsRule, end_of_all, spot_of, rest_first, Edge, StandsAt, IsGraph, node_at, sum_at, price_in, AreSums, resumes, earned_from, Completes, rest_worth, IsGreatest, abs_sub}
use Rattle.break_rules.proofs.Steps.{bounds, from_next}
use Rattle.break_graph.specs.declared.Node.{Node}
use Rattle.price_sums.proofs.Stretches.{earned_more, earned_end, earned_small, spaced_rest, resumes_behind}
use Rattle.cert_check.proofs.Greatest.{longer}

-- what a rest earns is small
pub rest_small : (sums : List ℤ) (rule : Rule) (len : ℕ) (list rest : List Break) → AreSums len sums → unsigned_abs (rest_worth sums rule len list rest) ≤ 10000000000 * 65535
rest_small sums rule len list rest s =
    let one = earned_small sums rule len (resumes rule (end_of_all list)) rest s in
    let short : len ≤ 65535 = s.short in
    omega arith

-- a stretch before a break
abbrev pub before_of : List ℤ → Rule → List Break → Break → ℤ
before_of sums rule list b = sum_at sums b.start -ℤ sum_at sums (resumes rule (end_of_all list))

-- the prices of a stretch before a break fit
pub before_fits : (sums : List ℤ) (rule : Rule) (len : ℕ) (list : List Break) (b : Break) → AreSums len sums → FitsSigned w64 (before_of sums rule list b)
before_fits sums rule len list b s =
    let size = abs_sub (sum_at sums b.start) (sum_at sums (resumes rule (end_of_all list))) _ _ (s.size b.start) (s.size (resumes rule (end_of_all list))) in
    fits_signed_from_abs w64 _ (omega (arith, size))

module _ (sums : List ℤ) (rule : Rule) (len : ℕ) (list : List Break) (r : IsRule rule) where
  -- a rest that begins with a break earns the stretch before it and what is earned behind it
  pub worth_more : (b : Break) (bs : List Break) → Completes rule len (list ++ b ∷ []) bs
      → rest_worth sums rule len list (b ∷ bs) ≡ before_of sums rule list b +ℤ rest_worth sums rule len (list ++ b ∷ []) bs
  worth_more b bs h =
      let c : Completes rule len list (b ∷ bs) = sym (longer rule len list b bs) ∙ h in
      let end : end_of_all (list ++ b ∷ []) ≡ end_of b = fold-append (λ (at : ℕ) (c : Break). end_of c) 0 list (b ∷ []) in
      let next = bounds rule len _ _ b (from_next rule len (spot_of rule list) b (rest_first rule len list b bs c).1) in
      let some : 0 < end_of b = omega (arith, next.some) in
      earned_more sums rule len (resumes rule (end_of_all list)) b bs (spaced_rest rule len list (b ∷ bs) r c)
      ∙ ap (λ k. before_of sums rule list b +ℤ earned_from (price_in sums) rule len k bs)
      (sym (ap (resumes rule) end ∙ resumes_behind rule (end_of b) some))

  -- the empty rest earns the stretch to the end
  pub worth_end : Completes rule len list [] → rest_worth sums rule len list [] ≡ sum_at sums len -ℤ sum_at sums (resumes rule (end_of_all list))
  worth_end h = earned_end sums rule len (resumes rule (end_of_all list)) (spaced_rest rule len list [] r h)

-- the breaks of the first edges, and of one more
pub stops_more : (edges : List Edge) (i : ℕ) (e : Edge) → i < length edges → e ≡ get_or edges i e → map (λ (e : Edge). e.stop) (take (i + 1) edges) ≡ map (λ (e : Edge). e.stop) (take i edges) ++ e.stop ∷ []
stops_more edges i e inside is =
    ap (map (λ (e : Edge). e.stop)) (take_more edges i e inside) ∙ map-append (take i edges) (get_or edges i e ∷ []) ∙ ap (λ (x : Edge). map (λ (e : Edge). e.stop) (take i edges) ++ x.stop ∷ []) (sym is)
  where
    map-append : (xs ys : List Edge) → map (λ (e : Edge). e.stop) (xs ++ ys) ≡ map (λ (e : Edge). e.stop) xs ++ map (λ (e : Edge). e.stop) ys
    map-append [] ys = refl
    map-append (x ∷ xs) ys = ap (λ (zs : List Break). x.stop ∷ zs) (map-append xs ys)

pub edge_at : (edges : List Edge) (i : ℕ) (e : Edge) → i < length edges → e ≡ get_or edges i e → slice_get edges i ≡ Some e
edge_at [] i e inside is = absurd (omega arith)
edge_at (x ∷ xs) zero e inside is = ap Some (sym is)
edge_at (x ∷ xs) (suc i) e inside is = edge_at xs i e (omega arith) is

abbrev pub no_edge : Edge
no_edge = record { stop = record { start = 0; len = 0 }; next = 0 }

module _ (rule : Rule) (len : ℕ) (nodes : List Node) (k : ℕ) (edges : List Edge) (g : IsGraph rule len nodes) (inside : k < length nodes) (are : edges ≡ (node_at nodes k).edges) where
  -- an edge of the node
  edge_there : (i : ℕ) → i < length edges → slice_get (node_at nodes k).edges i ≡ Some (get_or edges i no_edge)
  edge_there i l = ap (λ (es : List Edge). slice_get es i) (sym are) ∙ edge_at edges i (get_or edges i no_edge) l (get_or_default edges i no_edge (get_or edges i no_edge) l)

  pub edge_before : (i : ℕ) → i < length edges → (get_or edges i no_edge).next < k
  edge_before i l = g.back k i (get_or edges i no_edge) inside (edge_there i l)

  pub edge_behind : (i : ℕ) (list : List Break) → i < length edges → StandsAt rule len nodes k list → StandsAt rule len nodes (get_or edges i no_edge).next (list ++ (get_or edges i no_edge).stop ∷ [])
  edge_behind i list l at = g.behind k i (get_or edges i no_edge) list at (edge_there i l)

-- the greatest worth is small
pub greatest_small : (sums : List ℤ) (rule : Rule) (len : ℕ) (list : List Break) (v : ℤ) → AreSums len sums → IsGreatest (Completes rule len list) (rest_worth sums rule len list) v → unsigned_abs v ≤ 10000000000 * 65535
greatest_small sums rule len list v s g = subst (λ (z : ℤ). unsigned_abs z ≤ 10000000000 * 65535) g.reached.2 (rest_small sums rule len list g.reached.0 s)
