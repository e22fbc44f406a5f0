-- What rests are worth with the sum of the prices before them, one edge of a node after another.
use Rattle.cert_check.proofs.Common.{◌≡◌, inl, inr, ℕ, zero, suc, ◌+◌, ◌*◌, ◌<◌, ◌≤◌, ℤ, ◌+ℤ◌, ◌-ℤ◌, ◌≤ℤ◌, List, [], ◌∷◌, ◌++◌, length, map, take, get_or, refl, sym, ap, ◌∙◌, subst, arith, Option, None, FitsSigned, pos, w64, unsigned_abs, ints, fits_signed_from_abs, take_all, get_or_default, get_or_append_left, cases_lt, get_or-append_seam, Break, Rule, IsRule, end_of_all, Has, abs_add, Edge, IsGraph, StandsAt, node_at, live_nexts, sum_at, resumes, AreSums, Completes, rest_worth, worth_with_start, Through, AreValues, IsGreatest, IsGreatestOf, greater_of}
use Rattle.break_graph.specs.declared.Node.{Node}
use Rattle.cert_check.proofs.Greatest.{greatest_more, greatest_none, greatest_some, greatest_alone, legal_alone}
use Rattle.cert_check.proofs.Values.{before_of, no_edge, edge_before, edge_behind, stops_more, worth_more, worth_end, greatest_small}

module _ (sums : List ℤ) (rule : Rule) (len : ℕ) (list : List Break) (r : IsRule rule) where
  -- the greatest through one break more
  pub with_start_more : (done : List Break) (b : Break) (best : Option ℤ) (w v : ℤ) → AreSums len sums
      → IsGreatestOf (Through rule len list done) (worth_with_start sums rule len list) best
      → IsGreatest (Completes rule len (list ++ b ∷ [])) (rest_worth sums rule len (list ++ b ∷ [])) w
      → (FitsSigned w64 (sum_at sums b.start +ℤ w) → v ≡ sum_at sums b.start +ℤ w)
      → IsGreatest (Through rule len list (done ++ b ∷ [])) (worth_with_start sums rule len list) (greater_of best v)
  with_start_more done b best w v s so_far behind is =
      let rest : unsigned_abs w ≤ 10000000000 * 65535 = greatest_small sums rule len (list ++ b ∷ []) w s behind in
      let both : unsigned_abs (sum_at sums b.start +ℤ w) ≤ 10000000000 * 65536 + 10000000000 * 65535 = abs_add (sum_at sums b.start) w (10000000000 * 65536) (10000000000 * 65535) (s.size b.start) rest in
      greatest_more rule len list (worth_with_start sums rule len list) (rest_worth sums rule len (list ++ b ∷ [])) done b w (sum_at sums b.start) v behind
      (λ bs h. let one : rest_worth sums rule len list (b ∷ bs) ≡ before_of sums rule list b +ℤ rest_worth sums rule len (list ++ b ∷ []) bs = worth_more sums rule len list r b bs h in
      let whole : worth_with_start sums rule len list (b ∷ bs) ≡ sum_at sums b.start +ℤ rest_worth sums rule len (list ++ b ∷ []) bs = omega (arith, ints) in whole)
      (is (fits_signed_from_abs w64 _ (omega arith))) best so_far

  -- the empty rest is worth all prices
  pub with_start_end : Completes rule len list [] → worth_with_start sums rule len list [] ≡ sum_at sums len
  with_start_end h =
      let one : rest_worth sums rule len list [] ≡ sum_at sums len -ℤ sum_at sums (resumes rule (end_of_all list)) = worth_end sums rule len list r h in
      let whole : worth_with_start sums rule len list [] ≡ sum_at sums len = omega (arith, ints) in
      whole

-- the greatest worth less the sum before is what a rest earns
pub less_start : (sums : List ℤ) (rule : Rule) (len : ℕ) (list : List Break) (w : ℤ) → IsGreatest (Completes rule len list) (worth_with_start sums rule len list) w
    → IsGreatest (Completes rule len list) (rest_worth sums rule len list) (w -ℤ sum_at sums (resumes rule (end_of_all list)))
less_start sums rule len list w g =
    let start : ℤ = sum_at sums (resumes rule (end_of_all list)) in
    record {
      reached = (
        g.reached.0,
        g.reached.1,
        let e : (start +ℤ rest_worth sums rule len list g.reached.0) ≡ w = g.reached.2 in let is : rest_worth sums rule len list g.reached.0 ≡ (w -ℤ start) = omega (arith, ints) in is,
      );
      greatest = λ other h. let low : (start +ℤ rest_worth sums rule len list other) ≤ℤ w = g.greatest other h in let is : rest_worth sums rule len list other ≤ℤ (w -ℤ start) = omega (arith, ints) in is;
    }

-- an edge stands at some place
place_of : (edges : List Edge) (e : Edge) → Has edges e → (i : ℕ) × (i < length edges) × (get_or edges i no_edge ≡ e)
place_of [] e h = absurd h
place_of (x ∷ xs) e h = elim h [ inl same ↦ (0, omega arith, same) | inr rest ↦ let p = place_of xs e rest in let l : p.0 < length xs = p.1 in (suc p.0, omega arith, p.2) ]

has_at : (edges : List Edge) (i : ℕ) → i < length edges → Has edges (get_or edges i no_edge)
has_at [] i l = absurd (omega arith)
has_at (x ∷ xs) zero l = inl refl
has_at (x ∷ xs) (suc i) l = inr (has_at xs i (omega arith))

module _ (rule : Rule) (len : ℕ) (sums values : List ℤ) (nodes : List Node) (k : ℕ) (edges : List Edge) (list : List Break)
    (r : IsRule rule) (g : IsGraph rule len nodes) (inside : k < length nodes) (are : edges ≡ (node_at nodes k).edges) (st : StandsAt rule len nodes k list) where
  -- the greatest through one edge more
  pub edge_more : (done : List Break) (e : Edge) (best : Option ℤ) (v : ℤ) → AreSums len sums → AreValues rule len sums nodes k values → Has edges e
      → IsGreatestOf (Through rule len list done) (worth_with_start sums rule len list) best
      → (FitsSigned w64 (sum_at sums e.stop.start +ℤ sum_at values e.next) → v ≡ sum_at sums e.stop.start +ℤ sum_at values e.next)
      → IsGreatest (Through rule len list (done ++ e.stop ∷ [])) (worth_with_start sums rule len list) (greater_of best v)
  edge_more done e best v s known has so_far is =
      let p = place_of edges e has in
      let less : e.next < k = subst (λ (x : Edge). x.next < k) p.2 (edge_before rule len nodes k edges g inside are p.0 p.1) in
      let behind : StandsAt rule len nodes e.next (list ++ e.stop ∷ []) =
      subst (λ (x : Edge). StandsAt rule len nodes x.next (list ++ x.stop ∷ [])) p.2 (edge_behind rule len nodes k edges g inside are p.0 list p.1 st) in
      with_start_more sums rule len list r done e.stop best (sum_at values e.next) v s so_far (known e.next (list ++ e.stop ∷ []) less behind) is

  -- through all edges
  pub edges_all : (v : ℤ) → IsGreatest (Through rule len list (map (λ (e : Edge). e.stop) edges)) (worth_with_start sums rule len list) v → IsGreatest (Completes rule len list) (worth_with_start sums rule len list) v
  edges_all v most =
      greatest_some rule len list (worth_with_start sums rule len list) v
      (subst (λ (bs : List Break). IsGreatest (Through rule len list bs) (worth_with_start sums rule len list) v) (ap (map (λ (e : Edge). e.stop)) are ∙ g.edges k list st) most)

  -- without an edge
  pub edges_none : (v : ℤ) → edges ≡ [] → v ≡ sum_at sums len → IsGreatest (Completes rule len list) (worth_with_start sums rule len list) v
  edges_none v none is =
      let worth : List Break → ℤ = worth_with_start sums rule len list in
      let nexts : [] ≡ live_nexts rule len list = sym (ap (map (λ (e : Edge). e.stop)) none) ∙ ap (map (λ (e : Edge). e.stop)) are ∙ g.edges k list st in
      let alone = legal_alone rule len list worth st.live (subst (λ (bs : List Break). IsGreatestOf (Through rule len list bs) worth None) nexts (greatest_none rule len list worth)) in
      greatest_alone rule len list worth v alone (with_start_end sums rule len list r alone ∙ sym is)

-- a place behind the first edge
place_behind : (x : Edge) (xs : List Edge) (i : ℕ) (d : Edge) → get_or (x ∷ xs) (i + 1) d ≡ get_or xs i d
place_behind x xs i d = let e : i + 1 ≡ suc i = omega arith in ap (λ (n : ℕ). get_or (x ∷ xs) n d) e

-- the breaks of the first of some edges, and of those behind it
module _ (edges : List Edge) (first : Edge) (others : List Edge) (are : edges ≡ first ∷ others) where
  pub first_stop : first.stop ∷ [] ≡ map (λ (e : Edge). e.stop) (take (0 + 1) edges)
  first_stop = sym (ap (λ (es : List Edge). map (λ (e : Edge). e.stop) (take (0 + 1) es)) are)

  pub other_stops : (i : ℕ) → i < length others → map (λ (e : Edge). e.stop) (take (i + 1) edges) ++ (get_or others i no_edge).stop ∷ [] ≡ map (λ (e : Edge). e.stop) (take (i + 1 + 1) edges)
  other_stops i l =
      let at = get_or others i no_edge in
      let many : length edges ≡ length others + 1 = ap length are ∙ omega arith in
      let here : at ≡ get_or edges (i + 1) at = get_or_default others i no_edge at l ∙ sym (place_behind first others i at) ∙ sym (ap (λ (es : List Edge). get_or es (i + 1) at) are) in
      sym (stops_more edges (i + 1) at (omega (arith, l, many)) here)

  pub all_other_stops : (i : ℕ) → length others ≤ i → map (λ (e : Edge). e.stop) (take (i + 1) edges) ≡ map (λ (e : Edge). e.stop) edges
  all_other_stops i l = let many : length edges ≡ length others + 1 = ap length are ∙ omega arith in ap (map (λ (e : Edge). e.stop)) (take_all (i + 1) edges (omega (arith, l, many)))

  pub first_has : Has edges first
  first_has = subst (λ (es : List Edge). Has es first) (sym are) (inl refl)

  pub other_has : (i : ℕ) → i < length others → Has edges (get_or others i no_edge)
  other_has i l = subst (λ (es : List Edge). Has es (get_or others i no_edge)) (sym are) (inr (has_at others i l))

-- the value of one node more
pub values_more : (rule : Rule) (len : ℕ) (sums : List ℤ) (nodes : List Node) (k : ℕ) (values : List ℤ) (x : ℤ) → length values ≡ k → AreValues rule len sums nodes k values
    → ((list : List Break) → StandsAt rule len nodes k list → IsGreatest (Completes rule len list) (rest_worth sums rule len list) x) → AreValues rule len sums nodes (k + 1) (values ++ x ∷ [])
values_more rule len sums nodes k values x many known here j list less st =
    elim (cases_lt j k) [
      | inl l ↦ subst (IsGreatest (Completes rule len list) (rest_worth sums rule len list)) (sym (get_or_append_left values (x ∷ []) (pos 0) j (omega arith))) (known j list l st)
      | inr g ↦
          let same : j ≡ k = omega arith in
          subst (IsGreatest (Completes rule len list) (rest_worth sums rule len list)) (sym (ap (λ n. get_or (values ++ x ∷ []) n (pos 0)) (same ∙ sym many) ∙ get_or-append_seam values x [] (pos 0)))
          (here list (subst (λ n. StandsAt rule len nodes n list) same st))
    ]
