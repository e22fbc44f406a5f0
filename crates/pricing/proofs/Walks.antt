-- A best list, one edge after another.
use Rattle.pricing.proofs.Common.{◌≡◌, ℕ, ◌*◌, ◌<◌, ℤ, ◌+ℤ◌, ◌-ℤ◌, true, List, [], ◌∷◌, ◌++◌, length, sym, ◌∙◌, subst, arith, append_assoc, append-nil, Option, Some, None, FitsSigned, MatchOption, w64, fits_signed_from_abs, Break, Rule, is_legal, IsRule, end_of_all, Has, Edge, Node, IsGraph, StandsAt, node_at, sum_at, AreSums, resumes, AreValues, reach_of, AreFit, IsFirstWith, LeadsOn, IsBestTail, IsBestFrom, abs_add}
use Rattle.pricing.proofs.ByEdges.{fits, leads_by, legal_without, best_at_end, value_size, has_place}

module _ (rule : Rule) (len : ℕ) (sums : List ℤ) (nodes : List Node) (k : ℕ) (values : List ℤ) (list : List Break)
    (r : IsRule rule) (g : IsGraph rule len nodes) (s : AreSums len sums) (known : AreValues rule len sums nodes (length nodes) values) (st : StandsAt rule len nodes k list) where
  abbrev whole_of : ℤ
  whole_of = sum_at values k +ℤ sum_at sums (resumes rule (end_of_all list))

  known_before : AreValues rule len sums nodes k values
  known_before j l less at = known j l (omega (arith, st.within)) at

  pub whole_fits : FitsSigned w64 whole_of
  whole_fits =
      let value = value_size rule len sums list (sum_at values k) s (known k list st.within st) in
      let both = abs_add (sum_at values k) (sum_at sums (resumes rule (end_of_all list))) (10000000000 * 65535) (10000000000 * 65536) value (s.size (resumes rule (end_of_all list))) in
      fits_signed_from_abs w64 whole_of (omega arith)

  -- the first edge that reaches the value leads on, and where there is none the list is legal
  pub first_leads : (first : Option Edge) (whole : ℤ) → whole ≡ whole_of
      → (AreFit (reach_of sums values) (node_at nodes k).edges → MatchOption first ((e : Edge) → Has (node_at nodes k).edges e → reach_of sums values e ≡ whole → ⊥) (λ e. (f : IsFirstWith (reach_of sums values) (node_at nodes k).edges whole) × (f.edge ≡ e)))
      → MatchOption first (is_legal rule len list ≡ true) (LeadsOn rule len sums nodes list)
  first_leads None whole is h =
      legal_without rule len sums nodes k values list r g s known_before st (sum_at values k) (known k list st.within st)
      (λ e m q. h (fits rule len sums nodes k values list r g s known_before st) e m (q ∙ sym is))
  first_leads (Some e) whole is h =
      let f = h (fits rule len sums nodes k values list r g s known_before st) in
      subst (LeadsOn rule len sums nodes list) f.1
      (by whole is f.0)
    where
      by : (w : ℤ) → w ≡ whole_of → (f : IsFirstWith (reach_of sums values) (node_at nodes k).edges w) → LeadsOn rule len sums nodes list f.edge
      by w is f =
          leads_by rule len sums nodes k values list r g s known_before st (sum_at values k) (known k list st.within st)
          (record { before = f.before; edge = f.edge; after = f.after; whole = f.whole; reaches = f.reaches ∙ is; none = λ x m q. f.none x m (q ∙ sym is) })

-- an edge of a node leads back
pub leads_back : (rule : Rule) (len : ℕ) (nodes : List Node) (k : ℕ) (first : Option Edge) → IsGraph rule len nodes → k < length nodes → MatchOption first (Unit {0}) (Has (node_at nodes k).edges) → MatchOption first (Unit {0}) (λ e. e.next < k)
leads_back rule len nodes k None g inside h = tt
leads_back rule len nodes k (Some e) g inside h = let p = has_place (node_at nodes k).edges e h in g.back k p.0 e inside p.1

-- one edge more of a best list
pub leads_on : (rule : Rule) (len : ℕ) (sums : List ℤ) (nodes : List Node) (start list mid : List Break) (e : Edge) → LeadsOn rule len sums nodes list e
    → ((tail : List Break) → IsBestTail rule len sums list tail → IsBestTail rule len sums start (mid ++ tail))
    → (tail : List Break) → IsBestTail rule len sums (list ++ e.stop ∷ []) tail → IsBestTail rule len sums start ((mid ++ e.stop ∷ []) ++ tail)
leads_on rule len sums nodes start list mid e on leads tail t =
    subst (IsBestTail rule len sums start) (sym (append_assoc mid (e.stop ∷ []) tail)) (leads (e.stop ∷ tail) (on.best tail t))

-- at a legal list it ends
pub leads_end : (rule : Rule) (len : ℕ) (sums : List ℤ) (start list mid : List Break) → IsRule rule → is_legal rule len list ≡ true → list ≡ start ++ mid
    → ((tail : List Break) → IsBestTail rule len sums list tail → IsBestTail rule len sums start (mid ++ tail)) → IsBestFrom rule len sums start list
leads_end rule len sums start list mid r legal is leads =
    (mid, is, subst (IsBestTail rule len sums start) (append-nil mid) (leads [] (sum_at sums len -ℤ sum_at sums (resumes rule (end_of_all list)), best_at_end rule len sums list r legal)))
