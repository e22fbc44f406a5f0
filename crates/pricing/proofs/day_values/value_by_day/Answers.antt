use Rattle.pricing.proofs.Common.{◌≡◌, ◌≢◌, inl, inr, ℤ, ◌-ℤ◌, ◌⊎◌, List, [], ◌∷◌, true, ◌==◌, refl, sym, ap, subst, ◌∙◌, FitsSigned, length, w64, is_legal, end_of_all, Edge, node_at, sum_at, resumes, sums_on, reach_of, AreFit, IsMostReached, IsValue}
use Rattle.pricing.proofs.ByEdges.{fits, value_by_edges, value_at_end, value_small}
use Rattle.pricing.proofs.day_values.value_by_day.Goals as goal

empty_or : (xs : List Edge) → (xs ≡ []) ⊎ (xs ≢ [])
empty_or [] = inl refl
empty_or (x ∷ xs) = inr (λ e. absurd (cc))

pub returns : goal.returns
returns c = λ day less small known list st.
    let a = c.args in
    let r = c.requires in
    let rule = a.rule.now in
    let sums = sums_on day a.sums.now in
    let values = sums_on day a.values.now in
    let node = node_at a.graph.now a.k in
    let edges : c.edges.result.now ≡ node.edges = c.edges.ensures in
    let from : sum_at c.lane_at.result.now day ≡ sum_at sums (resumes rule (end_of_all list)) =
    c.lane_at.ensures day ∙ ap (sum_at sums) (c.resumption.ensures ∙ ap (λ s. resumes rule s.offset) (c.spot.ensures ∙ st.spot)) in
    let exact : (w : ℤ) → sum_at c.whole_by_day-whole.result day ≡ w → IsValue rule a.len sums list (w -ℤ sum_at sums (resumes rule (end_of_all list))) → IsValue rule a.len sums list (sum_at c.lane_difference.result day) =
    λ w is v.
    let both : sum_at c.whole_by_day-whole.result day -ℤ sum_at c.lane_at.result.now day ≡ w -ℤ sum_at sums (resumes rule (end_of_all list)) =
    ap (λ (z : ℤ). z -ℤ sum_at c.lane_at.result.now day) is ∙ ap (λ (z : ℤ). w -ℤ z) from in
    subst (IsValue rule a.len sums list) (sym (c.lane_difference.ensures day less (subst (FitsSigned w64) (sym both) (value_small rule a.len sums list _ small v)) ∙ both)) v in
    elim (empty_or c.edges.result.now) [
      | inl none ↦
          let legal : is_legal rule a.len list ≡ true = sym (r.graph.ends a.k list st) ∙ ap (λ es. length es == 0) (sym edges ∙ none) in
          exact (sum_at sums a.len) (c.whole_by_day-whole.ensures.end none day) (value_at_end rule a.len sums list r.rule legal)
      | inr some ↦
          let most : IsMostReached (reach_of sums values) node.edges (sum_at c.whole_by_day-whole.result day) =
          subst (λ es. IsMostReached (reach_of sums values) es (sum_at c.whole_by_day-whole.result day)) edges
          (c.whole_by_day-whole.ensures.most some day less (subst (AreFit (reach_of sums values)) (sym edges) (fits rule a.len sums a.graph.now a.k values list r.rule r.graph small known st))) in
          exact (sum_at c.whole_by_day-whole.result day) refl (value_by_edges rule a.len sums a.graph.now a.k values list r.rule r.graph small known st (sum_at c.whole_by_day-whole.result day) most)
    ]
