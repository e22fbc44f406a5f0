use Rattle.pricing.proofs.Common.{◌≡◌, ◌≢◌, inl, inr, ℤ, ◌-ℤ◌, ◌⊎◌, List, [], ◌∷◌, to_z, of_z, true, ◌==◌, refl, sym, ap, subst, ◌∙◌, FitsSigned, length, w64, is_legal, end_of_all, Edge, node_at, to_z-of_z, sum_at, resumes, reach_of, AreFit, IsMostReached, IsValue}
use Rattle.pricing.proofs.ByEdges.{fits, value_by_edges, value_at_end, value_small}
use Rattle.pricing.proofs.values.value_of.Goals as goal

empty_or : (xs : List Edge) → (xs ≡ []) ⊎ (xs ≢ [])
empty_or [] = inl refl
empty_or (x ∷ xs) = inr (λ e. absurd (cc))

pub returns : goal.returns
returns c = λ list st.
    let a = c.args in
    let r = c.requires in
    let rule = a.rule.now in
    let sums = a.sums.now in
    let node = node_at a.graph.now a.k in
    let edges : c.edges.result.now ≡ node.edges = c.edges.ensures in
    let from : c.sum_before.result ≡ sum_at sums (resumes rule (end_of_all list)) =
    c.sum_before.ensures ∙ ap (sum_at sums) (c.resumption.ensures ∙ ap (λ s. resumes rule s.offset) (c.spot.ensures ∙ st.spot)) in
    let exact : (w : ℤ) → c.whole_of-whole.result ≡ w → IsValue rule a.len sums list (w -ℤ sum_at sums (resumes rule (end_of_all list))) → IsValue rule a.len sums list c.difference.result =
    λ w is v.
    let one : to_z w64 (of_z w64 c.whole_of-whole.result) ≡ w = to_z-of_z w64 c.whole_of-whole.result (record { sfits = c.whole_of-whole.type_inv }) ∙ is in
    let two : to_z w64 (of_z w64 c.sum_before.result) ≡ sum_at sums (resumes rule (end_of_all list)) = to_z-of_z w64 c.sum_before.result (record { sfits = c.sum_before.type_inv }) ∙ from in
    let both : to_z w64 (of_z w64 c.whole_of-whole.result) -ℤ to_z w64 (of_z w64 c.sum_before.result) ≡ w -ℤ sum_at sums (resumes rule (end_of_all list)) =
    ap (λ (z : ℤ). z -ℤ to_z w64 (of_z w64 c.sum_before.result)) one ∙ ap (λ (z : ℤ). w -ℤ z) two in
    subst (IsValue rule a.len sums list) (sym (c.difference.ensures (subst (FitsSigned w64) (sym both) (value_small rule a.len sums list _ r.sums v)) ∙ both)) v in
    subst (IsValue rule a.len sums list) (sym (to_z-of_z w64 c.difference.result (record { sfits = c.difference.type_inv }))) (elim (empty_or c.edges.result.now) [
      | inl none ↦
          let legal : is_legal rule a.len list ≡ true = sym (r.graph.ends a.k list st) ∙ ap (λ es. length es == 0) (sym edges ∙ none) in
          exact (sum_at sums a.len) (c.whole_of-whole.ensures.end none) (value_at_end rule a.len sums list r.rule legal)
      | inr some ↦
          let most : IsMostReached (reach_of sums a.values.now) node.edges c.whole_of-whole.result =
          subst (λ es. IsMostReached (reach_of sums a.values.now) es c.whole_of-whole.result) edges
          (c.whole_of-whole.ensures.most some (subst (AreFit (reach_of sums a.values.now)) (sym edges) (fits rule a.len sums a.graph.now a.k a.values.now list r.rule r.graph r.sums r.known st))) in
          exact c.whole_of-whole.result refl (value_by_edges rule a.len sums a.graph.now a.k a.values.now list r.rule r.graph r.sums r.known st c.whole_of-whole.result most)
    ])
