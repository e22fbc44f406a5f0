use Rattle.pricing.proofs.Common.{◌≡◌, ◌+ℤ◌, ◌<◌, ℤ, List, true, length, sym, ap, subst, ◌∙◌, to_z, of_z, FitsSigned, MatchOption, w64, to_z-of_z, Break, is_legal, end_of_all, Has, Edge, StandsAt, node_at, sum_at, resumes, PricedNodes, LeadsOn, reach_of, AreFit, IsFirstWith}
use Rattle.pricing.proofs.Walks.{whole_fits, first_leads, leads_back}
use Rattle.pricing.proofs.rests.BestRests.next_at.Goals as goal

pub returns-clause-leads : goal.returns-clause-leads
returns-clause-leads c =
    let s = c.self.inside in
    let inv = c.self.invariant in
    let rule = s.rule.now in
    let sums = s.sums.items in
    let values = s.values.items in
    let nodes = s.graph.now in
    let at = c.args.at in
    let edges : c.edges.result.now ≡ (node_at nodes at).edges = c.edges.ensures in
    let first : AreFit (reach_of sums values) (node_at nodes at).edges
    → MatchOption c.first_reaching.result ((e : Edge) → Has (node_at nodes at).edges e → reach_of sums values e ≡ to_z w64 (of_z w64 c.total-whole.result) → ⊥) (λ e. (f : IsFirstWith (reach_of sums values) (node_at nodes at).edges (to_z w64 (of_z w64 c.total-whole.result))) × (f.edge ≡ e)) =
    subst (λ (es : List Edge). AreFit (reach_of sums values) es → MatchOption c.first_reaching.result ((e : Edge) → Has es e → reach_of sums values e ≡ to_z w64 (of_z w64 c.total-whole.result) → ⊥) (λ e. (f : IsFirstWith (reach_of sums values) es (to_z w64 (of_z w64 c.total-whole.result))) × (f.edge ≡ e))) edges
    (subst (λ (vs : List ℤ). AreFit (reach_of sums vs) c.edges.result.now → MatchOption c.first_reaching.result ((e : Edge) → Has c.edges.result.now e → reach_of sums vs e ≡ to_z w64 (of_z w64 c.total-whole.result) → ⊥) (λ e. (f : IsFirstWith (reach_of sums vs) c.edges.result.now (to_z w64 (of_z w64 c.total-whole.result))) × (f.edge ≡ e))) c.deref-4.ensures.value
    (subst (λ (ss : List ℤ). AreFit (reach_of ss c.deref-4.result.now) c.edges.result.now → MatchOption c.first_reaching.result ((e : Edge) → Has c.edges.result.now e → reach_of ss c.deref-4.result.now e ≡ to_z w64 (of_z w64 c.total-whole.result) → ⊥) (λ e. (f : IsFirstWith (reach_of ss c.deref-4.result.now) c.edges.result.now (to_z w64 (of_z w64 c.total-whole.result))) × (f.edge ≡ e))) c.deref-3.ensures.value
    c.first_reaching.ensures.first)) in
    let own : (list : List Break) → StandsAt rule s.len nodes at list → MatchOption c.first_reaching.result (is_legal rule s.len list ≡ true) (LeadsOn rule s.len sums nodes list) =
    λ list st.
    let start : to_z w64 (of_z w64 c.sum_before-start.result) ≡ sum_at sums (resumes rule (end_of_all list)) =
    to_z-of_z w64 c.sum_before-start.result (record { sfits = c.sum_before-start.type_inv }) ∙ c.sum_before-start.ensures
    ∙ ap (λ (l : List ℤ). sum_at l c.resumption.result) c.deref.ensures.value
    ∙ ap (sum_at sums) (c.resumption.ensures ∙ ap (λ p. resumes rule p.offset) (c.spot.ensures ∙ st.spot)) in
    let value : to_z w64 (of_z w64 c.sum_before.result) ≡ sum_at values at =
    to_z-of_z w64 c.sum_before.result (record { sfits = c.sum_before.type_inv }) ∙ c.sum_before.ensures ∙ ap (λ (l : List ℤ). sum_at l at) c.deref-2.ensures.value in
    let both : to_z w64 (of_z w64 c.sum_before.result) +ℤ to_z w64 (of_z w64 c.sum_before-start.result) ≡ sum_at values at +ℤ sum_at sums (resumes rule (end_of_all list)) =
    ap (λ (z : ℤ). z +ℤ to_z w64 (of_z w64 c.sum_before-start.result)) value ∙ ap (λ (z : ℤ). sum_at values at +ℤ z) start in
    let whole : to_z w64 (of_z w64 c.total-whole.result) ≡ sum_at values at +ℤ sum_at sums (resumes rule (end_of_all list)) =
    to_z-of_z w64 c.total-whole.result (record { sfits = c.total-whole.type_inv })
    ∙ c.total-whole.ensures (subst (FitsSigned w64) (sym both) (whole_fits rule s.len sums nodes at values list inv.well_formed inv.graph inv.small inv.known st)) ∙ both in
    first_leads rule s.len sums nodes at values list inv.well_formed inv.graph inv.small inv.known st c.first_reaching.result _ whole first in
    subst (λ (v : PricedNodes). (list : List Break) → StandsAt v.rule v.len v.nodes at list → MatchOption c.first_reaching.result (is_legal v.rule v.len list ≡ true) (LeadsOn v.rule v.len v.sums v.nodes list)) c.self.view_is own

pub returns-clause-back : goal.returns-clause-back
returns-clause-back c =
    let s = c.self.inside in
    let edges : c.edges.result.now ≡ (node_at s.graph.now c.args.at).edges = c.edges.ensures in
    leads_back s.rule.now s.len s.graph.now c.args.at c.first_reaching.result c.self.invariant.graph
    (subst (λ (v : PricedNodes). c.args.at < length v.nodes) (sym c.self.view_is) c.requires)
    (subst (λ (es : List Edge). MatchOption c.first_reaching.result (Unit {0}) (Has es)) edges c.first_reaching.ensures.has)
