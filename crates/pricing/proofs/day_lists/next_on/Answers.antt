use Rattle.pricing.proofs.Common.{◌≡◌, ◌+ℤ◌, ℤ, List, sym, ap, subst, ◌∙◌, to_z, of_z, FitsSigned, MatchOption, w64, to_z-of_z, end_of_all, Has, Edge, node_at, sum_at, resumes, sums_on, reach_of, AreFit, IsFirstWith}
use Rattle.pricing.proofs.Walks.{whole_fits, first_leads, leads_back}
use Rattle.pricing.proofs.day_lists.next_on.Goals as goal

pub returns-clause-leads : goal.returns-clause-leads
returns-clause-leads c =
    let s = c.args.rests.now in
    let inv = c.requires.rests in
    let day = c.args.day in
    let rule = s.rule.now in
    let sums = sums_on day s.sums.now in
    let values = sums_on day s.values.now in
    let nodes = s.graph.now in
    let at = c.args.at in
    let edges : c.edges.result.now ≡ (node_at nodes at).edges = c.edges.ensures in
    let first : AreFit (reach_of sums values) (node_at nodes at).edges
    → MatchOption c.first_reaching_on.result ((e : Edge) → Has (node_at nodes at).edges e → reach_of sums values e ≡ to_z w64 (of_z w64 c.total-whole.result) → ⊥) (λ e. (f : IsFirstWith (reach_of sums values) (node_at nodes at).edges (to_z w64 (of_z w64 c.total-whole.result))) × (f.edge ≡ e)) =
    subst (λ (es : List Edge). AreFit (reach_of sums values) es → MatchOption c.first_reaching_on.result ((e : Edge) → Has es e → reach_of sums values e ≡ to_z w64 (of_z w64 c.total-whole.result) → ⊥) (λ e. (f : IsFirstWith (reach_of sums values) es (to_z w64 (of_z w64 c.total-whole.result))) × (f.edge ≡ e))) edges
    c.first_reaching_on.ensures.first in
    λ list st.
    let start : to_z w64 (of_z w64 c.number_on-start.result) ≡ sum_at sums (resumes rule (end_of_all list)) =
    to_z-of_z w64 c.number_on-start.result (record { sfits = c.number_on-start.type_inv }) ∙ c.number_on-start.ensures
    ∙ ap (sum_at sums) (c.resumption.ensures ∙ ap (λ p. resumes rule p.offset) (c.spot.ensures ∙ st.spot)) in
    let value : to_z w64 (of_z w64 c.number_on.result) ≡ sum_at values at =
    to_z-of_z w64 c.number_on.result (record { sfits = c.number_on.type_inv }) ∙ c.number_on.ensures in
    let both : to_z w64 (of_z w64 c.number_on.result) +ℤ to_z w64 (of_z w64 c.number_on-start.result) ≡ sum_at values at +ℤ sum_at sums (resumes rule (end_of_all list)) =
    ap (λ (z : ℤ). z +ℤ to_z w64 (of_z w64 c.number_on-start.result)) value ∙ ap (λ (z : ℤ). sum_at values at +ℤ z) start in
    let whole : to_z w64 (of_z w64 c.total-whole.result) ≡ sum_at values at +ℤ sum_at sums (resumes rule (end_of_all list)) =
    to_z-of_z w64 c.total-whole.result (record { sfits = c.total-whole.type_inv })
    ∙ c.total-whole.ensures (subst (FitsSigned w64) (sym both) (whole_fits rule s.len sums nodes at values list inv.well_formed inv.graph inv.small inv.known st)) ∙ both in
    first_leads rule s.len sums nodes at values list inv.well_formed inv.graph inv.small inv.known st c.first_reaching_on.result _ whole first

pub returns-clause-back : goal.returns-clause-back
returns-clause-back c =
    let s = c.args.rests.now in
    let edges : c.edges.result.now ≡ (node_at s.graph.now c.args.at).edges = c.edges.ensures in
    leads_back s.rule.now s.len s.graph.now c.args.at c.first_reaching_on.result c.requires.rests.graph c.requires.at
    (subst (λ (es : List Edge). MatchOption c.first_reaching_on.result (Unit {0}) (Has es)) edges c.first_reaching_on.ensures.has)
