use Rattle.pricing.proofs.Common.{◌++◌, ◌∷◌, [], List, ℤ, ap, subst, ◌∙◌, to_z, of_z, Some, w64, to_z-of_z, IsRule, AreSums, sum_at, PricedNodes, priced_of}
use Rattle.pricing.proofs.Ways.{reach_made}
use Rattle.pricing.proofs.rests.BestRests.reach_by.Goals as goal

pub returns : goal.returns
returns c = λ front stands.
    let p = c.args.self.now in
    let start = c.args.edge.stop.start in
    let rule : IsRule p.rule = subst (λ (v : PricedNodes). IsRule v.rule) c.self.view_is c.self.invariant.well_formed in
    let small : AreSums p.len p.sums = subst (λ (v : PricedNodes). AreSums v.len v.sums) c.self.view_is c.self.invariant.small in
    let own = c.value_at-behind.ensures (front ++ c.args.edge.stop ∷ []) stands in
    let before = to_z-of_z w64 c.sum_before.result (record { sfits = c.sum_before.type_inv }) ∙ c.sum_before.ensures ∙ ap (λ (l : List ℤ). sum_at l c.from.result) c.deref.ensures.value
    ∙ ap (sum_at c.self.inside.sums.items) c.from.ensures ∙ ap (λ (v : PricedNodes). sum_at v.sums start) c.self.view_is in
    let behind = to_z-of_z w64 c.value_at-behind.result (record { sfits = c.value_at-behind.type_inv }) in
    let made = reach_made (priced_of p) front c.args.edge.stop (Some c.value_at-behind.result) (to_z w64 (of_z w64 c.value_at-behind.result)) (to_z w64 (of_z w64 c.sum_before.result)) c.total.result
    rule small stands.live (record { reached = (own.0, own.1.allowed, own.1.is_worth); greatest = own.1.greatest }) behind before c.total.ensures in
    (made.0, made.1, to_z-of_z w64 c.total.result (record { sfits = c.total.type_inv }) ∙ made.2)
