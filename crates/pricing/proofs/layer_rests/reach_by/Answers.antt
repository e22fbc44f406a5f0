use Rattle.pricing.proofs.Common.{◌++◌, ◌∷◌, [], List, ℤ, ap, ◌∙◌, to_z, of_z, w64, to_z-of_z, live_walks, sum_at}
use Rattle.pricing.proofs.Ways.{reach_made}
use Rattle.pricing.proofs.layer_rests.reach_by.Goals as goal

pub returns : goal.returns
returns c = λ front live spot.
    let p = c.args.values.now in
    let list = front ++ c.args.way.stop ∷ [] in
    let before = to_z-of_z w64 c.sum_before.result (record { sfits = c.sum_before.type_inv }) ∙ c.sum_before.ensures ∙ ap (λ (l : List ℤ). sum_at l c.from.result) c.requires.sums ∙ ap (sum_at p.sums) c.from.ensures in
    let behind = to_z-of_z w64 c.unwrap_or-behind.result (record { sfits = c.unwrap_or-behind.type_inv }) ∙ c.unwrap_or-behind.ensures in
    let made = reach_made p front c.args.way.stop c.value_at.result (to_z w64 (of_z w64 c.unwrap_or-behind.result)) (to_z w64 (of_z w64 c.sum_before.result)) c.total.result
    c.requires.rule c.requires.small live (c.value_at.ensures list (live_walks p.rule p.len list live) spot) behind before c.total.ensures in
    (made.0, made.1, to_z-of_z w64 c.total.result (record { sfits = c.total.type_inv }) ∙ made.2)
