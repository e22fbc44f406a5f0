use Rattle.recovery.proofs.Common.{◌≡◌, ◌∙◌, sym, cuts_at}
use Rattle.recovery.proofs.Found.{bound_is}
use Rattle.recovery.proofs.Copies.{same_items, same_prices}
use Rattle.recovery.proofs.findings.bound_found.Goals as goal

pub returns-in-Ok-clause-bound : goal.returns-in-Ok-clause-bound
returns-in-Ok-clause-bound c =
    let h = c.in_ok-clone.ensures.cases in
    let same : c.in_ok-clone.field-0 ≡ c.args.prices.now =
    same_prices c.in_ok-clone.field-0 c.args.prices.now h.0 (sym h.1.0.3 ∙ same_items h.1.0.0.list.items h.1.0.1.list.items h.1.0.4.0 ∙ h.1.0.2) (sym h.1.1.3 ∙ same_items h.1.1.0.list.items h.1.1.1.list.items h.1.1.4.0 ∙ h.1.1.2) in
    let below : c.in-Some.cuts ≡ cuts_at c.args.tree.now c.args.node = rw c.in-Some.is at c.in_ok-cuts.ensures.cuts in
    bound_is c.args.instance.now c.in-Some.cuts (cuts_at c.args.tree.now c.args.node) c.in_ok-clone.field-0 c.args.prices.now c.in-Ok.proved c.bound.result c.bound.ensures.proved c.in-Ok.ensures.ok.0 c.in-Ok.ensures.ok.1
    below c.in-Ok.ensures.ok.2 same c.bound.ensures.bound
