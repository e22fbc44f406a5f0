use Rattle.search_core.proofs.Common.{◌≡◌, max, rules, subst, sym, IsSomeAnd, slice_get, Node, settled_floor, StateView, number_at}
use Rattle.dual_bound.specs.Fixing.{IsFixing}
use Rattle.dual_bound.specs.declared.settling.Fixing.TheVariants.{Done}
use Rattle.search_core.proofs.Allowed.{settled_value}
use Rattle.search_core.proofs.state.State.step_settled.Goals as goal

pub append-requires-clause-value : goal.append-requires-clause-value
append-requires-clause-value c =
    let old = c.args.self.now in
    let cuts = c.in_ok-cuts_of.field-0 in
    let room : c.reserve.new.self ≡ record old { spare = max old.spare 1 } = search rules in
    let there : IsSomeAnd (slice_get old.book.nodes c.args.node) (λ (n : Node). cuts ≡ n.cuts) = search rules in
    let fixing : IsFixing old.instance cuts (Done c.in-Done.settled) = search rules in
    subst (λ (v : StateView). c.floor.result ≡ number_at v.book c.args.node (λ (n : Node). settled_floor v.instance n.cuts)) (sym room)
    (settled_value old.instance c.in-Done.settled.instance old.book c.args.node cuts c.in-Done.settled.cuts c.floor.result there c.floor.ensures.floor fixing.0 fixing.1)
