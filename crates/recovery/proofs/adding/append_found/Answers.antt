use Rattle.recovery.proofs.Common.{◌≡◌, max, rules, subst, sym, IsSome, step, StateView, value_of}
use Rattle.recovery.proofs.Found.{found_allowed}
use Rattle.recovery.proofs.adding.append_found.Goals as goal

pub append-requires-clause-allowed : goal.append-requires-clause-allowed
append-requires-clause-allowed c =
    let old = c.args.state.now in
    let room : c.reserve.new.self ≡ record old { spare = max old.spare 1 } = search rules in
    subst (λ (v : StateView). IsSome (step v.instance v.book c.args.post)) (sym room) (found_allowed old.instance old.book c.args.post c.args.found c.requires.found c.requires.ready)

pub append-requires-clause-value : goal.append-requires-clause-value
append-requires-clause-value c =
    let old = c.args.state.now in
    let room : c.reserve.new.self ≡ record old { spare = max old.spare 1 } = search rules in
    subst (λ (v : StateView). c.value_of-value.result ≡ value_of v.instance v.book c.args.post) (sym room) c.value_of-value.ensures
