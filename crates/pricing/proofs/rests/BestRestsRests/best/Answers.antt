use Rattle.pricing.proofs.Common.{◌≡◌, ℤ, List, [], sym, subst, to_z, of_z, w64, to_z-of_z, Break, IsBestList}
use Rattle.pricing.proofs.Beyond.{none_legal}
use Rattle.pricing.proofs.Layered.{best_of_value}
use Rattle.pricing.proofs.rests.BestRestsRests.best.Goals as goal

pub returns-in_default : goal.returns-in_default
returns-in_default c = none_legal c.args.self.now.rule c.args.self.now.len c.in_default.ensures

pub returns : goal.returns
returns c =
    let p = c.args.self.now in
    let value : to_z w64 (of_z w64 c.value_at.result) ≡ c.value_at.result = to_z-of_z w64 c.value_at.result (record { sfits = c.value_at.type_inv }) in
    subst (λ (z : ℤ). IsBestList p.rule p.len p.sums (c.new-2.result, z)) (sym value)
    (subst (λ (l : List Break). IsBestList p.rule p.len p.sums (l, c.value_at.result)) (sym c.new-2.ensures)
    (best_of_value p.rule p.len p.sums c.value_at.result c.new.result.items c.in_ok-list.list.items c.new.ensures.items (c.value_at.ensures [] c.in-Some.ensures) c.in_ok-list.ensures))
