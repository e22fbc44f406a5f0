use Rattle.dual_bound.proofs.Common.{ℤ, List, All, sym, subst, ◌≤◌, unsigned_abs, slots_small}
use Rattle.dual_bound.proofs.terms.bound_by_pricing.Goals as goal

pub new-requires-clause-prices : goal.new-requires-clause-prices
new-requires-clause-prices c =
    subst (λ (xs : List ℤ). All (λ z. unsigned_abs z ≤ 10000000000) xs) (sym c.as_slice.ensures) (slots_small c.args.instance.now c.args.cuts.now c.args.prices.now c.requires.valid c.requires.passes)
