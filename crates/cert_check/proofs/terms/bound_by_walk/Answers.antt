use Rattle.cert_check.proofs.Common.{sym, subst, AreSmallPrices, slots_small}
use Rattle.cert_check.proofs.terms.bound_by_walk.Goals as goal

pub slot_sums-requires-clause-prices : goal.slot_sums-requires-clause-prices
slot_sums-requires-clause-prices c = subst AreSmallPrices (sym c.as_slice.ensures) (slots_small c.args.instance.now c.args.cuts.now c.args.prices.now c.requires.valid c.requires.passes)
