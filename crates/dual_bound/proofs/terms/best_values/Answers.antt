use Rattle.dual_bound.proofs.Common.{Priced, ap, sym, ◌∙◌, map_ok}
use Rattle.dual_bound.proofs.BySlots.{values_of_most}
use Rattle.dual_bound.proofs.terms.best_values.Goals as goal

pub returns : goal.returns
returns c = record {
  values =
      map_ok c.values_by_walk.result _ _ c.values_by_walk.ensures
      (λ found most.
      values_of_most c.args.instance.now c.args.cuts.now c.args.prices.now c.args.shift c.days-days.ensures.valid c.requires.passes c.requires.few (sym c.has_prefix_cut.ensures ∙ c.if-has_prefix_cut.false) c.args.sums.now.prices found (ap (λ (s : Priced). s.prices) c.requires.sums) most);
}
