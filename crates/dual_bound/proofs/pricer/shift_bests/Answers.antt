use Rattle.dual_bound.proofs.Common.{Priced, ap, sym, ◌∙◌, map_ok}
use Rattle.dual_bound.proofs.BySlots.{bests_of_slots}
use Rattle.dual_bound.proofs.pricer.shift_bests.Goals as goal

pub returns : goal.returns
returns c = record {
  bests =
      map_ok c.bests_by_walk.result _ _ c.bests_by_walk.ensures
      (λ found best.
      bests_of_slots c.args.instance.now c.args.cuts.now c.args.prices.now c.args.shift c.requires.valid c.requires.passes c.requires.few (sym c.has_prefix_cut.ensures ∙ c.if-has_prefix_cut.false) c.args.sums.now.prices found (ap (λ (s : Priced). s.prices) c.requires.sums) best);
}
