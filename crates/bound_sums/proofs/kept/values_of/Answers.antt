use Rattle.bound_sums.proofs.Keeping.{known_values, found_kept}
use Rattle.bound_sums.proofs.Common.{sym, ◌∙◌}
use Rattle.bound_sums.proofs.kept.values_of.Goals as goal

pub returns-then-is_some-clause-values : goal.returns-then-is_some-clause-values
returns-then-is_some-clause-values g c =
    known_values c.args.instance.now c.args.cuts.now c.args.prices.now c.args.shift (sym c.has_prefix_cut.ensures ∙ c.if-has_prefix_cut.false) c.args.known.now
    (sym c.is_some.ensures ∙ c.if-is_some.true) c.requires.kept

pub returns-clause-kept : goal.returns-clause-kept
returns-clause-kept g c =
    found_kept c.args.instance.now c.args.cuts.now c.args.prices.now c.args.shift (sym c.has_prefix_cut.ensures ∙ c.if-has_prefix_cut.false) c.in_ok-found.found c.in_ok-found.ensures.values
