use Rattle.bound_sums.proofs.Common.{sym, ◌∙◌}
use Rattle.bound_sums.proofs.Uncut.{low_uncut, high_uncut}
use Rattle.bound_sums.proofs.terms.range_on.Goals as goal

pub returns-else-is_cut-clause-low : goal.returns-else-is_cut-clause-low
returns-else-is_cut-clause-low c = sym (low_uncut c.args.shift c.args.day c.args.cuts.now (sym c.requires.cut ∙ c.if-is_cut.false))

pub returns-else-is_cut-clause-high : goal.returns-else-is_cut-clause-high
returns-else-is_cut-clause-high c = c.heads.ensures.heads ∙ sym (high_uncut c.args.shift c.args.day c.args.instance.now c.args.cuts.now (sym c.requires.cut ∙ c.if-is_cut.false))
