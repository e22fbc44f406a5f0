use Rattle.dual_bound.proofs.Entries.{entries_next}
use Rattle.dual_bound.proofs.best_lists.entries.Goals as goal

pub loop-k-preserved : goal.loop-k-preserved
loop-k-preserved c =
    entries_next c.args.cuts.now c.args.prices.now c.args.shift c.args.day c.loop-k.k c.index-cuts-k.result _ _ _ c.loop-k-test.true c.requires.count c.index-cuts-k.is c.loop-k.invariant c.in_ok-add_entry.ensures
