use Rattle.pricing.proofs.Common.{pos, [], arith}
use Rattle.pricing.proofs.Beyond.{along_more, best_of_all}
use Rattle.pricing.proofs.Covered.{keeps_from}
use Rattle.pricing.proofs.search.best_with.Goals as goal

pub loop-prefix-init : goal.loop-prefix-init
loop-prefix-init g c = record { found = c.in_ok-best.ensures.found; start = c.in_ok-best.ensures.covers; along = λ j l. absurd (omega arith) }

pub loop-prefix-preserved : goal.loop-prefix-preserved
loop-prefix-preserved g c =
    let i = c.loop-prefix.invariant in
    let e = c.in_ok-best-2.ensures in
    record {
      found = e.found;
      start = keeps_from (g.R.Rests.priced c.args.rests.now) c.args.trie.now.entries c.loop-prefix.best c.in_ok-best-2.best [] e.keeps i.start;
      along = along_more (g.R.Rests.priced c.args.rests.now) c.args.trie.now.entries c.args.bonus.now c.loop-prefix.best c.in_ok-best-2.best c.loop-prefix.prefix-index c.loop-prefix-item.result ([], pos 0) c.as_slice.result.now
          c.loop-prefix-test.true c.loop-prefix-item.is c.as_slice.ensures e.keeps i.along e.covers;
    }

pub returns : goal.returns
returns g c =
    let i = c.loop-prefix.invariant in
    best_of_all (g.R.Rests.priced c.args.rests.now) c.args.trie.now.entries c.args.bonus.now c.loop-prefix.best ([], pos 0) c.loop-prefix.prefix-index (omega arith) i.found i.start i.along c.requires.prefixes
