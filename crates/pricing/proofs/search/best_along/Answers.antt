use Rattle.pricing.proofs.Beyond.{along_further}
use Rattle.pricing.proofs.search.best_along.Goals as goal

pub loop-end-preserved : goal.loop-end-preserved
loop-end-preserved g c =
    let i = c.loop-end.invariant in
    let e = c.in_ok-best.ensures in
    record {
      found = e.found;
      keeps = λ list h. e.keeps list (i.keeps list h);
      covers = along_further (g.R.Rests.priced c.args.rests.now) c.args.trie.now.entries c.loop-end.best c.in_ok-best.best c.args.prefix.now c.loop-end.end e.keeps i.covers e.covers;
    }
