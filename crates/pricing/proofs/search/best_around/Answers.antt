use Rattle.pricing.proofs.search.best_around.Goals as goal

pub best_among-requires-clause-legal : goal.best_among-requires-clause-legal
best_among-requires-clause-legal g c = c.in_ok-lists.ensures.legal

pub returns-clause-covers : goal.returns-clause-covers
returns-clause-covers g c = c.in_ok-lists.ensures.covers c.args.trie.now.entries c.best_among.result c.requires.beginnings c.best_among.ensures.covers
