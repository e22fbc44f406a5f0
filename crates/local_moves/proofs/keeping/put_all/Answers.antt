use Rattle.local_moves.proofs.DraftFacts.{next_legal, next_heads}
use Rattle.local_moves.proofs.keeping.put_all.Goals as goal

pub put-requires-clause-legal : goal.put-requires-clause-legal
put-requires-clause-legal c = next_legal c.args.instance.now c.loop-duty.rest.items c.pop.new.self.items c.in-Some.duty c.in-Some.ensures.items c.loop-duty.invariant.legal

pub put-requires-clause-heads : goal.put-requires-clause-heads
put-requires-clause-heads c = next_heads c.args.instance.now c.args.cover.now.duties c.args.made.items c.loop-duty.cover.duties c.loop-duty.rest.items c.pop.new.self.items c.in-Some.duty c.loop-duty.invariant.duties c.in-Some.ensures.items c.requires.heads
