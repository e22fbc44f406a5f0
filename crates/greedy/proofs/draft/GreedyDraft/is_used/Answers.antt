use Rattle.greedy.proofs.Common.{arith, sym, below_more}
use Rattle.greedy.proofs.Growing.{used_here, used_not}
use Rattle.greedy.proofs.draft.GreedyDraft.is_used.Goals as goal

pub returns-then-heads_on-gt0 : goal.returns-then-heads_on-gt0
returns-then-heads_on-gt0 c = sym (used_here c.args.instance.now c.args.self.now.cover.duties c.args.shift c.loop-day.day (omega (arith, c.heads_on.ensures, c.if-heads_on-gt0.true)))

pub loop-day-preserved : goal.loop-day-preserved
loop-day-preserved c = below_more _ _ c.loop-day.invariant (omega (arith, c.heads_on.ensures, c.if-heads_on-gt0.false))

pub returns : goal.returns
returns c =
    sym (used_not c.args.instance.now c.args.self.now.cover.duties c.args.shift c.requires.draft.legal (λ day l. c.loop-day.invariant day (omega (arith, c.days-day-end.ensures.days))))
