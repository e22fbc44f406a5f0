use Rattle.report_joins.proofs.Reading.{behind_departs}
use Rattle.report_joins.proofs.parts.behind.Goals as goal

pub returns-then-not-branch-clause-fault : goal.returns-then-not-branch-clause-fault
returns-then-not-branch-clause-fault c =
    behind_departs c.args.known.now c.args.lines.now c.loop-at.reader c.loop-at.at c.index-known-at.result c.loop-at-test.true c.index-known-at.is c.loop-at.invariant (rw c.if-not-branch.true at c.in_ok-reads.ensures)
