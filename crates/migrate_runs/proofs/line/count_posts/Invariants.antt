use Rattle.migrate_runs.proofs.Common.{take}
use Rattle.migrate_runs.proofs.Counted.{IsCounted}
use Rattle.migrate_runs.proofs.line.count_posts.Given as goal

abbrev pub invariant-loop-record : goal.invariant-loop-record
invariant-loop-record l = IsCounted (take l.record-index l.records) l.count
