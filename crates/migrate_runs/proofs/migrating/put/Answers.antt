use Rattle.migrate_runs.proofs.Common.{map, arith, rules, JOURNAL_MAX, IsUnfinishedOr}
use Rattle.migrate_runs.proofs.Migrated.{looked_then}
use Rattle.migrate_runs.proofs.migrating.put.Goals as goal

pub returns-in-Ok-install-clause-any_moment : goal.returns-in-Ok-install-clause-any_moment
returns-in-Ok-install-clause-any_moment g c =
    looked_then g.E.Disk.reads g.E.Disk.images g.E.Disk.images_since g.E.Disk.calls c.args.new.now c.settle.new.disk c.install.new.disk (IsUnfinishedOr JOURNAL_MAX c.args.carried.now.head.items (map (λ r. r.items) c.args.carried.now.records.items)) c.settle.ensures.looks
    (rw (c.deref.ensures.value, c.deref-2.ensures.value) at c.install.ensures.any_moment)

pub returns-in-Err-DiskFault-clause-kept : goal.returns-in-Err-DiskFault-clause-kept
returns-in-Err-DiskFault-clause-kept g c = λ few. absurd (omega (arith, few, c.install.ensures.called (search rules), c.in-Ok.ensures.two))
