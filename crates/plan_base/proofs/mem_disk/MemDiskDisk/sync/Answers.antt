use Rattle.plan_base.proofs.Common.{◌+◌, refl, Sync}
use Rattle.plan_base.proofs.Replays.{moment_noted, synced_image}
use Rattle.plan_base.proofs.mem_disk.MemDiskDisk.sync.Goals as goal

pub returns-in-Ok-clause-crash : goal.returns-in-Ok-clause-crash
returns-in-Ok-clause-crash c = synced_image c.args.self.now.first.value.items c.args.self.now.log.items c.keep_sync.new.log.items (c.args.self.now.calls + 1) c.args.self.now.in_place c.in-Ok.ensures.noted

pub returns-in-Ok-clause-time : goal.returns-in-Ok-clause-time
returns-in-Ok-clause-time c =
    moment_noted c.args.self.now.first.value.items c.args.self.now.log.items c.keep_sync.new.log.items c.args.self.now.calls (record { call = c.args.self.now.calls + 1; act = Sync }) refl c.in-Ok.ensures.noted
