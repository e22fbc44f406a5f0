use Rattle.plan_base.proofs.Common.{◌+◌, refl, ap, sym, ◌∙◌, length, reverse, Write}
use Rattle.plan_base.proofs.Painted.{length_mask}
use Rattle.plan_base.proofs.Replays.{moment_noted}
use Rattle.plan_base.proofs.mem_disk.MemDiskDisk.write_at.Goals as goal

pub returns-in-Ok-clause-time : goal.returns-in-Ok-clause-time
returns-in-Ok-clause-time c =
    let noted = c.in-Ok.ensures.noted in
    moment_noted c.args.self.now.first.value.items c.args.self.now.log.items c.keep_write.new.log.items c.args.self.now.calls (record { call = c.args.self.now.calls + 1; act = Write c.args.at noted.0 }) refl noted.2

pub keep_write-requires-clause-alike : goal.keep_write-requires-clause-alike
keep_write-requires-clause-alike c =
    let m = c.args.self.now in
    ap length m.marked ∙ length_mask m.first.value.items (reverse m.log.items) ∙ ap length (sym m.replayed)
