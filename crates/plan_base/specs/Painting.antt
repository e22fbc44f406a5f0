-- The images that a disk in memory shows.
use Rattle.std.specs.Prelude.{ℕ, List, reverse}
use Rattle.plan_base.specs.Replay.{content, mask_of, painted}
use Rattle.plan_base.specs.declared.mem_disk.MemDisk.{MemDisk}

-- what the disk reads, with this byte in place of each that was written since the last sync
abbrev pub filled : MemDisk → ℕ → List ℕ
filled disk byte = painted byte (content disk.first.value.items (reverse disk.log.items)) (mask_of disk.first.value.items (reverse disk.log.items))
