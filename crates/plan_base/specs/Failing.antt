-- At which calls a disk in memory fails.
use Rattle.std.specs.Prelude.{ℕ, List}
use Rattle.plan_base.specs.declared.mem_disk.MemDisk.{MemDisk}

-- the numbers, from 1, of the calls that are to fail
abbrev pub listed_calls : MemDisk → List ℕ
listed_calls disk = disk.fails.items
