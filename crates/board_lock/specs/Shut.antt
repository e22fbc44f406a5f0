-- What shuts a board. Source: this project's profile.
use Rattle.std.specs.Prelude.{ℕ, Bool, true, false, ◌&&◌, ◌==◌, Option, None, Some}
use Rattle.search_core.specs.declared.board.Shutting.{Shutting}
use Rattle.search_core.specs.declared.board.Shutting.TheVariants.{DiskFault as ByDiskFault, Full as ByFull}
use Rattle.search_core.specs.declared.board.CommitFault.{CommitFault}
use Rattle.search_core.specs.declared.board.CommitFault.TheVariants.{DiskFault, Full, NotHeld, Shut, NotClosing, OtherCuts, NoMemory}

-- whether two boards were shut by the same, if by anything
abbrev pub is_same_shut : Option Shutting → Option Shutting → Bool
is_same_shut None None = true
is_same_shut None (Some x) = false
is_same_shut (Some ByDiskFault) None = false
is_same_shut (Some ByDiskFault) (Some ByDiskFault) = true
is_same_shut (Some ByDiskFault) (Some (ByFull end limit)) = false
is_same_shut (Some (ByFull end limit)) None = false
is_same_shut (Some (ByFull end limit)) (Some ByDiskFault) = false
is_same_shut (Some (ByFull end limit)) (Some (ByFull other most)) = (end == other) && (limit == most)

-- what has shut a board after a commit was refused
abbrev pub shut_by : CommitFault → Option Shutting → Option Shutting
shut_by DiskFault before = Some ByDiskFault
shut_by (Full end limit) before = Some (ByFull end limit)
shut_by (NotHeld held) before = before
shut_by Shut before = before
shut_by (NotClosing floor best back) before = before
shut_by (OtherCuts at) before = before
shut_by NoMemory before = before
