-- How a refusal of a move is shown. Source: this project's own format.
use Rattle.std.specs.Prelude.{ℕ, List, ◌++◌, codes}
use Rattle.std.specs.Fmt.{decimal}
use Rattle.local_moves.specs.declared.moves.MoveFault.{MoveFault}
use Rattle.local_moves.specs.declared.moves.MoveFault.TheVariants.{UnknownShift, Day, Breaks, Absent, HeadsOver, OtherKind, NotNear, NoMemory}

-- a refusal's number, and then its field
abbrev pub move_fault_text : MoveFault → List ℕ
move_fault_text UnknownShift = codes "1"
move_fault_text Day = codes "2"
move_fault_text Breaks = codes "3"
move_fault_text Absent = codes "4"
move_fault_text (HeadsOver heads) = codes "5 " ++ decimal heads
move_fault_text OtherKind = codes "6"
move_fault_text NotNear = codes "7"
move_fault_text NoMemory = codes "no memory"
