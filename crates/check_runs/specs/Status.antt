-- The numbers of the statuses, and which ends write nothing.
use Rattle.std.specs.Prelude.{ℕ}
use Rattle.check_runs.specs.declared.status.CheckStatus.{CheckStatus}
use Rattle.check_runs.specs.declared.status.CheckStatus.TheVariants.{Accepted, Refused, Usage, Input, Bundle, ReadFault, WriteFault, NoMemory}

-- the number with which the program ends
abbrev pub status_number : CheckStatus → ℕ
status_number Accepted = 0
status_number Refused = 1
status_number Usage = 2
status_number (Input why) = 3
status_number (Bundle why) = 4
status_number ReadFault = 5
status_number WriteFault = 6
status_number NoMemory = 8

-- a run with this end has written nothing
abbrev pub EndsUnwritten : CheckStatus → Type 0
EndsUnwritten Usage = Unit {0}
EndsUnwritten (Input why) = Unit {0}
EndsUnwritten (Bundle why) = Unit {0}
EndsUnwritten ReadFault = Unit {0}
EndsUnwritten NoMemory = Unit {0}
EndsUnwritten Accepted = ⊥
EndsUnwritten Refused = ⊥
EndsUnwritten WriteFault = ⊥

-- a run with this end hasn't come to its report
abbrev pub EndsEarly : CheckStatus → Type 0
EndsEarly Usage = Unit {0}
EndsEarly (Input why) = Unit {0}
EndsEarly (Bundle why) = ⊥
EndsEarly ReadFault = ⊥
EndsEarly NoMemory = ⊥
EndsEarly Accepted = ⊥
EndsEarly Refused = ⊥
EndsEarly WriteFault = ⊥
