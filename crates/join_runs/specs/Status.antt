-- The numbers of the statuses, and which ends write nothing.
use Rattle.std.specs.Prelude.{⊤, ℕ}
use Rattle.join_runs.specs.declared.status.JoinStatus.{JoinStatus}
use Rattle.join_runs.specs.declared.status.JoinStatus.TheVariants.{Written, Refused, NoPart, Usage, Input, Bundle, ReadFault, WriteFault, NoMemory}

-- the number with which the program ends
abbrev pub status_number : JoinStatus → ℕ
status_number Written = 0
status_number (Refused why) = 1
status_number (NoPart part cause) = 1
status_number Usage = 2
status_number (Input why) = 3
status_number (Bundle why) = 4
status_number ReadFault = 5
status_number WriteFault = 6
status_number NoMemory = 8

-- a run with this end has written nothing
abbrev pub EndsUnwritten : JoinStatus → Type 0
EndsUnwritten Usage = ⊤
EndsUnwritten (Input why) = ⊤
EndsUnwritten (Bundle why) = ⊤
EndsUnwritten ReadFault = ⊤
EndsUnwritten NoMemory = ⊤
EndsUnwritten Written = ⊥
EndsUnwritten (Refused why) = ⊥
EndsUnwritten (NoPart part cause) = ⊥
EndsUnwritten WriteFault = ⊥

-- a run with this end hasn't come to its report
abbrev pub EndsEarly : JoinStatus → Type 0
EndsEarly Usage = ⊤
EndsEarly (Input why) = ⊤
EndsEarly (Bundle why) = ⊥
EndsEarly ReadFault = ⊥
EndsEarly NoMemory = ⊥
EndsEarly Written = ⊥
EndsEarly (Refused why) = ⊥
EndsEarly (NoPart part cause) = ⊥
EndsEarly WriteFault = ⊥

-- a run with this end hasn't come to its parts
abbrev pub EndsBeforeParts : JoinStatus → Type 0
EndsBeforeParts Usage = ⊤
EndsBeforeParts (Input why) = ⊤
EndsBeforeParts (Bundle why) = ⊤
EndsBeforeParts (Refused why) = ⊤
EndsBeforeParts ReadFault = ⊥
EndsBeforeParts NoMemory = ⊥
EndsBeforeParts Written = ⊥
EndsBeforeParts (NoPart part cause) = ⊥
EndsBeforeParts WriteFault = ⊥
