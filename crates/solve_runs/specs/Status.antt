-- How a status is shown.
use Rattle.std.specs.Prelude.{ℕ, List, [], ◌++◌, codes}
use Rattle.std.specs.Fmt.{decimal}
use Rattle.instance_json.specs.RefusalText.{refusal_text}
use Rattle.search_book.specs.OpenFaultText.{open_fault_text}
use Rattle.solve_runs.specs.declared.status.Status.{Status}
use Rattle.solve_runs.specs.declared.status.Status.TheVariants.{Optimal, Budget, Full, Usage, Input, Workers, ReadFault, WriteFault, DiskFault, NoMemory, Journal}

-- the number with which the program ends
abbrev pub status_number : Status → ℕ
status_number Optimal = 0
status_number Budget = 10
status_number (Full end limit) = 11
status_number Usage = 2
status_number (Input why) = 3
status_number (Workers asked have) = 4
status_number ReadFault = 5
status_number WriteFault = 6
status_number DiskFault = 7
status_number NoMemory = 8
status_number (Journal why) = 9

-- the words of the command line, as they are shown to whoever gave others
abbrev pub usage_text : List ℕ
usage_text = codes "usage: solve JOURNAL [--workers W] [--steps B] [--table] [--local | --thorough] [--turns] or solve --demo N [--steps B]"

-- what is said of a status on standard error; nothing of an optimal plan
abbrev pub status_text : Status → List ℕ
status_text Optimal = []
status_text Budget = codes "stopped: step budget spent"
status_text (Full end limit) = codes "stopped: journal full, " ++ (decimal end ++ (codes " of " ++ (decimal limit ++ codes " bytes")))
status_text Usage = usage_text
status_text (Input why) = codes "instance refused: " ++ refusal_text why
status_text (Workers asked have) = codes "workers asked " ++ (decimal asked ++ (codes ", advisers " ++ decimal have))
status_text ReadFault = codes "read fault"
status_text WriteFault = codes "write fault"
status_text DiskFault = codes "disk fault"
status_text NoMemory = codes "no memory"
status_text (Journal why) = codes "journal refused: " ++ open_fault_text why

-- a run with this end has written nothing
abbrev pub EndsUnwritten : Status → Type 0
EndsUnwritten Usage = Unit {0}
EndsUnwritten (Input why) = Unit {0}
EndsUnwritten (Workers asked have) = Unit {0}
EndsUnwritten ReadFault = Unit {0}
EndsUnwritten DiskFault = Unit {0}
EndsUnwritten NoMemory = Unit {0}
EndsUnwritten (Journal why) = Unit {0}
EndsUnwritten Optimal = ⊥
EndsUnwritten Budget = ⊥
EndsUnwritten (Full end limit) = ⊥
EndsUnwritten WriteFault = ⊥

-- a run with this end hasn't come to its disk
abbrev pub EndsEarly : Status → Type 0
EndsEarly Usage = Unit {0}
EndsEarly (Input why) = Unit {0}
EndsEarly (Workers asked have) = Unit {0}
EndsEarly ReadFault = Unit {0}
EndsEarly Optimal = ⊥
EndsEarly Budget = ⊥
EndsEarly (Full end limit) = ⊥
EndsEarly WriteFault = ⊥
EndsEarly DiskFault = ⊥
EndsEarly NoMemory = ⊥
EndsEarly (Journal why) = ⊥

-- a run with this end hasn't come to its source
abbrev pub EndsBeforeReading : Status → Type 0
EndsBeforeReading Usage = Unit {0}
EndsBeforeReading (Workers asked have) = Unit {0}
EndsBeforeReading (Input why) = ⊥
EndsBeforeReading ReadFault = ⊥
EndsBeforeReading Optimal = ⊥
EndsBeforeReading Budget = ⊥
EndsBeforeReading (Full end limit) = ⊥
EndsBeforeReading WriteFault = ⊥
EndsBeforeReading DiskFault = ⊥
EndsBeforeReading NoMemory = ⊥
EndsBeforeReading (Journal why) = ⊥
