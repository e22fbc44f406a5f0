-- What stands against a plan, and the numbers with which the program ends.
use Rattle.std.specs.Prelude.{◌≡◌, ◌⊎◌, ℕ, Option, None, Some}
use Rattle.planning_runs.specs.declared.judging.Unshown.{Unshown}
use Rattle.planning_runs.specs.declared.judging.Unshown.TheVariants as shown
use Rattle.solve_runs.specs.declared.searched.SearchEnd.{SearchEnd}
use Rattle.solve_runs.specs.declared.searched.SearchEnd.TheVariants as ended
use Rattle.planning_runs.specs.declared.refusal.Cause.{Cause}
use Rattle.planning_runs.specs.declared.refusal.Cause.TheVariants.{Refused, Words, Document, Report, Unread, Unwritten, System, NoMemory, Journal}

-- the number with which the program ends for a cause
abbrev pub number_of : Cause → ℕ
number_of Refused = 1
number_of Words = 2
number_of Document = 3
number_of Report = 4
number_of Unread = 5
number_of Unwritten = 6
number_of System = 7
number_of NoMemory = 8
number_of Journal = 9

-- a refusal has a cause, or there was no memory for its sentence
abbrev pub IsFor : Cause → Cause → Type 0
IsFor cause found = (found ≡ cause) ⊎ (found ≡ NoMemory)

-- why a report shows no plan, as a cause
abbrev pub cause_of : Unshown → Cause
cause_of (shown.Document why) = Document
cause_of (shown.Report why) = Report
cause_of (shown.Refused why) = Refused

-- why a search that ended so was cut off, and nothing where it wasn't
abbrev pub end_cause : SearchEnd → Option Cause
end_cause ended.Finished = None
end_cause ended.Spent = None
end_cause (ended.Full end limit) = None
end_cause ended.Stopped = None
end_cause ended.DiskFault = Some System
end_cause ended.NoMemory = Some NoMemory
end_cause (ended.TooFewAdvisers asked have) = Some Words
end_cause (ended.Refused why) = Some Journal
