-- What a run writes of the book that its search hands back, and how it ends then.
use Rattle.std.specs.Prelude.{◌≡◌, ◌⊎◌, ⊤, Bool, true, IsTrue}
use Rattle.std.specs.Io.KnownBytes.{Appends}
use Rattle.plan_base.specs.Causes.{Rose}
use Rattle.plan_base.specs.Streams.{AppendsPart}
use Rattle.certificate.specs.Accepted.{is_accepted}
use Rattle.certificate.specs.Departing.{Spells}
use Rattle.shift_instance.specs.Problem.{Problem}
use Rattle.search_book.specs.Search.{SearchView}
use Rattle.solve_runs.specs.declared.searched.SearchEnd.{SearchEnd}
use Rattle.solve_runs.specs.declared.searched.SearchEnd.TheVariants.{Finished, Spent, Full as FullEnd, Stopped, DiskFault as DiskEnd, NoMemory as MemoryEnd, TooFewAdvisers, Refused}
use Rattle.solve_runs.specs.declared.status.Status.{Status}
use Rattle.solve_runs.specs.declared.status.Status.TheVariants.{Optimal, Budget, Full, Usage, Input, Workers, ReadFault, WriteFault, DiskFault, NoMemory, Journal}
use Rattle.solve_runs.specs.Report.{cert_of, output_of}
use Rattle.solve_runs.specs.Searching.{is_reported}
use Rattle.solve_runs.specs.Streams.{SinkMet}

-- how a run ends whose search ended so, and whose report was written, where there is one; nobody asks the search of a run to stop
abbrev pub status_at : SearchEnd → Status
status_at Finished = Optimal
status_at Spent = Budget
status_at (FullEnd end limit) = Full end limit
status_at Stopped = Budget
status_at DiskEnd = DiskFault
status_at MemoryEnd = NoMemory
status_at (TooFewAdvisers asked have) = Workers asked have
status_at (Refused why) = Journal why

-- the report of a book was written, with its table where that is asked for; it is a text of the book's certificate, which is accepted
abbrev pub IsReported : {D : Type 0} → Problem → SearchView D → Bool → SinkMet → Type 0
IsReported i book table sink =
    Appends sink.held sink.held_after (output_of i table book.log.history book.log.book)
    × Spells (output_of i table book.log.history book.log.book) (cert_of book.log.history book.log.book)
    × IsTrue (is_accepted i (cert_of book.log.history book.log.book))

-- a beginning of that was written, and the sink had a fault
abbrev pub IsReportedPart : {D : Type 0} → Problem → SearchView D → Bool → SinkMet → Type 0
IsReportedPart i book table sink = AppendsPart sink.held sink.held_after (output_of i table book.log.history book.log.book) × Rose sink.faults.0 sink.faults.1

-- why the report of a book wasn't written, or not whole: a fault of the sink, or running out of memory
abbrev pub Unwritten : {D : Type 0} → Problem → SearchView D → Bool → SinkMet → Status → Type 0
Unwritten i book table sink WriteFault = IsReportedPart i book table sink
Unwritten i book table sink NoMemory = ⊤
Unwritten i book table sink Optimal = ⊥
Unwritten i book table sink Budget = ⊥
Unwritten i book table sink (Full end limit) = ⊥
Unwritten i book table sink Usage = ⊥
Unwritten i book table sink (Input why) = ⊥
Unwritten i book table sink (Workers asked have) = ⊥
Unwritten i book table sink ReadFault = ⊥
Unwritten i book table sink DiskFault = ⊥
Unwritten i book table sink (Journal why) = ⊥

-- how a run ends whose search handed the book back and ended so: by that end, with the report of the book where there is one; or its
-- report wasn't written, or not whole
abbrev pub EndsAs : {D : Type 0} → Problem → SearchView D → SearchEnd → Bool → SinkMet → Status → Type 0
EndsAs i book end table sink status =
    ((status ≡ status_at end) × (is_reported end ≡ true → IsReported i book table sink))
    ⊎ ((is_reported end ≡ true) × Unwritten i book table sink status)
