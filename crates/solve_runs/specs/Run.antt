-- What a run of `solve` answers, and why.
use Rattle.std.specs.Prelude.{◌≡◌, ◌⊎◌, ℕ, ◌<◌, ◌≤◌, Bool, true, false, IsTrue, List, [], Option, None, Some}
use Rattle.std.specs.Io.KnownBytes.{Appends}
use Rattle.plan_base.specs.Causes.{Rose}
use Rattle.plan_base.specs.Streams.{AppendsPart}
use Rattle.gated_journal.specs.Format.{fresh}
use Rattle.shift_instance.specs.Problem.{Problem}
use Rattle.instance_json.specs.Canonical.{canonical_text}
use Rattle.instance_input.specs.declared.Unread.{Unread}
use Rattle.instance_input.specs.declared.Unread.TheVariants.{Refused as DocumentRefused, ReadFault as DocumentFault, NoMemory as DocumentMemory}
use Rattle.instance_input.specs.Unread.{IsReadAs, WhyUnread}
use Rattle.certificate.specs.Accepted.{is_accepted}
use Rattle.certificate.specs.Departing.{Spells}
use Rattle.search_core.specs.Book.{IsSound}
use Rattle.search_core.specs.Board.{BoardView}
use Rattle.solve_runs.specs.declared.status.Status.{Status}
use Rattle.solve_runs.specs.declared.status.Status.TheVariants.{Optimal, Budget, Full, Usage, Input, Workers, ReadFault, WriteFault, DiskFault, NoMemory, Journal}
use Rattle.solve_runs.specs.Demo.{OverMemory}
use Rattle.solve_runs.specs.Ended.{HasEnded, IsLeft, IsRefused}
use Rattle.solve_runs.specs.Report.{cert_of, output_of}
use Rattle.solve_runs.specs.Session.{DiskMet, IsUncalled, Session, posts_in}
use Rattle.solve_runs.specs.Status.{EndsBeforeReading}
use Rattle.worker_gate.specs.declared.run.RunEnd.{RunEnd}
use Rattle.worker_gate.specs.declared.run.RunEnd.TheVariants.{Finished, Spent, Full as FullEnd, DiskFault as DiskEnd}
use Rattle.solve_runs.specs.Search.{IsLanded}
use Rattle.solve_runs.specs.Searching.{end_of, is_reported}
use Rattle.solve_runs.specs.Served.{AreUntold, ToldMet}
use Rattle.solve_runs.specs.Streams.{sink_of, SinkMet}
use Rattle.solve_runs.specs.Words.{workers_for, AsksWorkers, Command, IsCommand}
use Rattle.solve_words.specs.Words.{from_number, Asked}

-- ---- what is written

-- the report of the posts and their book was written, with its table where that was asked for; its plan is legal at its cost, and its
-- certificate is accepted, which by itself implies the plan's cost and the bound; what was written is a text of that certificate, the
-- lines of the table being notes, so whoever reads it reads that certificate and no other
pub record Reports (sink : SinkMet) (table : Bool) {disk : DiskMet} {i : Problem} (session : Session disk i) : Type 0 where
  pub written : Appends sink.held sink.held_after (output_of i table (posts_in session) session.last)
  pub sound : IsSound i session.last
  pub accepted : IsTrue (is_accepted i (cert_of (posts_in session) session.last))
  pub reads : Spells (output_of i table (posts_in session) session.last) (cert_of (posts_in session) session.last)

-- the beginning of that was written, and the sink had a fault
pub record ReportsPart (sink : SinkMet) (table : Bool) {disk : DiskMet} {i : Problem} (session : Session disk i) : Type 0 where
  pub written : AppendsPart sink.held sink.held_after (output_of i table (posts_in session) session.last)
  pub cause : Rose sink.faults.0 sink.faults.1

-- ---- statuses

-- how a run ends that has read an instance, by so many workers: whether the table is asked for, the budget of steps, how often the
-- advisers were told something, whether it opened a book, and what the book says
abbrev pub OverDisk : DiskMet → SinkMet → Problem → Bool → ℕ → ℕ → ToldMet → Bool → Status → Type 0
OverDisk disk sink i table budget workers told opened Optimal = (opened ≡ true) × (s : Session disk i) × (last : BoardView) × HasEnded disk i workers budget told Finished last s × Reports sink table s
OverDisk disk sink i table budget workers told opened Budget = (opened ≡ true) × (s : Session disk i) × (last : BoardView) × HasEnded disk i workers budget told Spent last s × Reports sink table s
OverDisk disk sink i table budget workers told opened (Full end limit) = (opened ≡ true) × (s : Session disk i) × (last : BoardView) × HasEnded disk i workers budget told (FullEnd end limit) last s × Reports sink table s
OverDisk disk sink i table budget workers told opened WriteFault = (opened ≡ true) × (s : Session disk i) × (last : BoardView) × (end : RunEnd) × IsLanded end × IsTrue (is_reported (end_of end)) × HasEnded disk i workers budget told end last s × ReportsPart sink table s
OverDisk disk sink i table budget workers told opened DiskFault = Rose disk.faults.0 disk.faults.1
    × (((opened ≡ false) × IsLeft disk i × AreUntold workers told) ⊎ ((opened ≡ true) × (s : Session disk i) × (last : BoardView) × HasEnded disk i workers budget told DiskEnd last s))
OverDisk disk sink i table budget workers told opened NoMemory =
    ((opened ≡ false) × IsLeft disk i × AreUntold workers told × ((disk.file_after ≡ disk.file) ⊎ ((disk.file ≡ Some []) × (disk.file_after ≡ Some (fresh (canonical_text i))))))
    ⊎ ((opened ≡ true) × (s : Session disk i) × (last : BoardView) × (end : RunEnd) × IsLanded end × HasEnded disk i workers budget told end last s)
OverDisk disk sink i table budget workers told opened (Journal why) = (opened ≡ false) × IsRefused disk i why × IsLeft disk i × AreUntold workers told
OverDisk disk sink i table budget workers told opened Usage = ⊥
OverDisk disk sink i table budget workers told opened (Input why) = ⊥
OverDisk disk sink i table budget workers told opened (Workers asked have) = ⊥
OverDisk disk sink i table budget workers told opened ReadFault = ⊥

-- what a run meets: what it is asked for, what the source has left (none where it doesn't tell) and its counts of faults before and after the
-- run, how often its advisers were told something, what shows of its sink and of its disk, whether it opened a book there, and what the
-- disk in memory reads that is handed back (none where none is)
pub record Met : Type 1 where
  pub asks : Asked → Type 0
  pub left : Option (List ℕ)
  pub read_faults : ℕ × ℕ
  pub told : ToldMet
  pub sink : SinkMet
  pub disk : DiskMet
  pub opened : Bool
  pub demo : Option (List ℕ)

-- what a run meets that is asked for that: of its source what it has left and its count of faults, and of its sink what it holds and its
-- count of faults, each from one of its states to a later one; and the rest as it stands above
abbrev pub met_in : {S K : Type 0} → (Asked → Type 0) → (S → Option (List ℕ)) → (S → ℕ) → S → S → (K → Option (List ℕ)) → (K → ℕ) → K → K → ToldMet → DiskMet → Bool → Option (List ℕ) → Met
met_in asks left read_faults source source_after held write_faults sink sink_after told disk opened demo = record {
  asks = asks;
  left = left source;
  read_faults = (read_faults source, read_faults source_after);
  told = told;
  sink = sink_of held write_faults sink sink_after;
  disk = disk;
  opened = opened;
  demo = demo;
}

-- no book was opened on the disk, and no disk in memory is handed back
pub record IsUnopened (met : Met) : Type 0 where
  pub opened : met.opened ≡ false
  pub demo : met.demo ≡ None

-- how a search ends over the instance that the bytes make which the source gave up to its end
pub record EndsOver (met : Met) (command : Command) (status : Status) : Type 0 where
  pub i : Problem
  pub document : IsReadAs met.left i
  pub ends : OverDisk met.disk met.sink i command.table command.steps command.workers met.told met.opened status
  pub demo : met.demo ≡ None

-- when each status of a command's search comes, and what it says
abbrev pub EndsCommand : Met → Command → Status → Type 0
EndsCommand met command Usage = ⊥
EndsCommand met command (Workers asked have) = ⊥
EndsCommand met command (Input why) = IsUnopened met × AreUntold command.workers met.told × WhyUnread met.left met.read_faults.0 met.read_faults.1 (DocumentRefused why)
EndsCommand met command ReadFault = IsUnopened met × AreUntold command.workers met.told × Rose met.read_faults.0 met.read_faults.1
EndsCommand met command NoMemory = (IsUnopened met × AreUntold command.workers met.told × IsUncalled met.disk) ⊎ EndsOver met command NoMemory
EndsCommand met command Optimal = EndsOver met command Optimal
EndsCommand met command Budget = EndsOver met command Budget
EndsCommand met command (Full end limit) = EndsOver met command (Full end limit)
EndsCommand met command WriteFault = EndsOver met command WriteFault
EndsCommand met command DiskFault = EndsOver met command DiskFault
EndsCommand met command (Journal why) = EndsOver met command (Journal why)

-- the words ask for a search, for which there were advisers enough, and which ended so
pub record EndsSearch (met : Met) (status : Status) : Type 0 where
  pub command : Command
  pub asked : IsCommand met.asks command
  pub enough : command.workers ≤ workers_for met.told.before
  pub ends : EndsCommand met command status

-- the words ask for a demonstration, which ended so; no book was opened on the disk
pub record EndsDemo (met : Met) (status : Status) : Type 0 where
  pub number : ℕ
  pub steps : ℕ
  pub asked : met.asks (from_number number steps)
  pub opened : met.opened ≡ false
  pub enough : 1 ≤ workers_for met.told.before
  pub ends : OverMemory (record { number = number; budget = steps; told = met.told; sink = met.sink; file = met.demo }) status

-- the words ask for a search by so many workers, or for a demonstration by one, and that is more than there are advisers for
pub record AsksTooMany (met : Met) (asked have : ℕ) : Type 0 where
  pub workers : AsksWorkers met.asks asked
  pub all : have ≡ workers_for met.told.before
  pub more : have < asked

-- when each status comes, and what it says
abbrev pub Explains : Met → Status → Type 0
Explains met Usage = IsUnopened met × (met.told.after ≡ []) × ((asked : Asked) → met.asks asked → ⊥)
Explains met (Workers asked have) = IsUnopened met × (met.told.after ≡ []) × AsksTooMany met asked have
Explains met (Input why) = EndsSearch met (Input why)
Explains met ReadFault = EndsSearch met ReadFault
Explains met DiskFault = EndsSearch met DiskFault
Explains met (Journal why) = EndsSearch met (Journal why)
Explains met Optimal = EndsSearch met Optimal ⊎ EndsDemo met Optimal
Explains met Budget = EndsSearch met Budget ⊎ EndsDemo met Budget
Explains met (Full end limit) = EndsSearch met (Full end limit) ⊎ EndsDemo met (Full end limit)
Explains met WriteFault = EndsSearch met WriteFault ⊎ EndsDemo met WriteFault
Explains met NoMemory = (IsUnopened met × (met.told.after ≡ met.told.before) × IsUncalled met.disk) ⊎ (EndsSearch met NoMemory ⊎ EndsDemo met NoMemory)

-- the source wasn't touched: the words are no command or ask for too many workers, or for a demonstration
abbrev pub IsUnread : (Asked → Type 0) → Status → Type 0
IsUnread asks status = (EndsBeforeReading status) ⊎ ((number : ℕ) × (steps : ℕ) × asks (from_number number steps))

-- how a run ends whose document isn't read
abbrev pub status_unread : Unread → Status
status_unread (DocumentRefused why) = Input why
status_unread DocumentFault = ReadFault
status_unread DocumentMemory = NoMemory
