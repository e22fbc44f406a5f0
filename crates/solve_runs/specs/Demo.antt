-- A demonstration: a search without a document and without a journal's file, for the instance made from a number.
use Rattle.std.specs.Prelude.{◌≡◌, ◌+◌, ◌<◌, ◌≤◌, ℕ, Bool, IsTrue, List, [], ◌∷◌, ◌++◌, length, if◌then◌else◌, Option, None, Some, codes}
use Rattle.std.specs.Fmt.{decimal}
use Rattle.std.specs.Io.KnownBytes.{Appends}
use Rattle.plan_base.specs.Causes.{Rose}
use Rattle.plan_base.specs.Streams.{AppendsPart}
use Rattle.gated_journal.specs.declared.TheConstants.{JOURNAL_MAX}
use Rattle.gated_journal.specs.Format.{fresh}
use Rattle.shift_instance.specs.Problem.{Problem}
use Rattle.instance_json.specs.Canonical.{canonical_text}
use Rattle.instance_json.specs.Generated.{generated}
use Rattle.search_core.specs.Board.{book_at, BoardView}
use Rattle.search_core.specs.Book.{floor_of, is_finished, IsSound}
use Rattle.search_core.specs.Calls.{steps_enough}
use Rattle.search_book.specs.Posts.{IsJournalOf}
use Rattle.worker_gate.specs.declared.run.RunEnd.{RunEnd}
use Rattle.worker_gate.specs.declared.run.RunEnd.TheVariants.{Finished, Spent, Full as FullEnd, DiskFault as DiskEnd, NoMemory as MemoryEnd, Stopped}
use Rattle.worker_gate.specs.Runs.{committed, plans_and_prices_since, IsIdle, IsSameSearch, RunEnds, RunMakes}
use Rattle.solve_runs.specs.declared.status.Status.{Status}
use Rattle.solve_runs.specs.declared.status.Status.TheVariants.{Optimal, Budget, Full, Usage, Input, Workers, ReadFault, WriteFault, DiskFault, NoMemory, Journal}
use Rattle.solve_runs.specs.Report.{IsUnbeaten}
use Rattle.solve_runs.specs.Searching.{end_of, is_reported}
use Rattle.solve_runs.specs.Served.{AreTold, ToldMet}
use Rattle.solve_runs.specs.Streams.{SinkMet}

-- ---- the line

-- the word of a search to its end, and of one that was stopped
abbrev pub end_text : Bool → List ℕ
end_text optimal = if optimal then codes "optimal" else codes "stopped"

-- the line of a demonstration, with its line feed (10): the number, whether no plan is cheaper, the cost of its plan, what every plan
-- is known to cost at least, and the steps taken
abbrev pub demo_text : ℕ → Bool → ℕ → ℕ → ℕ → List ℕ
demo_text number optimal cost bound steps =
    codes "demo " ++ (decimal number ++ (codes " status " ++ (end_text optimal ++ (codes " cost " ++ (decimal cost ++ (codes " bound "
    ++ (decimal bound ++ (codes " steps " ++ (decimal steps ++ 10 ∷ [])))))))))

-- the line of a board: whether it has no open node, the cost of its book's best plan, the book's floor, and its steps
abbrev pub line_of : ℕ → BoardView → List ℕ
line_of number v = demo_text number (is_finished (book_at v)) (book_at v).cost (floor_of (book_at v)) v.taken

-- ---- the search

-- a board over a new journal, before any step
pub record IsNew (i : Problem) (budget : ℕ) (v : BoardView) : Type 0 where
  pub instance : v.instance ≡ i
  pub budget_is : v.budget ≡ budget
  pub limit : v.origin.limit ≡ JOURNAL_MAX
  pub history : v.history ≡ []
  pub used : v.used ≡ length (fresh (canonical_text i))
  pub idle : IsIdle v
  pub taken : v.taken ≡ 0

-- A search by one worker from its first board to its last: round by round it commits the steps that it makes of its adviser's advice,
-- which the last board counts. One that took all steps of its budget has no fewer posts that are plans or prices, and so many steps
-- don't finish each search of the instance.
pub record Searches (first last : BoardView) (end : RunEnd) : Type 0 where
  pub same : IsSameSearch first last
  pub makes : RunMakes first last end
  pub ends : RunEnds last end
  pub shown : committed end last.taken ≤ plans_and_prices_since first.history last.history
  pub few : end ≡ Spent → first.budget < steps_enough first.instance

-- a search over a new journal, whose posts the file then holds
pub record Demonstration (i : Problem) (budget : ℕ) (end : RunEnd) (file : List ℕ) : Type 0 where
  pub first : BoardView
  pub last : BoardView
  pub new : IsNew i budget first
  pub searches : Searches first last end
  pub sound : IsSound i (book_at last)
  pub journal : IsJournalOf JOURNAL_MAX i last.history last.used file

-- ---- statuses

-- what shows of a demonstration: its number and its budget of steps, how often the advisers were told something, its sink, and what the
-- disk in memory reads that is handed back (none where none is)
pub record DemoMet : Type 0 where
  pub number : ℕ
  pub budget : ℕ
  pub told : ToldMet
  pub sink : SinkMet
  pub file : Option (List ℕ)

-- how many of the steps of a search by one worker were committed: each, or all but the one for whose posts there was no room
abbrev pub AreCommitted : RunEnd → ℕ → ℕ → Type 0
AreCommitted Finished commits taken = taken ≡ commits
AreCommitted Spent commits taken = taken ≡ commits
AreCommitted (FullEnd end limit) commits taken = taken ≡ commits + 1
AreCommitted DiskEnd commits taken = ⊥
AreCommitted MemoryEnd commits taken = ⊥
AreCommitted Stopped commits taken = ⊥

-- the adviser comes back, and was told so often as steps were committed
abbrev pub IsTold : ToldMet → RunEnd → ℕ → Type 0
IsTold told end taken = (commits : ℕ) × AreTold 1 commits told × AreCommitted end commits taken

-- the search ended so; its disk is handed back, and its line was written
pub record IsShown (met : DemoMet) (end : RunEnd) : Type 0 where
  pub file : List ℕ
  pub kept : met.file ≡ Some file
  pub demo : Demonstration (generated met.number) met.budget end file
  pub told : IsTold met.told end demo.last.taken
  pub written : Appends met.sink.held met.sink.held_after (line_of met.number demo.last)

-- the search ended, and its disk is handed back; the beginning of its line was written, and the sink had a fault
pub record IsCutShort (met : DemoMet) : Type 0 where
  pub end : RunEnd
  pub reported : IsTrue (is_reported (end_of end))
  pub file : List ℕ
  pub kept : met.file ≡ Some file
  pub demo : Demonstration (generated met.number) met.budget end file
  pub told : IsTold met.told end demo.last.taken
  pub written : AppendsPart met.sink.held met.sink.held_after (line_of met.number demo.last)
  pub cause : Rose met.sink.faults.0 met.sink.faults.1

-- how a demonstration ends: no node is open, so no plan of its instance is cheaper; all steps of the budget were taken, and a node is
-- open; the journal in memory had no room for the posts of a step; its line wasn't written whole; or there was no memory, and then
-- no disk is handed back. The adviser always is.
abbrev pub OverMemory : DemoMet → Status → Type 0
OverMemory met Optimal = (shown : IsShown met Finished) × IsUnbeaten (generated met.number) (book_at shown.demo.last).cost
OverMemory met Budget = IsShown met Spent
OverMemory met (Full end limit) = IsShown met (FullEnd end limit)
OverMemory met WriteFault = IsCutShort met
OverMemory met NoMemory = (met.file ≡ None) × (commits : ℕ) × AreTold 1 commits met.told
OverMemory met Usage = ⊥
OverMemory met (Workers asked have) = ⊥
OverMemory met (Input why) = ⊥
OverMemory met ReadFault = ⊥
OverMemory met DiskFault = ⊥
OverMemory met (Journal why) = ⊥
