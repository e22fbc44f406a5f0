-- What a run of `graft_run` answers, and why.
use Rattle.std.specs.Prelude.{◌≡◌, ◌⊎◌, ⊤, ℕ, ◌≤◌, IsTrue, Bool, true, false, List, Some, None, IsSome, IfSome, map}
use Rattle.std.specs.Option.{option_map, option_map_or}
use Rattle.std.specs.Io.KnownBytes.{Appends}
use Rattle.plan_base.specs.Causes.{Rose}
use Rattle.plan_base.specs.Streams.{AppendsPart}
use Rattle.shift_instance.specs.declared.TheConstants.{TOP}
use Rattle.shift_instance.specs.declared.Duty.{Duty}
use Rattle.shift_instance.specs.declared.Row.{Row}
use Rattle.shift_instance.specs.Problem.{Problem}
use Rattle.shift_instance.specs.Rota.{are_legal_rows, cost, is_legal_rota, rota_of}
use Rattle.head_splits.specs.declared.Cut.{Cut}
use Rattle.instance_input.specs.declared.Unread.TheVariants.{Refused as DocumentRefused}
use Rattle.instance_input.specs.Unread.{IsReadAs, WhyUnread}
use Rattle.certificate.specs.declared.Cert.{Cert}
use Rattle.certificate.specs.Accepted.{is_accepted}
use Rattle.certificate.specs.LineText.{line_text, lines_text}
use Rattle.certificate.specs.Text.{cert_text}
use Rattle.cert_check.specs.Judged.{cause_of}
use Rattle.check_runs.specs.Check.{IsReportOf, Met, SinkMet, SourceMet, WhyUnjudged}
use Rattle.report_grafts.specs.declared.fault.GraftFault.{GraftFault}
use Rattle.report_grafts.specs.declared.fault.GraftFault.TheVariants.{Refused as CertRefused, NoNode, IsSplit, OtherCuts, NoRows, NoMemory as NoMemoryForGraft}
use Rattle.report_grafts.specs.Faults.{HasOpenEnd, IsExportFault}
use Rattle.report_grafts.specs.Grafted.{found_by, grafted_lines, grafted_plan, status_of}
use Rattle.report_grafts.specs.Pins.{pins_of, HaveSameHeads}
use Rattle.report_grafts.specs.Run.{Run, is_finished, IsSound}
use Rattle.report_nodes.specs.declared.listing.OpenNode.{OpenNode}
use Rattle.report_nodes.specs.Listed.{AreFirst, IsRefusal}
use Rattle.subtree_search.specs.Stepping.{IsGreedyRun, IsSearched}
use Rattle.graft_runs.specs.declared.status.GraftStatus.{GraftStatus}
use Rattle.graft_runs.specs.declared.status.GraftStatus.TheVariants.{Written, Refused, Usage, Input, Bundle, ReadFault, WriteFault, NoMemory}
use Rattle.graft_runs.specs.declared.words.Command.{Command}
use Rattle.graft_runs.specs.declared.words.Command.TheVariants.{Below, Thorough, Breaks, Nodes}
use Rattle.graft_runs.specs.Texts.{breaks_lines, fault_text, open_line, rows_after, IsNamed}
use Rattle.graft_runs.specs.Words.{most_steps, request_of}

-- what the plan of a certificate costs, and TOP where it has none
abbrev pub limit_of : Cert → ℕ
limit_of c = option_map_or (λ p. p.0) c.plan TOP

-- a sound run of a search below some cuts, of so many steps: it left no node open, took them all, or may have been asked to stop
pub record IsSearch (i : Problem) (base : List Cut) (limit steps : ℕ) (asks : Bool) (r : Run) : Type 0 where
  pub searched : IsSearched i base limit steps r
  pub sound : IsSound r
  pub ends : IsTrue (is_finished r) ⊎ ((r.taken ≡ steps) ⊎ (asks ≡ true))

-- a certificate with a run grafted at one of its nodes
pub record IsGrown (i : Problem) (whole : Cert) (node : ℕ) (run : Run) (c : Cert) : Type 0 where
  pub accepted : IsTrue (is_accepted i c)
  pub better : whole.bound ≤ c.bound
  pub lines : c.lines ≡ grafted_lines whole.lines node run.lines
  pub plan : c.plan ≡ grafted_plan whole.plan run.best
  pub bound : c.bound ≡ found_by i c.lines
  pub status : c.status ≡ status_of c.plan c.bound

-- the text of a certificate with a run grafted at one of its nodes
abbrev pub IsGrownText : Problem → Cert → ℕ → Run → List ℕ → Type 0
IsGrownText i whole node run text = (c : Cert) × IsGrown i whole node run c × (text ≡ cert_text c)

-- the text of a certificate after a search of so many steps below one of its nodes
pub record GrowsBelow (i : Problem) (whole : Cert) (node steps : ℕ) (asks : Bool) (text : List ℕ) : Type 0 where
  pub base : List Cut
  pub end : HasOpenEnd i whole node base
  pub run : Run
  pub search : IsSearch i base (limit_of whole) steps asks run
  pub grown : IsGrownText i whole node run text

-- the same of a search by the greedy adviser, which nothing asks to stop
pub record GrowsGreedily (i : Problem) (whole : Cert) (node steps : ℕ) (text : List ℕ) : Type 0 where
  pub grows : GrowsBelow i whole node steps false text
  pub greedy : IsGreedyRun i grows.base (limit_of whole) grows.run

-- legal rows at their cost, with as many duties of each shift on each day as other rows
pub record IsPlannedAnew (i : Problem) (rows : List Row) (p : ℕ × List Row) : Type 0 where
  pub legal : IsTrue (are_legal_rows i p.1)
  pub exact : cost i (rota_of p.1) ≡ p.0
  pub heads : HaveSameHeads i (rota_of p.1) (rota_of rows)

-- each legal rota with as many duties of each shift on each day as some rows costs at least so much
abbrev pub CostsAtLeast : Problem → List Row → ℕ → Type 0
CostsAtLeast i rows bound = (rota : List Duty) → IsTrue (is_legal_rota i rota) → HaveSameHeads i rota (rota_of rows) → bound ≤ cost i rota

-- The lines of the rows of a certificate after a search of so many steps by the greedy adviser, below the cuts that pin how many
-- duties of each shift they have on each day. What rows with as many cost at least is the run's floor, and where the run left no
-- node open, it is what the rows of the lines cost.
pub record ArePlannedAnew (i : Problem) (whole : Cert) (steps : ℕ) (text : List ℕ) : Type 0 where
  pub accepted : IsTrue (is_accepted i whole)
  pub plan : ℕ × List Row
  pub rows : whole.plan ≡ Some plan
  pub run : Run
  pub search : IsSearch i (pins_of i (rota_of plan.1)) plan.0 steps false run
  pub greedy : IsGreedyRun i (pins_of i (rota_of plan.1)) plan.0 run
  pub planned : IsPlannedAnew i plan.1 (rows_after run plan)
  pub bound : CostsAtLeast i plan.1 run.floor
  pub best : IsTrue (is_finished run) → run.floor ≡ (rows_after run plan).0
  pub lines : text ≡ lines_text (breaks_lines run plan)

-- the lines of the first so many open nodes of a certificate
abbrev pub AreListed : Problem → Cert → ℕ → List ℕ → Type 0
AreListed i whole most text = (list : List OpenNode) × AreFirst i whole most list × (text ≡ lines_text (map open_line list))

-- what a command writes of a certificate; a thorough search may be asked to stop
abbrev pub Writes : Bool → Command → Problem → Cert → List ℕ → Type 0
Writes asks (Below node steps) i whole text = GrowsGreedily i whole node steps text
Writes asks (Thorough node budget) i whole text = GrowsBelow i whole node (most_steps budget) asks text
Writes asks (Breaks steps) i whole text = ArePlannedAnew i whole steps text
Writes asks (Nodes most) i whole text = AreListed i whole most text

-- why breaks aren't planned anew: the certificate isn't accepted, and for what; or it has no rows
abbrev pub IsBreaksFault : Problem → Cert → GraftFault → Type 0
IsBreaksFault i whole (CertRefused why) = cause_of i whole ≡ Some why
IsBreaksFault i whole (NoNode node) = ⊥
IsBreaksFault i whole (IsSplit node) = ⊥
IsBreaksFault i whole (OtherCuts at) = ⊥
IsBreaksFault i whole NoRows = IsTrue (is_accepted i whole) × (whole.plan ≡ None)
IsBreaksFault i whole NoMemoryForGraft = ⊤

-- why a command has nothing to write of a certificate
abbrev pub IsFaultOf : Command → Problem → Cert → GraftFault → Type 0
IsFaultOf (Below node steps) i whole why = IsExportFault i whole node why
IsFaultOf (Thorough node budget) i whole why = IsExportFault i whole node why
IsFaultOf (Breaks steps) i whole why = IsBreaksFault i whole why
IsFaultOf (Nodes most) i whole why = IsRefusal i whole why

-- what a command writes of a certificate, or the line that says why it has nothing to write
abbrev pub Says : Bool → Command → Problem → Cert → List ℕ → Type 0
Says asks command i whole text = Writes asks command i whole text ⊎ ((why : GraftFault) × IsFaultOf command i whole why × IsNamed why × (text ≡ line_text (fault_text why)))

-- the words are a command
abbrev pub HasCommand : Met → Type 0
HasCommand met = IsSome (request_of met.words)

-- the words are that command, and the document makes that instance
pub record ReadsInstance (met : Met) (command : Command) (i : Problem) : Type 0 where
  pub asked : option_map (λ r. r.command) (request_of met.words) ≡ Some command
  pub document : IsReadAs met.document.left i

-- how a run of that command ends that has read that instance
abbrev pub EndsOver : Bool → Command → Problem → SourceMet → SinkMet → GraftStatus → Type 0
EndsOver asks command i report sink Written = (whole : Cert) × (text : List ℕ) × IsReportOf report.left whole × Writes asks command i whole text × Appends sink.held sink.held_after text
EndsOver asks command i report sink (Refused why) = (whole : Cert) × IsReportOf report.left whole × IsFaultOf command i whole why × IsNamed why × Appends sink.held sink.held_after (line_text (fault_text why))
EndsOver asks command i report sink (Bundle why) = IfSome report.left (λ bytes. WhyUnjudged bytes why)
EndsOver asks command i report sink ReadFault = Rose report.faults.0 report.faults.1
EndsOver asks command i report sink WriteFault = (whole : Cert) × (text : List ℕ) × IsReportOf report.left whole × Says asks command i whole text × AppendsPart sink.held sink.held_after text × Rose sink.faults.0 sink.faults.1
EndsOver asks command i report sink NoMemory = ⊤
EndsOver asks command i report sink Usage = ⊥
EndsOver asks command i report sink (Input why) = ⊥

-- the words are a command, the document makes an instance, and the run ends over it in that way
abbrev pub Ends : Bool → Met → GraftStatus → Type 0
Ends asks met status = (command : Command) × (i : Problem) × ReadsInstance met command i × EndsOver asks command i met.report met.sink status

-- when each status comes, and what it says
abbrev pub Explains : Bool → Met → GraftStatus → Type 0
Explains asks met Usage = request_of met.words ≡ None
Explains asks met (Input why) = HasCommand met × WhyUnread met.document.left met.document.faults.0 met.document.faults.1 (DocumentRefused why)
Explains asks met ReadFault = (HasCommand met × Rose met.document.faults.0 met.document.faults.1) ⊎ Ends asks met ReadFault
Explains asks met NoMemory = HasCommand met
Explains asks met Written = Ends asks met Written
Explains asks met (Refused why) = Ends asks met (Refused why)
Explains asks met (Bundle why) = Ends asks met (Bundle why)
Explains asks met WriteFault = Ends asks met WriteFault
