-- What a run of the checker answers, and why.
use Rattle.std.specs.Prelude.{◌≡◌, ◌⊎◌, ℕ, ◌<◌, ◌≤◌, Bool, true, false, List, length, Option, Some, None, IsSome, IfSome}
use Rattle.std.specs.Option.{option_map}
use Rattle.std.specs.Io.KnownBytes.{Appends}
use Rattle.plan_base.specs.Causes.{Rose}
use Rattle.plan_base.specs.Streams.{AppendsPart}
use Rattle.shift_instance.specs.Problem.{Problem}
use Rattle.instance_input.specs.declared.Unread.TheVariants.{Refused as DocumentRefused}
use Rattle.instance_input.specs.Unread.{IsAllOf, IsReadAs, WhyUnread}
use Rattle.certificate.specs.declared.TheConstants.{BUNDLE_MAX}
use Rattle.certificate.specs.declared.Cert.{Cert}
use Rattle.certificate.specs.declared.CertText.TheVariants.{Departs}
use Rattle.certificate.specs.Departing.{IsFaultOf, Spells}
use Rattle.certificate.specs.LineText.{line_text}
use Rattle.check_runs.specs.declared.status.BundleFault.{BundleFault}
use Rattle.check_runs.specs.declared.status.BundleFault.TheVariants.{TooLong, Text}
use Rattle.check_runs.specs.declared.status.CheckStatus.{CheckStatus}
use Rattle.check_runs.specs.declared.status.CheckStatus.TheVariants.{Accepted, Refused, Usage, Input, Bundle, ReadFault, WriteFault, NoMemory}
use Rattle.check_runs.specs.declared.words.Command.{Command}
use Rattle.check_runs.specs.Verdict.{accepts, verdict_text, Shows}
use Rattle.check_runs.specs.Words.{request_of}

-- what shows of a source: what it has left before the run (none where it doesn't tell), and its counts of faults before and after
pub record SourceMet : Type 0 where
  pub left : Option (List ℕ)
  pub faults : ℕ × ℕ

-- what shows of the sink: what it holds before and after the run (none where it doesn't tell), and its counts of faults then
pub record SinkMet : Type 0 where
  pub held : Option (List ℕ)
  pub held_after : Option (List ℕ)
  pub faults : ℕ × ℕ

-- what a run meets: its words, the source of the instance document and that of the report, and its sink
pub record Met : Type 0 where
  pub words : List (List ℕ)
  pub document : SourceMet
  pub report : SourceMet
  pub sink : SinkMet

-- the words are a command
abbrev pub HasCommand : Met → Type 0
HasCommand met = IsSome (request_of met.words)

-- the words are that command, and the document makes that instance
pub record ReadsInstance (met : Met) (command : Command) (i : Problem) : Type 0 where
  pub asked : option_map (λ r. r.command) (request_of met.words) ≡ Some command
  pub document : IsReadAs met.document.left i

-- the certificate is that of the text which the source had left, and the text isn't too long
abbrev pub IsReportOf : Option (List ℕ) → Cert → Type 0
IsReportOf left c = (bytes : List ℕ) × IsAllOf left bytes × (length bytes ≤ BUNDLE_MAX) × Spells bytes c

-- the line that a command writes of a certificate
abbrev pub verdict_line : Command → Problem → Cert → List ℕ
verdict_line command i c = line_text (verdict_text command i c)

-- the report spells a certificate that the command accepts, which shows what it claims, and the line that says so was written
abbrev pub SaysAccepted : Command → Problem → SourceMet → SinkMet → Type 0
SaysAccepted command i report sink =
    (c : Cert) × IsReportOf report.left c × (accepts command i c ≡ true) × Shows command i c × Appends sink.held sink.held_after (verdict_line command i c)

-- the report spells a certificate that the command doesn't accept, and the line that says why was written
abbrev pub SaysRefused : Command → Problem → SourceMet → SinkMet → Type 0
SaysRefused command i report sink =
    (c : Cert) × IsReportOf report.left c × (accepts command i c ≡ false) × Appends sink.held sink.held_after (verdict_line command i c)

-- the report spells a certificate, a beginning of the line that the command writes of it was written, and the sink had a fault
abbrev pub SaysPart : Command → Problem → SourceMet → SinkMet → Type 0
SaysPart command i report sink =
    (c : Cert) × IsReportOf report.left c × AppendsPart sink.held sink.held_after (verdict_line command i c) × Rose sink.faults.0 sink.faults.1

-- why a report can't be judged: it is too long, or it isn't and its text departs at that line
abbrev pub WhyUnjudged : List ℕ → BundleFault → Type 0
WhyUnjudged bytes TooLong = BUNDLE_MAX < length bytes
WhyUnjudged bytes (Text line) = (length bytes ≤ BUNDLE_MAX) × IsFaultOf bytes (Departs line)

-- how a run of that command ends that has read that instance
abbrev pub EndsOver : Command → Problem → SourceMet → SinkMet → CheckStatus → Type 0
EndsOver command i report sink Accepted = SaysAccepted command i report sink
EndsOver command i report sink Refused = SaysRefused command i report sink
EndsOver command i report sink (Bundle why) = IfSome report.left (λ bytes. WhyUnjudged bytes why)
EndsOver command i report sink ReadFault = Rose report.faults.0 report.faults.1
EndsOver command i report sink WriteFault = SaysPart command i report sink
EndsOver command i report sink NoMemory = Unit {0}
EndsOver command i report sink Usage = ⊥
EndsOver command i report sink (Input why) = ⊥

-- the words are a command, the document makes an instance, and the run ends over it in that way
abbrev pub Ends : Met → CheckStatus → Type 0
Ends met status = (command : Command) × (i : Problem) × ReadsInstance met command i × EndsOver command i met.report met.sink status

-- when each status comes, and what it says
abbrev pub Explains : Met → CheckStatus → Type 0
Explains met Usage = request_of met.words ≡ None
Explains met (Input why) = HasCommand met × WhyUnread met.document.left met.document.faults.0 met.document.faults.1 (DocumentRefused why)
Explains met ReadFault = (HasCommand met × Rose met.document.faults.0 met.document.faults.1) ⊎ Ends met ReadFault
Explains met NoMemory = HasCommand met
Explains met Accepted = Ends met Accepted
Explains met Refused = Ends met Refused
Explains met (Bundle why) = Ends met (Bundle why)
Explains met WriteFault = Ends met WriteFault

-- why no certificate came of a source: what it had left, and its counts of faults before and after
abbrev pub ReportUnread : Option (List ℕ) → ℕ → ℕ → CheckStatus → Type 0
ReportUnread left before now (Bundle why) = IfSome left (λ bytes. WhyUnjudged bytes why)
ReportUnread left before now ReadFault = Rose before now
ReportUnread left before now NoMemory = Unit {0}
ReportUnread left before now Accepted = ⊥
ReportUnread left before now Refused = ⊥
ReportUnread left before now Usage = ⊥
ReportUnread left before now (Input why) = ⊥
ReportUnread left before now WriteFault = ⊥

-- how a run ends that has a line to write, which says that the report is accepted or refused: what the sink held and holds, and its counts of faults
abbrev pub Told : List ℕ → Bool → Option (List ℕ) → Option (List ℕ) → ℕ × ℕ → CheckStatus → Type 0
Told line accepted held holds faults Accepted = (accepted ≡ true) × Appends held holds line
Told line accepted held holds faults Refused = (accepted ≡ false) × Appends held holds line
Told line accepted held holds faults WriteFault = AppendsPart held holds line × Rose faults.0 faults.1
Told line accepted held holds faults NoMemory = ⊥
Told line accepted held holds faults Usage = ⊥
Told line accepted held holds faults (Input why) = ⊥
Told line accepted held holds faults (Bundle why) = ⊥
Told line accepted held holds faults ReadFault = ⊥
