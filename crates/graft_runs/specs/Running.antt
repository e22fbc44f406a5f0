-- How a run of `graft_run` ends that has something to write.
use Rattle.std.specs.Prelude.{◌≡◌, ◌⊎◌, ⊤, ℕ, Bool, List, Option}
use Rattle.std.specs.Io.KnownBytes.{Appends}
use Rattle.plan_base.specs.Causes.{Rose}
use Rattle.plan_base.specs.Streams.{AppendsPart}
use Rattle.shift_instance.specs.Problem.{Problem}
use Rattle.certificate.specs.declared.Cert.{Cert}
use Rattle.certificate.specs.LineText.{line_text}
use Rattle.check_runs.specs.Check.{SinkMet}
use Rattle.graft_runs.specs.declared.status.GraftStatus.{GraftStatus}
use Rattle.graft_runs.specs.declared.status.GraftStatus.TheVariants.{Written, Refused, Usage, Input, Bundle, ReadFault, WriteFault, NoMemory}
use Rattle.graft_runs.specs.declared.words.Command.{Command}
use Rattle.graft_runs.specs.Runs.{IsFaultOf, Says, Writes}
use Rattle.graft_runs.specs.Texts.{fault_text, IsNamed}

-- how a run ends that has bytes to write: as it is to end then, or by a fault of the sink
abbrev pub Told : List ℕ → GraftStatus → Option (List ℕ) × Option (List ℕ) → ℕ × ℕ → GraftStatus → Type 0
Told bytes written held faults status = ((status ≡ written) × Appends held.0 held.1 bytes) ⊎ ((status ≡ WriteFault) × AppendsPart held.0 held.1 bytes × Rose faults.0 faults.1)

-- how a run of a command ends that has read a certificate
abbrev pub EndsWith : Bool → Command → Problem → Cert → SinkMet → GraftStatus → Type 0
EndsWith asks command i whole sink Written = (text : List ℕ) × Writes asks command i whole text × Appends sink.held sink.held_after text
EndsWith asks command i whole sink (Refused why) = IsFaultOf command i whole why × IsNamed why × Appends sink.held sink.held_after (line_text (fault_text why))
EndsWith asks command i whole sink WriteFault = (text : List ℕ) × Says asks command i whole text × AppendsPart sink.held sink.held_after text × Rose sink.faults.0 sink.faults.1
EndsWith asks command i whole sink NoMemory = ⊤
EndsWith asks command i whole sink Usage = ⊥
EndsWith asks command i whole sink (Input why) = ⊥
EndsWith asks command i whole sink (Bundle why) = ⊥
EndsWith asks command i whole sink ReadFault = ⊥
