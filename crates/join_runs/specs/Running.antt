-- How a run of `graft_run join` comes to its end.
use Rattle.std.specs.Prelude.{◌≡◌, ◌⊎◌, ⊤, ℕ, List, Option, Some}
use Rattle.std.specs.Io.KnownBytes.{Appends}
use Rattle.plan_base.specs.Causes.{Rose}
use Rattle.plan_base.specs.Streams.{AppendsPart}
use Rattle.shift_instance.specs.Problem.{Problem}
use Rattle.certificate.specs.declared.Cert.{Cert}
use Rattle.cert_check.specs.Judged.{cause_of}
use Rattle.check_runs.specs.Check.{IsReportOf, SourceMet}
use Rattle.report_joins.specs.Joined.{AreJoined, IsJoinedCert, Joined, JoinsPart}
use Rattle.join_runs.specs.declared.status.JoinStatus.{JoinStatus}
use Rattle.join_runs.specs.declared.status.JoinStatus.TheVariants.{Written, Refused, NoPart, Usage, Input, Bundle, ReadFault, WriteFault, NoMemory}
use Rattle.join_runs.specs.Runs.{AreReportsOf, IsCauseOf, IsNoPart, PartsMet, SomeRose}
use Rattle.join_runs.specs.Texts.{HasPlaces}

-- a source gave up a part, and it was joined
abbrev pub JoinsReport : Option (List ℕ) → Joined → Joined → Type 0
JoinsReport left old new = (part : Cert) × IsReportOf left part × JoinsPart part old new

-- why no part of that number came of a source
abbrev pub IsPartEnd : Joined → ℕ → SourceMet → JoinStatus → Type 0
IsPartEnd j number part (NoPart told cause) = (told ≡ number) × IsCauseOf j part.left cause × HasPlaces cause
IsPartEnd j number part ReadFault = Rose part.faults.0 part.faults.1
IsPartEnd j number part NoMemory = ⊤
IsPartEnd j number part Written = ⊥
IsPartEnd j number part (Refused why) = ⊥
IsPartEnd j number part Usage = ⊥
IsPartEnd j number part (Input why) = ⊥
IsPartEnd j number part (Bundle why) = ⊥
IsPartEnd j number part WriteFault = ⊥

-- parts that sources gave up were joined into a certificate, one after another
abbrev pub AreAllJoined : Problem → Cert → List (Option (List ℕ)) → Joined → Type 0
AreAllJoined i whole lefts j = (parts : List Cert) × AreReportsOf lefts parts × AreJoined i whole parts j

-- why parts aren't joined
abbrev pub IsUnjoined : Problem → Cert → PartsMet → JoinStatus → Type 0
IsUnjoined i whole parts (Refused why) = cause_of i whole ≡ Some why
IsUnjoined i whole parts (NoPart number cause) = IsNoPart i whole parts.left number cause × HasPlaces cause
IsUnjoined i whole parts ReadFault = SomeRose parts.faults
IsUnjoined i whole parts NoMemory = ⊤
IsUnjoined i whole parts Written = ⊥
IsUnjoined i whole parts Usage = ⊥
IsUnjoined i whole parts (Input why) = ⊥
IsUnjoined i whole parts (Bundle why) = ⊥
IsUnjoined i whole parts WriteFault = ⊥

-- a certificate with the parts that sources gave up
abbrev pub IsAllJoined : Problem → Cert → List (Option (List ℕ)) → Cert → Type 0
IsAllJoined i whole lefts c = (j : Joined) × AreAllJoined i whole lefts j × IsJoinedCert j c

-- how a run ends that has bytes to write: as it is to end then, or by a fault of the sink
abbrev pub Told : List ℕ → JoinStatus → Option (List ℕ) × Option (List ℕ) → ℕ × ℕ → JoinStatus → Type 0
Told bytes written held faults status = ((status ≡ written) × Appends held.0 held.1 bytes) ⊎ ((status ≡ WriteFault) × AppendsPart held.0 held.1 bytes × Rose faults.0 faults.1)
