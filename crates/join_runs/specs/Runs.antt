-- What a run of `graft_run join` answers, and why.
use Rattle.std.specs.Prelude.{◌≡◌, ◌⊎◌, ⊤, ℕ, ◌+◌, List, [], ◌∷◌, Option, Some, None, IsSome, IfSome, take, slice_get}
use Rattle.std.specs.Io.KnownBytes.{Appends}
use Rattle.plan_base.specs.Causes.{Rose}
use Rattle.plan_base.specs.Streams.{AppendsPart}
use Rattle.shift_instance.specs.Problem.{Problem}
use Rattle.instance_input.specs.declared.Unread.TheVariants.{Refused as DocumentRefused}
use Rattle.instance_input.specs.Unread.{IsReadAs, WhyUnread}
use Rattle.certificate.specs.declared.Cert.{Cert}
use Rattle.certificate.specs.LineText.{line_text}
use Rattle.certificate.specs.Text.{cert_text}
use Rattle.cert_check.specs.declared.judged.Refused.{Refused as Refusal}
use Rattle.cert_check.specs.Judged.{cause_of}
use Rattle.check_runs.specs.Check.{IsReportOf, SinkMet, SourceMet, WhyUnjudged}
use Rattle.report_joins.specs.Faults.{IsPartFault}
use Rattle.report_joins.specs.Joined.{AreJoined, IsJoinedCert, Joined}
use Rattle.join_runs.specs.declared.status.JoinStatus.{JoinStatus}
use Rattle.join_runs.specs.declared.status.JoinStatus.TheVariants.{Written, Refused, NoPart, Usage, Input, Bundle, ReadFault, WriteFault, NoMemory}
use Rattle.join_runs.specs.declared.status.PartCause.{PartCause}
use Rattle.join_runs.specs.declared.status.PartCause.TheVariants.{NoReport, Fault}
use Rattle.join_runs.specs.Texts.{part_text, refused_text, IsNamed, IsNamedRefusal}
use Rattle.join_runs.specs.Words.{join_of}

-- what shows of the sources of the parts, in their order: what each has left before the run (none where it doesn't tell), and its counts of faults before
-- and after
pub record PartsMet : Type 0 where
  pub left : List (Option (List ℕ))
  pub faults : List ℕ × List ℕ

-- what a run meets: its words, the sources of the instance document, of the report and of the parts, and its sink
pub record Met : Type 0 where
  pub words : List (List ℕ)
  pub document : SourceMet
  pub report : SourceMet
  pub parts : PartsMet
  pub sink : SinkMet

-- certificates are those of the texts which sources had left, one after another
abbrev pub AreReportsOf : List (Option (List ℕ)) → List Cert → Type 0
AreReportsOf [] [] = ⊤
AreReportsOf [] (c ∷ certs) = ⊥
AreReportsOf (left ∷ lefts) [] = ⊥
AreReportsOf (left ∷ lefts) (c ∷ certs) = IsReportOf left c × AreReportsOf lefts certs

-- some source counted a fault
pub record SomeRose (faults : List ℕ × List ℕ) : Type 0 where
  pub place : ℕ
  pub before : ℕ
  pub now : ℕ
  pub was : slice_get faults.0 place ≡ Some before
  pub is : slice_get faults.1 place ≡ Some now
  pub rose : Rose before now

-- the text of a certificate into which the certificates of all parts are joined, one after another
pub record IsJoinedText (i : Problem) (whole : Cert) (lefts : List (Option (List ℕ))) (bytes : List ℕ) : Type 0 where
  pub parts : List Cert
  pub reports : AreReportsOf lefts parts
  pub joined : Joined
  pub are_joined : AreJoined i whole parts joined
  pub cert : Cert
  pub is_cert : IsJoinedCert joined cert
  pub text : bytes ≡ cert_text cert

-- why a source gives up no part of a certificate with those that were joined into it: it gives up no report, or one that isn't a part
abbrev pub IsCauseOf : Joined → Option (List ℕ) → PartCause → Type 0
IsCauseOf j left (NoReport why) = IfSome left (λ bytes. WhyUnjudged bytes why)
IsCauseOf j left (Fault fault) = (part : Cert) × IsReportOf left part × IsPartFault j part fault

-- the parts before that number, from 1 on, were joined, and the one of that number isn't a part
pub record IsNoPart (i : Problem) (whole : Cert) (lefts : List (Option (List ℕ))) (told : ℕ) (why : PartCause) : Type 0 where
  pub place : ℕ
  pub number : told ≡ place + 1
  pub left : Option (List ℕ)
  pub at : slice_get lefts place ≡ Some left
  pub parts : List Cert
  pub reports : AreReportsOf (take place lefts) parts
  pub joined : Joined
  pub are_joined : AreJoined i whole parts joined
  pub cause : IsCauseOf joined left why

-- what a run writes that has read a certificate: that with all parts, or why there is none
pub data Says (i : Problem) (whole : Cert) (lefts : List (Option (List ℕ))) (text : List ℕ) : Type 0 where
  joins : IsJoinedText i whole lefts text → Says i whole lefts text
  refuses : (why : Refusal) → cause_of i whole ≡ Some why → IsNamedRefusal why → text ≡ line_text (refused_text why) → Says i whole lefts text
  has_no_part : (number : ℕ) (cause : PartCause) → IsNoPart i whole lefts number cause → IsNamed cause → text ≡ line_text (part_text number cause) → Says i whole lefts text

-- the words are a command
abbrev pub HasCommand : Met → Type 0
HasCommand met = IsSome (join_of met.words)

-- how a run ends that has read a certificate
abbrev pub EndsWith : Problem → Cert → PartsMet → SinkMet → JoinStatus → Type 0
EndsWith i whole parts sink Written = (text : List ℕ) × IsJoinedText i whole parts.left text × Appends sink.held sink.held_after text
EndsWith i whole parts sink (Refused why) = (cause_of i whole ≡ Some why) × IsNamedRefusal why × Appends sink.held sink.held_after (line_text (refused_text why))
EndsWith i whole parts sink (NoPart number cause) =
    IsNoPart i whole parts.left number cause × IsNamed cause × Appends sink.held sink.held_after (line_text (part_text number cause))
EndsWith i whole parts sink ReadFault = SomeRose parts.faults
EndsWith i whole parts sink WriteFault = (text : List ℕ) × Says i whole parts.left text × AppendsPart sink.held sink.held_after text × Rose sink.faults.0 sink.faults.1
EndsWith i whole parts sink NoMemory = ⊤
EndsWith i whole parts sink Usage = ⊥
EndsWith i whole parts sink (Input why) = ⊥
EndsWith i whole parts sink (Bundle why) = ⊥

-- how a run ends that has read an instance: by its report alone, or over the certificate that this gives up
abbrev pub EndsOver : Problem → SourceMet → PartsMet → SinkMet → JoinStatus → Type 0
EndsOver i report parts sink (Bundle why) = IfSome report.left (λ bytes. WhyUnjudged bytes why)
EndsOver i report parts sink ReadFault = Rose report.faults.0 report.faults.1 ⊎ ((whole : Cert) × IsReportOf report.left whole × EndsWith i whole parts sink ReadFault)
EndsOver i report parts sink NoMemory = ⊤
EndsOver i report parts sink Written = (whole : Cert) × IsReportOf report.left whole × EndsWith i whole parts sink Written
EndsOver i report parts sink (Refused why) = (whole : Cert) × IsReportOf report.left whole × EndsWith i whole parts sink (Refused why)
EndsOver i report parts sink (NoPart number cause) = (whole : Cert) × IsReportOf report.left whole × EndsWith i whole parts sink (NoPart number cause)
EndsOver i report parts sink WriteFault = (whole : Cert) × IsReportOf report.left whole × EndsWith i whole parts sink WriteFault
EndsOver i report parts sink Usage = ⊥
EndsOver i report parts sink (Input why) = ⊥

-- the words are a command, the document makes an instance, and the run ends over it in that way
abbrev pub Ends : Met → JoinStatus → Type 0
Ends met status = HasCommand met × ((i : Problem) × IsReadAs met.document.left i × EndsOver i met.report met.parts met.sink status)

-- when each status comes, and what it says
abbrev pub Explains : Met → JoinStatus → Type 0
Explains met Usage = join_of met.words ≡ None
Explains met (Input why) = HasCommand met × WhyUnread met.document.left met.document.faults.0 met.document.faults.1 (DocumentRefused why)
Explains met ReadFault = (HasCommand met × Rose met.document.faults.0 met.document.faults.1) ⊎ Ends met ReadFault
Explains met NoMemory = HasCommand met
Explains met Written = Ends met Written
Explains met (Refused why) = Ends met (Refused why)
Explains met (NoPart number cause) = Ends met (NoPart number cause)
Explains met (Bundle why) = Ends met (Bundle why)
Explains met WriteFault = Ends met WriteFault
