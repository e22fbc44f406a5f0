-- Which runs of `graft_run join` write the report with its parts.
use Rattle.std.specs.Prelude.{◌≡◌, ◌⊎◌, ⊤, ℕ, ◌≤◌, IsTrue, List, [], ◌∷◌, Option, Some, Ok, length}
use Rattle.plan_base.specs.Causes.{Rose}
use Rattle.shift_instance.specs.Problem.{Problem}
use Rattle.instance_json.specs.Reading.{reading_of}
use Rattle.certificate.specs.declared.TheConstants.{BUNDLE_MAX}
use Rattle.certificate.specs.declared.Cert.{Cert}
use Rattle.certificate.specs.Accepted.{is_accepted}
use Rattle.certificate.specs.Departing.{Spells}
use Rattle.report_joins.specs.Joined.{AreJoined, Joined}
use Rattle.join_runs.specs.Runs.{HasCommand, Met, SomeRose}

-- a source tells a text of that certificate which isn't too long
pub record TellsReport (left : Option (List ℕ)) (c : Cert) : Type 0 where
  pub report : List ℕ
  pub told : left ≡ Some report
  pub short : length report ≤ BUNDLE_MAX
  pub spells : Spells report c

-- sources tell the texts of those certificates, one after another
abbrev pub TellReports : List (Option (List ℕ)) → List Cert → Type 0
TellReports [] [] = ⊤
TellReports [] (c ∷ certs) = ⊥
TellReports (left ∷ lefts) [] = ⊥
TellReports (left ∷ lefts) (c ∷ certs) = TellsReport left c × TellReports lefts certs

-- a source or the sink had a fault
abbrev pub HasFault : Met → Type 0
HasFault met =
    Rose met.document.faults.0 met.document.faults.1
    ⊎ (Rose met.report.faults.0 met.report.faults.1 ⊎ (SomeRose met.parts.faults ⊎ Rose met.sink.faults.0 met.sink.faults.1))

-- a run has all that it needs, and met no fault: the words are a command, the sources tell a document of an instance, a report that the checker accepts
-- for it, and parts of this report that can be joined into it one after another
pub record CanJoin (met : Met) : Type 0 where
  pub command : HasCommand met
  pub instance : Problem
  pub document : List ℕ
  pub document_told : met.document.left ≡ Some document
  pub document_read : reading_of document ≡ Ok instance
  pub whole : Cert
  pub report : TellsReport met.report.left whole
  pub accepted : IsTrue (is_accepted instance whole)
  pub parts : List Cert
  pub parts_told : TellReports met.parts.left parts
  pub joined : Joined
  pub are_joined : AreJoined instance whole parts joined
  pub well : HasFault met → ⊥
