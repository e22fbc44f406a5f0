-- Which runs of `graft_run` write what they are asked for.
use Rattle.std.specs.Prelude.{◌≡◌, ◌⊎◌, ℕ, ◌≤◌, IsTrue, IsSome, List, Some, Ok, length}
use Rattle.std.specs.Option.{option_map}
use Rattle.plan_base.specs.Causes.{Rose}
use Rattle.shift_instance.specs.Problem.{Problem}
use Rattle.head_splits.specs.declared.Cut.{Cut}
use Rattle.instance_json.specs.Reading.{reading_of}
use Rattle.certificate.specs.declared.TheConstants.{BUNDLE_MAX}
use Rattle.certificate.specs.declared.Cert.{Cert}
use Rattle.certificate.specs.Accepted.{is_accepted}
use Rattle.certificate.specs.Departing.{Spells}
use Rattle.check_runs.specs.Check.{Met}
use Rattle.report_grafts.specs.Faults.{HasOpenEnd}
use Rattle.graft_runs.specs.declared.words.Command.{Command}
use Rattle.graft_runs.specs.declared.words.Command.TheVariants.{Below, Thorough, Breaks, Nodes}
use Rattle.graft_runs.specs.Words.{request_of}

-- an accepted certificate has what a command is for: the node, which isn't split, or rows
abbrev pub HasUseOf : Command → Problem → Cert → Type 0
HasUseOf (Below node steps) i whole = (base : List Cut) × HasOpenEnd i whole node base
HasUseOf (Thorough node budget) i whole = (base : List Cut) × HasOpenEnd i whole node base
HasUseOf (Breaks steps) i whole = IsTrue (is_accepted i whole) × IsSome whole.plan
HasUseOf (Nodes most) i whole = IsTrue (is_accepted i whole)

-- a source or the sink had a fault
abbrev pub HasFault : Met → Type 0
HasFault met = Rose met.document.faults.0 met.document.faults.1 ⊎ (Rose met.report.faults.0 met.report.faults.1 ⊎ Rose met.sink.faults.0 met.sink.faults.1)

-- a run has all that it needs, and met no fault: the words are a command, the sources tell a document of an instance and a report that isn't too
-- long, and the report has what the command is for
pub record CanWrite (met : Met) : Type 0 where
  pub command : Command
  pub asked : option_map (λ r. r.command) (request_of met.words) ≡ Some command
  pub instance : Problem
  pub document : List ℕ
  pub document_told : met.document.left ≡ Some document
  pub document_read : reading_of document ≡ Ok instance
  pub whole : Cert
  pub report : List ℕ
  pub report_told : met.report.left ≡ Some report
  pub report_short : length report ≤ BUNDLE_MAX
  pub report_spells : Spells report whole
  pub useful : HasUseOf command instance whole
  pub well : HasFault met → ⊥
