-- Why nothing is exported from a certificate or grafted into it. Source: this project's profile.
use Rattle.std.specs.Prelude.{◌≡◌, ◌≤◌, ⊤, ℕ, IsTrue, IsFalse, IsSomeAnd, List, length, Some, slice_get}
use Rattle.shift_instance.specs.Problem.{Problem}
use Rattle.head_splits.specs.declared.Cut.{Cut}
use Rattle.head_splits.specs.Cuts.{DifferAt}
use Rattle.head_splits.specs.Nodes.{Node}
use Rattle.certificate.specs.declared.Cert.{Cert}
use Rattle.certificate.specs.Accepted.{is_accepted}
use Rattle.cert_check.specs.declared.judged.Refused.{Refused as Refusal}
use Rattle.cert_check.specs.declared.judged.Refused.TheVariants.{BadSplit, BadPrice, NotSettled, BoundTooHigh, BadPlan, WrongCost, NoMemory as NoMemoryLeft}
use Rattle.cert_check.specs.Judged.{cause_of}
use Rattle.report_grafts.specs.Grafted.{nodes_made}
use Rattle.report_grafts.specs.declared.fault.GraftFault.{GraftFault}
use Rattle.report_grafts.specs.declared.fault.GraftFault.TheVariants.{Refused, NoNode, IsSplit, OtherCuts, NoRows, NoMemory}

-- a tree has an unsplit node of that number, with these cuts
abbrev pub HasEnd : List Node → ℕ → List Cut → Type 0
HasEnd nodes node cuts = IsSomeAnd (slice_get nodes node) (λ n. IsFalse n.split × (n.cuts ≡ cuts))

-- why a tree has no unsplit node of that number: it has no node of that number, or that is split; or memory ran out
abbrev pub IsEndFault : List Node → ℕ → GraftFault → Type 0
IsEndFault nodes node (Refused why) = ⊥
IsEndFault nodes node (NoNode k) = (k ≡ node) × (length nodes ≤ node)
IsEndFault nodes node (IsSplit k) = (k ≡ node) × IsSomeAnd (slice_get nodes node) (λ n. IsTrue n.split)
IsEndFault nodes node (OtherCuts at) = ⊥
IsEndFault nodes node NoRows = ⊥
IsEndFault nodes node NoMemory = ⊤

-- an accepted certificate has an unsplit node of that number, with these cuts
abbrev pub HasOpenEnd : Problem → Cert → ℕ → List Cut → Type 0
HasOpenEnd i whole node cuts = IsTrue (is_accepted i whole) × HasEnd (nodes_made i whole.lines) node cuts

-- why a node isn't exported: the certificate isn't accepted, and for what; or it has no unsplit node of that number
abbrev pub IsExportFault : Problem → Cert → ℕ → GraftFault → Type 0
IsExportFault i whole node (Refused why) = cause_of i whole ≡ Some why
IsExportFault i whole node (NoNode k) = IsTrue (is_accepted i whole) × IsEndFault (nodes_made i whole.lines) node (NoNode k)
IsExportFault i whole node (IsSplit k) = IsTrue (is_accepted i whole) × IsEndFault (nodes_made i whole.lines) node (IsSplit k)
IsExportFault i whole node (OtherCuts at) = ⊥
IsExportFault i whole node NoRows = ⊥
IsExportFault i whole node NoMemory = ⊤

-- why nothing is grafted at a node below some cuts: it isn't exported, or it has other cuts
abbrev pub IsGraftFault : Problem → Cert → ℕ → List Cut → GraftFault → Type 0
IsGraftFault i whole node base (Refused why) = IsExportFault i whole node (Refused why)
IsGraftFault i whole node base (NoNode k) = IsExportFault i whole node (NoNode k)
IsGraftFault i whole node base (IsSplit k) = IsExportFault i whole node (IsSplit k)
IsGraftFault i whole node base (OtherCuts at) = (cuts : List Cut) × HasOpenEnd i whole node cuts × DifferAt cuts base at
IsGraftFault i whole node base NoRows = ⊥
IsGraftFault i whole node base NoMemory = ⊤

-- the refusal of a certificate tells what bound its lines show; or memory ran out
abbrev pub TellsBound : ℕ → Refusal → Type 0
TellsBound n (BadSplit line) = ⊥
TellsBound n (BadPrice line) = ⊥
TellsBound n (NotSettled line) = ⊥
TellsBound n (BoundTooHigh claimed found) = found ≡ n
TellsBound n (BadPlan row) = ⊥
TellsBound n (WrongCost claimed found) = ⊥
TellsBound n NoMemoryLeft = ⊤
