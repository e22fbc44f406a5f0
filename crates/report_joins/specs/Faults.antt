-- Why a part isn't joined into a certificate. Source: this project's profile.
use Rattle.std.specs.Prelude.{◌≡◌, ◌≢◌, ◌+◌, ◌<◌, ◌^◌, ⊤, ℕ, IsTrue, IsFalse, List, ◌∷◌, ◌++◌, Some, take, length, slice_get, IsSomeAnd}
use Rattle.break_rules.specs.Lists.{Has}
use Rattle.shift_instance.specs.Problem.{Problem}
use Rattle.certificate.specs.declared.Cert.{Cert}
use Rattle.certificate.specs.declared.proof_lines.Line.{Line}
use Rattle.certificate.specs.Accepted.{is_accepted, node_of}
use Rattle.cert_check.specs.Judged.{cause_of}
use Rattle.head_splits.specs.declared.Cut.{Cut}
use Rattle.head_splits.specs.Nodes.{Node}
use Rattle.report_grafts.specs.Faults.{HasOpenEnd}
use Rattle.report_grafts.specs.Grafted.{grafted_lines, grafted_number}
use Rattle.report_grafts.specs.Run.{divisions}
use Rattle.report_joins.specs.Joined.{Joined, GoesOn, IsPart, IsPlanBelow}
use Rattle.report_joins.specs.declared.fault.PartFault.{PartFault}
use Rattle.report_joins.specs.declared.fault.PartFault.TheVariants.{Refused, OtherLines, NothingFurther, NoEnd, OtherNode, OtherPlan, SameNode, TooMany, NoMemory}

-- the checker refuses a certificate, and says why; or memory ran out
abbrev pub IsRefusal : Problem → Cert → PartFault → Type 0
IsRefusal i c (Refused why) = cause_of i c ≡ Some why
IsRefusal i c NoMemory = ⊤
IsRefusal i c (OtherLines at) = ⊥
IsRefusal i c NothingFurther = ⊥
IsRefusal i c (NoEnd node) = ⊥
IsRefusal i c (OtherNode at) = ⊥
IsRefusal i c OtherPlan = ⊥
IsRefusal i c (SameNode node) = ⊥
IsRefusal i c TooMany = ⊥

-- lines don't begin with others: this is the first place of those at which they differ
abbrev pub Departs : List Line → List Line → ℕ → Type 0
Departs known lines at = (at < length known) × (take at lines ≡ take at known) × (slice_get lines at ≢ slice_get known at)

-- lines begin with others, and the next one is of that node
pub record GoesOnAt (known all : List Line) (of : ℕ) : Type 0 where
  pub line : Line
  pub rest : List Line
  pub lines : all ≡ known ++ line ∷ rest
  pub node : of ≡ node_of line

-- a line isn't of a node below that one: no node of a run that is grafted there after so many splits has its number
abbrev pub IsElsewhere : ℕ → ℕ → Line → Type 0
IsElsewhere node splits line = (k : ℕ) → node_of line ≡ grafted_number node splits k → ⊥

-- lines begin with others and with those of a run at a node, and the next one, at that place, is of a node that isn't below
pub record LeavesNode (known all : List Line) (node place : ℕ) : Type 0 where
  pub run : List Line
  pub line : Line
  pub rest : List Line
  pub some : 0 < length run
  pub lines : all ≡ grafted_lines known node run ++ line ∷ rest
  pub at : place ≡ length known + length run
  pub elsewhere : IsElsewhere node (divisions known) line

-- some nodes have an unsplit one of that number
abbrev pub IsEnd : List Node → ℕ → Type 0
IsEnd nodes node = IsSomeAnd (slice_get nodes node) (λ n. IsFalse n.split)

-- lines aren't those of a run behind others that make these nodes; or memory ran out
abbrev pub IsLineFault : List Node → List Line → List Line → PartFault → Type 0
IsLineFault ends known lines (OtherLines at) = Departs known lines at
IsLineFault ends known lines NothingFurther = lines ≡ known
IsLineFault ends known lines (NoEnd node) = GoesOnAt known lines node × (IsEnd ends node → ⊥)
IsLineFault ends known lines (OtherNode at) = (node : ℕ) × IsEnd ends node × LeavesNode known lines node at
IsLineFault ends known lines NoMemory = ⊤
IsLineFault ends known lines (Refused why) = ⊥
IsLineFault ends known lines OtherPlan = ⊥
IsLineFault ends known lines (SameNode node) = ⊥
IsLineFault ends known lines TooMany = ⊥

-- why no run is read from a part: it isn't accepted, or its lines aren't the certificate's and those of a run at one of its unsplit nodes
abbrev pub IsReadFault : Problem → Cert → Cert → PartFault → Type 0
IsReadFault i whole part (Refused why) = cause_of i part ≡ Some why
IsReadFault i whole part (OtherLines at) = IsTrue (is_accepted i part) × Departs whole.lines part.lines at
IsReadFault i whole part NothingFurther = IsTrue (is_accepted i part) × (part.lines ≡ whole.lines)
IsReadFault i whole part (NoEnd node) =
    IsTrue (is_accepted i part) × GoesOnAt whole.lines part.lines node × ((cuts : List Cut) → HasOpenEnd i whole node cuts → ⊥)
IsReadFault i whole part (OtherNode at) =
    IsTrue (is_accepted i part) × ((node : ℕ) × (cuts : List Cut) × HasOpenEnd i whole node cuts × LeavesNode whole.lines part.lines node at)
IsReadFault i whole part NoMemory = ⊤
IsReadFault i whole part OtherPlan = ⊥
IsReadFault i whole part (SameNode node) = ⊥
IsReadFault i whole part TooMany = ⊥

-- why a part isn't joined, the first cause: no run is read from it; its plan isn't one of its node; an earlier part is of that node; or there would be
-- too many lines
abbrev pub IsPartFault : Joined → Cert → PartFault → Type 0
IsPartFault j part (Refused why) = IsReadFault j.instance j.whole part (Refused why)
IsPartFault j part (OtherLines at) = IsReadFault j.instance j.whole part (OtherLines at)
IsPartFault j part NothingFurther = IsReadFault j.instance j.whole part NothingFurther
IsPartFault j part (NoEnd node) = IsReadFault j.instance j.whole part (NoEnd node)
IsPartFault j part (OtherNode at) = IsReadFault j.instance j.whole part (OtherNode at)
IsPartFault j part OtherPlan =
    (node : ℕ) × (cuts : List Cut) × (run : List Line) × GoesOn j.instance j.whole part node cuts run × (IsPlanBelow cuts j.whole.plan part.plan → ⊥)
IsPartFault j part (SameNode node) = (run : List Line) × IsPart j.instance j.whole part node run × Has j.nodes node
IsPartFault j part TooMany =
    (node : ℕ) × (run : List Line) × IsPart j.instance j.whole part node run × (Has j.nodes node → ⊥) × (2 ^ 30 < length j.lines + length run)
IsPartFault j part NoMemory = ⊤
