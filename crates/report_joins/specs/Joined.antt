-- Parts of a certificate that were searched apart from one another, and the certificate into which they are joined.
-- Source: branch and bound, after Land and Doig 1960: what lies below each of several nodes of the tree is searched without the rest of it.
use Rattle.std.specs.Prelude.{◌≡◌, ◌⊎◌, ⊤, ℕ, ◌+◌, ◌<◌, ◌≤◌, ◌^◌, IsTrue, List, [], ◌∷◌, ◌++◌, Option, Some, None, length, slice_get, nat_lt, if◌then◌else◌}
use Rattle.break_rules.specs.Lists.{Has}
use Rattle.shift_instance.specs.declared.Row.{Row}
use Rattle.shift_instance.specs.Problem.{Problem}
use Rattle.shift_instance.specs.Rota.{rota_of}
use Rattle.head_splits.specs.declared.Cut.{Cut}
use Rattle.head_splits.specs.Cuts.{meets}
use Rattle.head_splits.specs.Nodes.{Node}
use Rattle.certificate.specs.declared.Cert.{Cert}
use Rattle.certificate.specs.declared.proof_lines.Line.{Line}
use Rattle.certificate.specs.Accepted.{is_accepted, is_plan, least_floor, nodes_of}
use Rattle.report_grafts.specs.Faults.{HasOpenEnd}
use Rattle.report_grafts.specs.Grafted.{found_by, grafted_lines, status_of}

-- a plan of a part: that of the certificate, or a cheaper one that meets the cuts of the part's node; none where the certificate has none
abbrev pub IsPlanBelow : List Cut → Option (ℕ × List Row) → Option (ℕ × List Row) → Type 0
IsPlanBelow cuts None None = ⊤
IsPlanBelow cuts None (Some own) = ⊥
IsPlanBelow cuts (Some p) None = ⊥
IsPlanBelow cuts (Some p) (Some own) = ((own.0 < p.0) × IsTrue (meets (rota_of own.1) cuts)) ⊎ (own ≡ p)

-- the cheaper of two plans, and the first where both cost the same; none where the first is none
abbrev pub cheaper_plan : Option (ℕ × List Row) → Option (ℕ × List Row) → Option (ℕ × List Row)
cheaper_plan None own = None
cheaper_plan (Some p) None = Some p
cheaper_plan (Some p) (Some own) = if nat_lt own.0 p.0 then Some own else Some p

-- A certificate that goes on from another: it is accepted, and its proof lines are those of the other and of a run that is grafted at an unsplit node
-- of it, which has these cuts.
pub record GoesOn (i : Problem) (whole part : Cert) (node : ℕ) (cuts : List Cut) (run : List Line) : Type 0 where
  pub accepted : IsTrue (is_accepted i part)
  pub end : HasOpenEnd i whole node cuts
  pub some : 0 < length run
  pub lines : part.lines ≡ grafted_lines whole.lines node run

-- a part of a certificate: it goes on from it below a node, and its plan is the certificate's or a cheaper one below that node
pub record IsPart (i : Problem) (whole part : Cert) (node : ℕ) (run : List Line) : Type 0 where
  pub cuts : List Cut
  pub below : GoesOn i whole part node cuts run
  pub plan : IsPlanBelow cuts whole.plan part.plan

-- a certificate of an instance and what it is with the parts that were joined into it so far: the nodes of the parts, the proof lines, and the
-- cheapest plan
pub record Joined : Type 0 where
  pub instance : Problem
  pub whole : Cert
  pub nodes : List ℕ
  pub lines : List Line
  pub plan : Option (ℕ × List Row)

-- What holds of it: the certificate is accepted, and so is the plan; its lines make some nodes, and all lines others, of which no unsplit one has a
-- floor below the certificate's bound. Its nodes of which no part is stand there as they were.
pub record IsJoining (of_whole of_all : List Node) (j : Joined) : Type 0 where
  pub accepted : IsTrue (is_accepted j.instance j.whole)
  pub few : length j.whole.lines ≤ 2 ^ 28
  pub ends : nodes_of j.instance j.whole.lines ≡ Some of_whole
  pub begins : (more : List Line) × (j.lines ≡ j.whole.lines ++ more)
  pub tree : nodes_of j.instance j.lines ≡ Some of_all
  pub low : j.whole.bound ≤ least_floor of_all
  pub kept : (k : ℕ) → k < length of_whole → (Has j.nodes k → ⊥) → slice_get of_all k ≡ slice_get of_whole k
  pub plan : IsTrue (is_plan j.instance j.plan)
  pub short : length j.lines ≤ 2 ^ 30

-- a certificate into which nothing was joined yet
abbrev pub alone : Problem → Cert → Joined
alone i whole = record { instance = i; whole = whole; nodes = []; lines = whole.lines; plan = whole.plan }

-- a certificate after a further run at a node, and with a further plan
abbrev pub with_part : Joined → ℕ → List Line → Option (ℕ × List Row) → Joined
with_part j node run own = record j { nodes = j.nodes ++ node ∷ []; lines = grafted_lines j.lines node run; plan = cheaper_plan j.plan own }

-- a further part was joined: its run is grafted at its node, which no earlier part has
pub record JoinsPart (own : Cert) (old next : Joined) : Type 0 where
  pub node : ℕ
  pub run : List Line
  pub part : IsPart old.instance old.whole own node run
  pub other : Has old.nodes node → ⊥
  pub short : length old.lines + length run ≤ 2 ^ 30
  pub new : next ≡ with_part old node run own.plan

-- parts that were joined one after another
pub data AreJoined (i : Problem) (whole : Cert) : List Cert → Joined → Type 0 where
  none : AreJoined i whole [] (alone i whole)
  one_more : (parts : List Cert) (part : Cert) (old new : Joined) → AreJoined i whole parts old → JoinsPart part old new → AreJoined i whole (parts ++ part ∷ []) new

-- a certificate with all parts that were joined into it
pub record IsJoinedCert (j : Joined) (c : Cert) : Type 0 where
  pub accepted : IsTrue (is_accepted j.instance c)
  pub better : j.whole.bound ≤ c.bound
  pub lines : c.lines ≡ j.lines
  pub plan : c.plan ≡ j.plan
  pub bound : c.bound ≡ found_by j.instance c.lines
  pub status : c.status ≡ status_of c.plan c.bound
