-- The certificate that comes of a run below a node of another certificate. Source: this project's profile.
use Rattle.std.specs.Prelude.{◌≡◌, ℕ, ◌+◌, ◌*◌, List, [], ◌++◌, map, Option, Some, None, nat_lt, ◌==◌, if◌then◌else◌}
use Rattle.std.specs.Option.{unwrap_or}
use Rattle.shift_instance.specs.declared.Row.{Row}
use Rattle.shift_instance.specs.Problem.{Problem}
use Rattle.rota_cost.specs.Costed.{Costing}
use Rattle.head_splits.specs.Nodes.{Node}
use Rattle.certificate.specs.declared.CertStatus.{CertStatus}
use Rattle.certificate.specs.declared.CertStatus.TheVariants.{Optimal, Stopped, Bound}
use Rattle.certificate.specs.declared.proof_lines.Line.{Line}
use Rattle.certificate.specs.declared.proof_lines.Line.TheVariants.{Split, Priced, Settled}
use Rattle.certificate.specs.Accepted.{nodes_of, least_floor}
use Rattle.report_grafts.specs.Run.{divisions}

-- lines that are good from the root on
abbrev pub AreGood : Problem → List Line → Type 0
AreGood i lines = (nodes : List Node) × (nodes_of i lines ≡ Some nodes)

-- the nodes that lines make, and none where a line isn't good
abbrev pub nodes_made : Problem → List Line → List Node
nodes_made i lines = unwrap_or (nodes_of i lines) []

-- The number that a run's node has where the run is grafted at a node of a tree with so many splits. Node 0 is that node itself. The parts of
-- the run's split k, nodes 2k+1 and 2k+2 of the run, are the parts of the tree's split K+k, where the tree has K splits of its own.
abbrev pub grafted_number : ℕ → ℕ → ℕ → ℕ
grafted_number node splits k = if k == 0 then node else k + 2 * splits

-- a run's line with that number
abbrev pub grafted_line : ℕ → ℕ → Line → Line
grafted_line node splits (Split k class m) = Split (grafted_number node splits k) class m
grafted_line node splits (Priced k prices) = Priced (grafted_number node splits k) prices
grafted_line node splits (Settled k) = Settled (grafted_number node splits k)

-- the lines of a certificate and then those of a run below one of its nodes
abbrev pub grafted_lines : List Line → ℕ → List Line → List Line
grafted_lines whole node run = whole ++ map (grafted_line node (divisions whole)) run

-- the cheaper of a certificate's plan and a run's best rota, and the plan where both cost the same; none where the certificate has none
abbrev pub grafted_plan : Option (ℕ × List Row) → Option Costing → Option (ℕ × List Row)
grafted_plan None best = None
grafted_plan (Some p) None = Some p
grafted_plan (Some p) (Some best) = if nat_lt best.cost p.0 then Some (best.cost, best.rows) else Some p

-- what lines find: the least floor of the unsplit nodes
abbrev pub found_by : Problem → List Line → ℕ
found_by i lines = least_floor (nodes_made i lines)

-- what is said of a plan and a bound
abbrev pub status_of : Option (ℕ × List Row) → ℕ → CertStatus
status_of None bound = Bound
status_of (Some p) bound = if p.0 == bound then Optimal else Stopped
