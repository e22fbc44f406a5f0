-- Which certificates are accepted, and what acceptance implies.
-- A certificate of a branch and bound search, after Land and Doig 1960, as a list of steps that are judged one by one.
use Rattle.std.specs.Prelude.{◌≡◌, ℕ, ◌≤◌, Bool, true, false, IsTrue, ◌&&◌, not, ◌==◌, nat_lt, nat_le, List, [], ◌∷◌, Option, Some, None, min, max, length, fold, slice_get, if◌then◌else◌}
use Rattle.std.specs.Option.{option_map_or, option_and_then}
use Rattle.shift_instance.specs.declared.Duty.{Duty}
use Rattle.shift_instance.specs.declared.Row.{Row}
use Rattle.shift_instance.specs.declared.TheConstants.{TOP}
use Rattle.shift_instance.specs.Problem.{Problem, shift_list}
use Rattle.shift_instance.specs.Rota.{cost, rota_of, are_legal_rows, is_legal_rota}
use Rattle.head_splits.specs.declared.Class.{Class}
use Rattle.head_splits.specs.Bound.{are_prices, bound_of}
use Rattle.head_splits.specs.Settled.{is_settled}
use Rattle.head_splits.specs.Nodes.{Node, new_node, with_floor, with_split, settled_floor}
use Rattle.certificate.specs.declared.Cert.{Cert}
use Rattle.certificate.specs.declared.proof_lines.Line.{Line}
use Rattle.certificate.specs.declared.proof_lines.Line.TheVariants.{Split, Priced, Settled}

-- whether a node may be split so: the shift and the day are there, the prefix has at most 48 breaks, and the number is at most 200
abbrev pub is_split : Problem → Class → ℕ → Bool
is_split i class m = nat_lt class.shift (length (shift_list i)) && nat_lt class.day i.days && nat_le (length class.prefix) 48 && nat_le m 200

-- The nodes after a line for the node n at k, where the line is good. The node isn't split before. A split makes two nodes with one
-- cut more; prices lift the node's floor to their bound; a settled node's floor is what its rotas cost.
abbrev pub node_line : Problem → List Node → Node → Line → Option (List Node)
node_line i nodes n (Split k class m) = if not n.split && is_split i class m then Some (with_split nodes k n class m) else None
node_line i nodes n (Priced k prices) = if not n.split && are_prices i n.cuts prices then Some (with_floor nodes k n (max n.floor (bound_of i n.cuts prices))) else None
node_line i nodes n (Settled k) = if not n.split && is_settled i n.cuts then Some (with_floor nodes k n (settled_floor i n.cuts)) else None

-- the node that a line names
abbrev pub node_of : Line → ℕ
node_of (Split k class m) = k
node_of (Priced k prices) = k
node_of (Settled k) = k

-- the nodes after lines in their order, where each is good
abbrev pub nodes_after : Problem → List Node → List Line → Option (List Node)
nodes_after i nodes [] = Some nodes
nodes_after i nodes (line ∷ lines) =
    option_and_then (λ next. nodes_after i next lines) (option_and_then (λ n. node_line i nodes n line) (slice_get nodes (node_of line)))

-- the nodes that lines make of the root, which has no cut
abbrev pub nodes_of : Problem → List Line → Option (List Node)
nodes_of i lines = nodes_after i (new_node [] ∷ []) lines

-- the least floor of the unsplit nodes
abbrev pub least_floor : List Node → ℕ
least_floor nodes = fold (λ floor n. if n.split then floor else min floor n.floor) TOP nodes

-- whether each line is good, and the bound isn't above what the lines find
abbrev pub is_bound : Problem → List Line → ℕ → Bool
is_bound i lines bound = option_map_or (λ nodes. nat_le bound (least_floor nodes)) (nodes_of i lines) false

-- whether the rows, where there are any, are legal and cost what is claimed
abbrev pub is_plan : Problem → Option (ℕ × List Row) → Bool
is_plan i None = true
is_plan i (Some p) = are_legal_rows i p.1 && (cost i (rota_of p.1) == p.0)

-- whether a certificate is accepted
abbrev pub is_accepted : Problem → Cert → Bool
is_accepted i c = is_bound i c.lines c.bound && is_plan i c.plan

-- acceptance alone implies that every legal rota costs at least the bound
abbrev pub BoundsEachRota : Type 0
BoundsEachRota = (i : Problem) (c : Cert) → IsTrue (is_accepted i c) → (rota : List Duty) → IsTrue (is_legal_rota i rota) → c.bound ≤ cost i rota

-- and that its rows are legal and cost what is claimed
abbrev pub HasTruePlan : Type 0
HasTruePlan = (i : Problem) (c : Cert) → IsTrue (is_accepted i c) → (p : ℕ × List Row) → c.plan ≡ Some p → IsTrue (are_legal_rows i p.1) × (cost i (rota_of p.1) ≡ p.0)
