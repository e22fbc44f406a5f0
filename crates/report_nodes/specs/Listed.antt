-- The open nodes of a report. Source: branch and bound, after Land and Doig 1960: what isn't closed can be gone on with.
use Rattle.std.specs.Prelude.{◌≡◌, ⊤, ℕ, ◌+◌, Bool, ◌&&◌, not, nat_lt, IsTrue, List, [], ◌∷◌, Some, length, take, if◌then◌else◌}
use Rattle.std.specs.Option.{option_map_or}
use Rattle.std.specs.List.Sorted.{IsPermutation, IsSorted}
use Rattle.std.specs.Ordering.{nat_cmp, ordering_then}
use Rattle.std.specs.declared.cmp.Ordering.{Ordering}
use Rattle.shift_instance.specs.declared.TheConstants.{TOP}
use Rattle.shift_instance.specs.Problem.{Problem}
use Rattle.head_splits.specs.Nodes.{Node}
use Rattle.certificate.specs.declared.Cert.{Cert}
use Rattle.certificate.specs.Accepted.{is_accepted}
use Rattle.cert_check.specs.Judged.{cause_of}
use Rattle.report_grafts.specs.Grafted.{nodes_made}
use Rattle.report_grafts.specs.declared.fault.GraftFault.{GraftFault}
use Rattle.report_grafts.specs.declared.fault.GraftFault.TheVariants.{Refused, NoNode, IsSplit, OtherCuts, NoRows, NoMemory}
use Rattle.report_nodes.specs.declared.listing.OpenNode.{OpenNode}

-- what the plan of a certificate costs, and TOP where it has none
abbrev pub top_of : Cert → ℕ
top_of c = option_map_or (λ p. p.0) c.plan TOP

-- whether a node is open below a cost: it is unsplit, and its floor is less
abbrev pub is_open : ℕ → Node → Bool
is_open cost n = not n.split && nat_lt n.floor cost

-- a node with its number, its floor and how many cuts it has
abbrev pub listed : ℕ → Node → OpenNode
listed k n = record { node = k; floor = n.floor; cuts = length n.cuts }

-- the nodes that are open below a cost, of some whose numbers begin with k
unfoldable pub open_from : ℕ → ℕ → List Node → List OpenNode
open_from cost k [] = []
open_from cost k (n ∷ nodes) = if is_open cost n then listed k n ∷ open_from cost (k + 1) nodes else open_from cost (k + 1) nodes

-- by floor, then by number
abbrev pub floor_cmp : OpenNode → OpenNode → Ordering
floor_cmp a b = ordering_then (nat_cmp a.floor b.floor) (nat_cmp a.node b.node)

-- the first so many of the open nodes of an accepted certificate, by floor, then by number
pub record AreFirst (i : Problem) (c : Cert) (most : ℕ) (list : List OpenNode) : Type 0 where
  pub accepted : IsTrue (is_accepted i c)
  pub sorted : List OpenNode
  pub all : IsPermutation (open_from (top_of c) 0 (nodes_made i c.lines)) sorted
  pub ordered : IsSorted floor_cmp sorted
  pub first : list ≡ take most sorted

-- why no node is listed: the certificate isn't accepted, and for what; or memory ran out
abbrev pub IsRefusal : Problem → Cert → GraftFault → Type 0
IsRefusal i c (Refused why) = cause_of i c ≡ Some why
IsRefusal i c (NoNode k) = ⊥
IsRefusal i c (IsSplit k) = ⊥
IsRefusal i c (OtherCuts at) = ⊥
IsRefusal i c NoRows = ⊥
IsRefusal i c NoMemory = ⊤
