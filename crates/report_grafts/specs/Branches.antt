-- The splits of proof lines, and the nodes that they make.
use Rattle.std.specs.Prelude.{◌≡◌, ℕ, ◌+◌, ◌*◌, ◌<◌, ◌≤◌, Bool, false, List, [], ◌∷◌, ◌++◌, length, Option, Some, None, slice_get, ◌==◌}
use Rattle.std.specs.List.{filter_map, list_any}
use Rattle.std.specs.Option.{option_map_or}
use Rattle.head_splits.specs.declared.Cut.{Cut}
use Rattle.head_splits.specs.declared.Side.TheVariants.{AtMost, AtLeast}
use Rattle.head_splits.specs.Nodes.{Node}
use Rattle.certificate.specs.declared.proof_lines.Line.{Line}
use Rattle.certificate.specs.declared.proof_lines.Line.TheVariants.{Split, Priced, Settled}
use Rattle.report_grafts.specs.declared.branches.Branch.{Branch}

-- the split of a line, where it splits a node
abbrev pub branch_of : Line → Option Branch
branch_of (Split k class m) = Some (record { node = k; class = class; m = m })
branch_of (Priced k prices) = None
branch_of (Settled k) = None

-- the splits of lines, in their order
abbrev pub branches_of : List Line → List Branch
branches_of lines = filter_map branch_of lines

-- the cuts of the node of that number, and none where there is no such node
abbrev pub cuts_at : List Node → ℕ → List Cut
cuts_at nodes k = option_map_or (λ n. n.cuts) (slice_get nodes k) []

-- whether the node of that number is there and split
abbrev pub is_split_at : List Node → ℕ → Bool
is_split_at nodes k = option_map_or (λ n. n.split) (slice_get nodes k) false

-- the cuts of the two parts of a split
abbrev pub at_most : Branch → Cut
at_most b = record { class = b.class; side = AtMost; m = b.m }

abbrev pub at_least : Branch → Cut
at_least b = record { class = b.class; side = AtLeast; m = b.m + 1 }

-- the split of that number made two nodes of an older one, each with a cut more
pub record MadeParts (nodes : List Node) (q : ℕ) (b : Branch) : Type 0 where
  pub older : b.node < 2 * q + 1
  pub small : b.m ≤ 200
  pub first : cuts_at nodes (2 * q + 1) ≡ cuts_at nodes b.node ++ at_most b ∷ []
  pub second : cuts_at nodes (2 * q + 2) ≡ cuts_at nodes b.node ++ at_least b ∷ []

-- splits make nodes of a root with some cuts
pub record MakeNodes (base : List Cut) (branches : List Branch) (nodes : List Node) : Type 0 where
  pub counted : length nodes ≡ 2 * length branches + 1
  pub root : cuts_at nodes 0 ≡ base
  pub parts : (q : ℕ) (b : Branch) → slice_get branches q ≡ Some b → MadeParts nodes q b
  pub split : (k : ℕ) → is_split_at nodes k ≡ list_any (λ b. b.node == k) branches

-- splits that make the nodes of some tree whose root has no cut
abbrev pub AreBranches : List Branch → Type 0
AreBranches branches = (nodes : List Node) × MakeNodes [] branches nodes
