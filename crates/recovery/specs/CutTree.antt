-- The nodes that a tree of cuts keeps.
use Rattle.std.specs.Prelude.{◌≡◌, ℕ, ◌+◌, ◌*◌, ◌≤◌, ◌<◌, Bool, List, [], ◌∷◌, Some, fold, slice_get, if◌then◌else◌}
use Rattle.head_splits.specs.declared.Cut.{Cut}
use Rattle.head_splits.specs.declared.Side.TheVariants.{AtMost, AtLeast}
use Rattle.recovery.specs.declared.cut_tree.Division.{Division}
use Rattle.recovery.specs.NodeCuts.{with_parts}

-- the nodes that divisions make of the root
abbrev pub nodes_in : List Division → List (List Cut)
nodes_in divisions = fold (λ nodes d. with_parts nodes d.node d.class d.m) ([] ∷ []) divisions

-- the cut of one of the two parts
abbrev pub cut_of : Division → Bool → Cut
cut_of d first = if first then record { class = d.class; side = AtMost; m = d.m } else record { class = d.class; side = AtLeast; m = d.m + 1 }

-- each division is of a node that stands before its parts, and by a number that has a next one
abbrev pub AreOlder : List Division → Type 0
AreOlder divisions = (j : ℕ) (d : Division) → slice_get divisions j ≡ Some d → (d.node ≤ 2 * j) × (d.m < 65535)
