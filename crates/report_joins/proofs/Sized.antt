-- A part, judged below its node alone.
use Rattle.report_joins.proofs.Common.{◌≡◌, ◌⊎◌, inl, inr, ℕ, zero, suc, ◌+◌, ◌-◌, ◌*◌, ◌/◌, ◌<◌, ◌≤◌, ◌^◌, true, false, List, [], ◌∷◌, ◌++◌, length, map, take, get_or, refl, sym, ap, ◌∙◌, subst, arith, Option, Some, None, slice_get, All, IsSomeAnd, AllByRecursion, option_map, length-append, length-map, slice_get_within, Has, Problem, Node, new_node, Has-slice_get, Cert, Line, is_accepted, is_plan, least_floor, node_of, nodes_after, nodes_of, grafted_line, grafted_lines, divisions, branches_of, branches_few, branches_number, counted_lines, named_lines, HasRoom, with_below, PartFault, IsJoining, Joined, IsEnd, IsLineFault, IsReadFault, IsRefusal, IsReadPart, IsRunOf, MakesBelow}
use Rattle.std.proofs.lemmas.List.Elements.{All-from_recursion}
use Rattle.report_nodes.proofs.Grown.{CutsWithin, within_lines}
use Rattle.report_joins.proofs.Accepting.{accepted_by, bad_bound, bad_lines}
use Rattle.report_joins.proofs.Joins.{fault_is, part_nodes}

-- a node is there
pub end_within : (ends : List Node) (node : ℕ) → IsEnd ends node → node < length ends
end_within ends node end = of_node (slice_get ends node) refl end
  where
    of_node : (o : Option Node) → slice_get ends node ≡ o → IsSomeAnd o (λ (n : Node). n.split ≡ false) → node < length ends
    of_node None e h = absurd h
    of_node (Some n) e h = slice_get_within ends node n e

-- a node alone
pub record IsAlone (ends : List Node) (node : ℕ) (all : List Node) : Type 0 where
  pub top : Node
  pub at : slice_get ends node ≡ Some top
  pub alone : all ≡ top ∷ []

pub alone_is : (ends : List Node) (node : ℕ) (all : List Node) → IsSomeAnd (slice_get ends node) (λ (n : Node). all ≡ n ∷ []) → IsAlone ends node all
alone_is ends node all h = of_node (slice_get ends node) refl h
  where
    of_node : (o : Option Node) → slice_get ends node ≡ o → IsSomeAnd o (λ (n : Node). all ≡ n ∷ []) → IsAlone ends node all
    of_node None e h = absurd h
    of_node (Some n) e h = record { top = n; at = e; alone = h }

root_within : CutsWithin 0 (new_node [] ∷ [])
root_within n there = elim there [ inl e ↦ subst (λ (z : Node). length z.cuts ≤ 0) e (omega arith) | inr gone ↦ absurd gone ]

-- it has room for further cuts
pub alone_room : (i : Problem) (lines : List Line) (ends : List Node) (node : ℕ) (all : List Node) → nodes_of i lines ≡ Some ends → length lines ≤ 2 ^ 28 → IsAlone ends node all → HasRoom all
alone_room i lines ends node all made few a =
    let deep : length a.top.cuts ≤ 0 + length lines = within_lines i 0 (new_node [] ∷ []) ends lines made root_within a.top (Has-slice_get ends node a.top a.at) in
    let small : length a.top.cuts ≤ 2 ^ 32 = omega (arith, deep, few) in
    subst HasRoom (sym a.alone) (λ k d less. of_place k d less small)
  where
    of_place : (k : ℕ) (d : Node) → k < length (a.top ∷ []) → length a.top.cuts ≤ 2 ^ 32 → length (get_or (a.top ∷ []) k d).cuts ≤ 2 ^ 32
    of_place zero d less small = small
    of_place (suc k) d less small = absurd (omega (arith, less))

below_of : (i : Problem) (ends : List Node) (node : ℕ) (run : List Line) (all : List Node) (next : Option (List Node)) → (a : IsAlone ends node all) → next ≡ nodes_after i all run → nodes_after i (a.top ∷ []) run ≡ next
below_of i ends node run all next a is = ap (λ (ns : List Node). nodes_after i ns run) (sym a.alone) ∙ sym is

-- lines that make nothing of the node alone make the part no accepted one
pub part_bad : (i : Problem) (whole part : Cert) (ends : List Node) (node : ℕ) (run : List Line) (all : List Node) (next : Option (List Node)) → nodes_of i whole.lines ≡ Some ends → IsRunOf ends whole.lines part.lines node run
    → IsAlone ends node all → next ≡ nodes_after i all run → next ≡ None → is_accepted i part ≡ false
part_bad i whole part ends node run all next made r a is none =
    bad_lines i part (part_nodes i whole part ends node a.top run made a.at r.lines ∙ ap (option_map (with_below ends node)) (below_of i ends node run all next a is ∙ none))

part_made : (i : Problem) (whole part : Cert) (ends : List Node) (node : ℕ) (run : List Line) (all : List Node) (next : Option (List Node)) (below : List Node) → nodes_of i whole.lines ≡ Some ends → IsRunOf ends whole.lines part.lines node run
    → IsAlone ends node all → next ≡ nodes_after i all run → next ≡ Some below → nodes_of i part.lines ≡ Some (with_below ends node below)
part_made i whole part ends node run all next below made r a is some =
    part_nodes i whole part ends node a.top run made a.at r.lines ∙ ap (option_map (with_below ends node)) (below_of i ends node run all next a is ∙ some)

-- nor does one that claims more than they find
pub part_high : (i : Problem) (whole part : Cert) (ends : List Node) (node : ℕ) (run : List Line) (all : List Node) (next : Option (List Node)) (below : List Node) (floor : ℕ) → nodes_of i whole.lines ≡ Some ends → IsRunOf ends whole.lines part.lines node run
    → IsAlone ends node all → next ≡ nodes_after i all run → next ≡ Some below → floor ≡ least_floor (with_below ends node below) → floor < part.bound → is_accepted i part ≡ false
part_high i whole part ends node run all next below floor made r a is some low high =
    bad_bound i part (with_below ends node below) (part_made i whole part ends node run all next below made r a is some) (omega (arith, low, high))

-- else it is accepted
pub part_read : (i : Problem) (whole part : Cert) (ends : List Node) (node : ℕ) (run : List Line) (all : List Node) (next : Option (List Node)) (below : List Node) (floor : ℕ) (b : _) → nodes_of i whole.lines ≡ Some ends → IsRunOf ends whole.lines part.lines node run
    → IsAlone ends node all → next ≡ nodes_after i all run → next ≡ Some below → floor ≡ least_floor (with_below ends node below) → part.bound ≤ floor → b ≡ is_plan i part.plan → b ≡ true → IsReadPart i ends whole part node run below
part_read i whole part ends node run all next below floor b made r a is some low enough plan t = record {
  accepted = accepted_by i part (with_below ends node below) (part_made i whole part ends node run all next below made r a is some) (omega (arith, low, enough)) (sym plan ∙ t);
  run = r;
  below = record { top = a.top; at = a.at; made = below_of i ends node run all next a is ∙ some };
}

-- ---- the joined lines

few_divisions : (lines : List Line) → divisions lines ≤ length lines
few_divisions lines =
    let number : length (branches_of lines) ≡ divisions lines = branches_number lines (branches_of lines) refl in
    let few : length (branches_of lines) ≤ length lines = branches_few lines (branches_of lines) refl in
    omega (arith, number, few)

pub tree_small : (i : Problem) (lines : List Line) (tree : List Node) → nodes_of i lines ≡ Some tree → length lines ≤ 2 ^ 30 → length tree ≤ 2 ^ 32
tree_small i lines tree made short =
    let counted : length tree ≡ 1 + 2 * divisions lines = counted_lines i (new_node [] ∷ []) tree lines made in
    let few = few_divisions lines in
    omega (arith, counted, few, short)

pub tree_counted : (i : Problem) (lines : List Line) (tree : List Node) → nodes_of i lines ≡ Some tree → length tree ≡ 2 * divisions lines + 1
tree_counted i lines tree made =
    let counted : length tree ≡ 1 + 2 * divisions lines = counted_lines i (new_node [] ∷ []) tree lines made in
    omega (arith, counted)

within_most : (nodes most : ℕ) (run : List Line) → most + nodes ≤ 2 ^ 32 → AllByRecursion (λ line. node_of line < most) run → AllByRecursion (λ line. node_of line + nodes ≤ 2 ^ 32) run
within_most nodes most [] few h = tt
within_most nodes most (line ∷ run) few h = (omega (arith, few, h.0), within_most nodes most run few h.1)

-- the numbers of the run's nodes fit where the run is grafted
pub joined_fits : (i : Problem) (ends : List Node) (node : ℕ) (run : List Line) (below : List Node) (lines : List Line) (tree : List Node) (nodes : ℕ) → MakesBelow i ends node run below → nodes_of i lines ≡ Some tree
    → length lines + length run ≤ 2 ^ 30 → nodes ≡ length tree → All (λ line. node_of line + nodes ≤ 2 ^ 32) run
joined_fits i ends node run below lines tree nodes m made short is =
    let counted : length below ≡ 1 + 2 * divisions run = counted_lines i (m.top ∷ []) below run m.made in
    let all : length tree ≡ 1 + 2 * divisions lines = counted_lines i (new_node [] ∷ []) tree lines made in
    let few = few_divisions run in
    let others = few_divisions lines in
    All-from_recursion (λ line. node_of line + nodes ≤ 2 ^ 32) run
    (within_most nodes (length below) run (omega (arith, counted, all, few, others, short, is)) (named_lines i (m.top ∷ []) below run (length below) m.made (omega arith)))

-- ---- the report's own lines

pub known_counted : (i : Problem) (lines known : List Line) (ends : List Node) → nodes_of i lines ≡ Some ends → known ≡ lines → length ends ≡ 2 * divisions known + 1
known_counted i lines known ends made same = subst (λ (ls : List Line). length ends ≡ 2 * divisions ls + 1) (sym same) (tree_counted i lines ends made)

-- a part that is none
pub known_fault : (i : Problem) (whole part : Cert) (ends : List Node) (known : List Line) (fault why : PartFault) → is_accepted i whole ≡ true → nodes_of i whole.lines ≡ Some ends → known ≡ whole.lines → IsLineFault ends known part.lines fault
    → IsRefusal i part why ⊎ ((is_accepted i part ≡ true) × (why ≡ fault)) → IsReadFault i whole part why
known_fault i whole part ends known fault why accepted made same h told =
    fault_is i whole part ends fault why accepted made (subst (λ (ls : List Line). IsLineFault ends ls part.lines fault) same h) told

pub read_within : (i : Problem) (ends : List Node) (whole part : Cert) (node : ℕ) (run : List Line) (below : List Node) → IsReadPart i ends whole part node run below → node < length ends
read_within i ends whole part node run below r = slice_get_within ends node r.below.top r.below.at
