-- What holds of a certificate with a further part.
use Rattle.report_joins.proofs.Common.{◌≡◌, ◌⊎◌, inl, inr, ℕ, zero, suc, ◌+◌, ◌*◌, ◌<◌, ◌≤◌, ◌^◌, Bool, true, false, cond, nat_lt, ◌==◌, List, [], ◌∷◌, ◌++◌, length, map, set, refl, sym, ap, ◌∙◌, subst, append_assoc, arith, Option, Some, None, slice_get, IsSomeAnd, option_map, unwrap_or, list_any, cond_both, eq-eqb, eqb-true, false≢true, append-nil, length-append, length-map, length-set, slice_get_within, Has, Row, Problem, Node, new_node, root_sound, Cert, Line, is_accepted, is_bound, is_plan, least_floor, nodes_after, nodes_of, divisions, grafted_line, grafted_lines, nodes_made, status_of, FloorsFrom, counted_lines, floors_of, least_from, least_top, lines_from, lines_sound, front_get, set_other, found_is, made_is, with_below, Joined, GoesOn, IsJoinedCert, IsJoining, IsPart, IsPlanBelow, JoinsPart, alone, cheaper_plan, with_part, IsEnd, IsLineFault, IsPartFault, IsReadFault, IsRefusal, PartFault, Refused, OtherLines, NothingFurther, NoEnd, OtherNode, OtherPlan, SameNode, TooMany, NoMemory, IsReadPart, IsRunOf, MakesBelow}
use Rattle.break_rules.proofs.Lists.{Has-append_left, Has-append_right, any_none, any_some}
use Rattle.shift_instance.specs.declared.TheConstants.{TOP}
use Rattle.head_splits.specs.declared.Cut.{Cut}
use Rattle.report_grafts.specs.Faults.{HasEnd, HasOpenEnd}
use Rattle.report_joins.proofs.Accepting.{accepted_by, plan_of}
use Rattle.report_joins.proofs.Below.{grafted_after, grafted_nodes}

-- ---- plans

pub cheaper_kept : (i : Problem) (plan own : Option (ℕ × List Row)) → is_plan i plan ≡ true → is_plan i own ≡ true → is_plan i (cheaper_plan plan own) ≡ true
cheaper_kept i None own h k = refl
cheaper_kept i (Some p) None h k = h
cheaper_kept i (Some p) (Some own) h k = cond_both (nat_lt own.0 p.0) (Some own) (Some p) (λ x. is_plan i x ≡ true) (λ _. k) (λ _. h)

-- ---- nodes

-- what a run makes has a first node
pub below_some : (i : Problem) (top : Node) (run : List Line) (below : List Node) → nodes_after i (top ∷ []) run ≡ Some below → 0 < length below
below_some i top run below e =
    let counted : length below ≡ 1 + 2 * divisions run = counted_lines i (top ∷ []) below run e in
    omega (arith, counted)

-- the other nodes of a tree stay
below_other : (tree : List Node) (node : ℕ) (below : List Node) (k : ℕ) (n : Node) → slice_get tree k ≡ Some n → (k ≡ node → ⊥) → 0 < length below → slice_get (with_below tree node below) k ≡ Some n
below_other tree node [] k n at apart some = absurd (omega arith)
below_other tree node (b ∷ rest) k n at apart some =
    let within : k < length tree = slice_get_within tree k n at in
    let long : length (set tree node b) ≡ length tree = length-set tree node b in
    front_get (set tree node b) rest k (omega (arith, within, long)) ∙ set_other tree node k b apart ∙ at

there : (nodes : List Node) (k : ℕ) → k < length nodes → (n : Node) × (slice_get nodes k ≡ Some n)
there [] k h = absurd (omega arith)
there (n ∷ nodes) zero h = (n, refl)
there (n ∷ nodes) (suc k) h = there nodes k (omega arith)

-- ---- a further part

-- the node of a part that no earlier one is of stands in the joined tree as it did
pub part_top : (ends tree : List Node) (j : Joined) (node : ℕ) (top : Node) → IsJoining ends tree j → slice_get ends node ≡ Some top → (Has j.nodes node → ⊥) → slice_get tree node ≡ Some top
part_top ends tree j node top h at other = h.kept node (slice_get_within ends node top at) other ∙ at

pub tree_with : (ends tree : List Node) (j : Joined) (node : ℕ) (run : List Line) (below : List Node) → IsJoining ends tree j → MakesBelow j.instance ends node run below → (Has j.nodes node → ⊥)
    → nodes_of j.instance (grafted_lines j.lines node run) ≡ Some (with_below tree node below)
tree_with ends tree j node run below h m other =
    grafted_nodes j.instance j.lines tree node m.top run h.tree (part_top ends tree j node m.top h m.at other) ∙ ap (option_map (with_below tree node)) m.made

low_with : (ends tree : List Node) (j : Joined) (node : ℕ) (run : List Line) (below : List Node) → IsJoining ends tree j → MakesBelow j.instance ends node run below → (Has j.nodes node → ⊥)
    → j.whole.bound ≤ least_floor (with_below tree node below)
low_with ends tree j node run below h m other =
    let i = j.instance in
    let new = with_below tree node below in
    let made : nodes_after i tree (map (grafted_line node (divisions j.lines)) run) ≡ Some new =
    grafted_after i j.lines tree node m.top run h.tree (part_top ends tree j node m.top h m.at other) ∙ ap (option_map (with_below tree node)) m.made in
    let sound = lines_sound i [] (new_node [] ∷ []) tree j.lines (root_sound i []) h.tree in
    let low : j.whole.bound ≤ least_floor tree = h.low in
    let most : least_floor tree ≤ TOP = least_top tree in
    let top : j.whole.bound ≤ TOP = omega (arith, low, most) in
    let floors : FloorsFrom j.whole.bound tree = λ n has unsplit. let f : least_floor tree ≤ n.floor = floors_of tree n has unsplit in let r : j.whole.bound ≤ n.floor = omega (arith, f, low) in r in
    least_from j.whole.bound TOP new top (lines_from i [] j.whole.bound tree new (map (grafted_line node (divisions j.lines)) run) top sound floors made)

pub joining_with : (ends tree : List Node) (j : Joined) (part : Cert) (node : ℕ) (run : List Line) (below : List Node) → IsJoining ends tree j → IsReadPart j.instance ends j.whole part node run below → (Has j.nodes node → ⊥)
    → length j.lines + length run ≤ 2 ^ 30 → IsJoining ends (with_below tree node below) (with_part j node run part.plan)
joining_with ends tree j part node run below h r other short =
    let m = r.below in
    let more = map (grafted_line node (divisions j.lines)) run in
    let long : length (j.lines ++ more) ≡ length j.lines + length more = length-append j.lines more in
    let same : length more ≡ length run = length-map run (grafted_line node (divisions j.lines)) in
    record {
      accepted = h.accepted;
      few = h.few;
      ends = h.ends;
      begins = (h.begins.0 ++ more, ap (λ (ls : List Line). ls ++ more) h.begins.1 ∙ append_assoc j.whole.lines h.begins.0 more);
      tree = tree_with ends tree j node run below h m other;
      low = low_with ends tree j node run below h m other;
      kept = λ k less free.
          let n = there ends k less in
          let old : slice_get tree k ≡ Some n.0 = h.kept k less (λ has. free (Has-append_left j.nodes (node ∷ []) k has)) ∙ n.1 in
          below_other tree node below k n.0 old (λ e. free (Has-append_right j.nodes (node ∷ []) k (inl (sym e)))) (below_some j.instance m.top run below m.made) ∙ sym n.1;
      plan = cheaper_kept j.instance j.plan part.plan h.plan (plan_of j.instance part r.accepted);
      short = omega (arith, long, same, short);
    }

-- ---- what a part is

open_there : (o : Option Node) (top : Node) → o ≡ Some top → IsSomeAnd o (λ (n : Node). n.split ≡ false) → IsSomeAnd o (λ (n : Node). (n.split ≡ false) × (n.cuts ≡ top.cuts))
open_there None top e h = absurd h
open_there (Some n) top e h = let same : n ≡ top = cc in (h, ap (λ (x : Node). x.cuts) same)

pub end_of : (i : Problem) (whole : Cert) (ends : List Node) (node : ℕ) (top : Node) → is_accepted i whole ≡ true → nodes_of i whole.lines ≡ Some ends → IsEnd ends node → slice_get ends node ≡ Some top → HasOpenEnd i whole node top.cuts
end_of i whole ends node top accepted made end at =
    (accepted, subst (λ (ns : List Node). HasEnd ns node top.cuts) (sym (made_is i whole.lines ends made)) (open_there (slice_get ends node) top at end))

pub goes_on : (i : Problem) (ends : List Node) (whole part : Cert) (node : ℕ) (run : List Line) (below : List Node) → is_accepted i whole ≡ true → nodes_of i whole.lines ≡ Some ends → (r : IsReadPart i ends whole part node run below)
    → GoesOn i whole part node r.below.top.cuts run
goes_on i ends whole part node run below accepted made r = record {
  accepted = r.accepted;
  end = end_of i whole ends node r.below.top accepted made r.run.end r.below.at;
  some = r.run.some;
  lines = r.run.lines;
}

-- an unsplit node of a certificate
unsplit_of : (o : Option Node) (cuts : List Cut) → IsSomeAnd o (λ (n : Node). (n.split ≡ false) × (n.cuts ≡ cuts)) → IsSomeAnd o (λ (n : Node). n.split ≡ false)
unsplit_of None cuts h = h
unsplit_of (Some n) cuts h = h.0

pub no_end : (i : Problem) (whole : Cert) (ends : List Node) (node : ℕ) → nodes_of i whole.lines ≡ Some ends → (IsEnd ends node → ⊥) → (cuts : List Cut) → HasOpenEnd i whole node cuts → ⊥
no_end i whole ends node made none cuts h =
    none (unsplit_of (slice_get ends node) cuts (subst (λ (ns : List Node). HasEnd ns node cuts) (made_is i whole.lines ends made) h.1))

some_end : (o : Option Node) → IsSomeAnd o (λ (n : Node). n.split ≡ false) → (n : Node) × (o ≡ Some n)
some_end None h = absurd h
some_end (Some n) h = (n, refl)

pub an_end : (i : Problem) (whole : Cert) (ends : List Node) (node : ℕ) → is_accepted i whole ≡ true → nodes_of i whole.lines ≡ Some ends → IsEnd ends node → (cuts : List Cut) × HasOpenEnd i whole node cuts
an_end i whole ends node accepted made end =
    let n = some_end (slice_get ends node) end in
    (n.0.cuts, end_of i whole ends node n.0 accepted made end n.1)

-- ---- why a part isn't joined

pub cuts_are : (o : Option Node) (cuts : List Cut) (top : Node) → o ≡ Some top → IsSomeAnd o (λ (n : Node). cuts ≡ n.cuts) → cuts ≡ top.cuts
cuts_are None cuts top e h = absurd h
cuts_are (Some n) cuts top e h = let same : n ≡ top = cc in h ∙ ap (λ (x : Node). x.cuts) same

-- a part that was read, with a plan of its node
pub part_is : (ends tree : List Node) (j : Joined) (part : Cert) (node : ℕ) (run : List Line) (below : List Node) (cuts : List Cut) → IsJoining ends tree j → IsReadPart j.instance ends j.whole part node run below
    → IsSomeAnd (slice_get ends node) (λ (n : Node). cuts ≡ n.cuts) → IsPlanBelow cuts j.whole.plan part.plan → IsPart j.instance j.whole part node run
part_is ends tree j part node run below cuts h r at plan =
    let same : cuts ≡ r.below.top.cuts = cuts_are (slice_get ends node) cuts r.below.top r.below.at at in
    record {
      cuts = r.below.top.cuts;
      below = goes_on j.instance ends j.whole part node run below h.accepted h.ends r;
      plan = subst (λ (cs : List Cut). IsPlanBelow cs j.whole.plan part.plan) same plan;
    }

-- and with another plan
pub other_plan : (ends tree : List Node) (j : Joined) (part : Cert) (node : ℕ) (run : List Line) (below : List Node) (cuts : List Cut) → IsJoining ends tree j → IsReadPart j.instance ends j.whole part node run below
    → IsSomeAnd (slice_get ends node) (λ (n : Node). cuts ≡ n.cuts) → (IsPlanBelow cuts j.whole.plan part.plan → ⊥) → IsPartFault j part OtherPlan
other_plan ends tree j part node run below cuts h r at none =
    let same : cuts ≡ r.below.top.cuts = cuts_are (slice_get ends node) cuts r.below.top r.below.at at in
    (node, r.below.top.cuts, run, goes_on j.instance ends j.whole part node run below h.accepted h.ends r, λ plan. none (subst (λ (cs : List Cut). IsPlanBelow cs j.whole.plan part.plan) (sym same) plan))

-- a node among those of earlier parts
pub has_of : (nodes : List ℕ) (node : ℕ) → list_any (λ k. k == node) nodes ≡ true → Has nodes node
has_of nodes node e =
    let p = any_some (λ k. k == node) nodes e in
    subst (Has nodes) (eqb-true p.0 node p.2) p.1

pub not_has : (nodes : List ℕ) (node : ℕ) → list_any (λ k. k == node) nodes ≡ false → Has nodes node → ⊥
not_has nodes node e has =
    let none : (node == node) ≡ false = any_none (λ k. k == node) nodes node e has in
    let same : (node == node) ≡ true = eq-eqb node node refl in
    false≢true (sym none ∙ same)

-- why no run is read is why the part isn't joined
pub read_fault : (j : Joined) (part : Cert) (why : PartFault) → IsReadFault j.instance j.whole part why → IsPartFault j part why
read_fault j part (Refused why) h = h
read_fault j part (OtherLines at) h = h
read_fault j part NothingFurther h = h
read_fault j part (NoEnd node) h = h
read_fault j part (OtherNode at) h = h
read_fault j part OtherPlan h = absurd h
read_fault j part (SameNode node) h = absurd h
read_fault j part TooMany h = absurd h
read_fault j part NoMemory h = tt

-- a refusal is one
pub refusal_is : (i : Problem) (whole part : Cert) (why : PartFault) → IsRefusal i part why → IsReadFault i whole part why
refusal_is i whole part (Refused why) h = h
refusal_is i whole part NoMemory h = tt
refusal_is i whole part (OtherLines at) h = absurd h
refusal_is i whole part NothingFurther h = absurd h
refusal_is i whole part (NoEnd node) h = absurd h
refusal_is i whole part (OtherNode at) h = absurd h
refusal_is i whole part OtherPlan h = absurd h
refusal_is i whole part (SameNode node) h = absurd h
refusal_is i whole part TooMany h = absurd h

-- and so are lines of an accepted part that aren't those of a run
pub line_fault_is : (i : Problem) (whole part : Cert) (ends : List Node) (why : PartFault) → is_accepted i whole ≡ true → nodes_of i whole.lines ≡ Some ends → is_accepted i part ≡ true → IsLineFault ends whole.lines part.lines why → IsReadFault i whole part why
line_fault_is i whole part ends (OtherLines at) accepted made good h = (good, h)
line_fault_is i whole part ends NothingFurther accepted made good h = (good, h)
line_fault_is i whole part ends (NoEnd node) accepted made good h = (good, h.0, no_end i whole ends node made h.1)
line_fault_is i whole part ends (OtherNode at) accepted made good h = let e = an_end i whole ends h.0 accepted made h.1 in (good, (h.0, e.0, e.1, h.2))
line_fault_is i whole part ends NoMemory accepted made good h = tt
line_fault_is i whole part ends (Refused why) accepted made good h = absurd h
line_fault_is i whole part ends OtherPlan accepted made good h = absurd h
line_fault_is i whole part ends (SameNode node) accepted made good h = absurd h
line_fault_is i whole part ends TooMany accepted made good h = absurd h

pub fault_is : (i : Problem) (whole part : Cert) (ends : List Node) (fault why : PartFault) → is_accepted i whole ≡ true → nodes_of i whole.lines ≡ Some ends → IsLineFault ends whole.lines part.lines fault
    → IsRefusal i part why ⊎ ((is_accepted i part ≡ true) × (why ≡ fault)) → IsReadFault i whole part why
fault_is i whole part ends fault why accepted made h (inl refused) = refusal_is i whole part why refused
fault_is i whole part ends fault why accepted made h (inr same) = subst (IsReadFault i whole part) (sym same.1) (line_fault_is i whole part ends fault accepted made same.0 h)

-- ---- a part that was read

-- the nodes of a part
pub part_nodes : (i : Problem) (whole part : Cert) (ends : List Node) (node : ℕ) (top : Node) (run : List Line) → nodes_of i whole.lines ≡ Some ends → slice_get ends node ≡ Some top → part.lines ≡ grafted_lines whole.lines node run
    → nodes_of i part.lines ≡ option_map (with_below ends node) (nodes_after i (top ∷ []) run)
part_nodes i whole part ends node top run made at lines = ap (nodes_of i) lines ∙ grafted_nodes i whole.lines ends node top run made at

-- the certificate with all parts
pub joined_cert : (ends tree : List Node) (j : Joined) (c : Cert) → IsJoining ends tree j → c.lines ≡ j.lines → c.plan ≡ j.plan → c.bound ≡ least_floor tree → c.status ≡ status_of c.plan c.bound → IsJoinedCert j c
joined_cert ends tree j c h lines plan bound status =
    let made : nodes_of j.instance c.lines ≡ Some tree = ap (nodes_of j.instance) lines ∙ h.tree in
    let low : j.whole.bound ≤ least_floor tree = h.low in
    record {
      accepted = accepted_by j.instance c tree made (omega (arith, bound)) (ap (is_plan j.instance) plan ∙ h.plan);
      better = omega (arith, low, bound);
      lines = lines;
      plan = plan;
      bound = bound ∙ sym (found_is j.instance c.lines tree made);
      status = status;
    }
