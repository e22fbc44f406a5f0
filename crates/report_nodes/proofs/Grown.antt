-- Nodes that grow line by line.
use Rattle.report_nodes.proofs.Common.{◌≡◌, inl, inr, ℕ, zero, suc, ◌+◌, ◌*◌, ◌<◌, ◌≤◌, ◌^◌, max, Bool, true, false, cond, ◌&&◌, not, List, [], ◌∷◌, ◌++◌, length, get_or, drop, set, refl, sym, ap, ◌∙◌, subst, append_assoc, arith, Option, Some, None, slice_get, IsSomeAnd, option_and_then, option_map, option_map_or, AtMost, AtLeast, Node, new_node, child, with_floor, with_split, Line, is_accepted, is_split, node_line, node_of, nodes_after, OpenNode, is_open, listed, open_from, top_of}
use Rattle.std.proofs.lemmas.Bool.{cases_Bool}
use Rattle.std.proofs.lemmas.List.{append-nil, drop_all, length_push}
use Rattle.std.proofs.Math.Seq.{drop-cons}
use Rattle.break_rules.specs.Causes.{first_cause}
use Rattle.break_rules.specs.Lists.{Has}
use Rattle.break_rules.proofs.Lists.{Has-append_cases}
use Rattle.shift_instance.specs.Problem.{Problem}
use Rattle.head_splits.specs.declared.Class.{Class}
use Rattle.head_splits.specs.declared.Cut.{Cut}
use Rattle.head_splits.specs.declared.Prices.{Prices}
use Rattle.head_splits.specs.declared.Side.{Side}
use Rattle.head_splits.specs.Bound.{are_prices, bound_of}
use Rattle.head_splits.proofs.Nodes.{Has-slice_get, Has-get_or, Has-place, from_set}
use Rattle.certificate.specs.declared.Cert.{Cert}
use Rattle.certificate.specs.declared.proof_lines.Line.TheVariants.{Split, Priced, Settled}
use Rattle.dual_bound.specs.declared.PriceFault.{PriceFault}
use Rattle.dual_bound.specs.declared.PriceFault.TheVariants.{NoMemory}
use Rattle.dual_bound.specs.Faults.{price_causes, Answers}
use Rattle.dual_bound.proofs.Causes.{faultless}
use Rattle.report_grafts.specs.Branches.{branches_of}
use Rattle.report_grafts.specs.Grafted.{nodes_made}
use Rattle.report_grafts.specs.Run.{divisions}
use Rattle.report_grafts.proofs.Grafts.{branches_few, branches_number}
use Rattle.report_grafts.proofs.Lines.{Good, cond_some, counted_lines, first_good, one_good, priced_lifts, settled_lifts}
use Rattle.report_grafts.proofs.Places.{same_some}
use Rattle.report_grafts.proofs.Plans.{made_is, tree_of}
use Rattle.report_nodes.specs.Made.{HasFewCuts, HasRoom}

-- prices with a fault that isn't running out of memory aren't a price set
pub no_prices : (i : Problem) (cuts : List Cut) (prices : Prices) (e : PriceFault) → (e ≡ NoMemory → ⊥) → Answers e (first_cause (price_causes i cuts prices)) → are_prices i cuts prices ≡ false
no_prices i cuts prices e other (inr memory) = absurd (other memory.0)
no_prices i cuts prices e other (inl some) =
    elim (cases_Bool (are_prices i cuts prices)) [
      | inl good ↦
          let none : first_cause (price_causes i cuts prices) ≡ None = faultless i cuts prices good in
          let f : None ≡ Some e = sym none ∙ some in
          absurd (cc)
      | inr bad ↦ bad
    ]

-- so they give a node no floor
pub unpriced : (i : Problem) (cuts copy : List Cut) (prices : Prices) (e : PriceFault) (floor : ℕ) → copy ≡ cuts → Answers e (first_cause (price_causes i copy prices)) → (e ≡ NoMemory → ⊥)
    → None ≡ cond (are_prices i cuts prices) (Some (max floor (bound_of i cuts prices))) None
unpriced i cuts copy prices e floor same why other =
    let bad : are_prices i cuts prices ≡ false = no_prices i cuts prices e other (subst (λ (cs : List Cut). Answers e (first_cause (price_causes i cs prices))) same why) in
    sym (ap (λ b. cond b (Some (max floor (bound_of i cuts prices))) None) bad)

-- ---- nodes that are seen as a slice

pub unsplit_of : (nodes seen : List Node) (k : ℕ) (b : Bool) → seen ≡ nodes → b ≡ option_map_or (λ (n : Node). not n.split) (slice_get seen k) false → b ≡ true → option_map_or (λ (n : Node). not n.split) (slice_get nodes k) false ≡ true
unsplit_of nodes seen k b same is t = subst (λ (ns : List Node). option_map_or (λ (n : Node). not n.split) (slice_get ns k) false ≡ true) same (sym is ∙ t)

pub cuts_at_place : (nodes seen : List Node) (k : ℕ) (cuts : List Cut) → seen ≡ nodes → IsSomeAnd (slice_get seen k) (λ (n : Node). cuts ≡ n.cuts) → IsSomeAnd (slice_get nodes k) (λ (n : Node). cuts ≡ n.cuts)
cuts_at_place nodes seen k cuts same h = subst (λ (ns : List Node). IsSomeAnd (slice_get ns k) (λ (n : Node). cuts ≡ n.cuts)) same h

pub part_at : (nodes seen : List Node) (k : ℕ) (a : Node) (class : Class) (side : Side) (m : ℕ) → seen ≡ nodes → IsSomeAnd (slice_get seen k) (λ (n : Node). a ≡ child n class side m) → IsSomeAnd (slice_get nodes k) (λ (n : Node). a ≡ child n class side m)
part_at nodes seen k a class side m same h = subst (λ (ns : List Node). IsSomeAnd (slice_get ns k) (λ (n : Node). a ≡ child n class side m)) same h

-- a node is split, and its parts stand behind the others
pub parts_added : (o : Option Node) (nodes marked one two : List Node) (a b : Node) (k : ℕ) (class : Class) (m : ℕ) → IsSomeAnd o (λ (n : Node). a ≡ child n class AtMost m) → IsSomeAnd o (λ (n : Node). b ≡ child n class AtLeast (m + 1))
    → IsSomeAnd o (λ (n : Node). marked ≡ set nodes k (record n { split = true })) → one ≡ marked ++ a ∷ [] → two ≡ one ++ b ∷ [] → IsSomeAnd o (λ (n : Node). two ≡ with_split nodes k n class m)
parts_added None nodes marked one two a b k class m isa isb ism h1 h2 = absurd isa
parts_added (Some n) nodes marked one two a b k class m isa isb ism h1 h2 =
    h2 ∙ ap (λ (ns : List Node). ns ++ b ∷ []) h1 ∙ append_assoc marked (a ∷ []) (b ∷ [])
    ∙ ap (λ (ns : List Node). ns ++ a ∷ b ∷ []) ism
    ∙ ap (λ (x : Node). set nodes k (record n { split = true }) ++ x ∷ b ∷ []) isa
    ∙ ap (λ (x : Node). set nodes k (record n { split = true }) ++ child n class AtMost m ∷ x ∷ []) isb

-- ---- open nodes, one after another

pub opened : (cost k : ℕ) (n : Node) → is_open cost n ≡ true → open_from cost k (n ∷ []) ≡ listed k n ∷ []
unfolding open_from
opened cost k n e = ap (λ b. cond b (listed k n ∷ []) []) e

pub closed : (cost k : ℕ) (n : Node) (list : List OpenNode) → is_open cost n ≡ false → list ≡ list ++ open_from cost k (n ∷ [])
unfolding open_from
closed cost k n list e = sym (append-nil list) ∙ ap (λ b. list ++ cond b (listed k n ∷ []) []) (sym e)

open_cons : (cost k : ℕ) (n : Node) (nodes : List Node) (b : Bool) → is_open cost n ≡ b → open_from cost k (n ∷ nodes) ≡ open_from cost k (n ∷ []) ++ open_from cost (k + 1) nodes
unfolding open_from
open_cons cost k n nodes true e =
    ap (λ b. cond b (listed k n ∷ open_from cost (k + 1) nodes) (open_from cost (k + 1) nodes)) e
    ∙ sym (ap (λ b. cond b (listed k n ∷ []) [] ++ open_from cost (k + 1) nodes) e)
open_cons cost k n nodes false e =
    ap (λ b. cond b (listed k n ∷ open_from cost (k + 1) nodes) (open_from cost (k + 1) nodes)) e
    ∙ sym (ap (λ b. cond b (listed k n ∷ []) [] ++ open_from cost (k + 1) nodes) e)

pub open_more : (cost k : ℕ) (nodes : List Node) (x : Node) (list more goal : List OpenNode) → k < length nodes → x ≡ get_or nodes k x → more ≡ list ++ open_from cost k (x ∷ [])
    → list ++ open_from cost k (drop k nodes) ≡ goal → more ++ open_from cost (k + 1) (drop (k + 1) nodes) ≡ goal
open_more cost k nodes x list more goal less is m h =
    let rest = drop (k + 1) nodes in
    let next : suc k ≡ k + 1 = omega arith in
    let front : drop k nodes ≡ x ∷ rest = drop-cons nodes k x less ∙ ap (λ (y : Node). y ∷ drop (suc k) nodes) (sym is) ∙ ap (λ j. x ∷ drop j nodes) next in
    ap (λ (xs : List OpenNode). xs ++ open_from cost (k + 1) rest) m
    ∙ append_assoc list (open_from cost k (x ∷ [])) (open_from cost (k + 1) rest)
    ∙ ap (λ (xs : List OpenNode). list ++ xs) (sym (open_cons cost k x rest (is_open cost x) refl))
    ∙ ap (λ (ns : List Node). list ++ open_from cost k ns) (sym front) ∙ h

pub open_done : (cost k : ℕ) (nodes : List Node) (list goal : List OpenNode) → length nodes ≤ k → list ++ open_from cost k (drop k nodes) ≡ goal → list ≡ goal
unfolding open_from
open_done cost k nodes list goal all h = sym (append-nil list) ∙ ap (λ (ns : List Node). list ++ open_from cost k ns) (sym (drop_all k nodes all)) ∙ h

-- the nodes that were made of a root without cuts are those of the lines
pub made_nodes : {V : Type 0} (items : V → List Node) (i : Problem) (root : List Cut) (lines : List Line) (found : Option V) (nodes : V) → root ≡ [] → option_map items found ≡ nodes_after i (new_node root ∷ []) lines → found ≡ Some nodes
    → nodes_after i (new_node [] ∷ []) lines ≡ Some (items nodes)
made_nodes items i root lines found nodes bare made is = sym (ap (λ (cs : List Cut). nodes_after i (new_node cs ∷ []) lines) bare) ∙ sym made ∙ ap (option_map items) is

-- good lines make few nodes
pub few_nodes : (i : Problem) (lines : List Line) (nodes : List Node) → nodes_after i (new_node [] ∷ []) lines ≡ Some nodes → length lines ≤ 2 ^ 28 → length nodes ≤ 2 ^ 31
few_nodes i lines nodes good short =
    let counted : length nodes ≡ 1 + 2 * divisions lines = counted_lines i (new_node [] ∷ []) nodes lines good in
    let number : length (branches_of lines) ≡ divisions lines = branches_number lines (branches_of lines) refl in
    let few : length (branches_of lines) ≤ length lines = branches_few lines (branches_of lines) refl in
    omega (arith, counted, number, few, short)

-- what was listed are the open nodes of the certificate
pub listed_open : (i : Problem) (c : Cert) (cost : ℕ) (nodes seen : List Node) (list : List OpenNode) → list ≡ open_from cost 0 seen → cost ≡ top_of c → seen ≡ nodes → nodes_after i (new_node [] ∷ []) c.lines ≡ Some nodes → list ≡ open_from (top_of c) 0 (nodes_made i c.lines)
listed_open i c cost nodes seen list is top same good =
    is ∙ ap (λ n. open_from n 0 seen) top ∙ ap (λ (ns : List Node). open_from (top_of c) 0 ns) (same ∙ sym (made_is i c.lines nodes good))

-- ---- how many cuts nodes have

-- each node of some has no more cuts than a number
abbrev pub CutsWithin : ℕ → List Node → Type 0
CutsWithin most nodes = (n : Node) → Has nodes n → length n.cuts ≤ most

within_floor : (most floor : ℕ) (nodes : List Node) (k : ℕ) (n : Node) → slice_get nodes k ≡ Some n → CutsWithin most nodes → CutsWithin (most + 1) (with_floor nodes k n floor)
within_floor most floor nodes k n at w x there =
    elim (from_set nodes k (record n { floor = floor }) x there) [
      | inl e ↦ let old : length n.cuts ≤ most = w n (Has-slice_get nodes k n at) in subst (λ (z : Node). length z.cuts ≤ most + 1) e (omega (arith, old))
      | inr m ↦ let old : length x.cuts ≤ most = w x m in omega (arith, old)
    ]

within_split : (most : ℕ) (nodes : List Node) (k : ℕ) (n : Node) (class : Class) (m : ℕ) → slice_get nodes k ≡ Some n → CutsWithin most nodes → CutsWithin (most + 1) (with_split nodes k n class m)
within_split most nodes k n class m at w x there =
    let left = child n class AtMost m in
    let right = child n class AtLeast (m + 1) in
    let old : length n.cuts ≤ most = w n (Has-slice_get nodes k n at) in
    let one : length left.cuts ≡ length n.cuts + 1 = length_push n.cuts _ in
    let two : length right.cuts ≡ length n.cuts + 1 = length_push n.cuts _ in
    elim (Has-append_cases (set nodes k (record n { split = true })) (left ∷ right ∷ []) x there) [
      | inl front ↦
          elim (from_set nodes k (record n { split = true }) x front) [
            | inl e ↦ subst (λ (z : Node). length z.cuts ≤ most + 1) e (omega (arith, old))
            | inr q ↦ let other : length x.cuts ≤ most = w x q in omega (arith, other)
          ]
      | inr new ↦
          elim new [
            | inl e ↦ subst (λ (z : Node). length z.cuts ≤ most + 1) e (omega (arith, old, one))
            | inr last ↦
                elim last [
                  | inl e ↦ subst (λ (z : Node). length z.cuts ≤ most + 1) e (omega (arith, old, two))
                  | inr gone ↦ absurd gone
                ]
          ]
    ]

-- a good line adds no more than one cut to a node
pub within_line : (i : Problem) (most : ℕ) (nodes next : List Node) (n : Node) (line : Line) → slice_get nodes (node_of line) ≡ Some n → node_line i nodes n line ≡ Some next → CutsWithin most nodes → CutsWithin (most + 1) next
within_line i most nodes next n (Split k class m) at e w =
    let q = cond_some (not n.split && is_split i class m) (with_split nodes k n class m) next e in
    subst (CutsWithin (most + 1)) q.1 (within_split most nodes k n class m at w)
within_line i most nodes next n (Priced k prices) at e w =
    let l = priced_lifts i nodes next k prices n e in
    subst (CutsWithin (most + 1)) (sym l.is) (within_floor most l.floor nodes k n at w)
within_line i most nodes next n (Settled k) at e w =
    let l = settled_lifts i nodes next k n e in
    subst (CutsWithin (most + 1)) (sym l.is) (within_floor most l.floor nodes k n at w)

-- good lines add no more than one cut each
pub within_lines : (i : Problem) (most : ℕ) (nodes last : List Node) (lines : List Line) → nodes_after i nodes lines ≡ Some last → CutsWithin most nodes → CutsWithin (most + length lines) last
within_lines i most nodes last [] e w =
    let same : nodes ≡ last = cc in
    λ n there. let few : length n.cuts ≤ most = w n (subst (λ (ns : List Node). Has ns n) (sym same) there) in omega (arith, few)
within_lines i most nodes last (line ∷ lines) e w =
    let r = first_good i nodes last line lines e in
    let one = within_line i most nodes r.0 r.1.node line r.1.at r.1.made w in
    let all = within_lines i (most + 1) r.0 last lines r.2 one in
    λ n there. let few : length n.cuts ≤ most + 1 + length lines = all n there in omega (arith, few)

-- ---- one line after another

-- What holds while lines are read: the nodes and the lines that are left make what all lines make of the nodes at the start, and no node has more
-- cuts than there was room for and one for each line that was read.
pub record Grows (i : Problem) (start : List Node) (lines left : List Line) (nodes : List Node) : Type 0 where
  pub rest : nodes_after i nodes left ≡ nodes_after i start lines
  pub read : ℕ
  pub counted : read + length left ≡ length lines
  pub deep : CutsWithin (2 ^ 32 + read) nodes

room_within : (nodes : List Node) → HasRoom nodes → CutsWithin (2 ^ 32 + 0) nodes
room_within nodes room n there =
    let p = Has-place nodes n there in
    let few : length (get_or nodes p.0 n).cuts ≤ 2 ^ 32 = room p.0 n p.1 in
    let same : length (get_or nodes p.0 n).cuts ≡ length n.cuts = ap (λ (x : Node). length x.cuts) p.2 in
    omega (arith, few, same)

pub grows_first : (i : Problem) (start : List Node) (lines : List Line) → HasRoom start → Grows i start lines lines start
grows_first i start lines room = record { rest = refl; read = 0; counted = omega arith; deep = room_within start room }

-- no node has more cuts than can be priced
pub grows_few : (i : Problem) (start : List Node) (lines left : List Line) (nodes : List Node) → Grows i start lines left nodes → length lines ≤ 2 ^ 32 → HasFewCuts nodes
grows_few i start lines left nodes g short =
    λ k d less.
    let deep : length (get_or nodes k d).cuts ≤ 2 ^ 32 + g.read = g.deep (get_or nodes k d) (Has-get_or nodes k d less) in
    let counted = g.counted in
    omega (arith, deep, counted, short)

-- a node with few cuts
pub root_room : (base : List Cut) (nodes : List Node) → nodes ≡ new_node base ∷ [] → length base ≤ 2 ^ 32 → HasRoom nodes
root_room base nodes same few = subst HasRoom (sym same) (λ k d less. of_place k d less)
  where
    of_place : (k : ℕ) (d : Node) → k < length (new_node base ∷ []) → length (get_or (new_node base ∷ []) k d).cuts ≤ 2 ^ 32
    of_place zero d less = few
    of_place (suc k) d less = absurd (omega (arith, less))

-- one line makes the next nodes
grows_by : (i : Problem) (nodes next : List Node) (line : Line) → nodes_after i nodes (line ∷ []) ≡ Some next → Good i nodes next line
grows_by i nodes next line e =
    let r = first_good i nodes next line [] e in
    let same : r.0 ≡ next = same_some r.0 next r.2 in
    subst (λ (ns : List Node). Good i nodes ns line) same r.1

pub grows_more : (i : Problem) (start : List Node) (lines left rest : List Line) (nodes next : List Node) (line : Line) → Grows i start lines left nodes → left ≡ line ∷ rest → nodes_after i nodes (line ∷ []) ≡ Some next → Grows i start lines rest next
grows_more i start lines left rest nodes next line g e made =
    let good = grows_by i nodes next line made in
    let one : nodes_after i nodes (line ∷ rest) ≡ nodes_after i next rest = one_good i nodes next line rest good in
    let counted : g.read + length left ≡ length lines = g.counted in
    let long : length left ≡ suc (length rest) = ap (λ (ls : List Line). length ls) e in
    let wide : CutsWithin (2 ^ 32 + g.read + 1) next = within_line i (2 ^ 32 + g.read) nodes next good.node line good.at good.made g.deep in
    record {
      rest = sym one ∙ ap (nodes_after i nodes) (sym e) ∙ g.rest;
      read = g.read + 1;
      counted = omega (arith, counted, long);
      deep = λ n there. let w : length n.cuts ≤ 2 ^ 32 + g.read + 1 = wide n there in omega (arith, w);
    }

-- what an accepted certificate's lines make
pub accepted_nodes : (i : Problem) (c : Cert) → is_accepted i c ≡ true → nodes_after i (new_node [] ∷ []) c.lines ≡ None → ⊥
accepted_nodes i c accepted none =
    let t = tree_of i c accepted in
    let f : None ≡ Some t.0 = sym none ∙ t.1 in
    absurd (cc)
