-- A search has few nodes: each split lowers the span.
use Rattle.subtree_search.proofs.Common.{◌≡◌, ℕ, zero, suc, ◌+◌, ◌*◌, ◌^◌, ◌<◌, ◌≤◌, true, false, cond, List, [], ◌∷◌, ◌++◌, length, set, refl, sym, ap, ◌∙◌, subst, arith, sum_by, Option, Some, slice_get, cond_both, sum_by-cons, sum_by-append, length-append, length-set, Problem, Class, Cut, AtMost, AtLeast, span, Node, child, with_floor, with_split, settled_floor, span_left, span_right, Settled, sum_set, Splitting, set_same, Searching, is_open, offered, priced, settled, top, priced_node, steps_enough, AreSteps, IsClose, IsDivision, IsStep, by_price, by_division, by_settling, none, one_more}
use Rattle.std.proofs.lemmas.Nat.{pow_pos}
use Rattle.std.proofs.Math.Nat.{pow-le-pow_right, pow-suc}
use Rattle.subtree_search.proofs.Chosen.{open_parts}
use Rattle.subtree_search.proofs.Sound.{offered_nodes}

-- what an unsplit node weighs: two to the power of its span
abbrev weight : Problem → Node → ℕ
weight i n = cond n.split 0 (2 ^ span i n.cuts)

abbrev unsplit : Node → ℕ
unsplit n = cond n.split 0 1

-- few unsplit nodes by weight, and twice as many as all nodes and one
pub record Few (i : Problem) (base : List Cut) (nodes : List Node) : Type 0 where
  pub within : sum_by (weight i) nodes ≤ 2 ^ span i base
  pub twice : length nodes + 1 ≡ 2 * sum_by unsplit nodes

few_floor : (i : Problem) (base : List Cut) (nodes : List Node) (k floor : ℕ) (n : Node) → Few i base nodes → slice_get nodes k ≡ Some n → Few i base (with_floor nodes k n floor)
few_floor i base nodes k floor n f at =
    let w : sum_by (weight i) (set nodes k (record n { floor = floor })) + weight i n ≡ sum_by (weight i) nodes + weight i n = sum_set (weight i) nodes k n (record n { floor = floor }) at in
    let u : sum_by unsplit (set nodes k (record n { floor = floor })) + unsplit n ≡ sum_by unsplit nodes + unsplit n = sum_set unsplit nodes k n (record n { floor = floor }) at in
    let l : length (set nodes k (record n { floor = floor })) ≡ length nodes = length-set nodes k (record n { floor = floor }) in
    let a = f.within in
    let b = f.twice in
    record { within = omega arith; twice = omega arith }

-- two smaller spans weigh no more than one
two_weigh : (a b s : ℕ) → a < s → b < s → 2 ^ a + 2 ^ b ≤ 2 ^ s
two_weigh a b zero p q = absurd (omega arith)
two_weigh a b (suc s) p q =
    let pos : 0 < 2 = omega arith in
    let x : 2 ^ a ≤ 2 ^ s = pow-le-pow_right pos (let l : a ≤ s = omega arith in l) in
    let y : 2 ^ b ≤ 2 ^ s = pow-le-pow_right pos (let l : b ≤ s = omega arith in l) in
    omega (arith, pow-suc 2 s)

few_split : {advised : Option Splitting} → (i : Problem) (base : List Cut) (nodes : List Node) (k : ℕ) (class : Class) (m : ℕ) (n : Node) → Few i base nodes → slice_get nodes k ≡ Some n → n.split ≡ false → IsDivision i n.cuts advised class m → Few i base (with_split nodes k n class m)
few_split i base nodes k class m n f at e d =
    let olds = set nodes k (record n { split = true }) in
    let left = child n class AtMost m in
    let right = child n class AtLeast (m + 1) in
    let w : sum_by (weight i) olds + weight i n ≡ sum_by (weight i) nodes + 0 = sum_set (weight i) nodes k n (record n { split = true }) at in
    let u : sum_by unsplit olds + unsplit n ≡ sum_by unsplit nodes + 0 = sum_set unsplit nodes k n (record n { split = true }) at in
    let wn : weight i n ≡ 2 ^ span i n.cuts = ap (λ b. cond b 0 (2 ^ span i n.cuts)) e in
    let un : unsplit n ≡ suc 0 = ap (λ b. cond b 0 1) e in
    let l : length olds ≡ length nodes = length-set nodes k (record n { split = true }) in
    let la : length (olds ++ left ∷ right ∷ []) ≡ length olds + length (left ∷ right ∷ []) = length-append olds (left ∷ right ∷ []) in
    let wa : sum_by (weight i) (olds ++ left ∷ right ∷ []) ≡ sum_by (weight i) olds + sum_by (weight i) (left ∷ right ∷ []) = sum_by-append (weight i) olds (left ∷ right ∷ []) in
    let ua : sum_by unsplit (olds ++ left ∷ right ∷ []) ≡ sum_by unsplit olds + sum_by unsplit (left ∷ right ∷ []) = sum_by-append unsplit olds (left ∷ right ∷ []) in
    let two : 2 ^ span i left.cuts + 2 ^ span i right.cuts ≤ 2 ^ span i n.cuts = two_weigh (span i left.cuts) (span i right.cuts) (span i n.cuts) (span_left i n.cuts class m d.live d.low d.high) (span_right i n.cuts class m d.live d.low d.high) in
    let a = f.within in
    let b = f.twice in
    record { within = omega arith; twice = omega arith }

few_settled : (i : Problem) (base : List Cut) (s : Searching) (k : ℕ) (n : Node) → Few i base s.nodes → slice_get s.nodes k ≡ Some n → Few i base (settled i k n s).nodes
few_settled i base s k n f at =
    cond_both (is_open (top s) n) (record s { nodes = with_floor s.nodes k n (settled_floor i n.cuts); lines = s.lines ++ Settled k ∷ [] }) s (λ (t : Searching). Few i base t.nodes)
    (λ e. few_floor i base s.nodes k (settled_floor i n.cuts) n f at) (λ e. f)

few_close : {advised : Option Splitting} → (i : Problem) (base : List Cut) (k : ℕ) (n : Node) (s t : Searching) → Few i base s.nodes → slice_get s.nodes k ≡ Some n → n.split ≡ false → IsClose i advised k n s t → Few i base t.nodes
few_close i base k n s t f at e (by_price shut) = f
few_close i base k n s t f at e (by_division class m open_one left d) = few_split i base s.nodes k class m n f at e d
few_close i base k n s t f at e (by_settling node open_one st) =
    let same = offered_nodes s node.plan in
    few_settled i base (offered s node.plan) k n (subst (Few i base) (sym same) f) (ap (λ (ns : List Node). slice_get ns k) same ∙ at)

few_step : (i : Problem) (base : List Cut) (s t : Searching) → Few i base s.nodes → IsStep i s t → Few i base t.nodes
few_step i base s t f st =
    let k = st.number in
    let n = st.node in
    let same = offered_nodes s st.step.plan in
    let o = offered s st.step.plan in
    let at : slice_get o.nodes k ≡ Some n = ap (λ (ns : List Node). slice_get ns k) same ∙ st.step.next.there in
    let unsplit_one : n.split ≡ false = (open_parts (top s) n st.step.next.opens).0 in
    let y = priced_node i n st.step.prices in
    few_close i base k y (priced i k n st.step.prices o) t
    (few_floor i base o.nodes k y.floor n (subst (Few i base) (sym same) f) at)
    (set_same o.nodes k n y at) unsplit_one st.step.close

few_steps : (i : Problem) (base : List Cut) (limit : ℕ) (s : Searching) → AreSteps i base limit s → Few i base s.nodes
few_steps i base limit s none = record { within = omega arith; twice = refl }
few_steps i base limit s (one_more r t before st) = few_step i base r t (few_steps i base limit r before) st

light : (i : Problem) (nodes : List Node) → sum_by unsplit nodes ≤ sum_by (weight i) nodes
light i [] = omega arith
light i (n ∷ nodes) =
    let a : sum_by unsplit (n ∷ nodes) ≡ unsplit n + sum_by unsplit nodes = sum_by-cons unsplit n nodes in
    let b : sum_by (weight i) (n ∷ nodes) ≡ weight i n + sum_by (weight i) nodes = sum_by-cons (weight i) n nodes in
    let rest : sum_by unsplit nodes ≤ sum_by (weight i) nodes = light i nodes in
    let here : unsplit n ≤ weight i n = elim n.split as (λ b. cond b 0 1 ≤ cond b 0 (2 ^ span i n.cuts)) [ true ↦ omega arith | false ↦ pow_pos (span i n.cuts) ] in
    omega arith

-- the nodes of a search are at most the steps after which it is finished
pub few_nodes : (i : Problem) (base : List Cut) (limit : ℕ) (s : Searching) → AreSteps i base limit s → length s.nodes ≤ steps_enough i base
few_nodes i base limit s steps =
    let f = few_steps i base limit s steps in
    let a = f.within in
    let c = f.twice in
    let d = light i s.nodes in
    let twice : 2 ^ (span i base + 1) ≡ 2 ^ span i base * 2 = ap (λ m. 2 ^ m) (let e : span i base + 1 ≡ suc (span i base) = omega arith in e) ∙ pow-suc 2 (span i base) in
    omega (arith, a, c, d, twice)
