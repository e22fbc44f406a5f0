-- Each step closes a node, so a search of many steps is finished.
use Rattle.subtree_search.proofs.Common.{◌≡◌, inl, inr, ℕ, zero, suc, ◌+◌, ◌<◌, ◌≤◌, min, true, false, cond, ◌&&◌, List, [], ◌∷◌, ◌++◌, length, set, refl, sym, ap, ◌∙◌, subst, arith, sum_by, nat_lt, Option, Some, None, slice_get, MatchOption, and_from, and_parts, cases_Bool, cases_lt, cond_both, eq-eqb, false≢true, lt-ltb, ltb-true, not-false, append-nil, set-set, sum_by-cons, sum_by-append, Has, TOP, Problem, IsValid, cost, rota_of, is_legal_rota, Costing, Cut, AtMost, AtLeast, meets, meets_cut, is_empty, settled_plan, Node, child, settled_floor, Has-slice_get, floor_from, Settled, Splitting, IsPlan, sum_set, floor_up_to, is_finished, FloorsFrom, least_from, set_same, Searching, is_open, offered, priced, settled, top, top_of, priced_node, run_of, steps_enough, AreSteps, IsClose, IsStep, by_price, by_division, by_settling, none, one_more}
use Rattle.std.proofs.lemmas.List.Folds.{list_all-append}
use Rattle.head_splits.proofs.PlanRows.{rota_of-settled_rows}
use Rattle.dual_bound.proofs.PlanFloor.{plan_floor}
use Rattle.subtree_search.proofs.Chosen.{open_parts, open_from}
use Rattle.subtree_search.proofs.Few.{few_nodes}
use Rattle.subtree_search.proofs.Sound.{Begins, Holds, offered_nodes, steps_hold}

-- ---- closed nodes

-- 1 for a node that isn't open below a cost, and else 0
abbrev shut : ℕ → Node → ℕ
shut cost n = cond (is_open cost n) 0 1

-- how many nodes aren't open below a cost
abbrev pub closed : ℕ → List Node → ℕ
closed cost nodes = sum_by (shut cost) nodes

shut_most : (cost : ℕ) (n : Node) → shut cost n ≤ 1
shut_most cost n = cond_both (is_open cost n) 0 1 (λ z. z ≤ 1) (λ e. omega arith) (λ e. omega arith)

-- below a lesser cost no fewer are closed
shut_grows : (cost less : ℕ) (n : Node) → less ≤ cost → shut cost n ≤ shut less n
shut_grows cost less n le =
    elim (cases_Bool (is_open less n)) [
      | inl open_one ↦
          let p = open_parts less n open_one in
          let low : n.floor < less = p.1 in
          let wide : is_open cost n ≡ true = open_from cost n p.0 (omega (arith, low, le)) in
          let none_here : shut cost n ≡ 0 = ap (λ b. cond b 0 1) wide in
          omega (arith, none_here)
      | inr shut_one ↦
          let one : shut less n ≡ 1 = ap (λ b. cond b 0 1) shut_one in
          let most = shut_most cost n in
          omega (arith, one, most)
    ]

closed_grows : (cost less : ℕ) (nodes : List Node) → less ≤ cost → closed cost nodes ≤ closed less nodes
closed_grows cost less [] le = omega arith
closed_grows cost less (n ∷ nodes) le =
    let a : closed cost (n ∷ nodes) ≡ shut cost n + closed cost nodes = sum_by-cons (shut cost) n nodes in
    let b : closed less (n ∷ nodes) ≡ shut less n + closed less nodes = sum_by-cons (shut less) n nodes in
    let here = shut_grows cost less n le in
    let rest : closed cost nodes ≤ closed less nodes = closed_grows cost less nodes le in
    omega (arith, a, b, here, rest)

-- also where a node is written over another, with one that is closed
set_grows : (cost less : ℕ) (nodes : List Node) (k : ℕ) (x y : Node) → less ≤ cost → is_open less y ≡ false → closed cost (set nodes k x) ≤ closed less (set nodes k y)
set_grows cost less [] k x y le e = omega arith
set_grows cost less (n ∷ nodes) zero x y le e =
    let a : closed cost (x ∷ nodes) ≡ shut cost x + closed cost nodes = sum_by-cons (shut cost) x nodes in
    let b : closed less (y ∷ nodes) ≡ shut less y + closed less nodes = sum_by-cons (shut less) y nodes in
    let one : shut less y ≡ 1 = ap (λ b. cond b 0 1) e in
    let most = shut_most cost x in
    let rest : closed cost nodes ≤ closed less nodes = closed_grows cost less nodes le in
    omega (arith, a, b, one, most, rest)
set_grows cost less (n ∷ nodes) (suc k) x y le e =
    let a : closed cost (n ∷ set nodes k x) ≡ shut cost n + closed cost (set nodes k x) = sum_by-cons (shut cost) n (set nodes k x) in
    let b : closed less (n ∷ set nodes k y) ≡ shut less n + closed less (set nodes k y) = sum_by-cons (shut less) n (set nodes k y) in
    let here = shut_grows cost less n le in
    let rest : closed cost (set nodes k x) ≤ closed less (set nodes k y) = set_grows cost less nodes k x y le e in
    omega (arith, a, b, here, rest)

-- where an open node is written over with one that is closed, one more is closed
one_closed : (cost less : ℕ) (nodes : List Node) (k : ℕ) (n y : Node) → less ≤ cost → slice_get nodes k ≡ Some n → is_open cost n ≡ true → is_open less y ≡ false → closed cost nodes + 1 ≤ closed less (set nodes k y)
one_closed cost less nodes k n y le at open_one e =
    let z : Node = record n { split = true } in
    let s : closed cost (set nodes k z) + shut cost n ≡ closed cost nodes + 1 = sum_set (shut cost) nodes k n z at in
    let zero_here : shut cost n ≡ 0 = ap (λ b. cond b 0 1) open_one in
    let more : closed cost (set nodes k z) ≤ closed less (set nodes k y) = set_grows cost less nodes k z y le e in
    omega (arith, s, zero_here, more)

-- ---- what a step leaves

-- the node at k is closed, perhaps with further nodes behind
record Closes (s t : Searching) (k : ℕ) : Type 0 where
  last : Node
  more : List Node
  nodes : t.nodes ≡ set s.nodes k last ++ more
  falls : top t ≤ top s
  shut : is_open (top t) last ≡ false
  taken : t.taken ≡ s.taken

top_falls : (limit : ℕ) (best : Option Costing) (p : Costing) → p.cost < top_of limit best → top_of limit (Some p) ≤ top_of limit best
top_falls limit None p less = omega arith
top_falls limit (Some b) p less = omega arith

offered_falls : (s : Searching) (plan : Option Costing) → top (offered s plan) ≤ top s
offered_falls s None = omega arith
offered_falls s (Some p) =
    cond_both (meets (rota_of p.rows) s.base && nat_lt p.cost (top s)) (record s { best = Some p }) s (λ (t : Searching). top t ≤ top s)
    (λ e. let q = and_parts (meets (rota_of p.rows) s.base) (nat_lt p.cost (top s)) e in top_falls s.limit s.best p (ltb-true p.cost (top s) q.1)) (λ e. omega arith)

offered_taken : (s : Searching) (plan : Option Costing) → (offered s plan).taken ≡ s.taken
offered_taken s None = refl
offered_taken s (Some p) = cond_both (meets (rota_of p.rows) s.base && nat_lt p.cost (top s)) (record s { best = Some p }) s (λ (t : Searching). t.taken ≡ s.taken) (λ e. refl) (λ e. refl)

-- what meets some cuts meets those with which they begin
meets_front : (i : Problem) (base cuts : List Cut) (rota : _) → Begins base cuts → meets rota cuts ≡ true → meets rota base ≡ true
meets_front i base cuts rota b m =
    (and_parts (meets rota base) (meets rota b.0) (sym (list_all-append (meets_cut rota) base b.0) ∙ ap (meets rota) (sym b.1) ∙ m)).0

-- a plan that meets the cuts is kept, or is no cheaper
offered_top : (s : Searching) (p : Costing) → meets (rota_of p.rows) s.base ≡ true → top (offered s (Some p)) ≤ p.cost
offered_top s p m =
    cond_both (meets (rota_of p.rows) s.base && nat_lt p.cost (top s)) (record s { best = Some p }) s (λ (t : Searching). top t ≤ p.cost)
    (λ e. let l : min s.limit p.cost ≤ p.cost = omega arith in l)
    (λ e.
    elim (cases_lt p.cost (top s)) [
      | inl less ↦ absurd (false≢true (sym e ∙ and_from _ _ m (lt-ltb p.cost (top s) less)))
      | inr more ↦ more
    ])

-- the plan of a settled node is offered: then its floor is the top at least
settled_top : (i : Problem) (s : Searching) (cuts : List Cut) (plan : Option Costing) → s.limit ≤ TOP → Begins s.base cuts → MatchOption plan (is_empty i cuts ≡ true) (IsPlan i cuts) → top (offered s plan) ≤ settled_floor i cuts
settled_top i s cuts None le b m =
    let most : top s ≤ s.limit = limit_most s.limit s.best in
    let high : settled_floor i cuts ≡ TOP = ap (λ b. cond b TOP (cost i (settled_plan i cuts))) m in
    omega (arith, most, high, le)
  where
    limit_most : (limit : ℕ) (best : Option Costing) → top_of limit best ≤ limit
    limit_most limit None = omega arith
    limit_most limit (Some b) = omega arith
settled_top i s cuts (Some p) le b m =
    let both : (is_legal_rota i (settled_plan i cuts) && meets (settled_plan i cuts) cuts) ≡ true = not-false _ m.some in
    let rota : rota_of p.rows ≡ settled_plan i cuts = ap rota_of m.rows ∙ rota_of-settled_rows i cuts in
    let meet : meets (rota_of p.rows) cuts ≡ true = ap (λ r. meets r cuts) rota ∙ (and_parts (is_legal_rota i (settled_plan i cuts)) (meets (settled_plan i cuts) cuts) both).1 in
    let costs : p.cost ≡ settled_floor i cuts = plan_floor i cuts (Some p) p refl m in
    let low : top (offered s (Some p)) ≤ p.cost = offered_top s p (meets_front i s.base cuts (rota_of p.rows) b meet) in
    omega (arith, costs, low)

settled_closes : (i : Problem) (s : Searching) (k : ℕ) (n : Node) → slice_get s.nodes k ≡ Some n → top s ≤ settled_floor i n.cuts → Closes s (settled i k n s) k
settled_closes i s k n at high =
    let y : Node = record n { floor = settled_floor i n.cuts } in
    cond_both (is_open (top s) n) (record s { nodes = set s.nodes k y; lines = s.lines ++ Settled k ∷ [] }) s (λ (t : Searching). Closes s t k)
    (λ e. record {
      last = y;
      more = [];
      nodes = sym (append-nil (set s.nodes k y));
      falls = omega arith;
      shut =
          elim (cases_Bool (is_open (top s) y)) [
            | inl open_one ↦ let low : settled_floor i n.cuts < top s = (open_parts (top s) y open_one).1 in absurd (omega (arith, low, high))
            | inr shut_one ↦ shut_one
          ];
      taken = refl;
    })
    (λ e. record {
      last = n;
      more = [];
      nodes = sym (append-nil (set s.nodes k n) ∙ set_itself s.nodes k n at);
      falls = omega arith;
      shut = e;
      taken = refl;
    })
  where
    set_itself : (nodes : List Node) (k : ℕ) (n : Node) → slice_get nodes k ≡ Some n → set nodes k n ≡ nodes
    set_itself [] k n at = refl
    set_itself (m ∷ nodes) zero n at = let same : m ≡ n = cc in ap (λ (z : Node). z ∷ nodes) (sym same)
    set_itself (m ∷ nodes) (suc k) n at = ap (λ (ns : List Node). m ∷ ns) (set_itself nodes k n at)

close_closes : {advised : Option Splitting} → (i : Problem) (k : ℕ) (n : Node) (s t : Searching) → s.limit ≤ TOP → Begins s.base n.cuts → slice_get s.nodes k ≡ Some n → IsClose i advised k n s t → Closes s t k
close_closes i k n s t le b at (by_price shut_one) = record {
  last = n;
  more = [];
  nodes = sym (append-nil (set s.nodes k n) ∙ set_itself s.nodes k n at);
  falls = omega arith;
  shut = shut_one;
  taken = refl;
}
  where
    set_itself : (nodes : List Node) (k : ℕ) (n : Node) → slice_get nodes k ≡ Some n → set nodes k n ≡ nodes
    set_itself [] k n at = refl
    set_itself (m ∷ nodes) zero n at = let same : m ≡ n = cc in ap (λ (z : Node). z ∷ nodes) (sym same)
    set_itself (m ∷ nodes) (suc k) n at = ap (λ (ns : List Node). m ∷ ns) (set_itself nodes k n at)
close_closes i k n s t le b at (by_division class m open_one left d) = record {
  last = record n { split = true };
  more = child n class AtMost m ∷ child n class AtLeast (m + 1) ∷ [];
  nodes = refl;
  falls = omega arith;
  shut = refl;
  taken = refl;
}
close_closes i k n s t le b at (by_settling node open_one st) =
    let o = offered s node.plan in
    let same = offered_nodes s node.plan in
    let plan : MatchOption node.plan (is_empty i n.cuts ≡ true) (IsPlan i n.cuts) = subst (λ (cs : List Cut). MatchOption node.plan (is_empty i cs ≡ true) (IsPlan i cs)) st.below (subst (λ (j : Problem). MatchOption node.plan (is_empty j node.cuts ≡ true) (IsPlan j node.cuts)) st.instance st.settled.plan) in
    let high : top o ≤ settled_floor i n.cuts = settled_top i s n.cuts node.plan le b plan in
    let c = settled_closes i o k n (ap (λ (ns : List Node). slice_get ns k) same ∙ at) high in
    let one = c.falls in
    let two = offered_falls s node.plan in
    record {
      last = c.last;
      more = c.more;
      nodes = c.nodes ∙ ap (λ (ns : List Node). set ns k c.last ++ c.more) same;
      falls = omega (arith, one, two);
      shut = c.shut;
      taken = c.taken ∙ offered_taken s node.plan;
    }

-- a step closes one node more
pub step_closes : (i : Problem) (base : List Cut) (limit : ℕ) (s t : Searching) → limit ≤ TOP → Holds i base limit s 0 → IsStep i s t → (t.taken ≡ s.taken + 1) × (closed (top s) s.nodes + 1 ≤ closed (top t) t.nodes)
step_closes i base limit s t le h st =
    let k = st.number in
    let n = st.node in
    let o = offered s st.step.plan in
    let y = priced_node i n st.step.prices in
    let p = priced i k n st.step.prices o in
    let same = offered_nodes s st.step.plan in
    let at : slice_get o.nodes k ≡ Some n = ap (λ (ns : List Node). slice_get ns k) same ∙ st.step.next.there in
    let begins : Begins s.base n.cuts = subst (λ (cs : List Cut). Begins cs n.cuts) (sym h.based) (h.below n (Has-slice_get s.nodes k n st.step.next.there)) in
    let based : o.base ≡ s.base = offered_base s st.step.plan in
    let limited : o.limit ≡ limit = offered_limit s st.step.plan ∙ h.limited in
    let c : Closes p t k = close_closes i k y p t (omega (arith, limited, le)) (subst (λ (cs : List Cut). Begins cs n.cuts) (sym based) begins) (set_same o.nodes k n y at) st.step.close in
    let nodes : t.nodes ≡ set s.nodes k c.last ++ c.more = c.nodes ∙ ap (λ (ns : List Node). ns ++ c.more) (set-set o.nodes k y c.last ∙ ap (λ (ns : List Node). set ns k c.last) same) in
    let a = c.falls in
    let b = offered_falls s st.step.plan in
    let one : closed (top s) s.nodes + 1 ≤ closed (top t) (set s.nodes k c.last) = one_closed (top s) (top t) s.nodes k n c.last (omega (arith, a, b)) st.step.next.there st.step.next.opens c.shut in
    let all : closed (top t) (set s.nodes k c.last ++ c.more) ≡ closed (top t) (set s.nodes k c.last) + closed (top t) c.more = sum_by-append (shut (top t)) (set s.nodes k c.last) c.more in
    let is : closed (top t) t.nodes ≡ closed (top t) (set s.nodes k c.last ++ c.more) = ap (closed (top t)) nodes in
    let taken : t.taken ≡ o.taken + 1 = c.taken in
    let before : o.taken ≡ s.taken = offered_taken s st.step.plan in
    (omega (arith, taken, before), omega (arith, one, all, is))
  where
    offered_base : (s : Searching) (plan : Option Costing) → (offered s plan).base ≡ s.base
    offered_base s None = refl
    offered_base s (Some p) = cond_both (meets (rota_of p.rows) s.base && nat_lt p.cost (top s)) (record s { best = Some p }) s (λ (t : Searching). t.base ≡ s.base) (λ e. refl) (λ e. refl)

    offered_limit : (s : Searching) (plan : Option Costing) → (offered s plan).limit ≡ s.limit
    offered_limit s None = refl
    offered_limit s (Some p) = cond_both (meets (rota_of p.rows) s.base && nat_lt p.cost (top s)) (record s { best = Some p }) s (λ (t : Searching). t.limit ≡ s.limit) (λ e. refl) (λ e. refl)

pub taken_closed : (i : Problem) (base : List Cut) (limit : ℕ) (s : Searching) → IsValid i → limit ≤ TOP → AreSteps i base limit s → s.taken ≤ closed (top s) s.nodes
taken_closed i base limit s valid le none = omega arith
taken_closed i base limit s valid le (one_more r t before st) =
    let old = taken_closed i base limit r valid le before in
    let c = step_closes i base limit r t le (steps_hold i base limit r valid before) st in
    let taken = c.0 in
    let more = c.1 in
    omega (arith, old, taken, more)

-- where a node is open, fewer are closed than there are
closed_most : (cost : ℕ) (nodes : List Node) → closed cost nodes ≤ length nodes
closed_most cost [] = omega arith
closed_most cost (n ∷ nodes) =
    let a : closed cost (n ∷ nodes) ≡ shut cost n + closed cost nodes = sum_by-cons (shut cost) n nodes in
    let most = shut_most cost n in
    let rest : closed cost nodes ≤ length nodes = closed_most cost nodes in
    omega (arith, a, most, rest)

closed_less : (cost : ℕ) (nodes : List Node) (k : ℕ) (n : Node) → slice_get nodes k ≡ Some n → is_open cost n ≡ true → closed cost nodes < length nodes
closed_less cost [] k n at e = absurd (cc)
closed_less cost (m ∷ nodes) zero n at e =
    let same : m ≡ n = cc in
    let a : closed cost (m ∷ nodes) ≡ shut cost m + closed cost nodes = sum_by-cons (shut cost) m nodes in
    let here : shut cost m ≡ 0 = ap (λ (z : Node). shut cost z) same ∙ ap (λ b. cond b 0 1) e in
    let rest : closed cost nodes ≤ length nodes = closed_most cost nodes in
    omega (arith, a, here, rest)
closed_less cost (m ∷ nodes) (suc k) n at e =
    let a : closed cost (m ∷ nodes) ≡ shut cost m + closed cost nodes = sum_by-cons (shut cost) m nodes in
    let most = shut_most cost m in
    let rest : closed cost nodes < length nodes = closed_less cost nodes k n at e in
    omega (arith, a, most, rest)

-- a search with an open node took fewer steps than are enough
pub open_takes : (i : Problem) (base : List Cut) (limit : ℕ) (s : Searching) (k : ℕ) (n : Node) → IsValid i → limit ≤ TOP → AreSteps i base limit s → slice_get s.nodes k ≡ Some n → is_open (top s) n ≡ true → s.taken < steps_enough i base
open_takes i base limit s k n valid le steps at e =
    let taken = taken_closed i base limit s valid le steps in
    let less : closed (top s) s.nodes < length s.nodes = closed_less (top s) s.nodes k n at e in
    let few = few_nodes i base limit s steps in
    omega (arith, taken, less, few)

-- ---- finished searches

-- a search without an open node has its top as its floor
pub none_open : (i : Problem) (s : Searching) → ((j : ℕ) (m : Node) → slice_get s.nodes j ≡ Some m → is_open (top s) m ≡ false) → is_finished (run_of i s) ≡ true
none_open i s none_there =
    let from : FloorsFrom (top s) s.nodes = λ n there unsplit.
    let place = placed s.nodes n there in
    elim (cases_lt n.floor (top s)) [
      | inl less ↦ absurd (false≢true (sym (none_there place.0 n place.1) ∙ open_from (top s) n unsplit less))
      | inr more ↦ more
    ] in
    let low : top s ≤ floor_up_to (top s) s.nodes = least_from (top s) (top s) s.nodes (omega arith) from in
    let high : floor_up_to (top s) s.nodes ≤ top s = floor_from (top s) s.nodes in
    eq-eqb (floor_up_to (top s) s.nodes) (top s) (omega (arith, low, high))
  where
    placed : (nodes : List Node) (n : Node) → Has nodes n → (k : ℕ) × (slice_get nodes k ≡ Some n)
    placed [] n there = absurd there
    placed (m ∷ nodes) n (inl same) = (0, ap Some same)
    placed (m ∷ nodes) n (inr there) = let rest = placed nodes n there in (suc rest.0, rest.1)

-- a search that ends has no open node, took all steps of its budget, or was asked to stop
pub enough_steps : (i : Problem) (base : List Cut) (limit budget : ℕ) (s : Searching) → IsValid i → limit ≤ TOP → AreSteps i base limit s → s.taken ≡ budget → steps_enough i base ≤ budget → is_finished (run_of i s) ≡ true
enough_steps i base limit budget s valid le steps spent enough =
    none_open i s (λ j m at.
    elim (cases_Bool (is_open (top s) m)) [
      | inl open_one ↦ let few = open_takes i base limit s j m valid le steps at open_one in absurd (omega (arith, few, spent, enough))
      | inr shut_one ↦ shut_one
    ])
