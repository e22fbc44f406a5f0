-- What a sound book says of each legal rota.
use Rattle.search_core.proofs.Common.{◌≡◌, ◌⊎◌, inl, inr, ℕ, ◌<◌, ◌≤◌, min, true, false, cond, not, List, [], ◌∷◌, get_or, refl, sym, ap, ◌∙◌, subst, arith, fold, nat_lt, cases_Bool, cases_lt, and_cases, and_from, and_parts, lt-ltb, not-true, ltb-false, false≢true, Any, Has, all_at, Duty, Problem, is_legal_rota, cost, rota_of, meets, Book, floor_of, is_open, is_finished, IsLeastFloor, IsSound, Node, Has-get_or, Has-place, floor_at, floor_from}

-- ---- the least of the best cost and the floors of unsplit nodes

-- one more node lowers a floor to its own where it is unsplit and its floor is lower
with_node : (f : ℕ) (n : Node) → ((n.split ≡ true) × (cond n.split f (min f n.floor) ≡ f)) ⊎ ((n.split ≡ false) × (cond n.split f (min f n.floor) ≡ min f n.floor))
with_node f n = elim (cases_Bool n.split) [ inl t ↦ inl (t, ap (λ b. cond b f (min f n.floor)) t) | inr e ↦ inr (e, ap (λ b. cond b f (min f n.floor)) e) ]

pub Reached : ℕ → ℕ → List Node → Type 0
Reached f floor nodes = (floor ≡ f) ⊎ ((n : Node) × Has nodes n × (n.split ≡ false) × (floor ≡ n.floor))

reached : (f : ℕ) (nodes : List Node) → Reached f (fold (λ f n. cond n.split f (min f n.floor)) f nodes) nodes
unfolding Reached
reached f [] = inl refl
reached f (n ∷ nodes) =
    elim (reached (cond n.split f (min f n.floor)) nodes) [
      | inr r ↦ inr (r.0, inr r.1, r.2, r.3)
      | inl e ↦ elim (with_node f n) [
        | inl p ↦ inl (e ∙ p.1)
        | inr p ↦ elim (cases_lt f n.floor) [
          | inl less ↦ let m : min f n.floor ≡ f = omega arith in inl (e ∙ p.1 ∙ m)
          | inr more ↦ let m : min f n.floor ≡ n.floor = omega arith in inr (n, inl refl, p.0, e ∙ p.1 ∙ m)
        ]
      ]
    ]

pub least_floor : (b : Book) → IsLeastFloor b (floor_of b)
unfolding Reached
least_floor b = record {
  below_cost = floor_from b.cost b.nodes;
  below_floors = λ k d h e. floor_at b.cost b.nodes (get_or b.nodes k d) (Has-get_or b.nodes k d h) e;
  reached = elim (reached b.cost b.nodes) [
    | inl e ↦ inl e
    | inr r ↦ let p = Has-place b.nodes r.0 r.1 in inr (p.0, r.0, p.1, p.2, (r.2, r.3))
  ];
}

-- ---- legal rotas and nodes

-- the unsplit node that a legal rota lies below, and its floor
pub record Lies (b : Book) (i : Problem) (rota : List Duty) : Type 0 where
  pub node : Node
  pub there : Has b.nodes node
  pub unsplit : node.split ≡ false
  pub meeting : meets rota node.cuts ≡ true
  pub floor : node.floor ≤ cost i rota

pub lies_below : (i : Problem) (b : Book) (rota : List Duty) → IsSound i b → is_legal_rota i rota ≡ true → Lies b i rota
lies_below i b rota s l =
    let r = s.nodes.covered rota l refl in
    let at : get_or b.nodes r.0 r.1 ≡ r.1 = r.3 in
    record {
      node = r.1;
      there = subst (Has b.nodes) at (Has-get_or b.nodes r.0 r.1 r.2);
      unsplit = r.4.0;
      meeting = r.4.1;
      floor = subst (λ (n : Node). meets rota n.cuts ≡ true → n.floor ≤ cost i rota) at (λ m. s.nodes.floors r.0 r.1 r.2 rota l m) r.4.1;
    }

-- a legal rota that is cheaper than the best lies below an open node
pub open_below : (i : Problem) (b : Book) (rota : List Duty) → IsSound i b → is_legal_rota i rota ≡ true → cost i rota < b.cost
    → Any (λ (n : Node). (is_open b n ≡ true) × (meets rota n.cuts ≡ true)) b.nodes
open_below i b rota s l less =
    let n = lies_below i b rota s l in
    let p = Has-place b.nodes n.node n.there in
    let below : n.node.floor < b.cost = omega (arith, n.floor) in
    let unsplit : not n.node.split ≡ true = ap not n.unsplit in
    (p.0, n.node, p.1, p.2, (and_from (not n.node.split) (nat_lt n.node.floor b.cost) unsplit (lt-ltb n.node.floor b.cost below), n.meeting))

pub floor_least : (i : Problem) (b : Book) (rota : List Duty) → IsSound i b → is_legal_rota i rota ≡ true → floor_of b ≤ cost i rota
floor_least i b rota s l =
    let n = lies_below i b rota s l in
    let most : floor_of b ≤ n.node.floor = floor_at b.cost b.nodes n.node n.there n.unsplit in
    let least : n.node.floor ≤ cost i rota = n.floor in
    omega arith

-- in a finished book each unsplit node's floor is no less than the cost
finished_node : (b : Book) (n : Node) → is_finished b ≡ true → Has b.nodes n → n.split ≡ false → b.cost ≤ n.floor
finished_node b n h m e =
    let shut : is_open b n ≡ false = not-true (is_open b n) (all_at (λ n. not (is_open b n)) b.nodes n h m) in
    elim (and_cases (not n.split) (nat_lt n.floor b.cost) shut)
    [ inl f ↦ absurd (false≢true (sym f ∙ ap not e)) | inr f ↦ ltb-false n.floor b.cost f ]

-- so no legal rota costs less than its best
pub finished_best : (i : Problem) (b : Book) (rota : List Duty) → IsSound i b → is_finished b ≡ true → is_legal_rota i rota ≡ true → b.cost ≤ cost i rota
finished_best i b rota s h l =
    let n = lies_below i b rota s l in
    let most : b.cost ≤ n.node.floor = finished_node b n.node h n.there n.unsplit in
    let least : n.node.floor ≤ cost i rota = n.floor in
    omega arith

best_is_legal : (i : Problem) (b : Book) → IsSound i b → is_legal_rota i (rota_of b.best) ≡ true
best_is_legal i b s = (and_parts _ (is_legal_rota i (rota_of b.best)) s.legal).1

pub finished_cost : (i : Problem) (one other : Book) → IsSound i one → IsSound i other → is_finished one ≡ true → is_finished other ≡ true → one.cost ≡ other.cost
finished_cost i one other s t h g =
    let a : one.cost ≤ cost i (rota_of other.best) = finished_best i one (rota_of other.best) s h (best_is_legal i other t) in
    let b : other.cost ≤ cost i (rota_of one.best) = finished_best i other (rota_of one.best) t g (best_is_legal i one s) in
    let c : cost i (rota_of one.best) ≡ one.cost = s.exact in
    let d : cost i (rota_of other.best) ≡ other.cost = t.exact in
    omega arith

floor_is_cost : (c : ℕ) (nodes : List Node) → ((n : Node) → Has nodes n → n.split ≡ false → c ≤ n.floor) → fold (λ f n. cond n.split f (min f n.floor)) c nodes ≡ c
floor_is_cost c [] h = refl
floor_is_cost c (n ∷ nodes) h =
    let first : cond n.split c (min c n.floor) ≡ c = elim (cases_Bool n.split) [ inl t ↦ rw t refl | inr f ↦ rw f (omega (arith, h n (inl refl) f)) ] in
    ap (λ f. fold (λ f n. cond n.split f (min f n.floor)) f nodes) first ∙ floor_is_cost c nodes (λ m p e. h m (inr p) e)

pub finished_closed : (b : Book) → is_finished b ≡ true → floor_of b ≡ b.cost
finished_closed b h = floor_is_cost b.cost b.nodes (λ n m e. finished_node b n h m e)

pub finished_floor : (i : Problem) (one other : Book) → IsSound i one → IsSound i other → is_finished one ≡ true → is_finished other ≡ true → floor_of one ≡ floor_of other
finished_floor i one other s t h g =
    finished_closed one h
    ∙ finished_cost i one other s t h g
    ∙ sym (finished_closed other g)
