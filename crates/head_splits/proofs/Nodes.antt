-- Sound nodes: a better floor and a split keep them sound.
use Rattle.head_splits.proofs.Common.{◌≡◌, ◌⊎◌, inl, inr, ℕ, zero, suc, ◌+◌, ◌<◌, ◌≤◌, min, max, Bool, true, false, cond, List, [], ◌∷◌, ◌++◌, length, get_or, set, refl, sym, ap, ◌∙◌, subst, arith, fold, Some, slice_get, and_parts, and_from, le-leb, cases_lt, cond_both, list_all-append, Has, Has-append_left, Has-append_right, Has-append_cases, Duty, Problem, cost, is_legal_rota, Class, AtMost, AtLeast, Cut, Prices, class_count, meets, meets_cut, are_prices, bound_of, is_settled, settled_plan}
use Rattle.shift_instance.specs.declared.TheConstants.{TOP}
use Rattle.head_splits.specs.Nodes.{Node, new_node, child, with_floor, with_split, settled_floor, AreSound}
use Rattle.head_splits.proofs.Duality.{weak_duality}
use Rattle.head_splits.proofs.Fixed.{settled_cost, settled_some}

-- ---- lists

pub Has-slice_get : {X : Type 0} (xs : List X) (k : ℕ) (x : X) → slice_get xs k ≡ Some x → Has xs x
Has-slice_get [] k x e = absurd (cc)
Has-slice_get {X} (y ∷ xs) zero x e = let same : y ≡ x = cc in inl same
Has-slice_get (y ∷ xs) (suc k) x e = inr (Has-slice_get xs k x e)

-- after a write each element is the new one or an old one
pub from_set : {X : Type 0} (xs : List X) (k : ℕ) (y x : X) → Has (set xs k y) x → (y ≡ x) ⊎ Has xs x
from_set [] k y x h = absurd h
from_set (z ∷ xs) zero y x h = elim h [ inl e ↦ inl e | inr t ↦ inr (inr t) ]
from_set (z ∷ xs) (suc k) y x h = elim h [ inl e ↦ inr (inl e) | inr t ↦ elim (from_set xs k y x t) [ inl a ↦ inl a | inr b ↦ inr (inr b) ] ]

-- an element is the one that is written over, or stays
pub set_keeps : {X : Type 0} (xs : List X) (k : ℕ) (n y x : X) → slice_get xs k ≡ Some n → Has xs x → (n ≡ x) ⊎ Has (set xs k y) x
set_keeps [] k n y x e h = absurd h
set_keeps (z ∷ xs) zero n y x e h = let same : z ≡ n = cc in elim h [ inl s ↦ inl (sym same ∙ s) | inr t ↦ inr (inr t) ]
set_keeps (z ∷ xs) (suc k) n y x e h = elim h [ inl s ↦ inr (inl s) | inr t ↦ elim (set_keeps xs k n y x e t) [ inl a ↦ inl a | inr b ↦ inr (inr b) ] ]

-- the new element is there
pub set_has : {X : Type 0} (xs : List X) (k : ℕ) (n y : X) → slice_get xs k ≡ Some n → Has (set xs k y) y
set_has [] k n y e = absurd (cc)
set_has (z ∷ xs) zero n y e = inl refl
set_has (z ∷ xs) (suc k) n y e = inr (set_has xs k n y e)

pub Has-place : {X : Type 0} (xs : List X) (x : X) → Has xs x → (k : ℕ) × (k < length xs) × (get_or xs k x ≡ x)
Has-place [] x h = absurd h
Has-place (y ∷ xs) x h = elim h [ inl e ↦ (0, omega arith, e) | inr t ↦ let r = Has-place xs x t in (suc r.0, omega (arith, r.1), r.2) ]

pub Has-get_or : {X : Type 0} (xs : List X) (k : ℕ) (d : X) → k < length xs → Has xs (get_or xs k d)
Has-get_or [] k d h = absurd (omega arith)
Has-get_or (y ∷ xs) zero d h = inl refl
Has-get_or (y ∷ xs) (suc k) d h = inr (Has-get_or xs k d (omega arith))

-- ---- sound nodes, by membership

pub record NodesSound (i : Problem) (base : List Cut) (nodes : List Node) : Type 0 where
  pub covered : (rota : List Duty) → is_legal_rota i rota ≡ true → meets rota base ≡ true → (n : Node) × Has nodes n × (n.split ≡ false) × (meets rota n.cuts ≡ true)
  pub floors : (n : Node) → Has nodes n → (rota : List Duty) → is_legal_rota i rota ≡ true → meets rota n.cuts ≡ true → n.floor ≤ cost i rota

pub nodes_are : (i : Problem) (base : List Cut) (nodes : List Node) → NodesSound i base nodes → AreSound i base nodes
nodes_are i base nodes s = record {
  covered = λ rota l m.
      let r = s.covered rota l m in
      let p = Has-place nodes r.0 r.1 in
      (p.0, r.0, p.1, p.2, (r.2, r.3));
  floors = λ k d h rota l m. s.floors (get_or nodes k d) (Has-get_or nodes k d h) rota l m;
}

pub root_sound : (i : Problem) (base : List Cut) → NodesSound i base (new_node base ∷ [])
root_sound i base = record {
  covered = λ rota l m. (new_node base, inl refl, refl, m);
  floors = λ n h rota l m. elim h [ inl e ↦ subst (λ (x : Node). x.floor ≤ cost i rota) e (omega arith) | inr t ↦ absurd t ];
}

-- a node gets a floor that each rota below it costs
pub floor_sound : (i : Problem) (base : List Cut) (nodes : List Node) (k floor : ℕ) (n : Node) → NodesSound i base nodes → slice_get nodes k ≡ Some n → n.split ≡ false
    → ((rota : List Duty) → is_legal_rota i rota ≡ true → meets rota n.cuts ≡ true → floor ≤ cost i rota)
    → NodesSound i base (with_floor nodes k n floor)
floor_sound i base nodes k floor n s at unsplit h = record {
  covered = λ rota l m.
      let r = s.covered rota l m in
      elim (set_keeps nodes k n (record n { floor = floor }) r.0 at r.1) [
        | inl e ↦ (record n { floor = floor }, set_has nodes k n (record n { floor = floor }) at, unsplit, subst (λ (x : Node). meets rota x.cuts ≡ true) (sym e) r.3)
        | inr there ↦ (r.0, there, r.2, r.3)
      ];
  floors = λ x m rota l g.
      elim (from_set nodes k (record n { floor = floor }) x m) [
        | inl e ↦ subst (λ (y : Node). y.floor ≤ cost i rota) e (h rota l (subst (λ (y : Node). meets rota y.cuts ≡ true) (sym e) g))
        | inr t ↦ s.floors x t rota l g
      ];
}

pub priced_sound : (i : Problem) (base : List Cut) (nodes : List Node) (k : ℕ) (n : Node) (prices : Prices) → NodesSound i base nodes → slice_get nodes k ≡ Some n → n.split ≡ false → are_prices i n.cuts prices ≡ true
    → NodesSound i base (with_floor nodes k n (max n.floor (bound_of i n.cuts prices)))
priced_sound i base nodes k n prices s at unsplit priced =
    floor_sound i base nodes k (max n.floor (bound_of i n.cuts prices)) n s at unsplit (λ rota l m.
    let a : n.floor ≤ cost i rota = s.floors n (Has-slice_get nodes k n at) rota l m in
    let b : bound_of i n.cuts prices ≤ cost i rota = weak_duality i n.cuts prices rota priced l m in
    omega arith)

pub settled_sound : (i : Problem) (base : List Cut) (nodes : List Node) (k : ℕ) (n : Node) → NodesSound i base nodes → slice_get nodes k ≡ Some n → n.split ≡ false → is_settled i n.cuts ≡ true
    → NodesSound i base (with_floor nodes k n (settled_floor i n.cuts))
settled_sound i base nodes k n s at unsplit settled =
    floor_sound i base nodes k (settled_floor i n.cuts) n s at unsplit (λ rota l m.
    let a : settled_floor i n.cuts ≡ cost i (settled_plan i n.cuts) = ap (λ (b : Bool). cond b TOP (cost i (settled_plan i n.cuts))) (settled_some i n.cuts rota settled l m) in
    let b : cost i rota ≡ cost i (settled_plan i n.cuts) = settled_cost i n.cuts rota settled l m in
    omega arith)

-- a rota below one more cut lies below the cuts
meets_fewer : (rota : List Duty) (cuts : List Cut) (c : Cut) → meets rota (cuts ++ c ∷ []) ≡ true → meets rota cuts ≡ true
meets_fewer rota cuts c h = (and_parts (meets rota cuts) (meets rota (c ∷ [])) (sym (list_all-append (meets_cut rota) cuts (c ∷ [])) ∙ h)).0

meets_more : (rota : List Duty) (cuts : List Cut) (c : Cut) → meets rota cuts ≡ true → meets_cut rota c ≡ true → meets rota (cuts ++ c ∷ []) ≡ true
meets_more rota cuts c h g = list_all-append (meets_cut rota) cuts (c ∷ []) ∙ and_from (meets rota cuts) (meets rota (c ∷ [])) h (and_from (meets_cut rota c) true g refl)

-- a split by any class and number keeps nodes sound
pub split_sound : (i : Problem) (base : List Cut) (nodes : List Node) (k : ℕ) (class : Class) (m : ℕ) (n : Node) → NodesSound i base nodes → slice_get nodes k ≡ Some n → NodesSound i base (with_split nodes k n class m)
split_sound i base nodes k class m n s at =
    let olds = set nodes k (record n { split = true }) in
    let left = child n class AtMost m in
    let right = child n class AtLeast (m + 1) in
    record {
      covered = λ rota l g.
          let r = s.covered rota l g in
          elim (set_keeps nodes k n (record n { split = true }) r.0 at r.1) [
            | inl e ↦
                let below : meets rota n.cuts ≡ true = subst (λ (x : Node). meets rota x.cuts ≡ true) (sym e) r.3 in
                elim (cases_lt m (class_count rota class)) [
                  | inl more ↦ (right, Has-append_right olds (left ∷ right ∷ []) right (inr (inl refl)), refl, meets_more rota n.cuts (record { class = class; side = AtLeast; m = m + 1 }) below (le-leb (m + 1) (class_count rota class) (omega arith)))
                  | inr few ↦ (left, Has-append_right olds (left ∷ right ∷ []) left (inl refl), refl, meets_more rota n.cuts (record { class = class; side = AtMost; m = m }) below (le-leb (class_count rota class) m few))
                ]
            | inr there ↦ (r.0, Has-append_left olds (left ∷ right ∷ []) r.0 there, r.2, r.3)
          ];
      floors = λ x h rota l g.
          let old : meets rota n.cuts ≡ true → n.floor ≤ cost i rota = s.floors n (Has-slice_get nodes k n at) rota l in
          elim (Has-append_cases olds (left ∷ right ∷ []) x h) [
            | inl o ↦ elim (from_set nodes k (record n { split = true }) x o) [
              | inl e ↦ subst (λ (y : Node). meets rota y.cuts ≡ true → y.floor ≤ cost i rota) e old g
              | inr t ↦ s.floors x t rota l g
            ]
            | inr new ↦ elim new [
              | inl e ↦ subst (λ (y : Node). meets rota y.cuts ≡ true → y.floor ≤ cost i rota) e (λ q. old (meets_fewer rota n.cuts _ q)) g
              | inr new' ↦ elim new' [
                | inl e ↦ subst (λ (y : Node). meets rota y.cuts ≡ true → y.floor ≤ cost i rota) e (λ q. old (meets_fewer rota n.cuts _ q)) g
                | inr none ↦ absurd none
              ]
            ]
          ];
    }

-- the least floor of the unsplit nodes, from a first number on
pub floor_from : (f : ℕ) (nodes : List Node) → fold (λ f n. cond n.split f (min f n.floor)) f nodes ≤ f
floor_from f [] = omega arith
floor_from f (n ∷ nodes) =
    let rest : fold (λ f n. cond n.split f (min f n.floor)) (cond n.split f (min f n.floor)) nodes ≤ cond n.split f (min f n.floor) = floor_from (cond n.split f (min f n.floor)) nodes in
    let here : cond n.split f (min f n.floor) ≤ f = cond_both n.split f (min f n.floor) (λ k. k ≤ f) (λ e. omega arith) (λ e. omega arith) in
    omega arith

pub floor_at : (f : ℕ) (nodes : List Node) (n : Node) → Has nodes n → n.split ≡ false → fold (λ f n. cond n.split f (min f n.floor)) f nodes ≤ n.floor
floor_at f [] n h e = absurd h
floor_at f (m ∷ nodes) n h e =
    elim h [
      | inl s ↦
          let rest : fold (λ f n. cond n.split f (min f n.floor)) (cond m.split f (min f m.floor)) nodes ≤ cond m.split f (min f m.floor) = floor_from (cond m.split f (min f m.floor)) nodes in
          let here : cond m.split f (min f m.floor) ≤ n.floor = subst (λ (x : Node). cond x.split f (min f x.floor) ≤ n.floor) (sym s) (subst (λ b. cond b f (min f n.floor) ≤ n.floor) (sym e) (omega arith)) in
          omega arith
      | inr t ↦ floor_at (cond m.split f (min f m.floor)) nodes n t e
    ]
