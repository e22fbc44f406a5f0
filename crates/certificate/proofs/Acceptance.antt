-- What acceptance of a certificate implies.
use Rattle.certificate.proofs.Common.{◌≡◌, ℕ, ◌≤◌, max, Bool, true, false, cond, ◌&&◌, not, List, [], ◌∷◌, refl, subst, arith, nat_le, Option, Some, None, slice_get, ◌==◌, and_parts, leb-true, eqb-true, not-true, false≢true, Row, Split, Priced, Settled}
use Rattle.std.specs.Option.{option_map_or, option_and_then}
use Rattle.shift_instance.specs.declared.TheConstants.{TOP}
use Rattle.shift_instance.specs.Problem.{Problem}
use Rattle.shift_instance.specs.Rota.{cost, rota_of, are_legal_rows}
use Rattle.head_splits.specs.Bound.{are_prices, bound_of}
use Rattle.head_splits.specs.Settled.{is_settled}
use Rattle.head_splits.specs.Nodes.{Node, new_node, with_floor, with_split, settled_floor}
use Rattle.head_splits.proofs.Nodes.{NodesSound, root_sound, priced_sound, settled_sound, split_sound, floor_at}
use Rattle.certificate.specs.declared.proof_lines.Line.{Line}
use Rattle.certificate.specs.Accepted.{is_split, node_line, node_of, nodes_after, nodes_of, least_floor, is_bound, is_plan, BoundsEachRota, HasTruePlan}

cond_some : {X : Type 0} (c : Bool) (x y : X) → cond c (Some x) None ≡ Some y → (c ≡ true) × (x ≡ y)
cond_some true x y e = let same : x ≡ y = cc in (refl, same)
cond_some false x y e = absurd (cc)

bind_some : {X Y : Type 0} (f : X → Option Y) (o : Option X) (y : Y) → option_and_then f o ≡ Some y → (x : X) × (o ≡ Some x) × (f x ≡ Some y)
bind_some f None y e = absurd (cc)
bind_some f (Some x) y e = (x, refl, e)

-- a good line keeps nodes sound
line_sound : (i : Problem) (nodes next : List Node) (n : Node) (line : Line) → NodesSound i [] nodes → slice_get nodes (node_of line) ≡ Some n → node_line i nodes n line ≡ Some next → NodesSound i [] next
line_sound i nodes next n (Split k class m) s at e =
    let q = cond_some (not n.split && is_split i class m) (with_split nodes k n class m) next e in
    subst (NodesSound i []) q.1 (split_sound i [] nodes k class m n s at)
line_sound i nodes next n (Priced k prices) s at e =
    let q = cond_some (not n.split && are_prices i n.cuts prices) (with_floor nodes k n (max n.floor (bound_of i n.cuts prices))) next e in
    let p = and_parts (not n.split) (are_prices i n.cuts prices) q.0 in
    subst (NodesSound i []) q.1 (priced_sound i [] nodes k n prices s at (not-true n.split p.0) p.1)
line_sound i nodes next n (Settled k) s at e =
    let q = cond_some (not n.split && is_settled i n.cuts) (with_floor nodes k n (settled_floor i n.cuts)) next e in
    let p = and_parts (not n.split) (is_settled i n.cuts) q.0 in
    subst (NodesSound i []) q.1 (settled_sound i [] nodes k n s at (not-true n.split p.0) p.1)

lines_sound : (i : Problem) (nodes last : List Node) (lines : List Line) → NodesSound i [] nodes → nodes_after i nodes lines ≡ Some last → NodesSound i [] last
lines_sound i nodes last [] s e = let same : nodes ≡ last = cc in subst (NodesSound i []) same s
lines_sound i nodes last (line ∷ lines) s e =
    let r = bind_some (λ next. nodes_after i next lines) (option_and_then (λ n. node_line i nodes n line) (slice_get nodes (node_of line))) last e in
    let t = bind_some (λ n. node_line i nodes n line) (slice_get nodes (node_of line)) r.0 r.1 in
    lines_sound i r.0 last lines (line_sound i nodes r.0 t.0 line s t.1 t.2) r.2

nodes_some : (p : List Node → Bool) (o : Option (List Node)) → option_map_or p o false ≡ true → (nodes : List Node) × (o ≡ Some nodes) × (p nodes ≡ true)
nodes_some p None h = absurd (false≢true h)
nodes_some p (Some nodes) h = (nodes, refl, h)

pub bounds : BoundsEachRota
bounds i c h rota l =
    let p = and_parts (is_bound i c.lines c.bound) (is_plan i c.plan) h in
    let r = nodes_some (λ nodes. nat_le c.bound (least_floor nodes)) (nodes_of i c.lines) p.0 in
    let s = lines_sound i (new_node [] ∷ []) r.0 c.lines (root_sound i []) r.1 in
    let n = s.covered rota l refl in
    let a : c.bound ≤ least_floor r.0 = leb-true _ _ r.2 in
    let b : least_floor r.0 ≤ n.0.floor = floor_at TOP r.0 n.0 n.1 n.2 in
    let d : n.0.floor ≤ cost i rota = s.floors n.0 n.1 rota l n.3 in
    omega arith

plan_is : (i : Problem) (plan : Option (ℕ × List Row)) (p : ℕ × List Row) → plan ≡ Some p → is_plan i plan ≡ true → (are_legal_rows i p.1 ≡ true) × (cost i (rota_of p.1) ≡ p.0)
plan_is i None p e h = absurd (cc)
plan_is i (Some q) p e h =
    let same : q ≡ p = cc in
    let a = and_parts (are_legal_rows i q.1) (cost i (rota_of q.1) == q.0) h in
    subst (λ (x : ℕ × List Row). (are_legal_rows i x.1 ≡ true) × (cost i (rota_of x.1) ≡ x.0)) same (a.0, eqb-true (cost i (rota_of q.1)) q.0 a.1)

pub plans : HasTruePlan
plans i c h p e = plan_is i c.plan p e (and_parts (is_bound i c.lines c.bound) (is_plan i c.plan) h).1
