-- A book has few nodes: each split lowers the span, and a post adds two nodes at most.
use Rattle.search_core.proofs.Common.{◌≡◌, ℕ, zero, suc, ◌+◌, ◌*◌, ◌^◌, ◌<◌, ◌≤◌, max, true, false, cond, ◌&&◌, not, List, [], ◌∷◌, ◌++◌, length, get_or, set, refl, ap, subst, arith, nat_le, nat_lt, Some, slice_get, and_parts, leb-true, ltb-true, not-true, sum_by-cons, sum_by-append, sum_by-set, length-append, length-set, pow-le-pow_right, pow-suc, Problem, Class, AtMost, AtLeast, low, high, are_prices, bound_of, is_live_class, is_settled, span, Node, child, with_floor, with_split, settled_floor, span_left, span_right, Post, Plan, Priced, Split, Settled, Book, opening, is_open, priced, divided, settled, is_better, step, book_after, book_of}
use Rattle.std.specs.Prelude.{sum_by}
use Rattle.std.proofs.lemmas.Nat.{pow_pos}
use Rattle.search_core.proofs.Sound.{cond_some, bind_some, at_node_some}

-- what an unsplit node weighs: two to the power of its span
abbrev weight : Problem → Node → ℕ
weight i n = cond n.split 0 (2 ^ span i n.cuts)

abbrev unsplit : Node → ℕ
unsplit n = cond n.split 0 1

-- few unsplit nodes by weight, and twice as many as all nodes and one
record Few (i : Problem) (nodes : List Node) : Type 0 where
  within : sum_by (weight i) nodes ≤ 2 ^ span i []
  twice : length nodes + 1 ≡ 2 * sum_by unsplit nodes

at_place : {X : Type 0} (xs : List X) (k : ℕ) (x : X) → slice_get xs k ≡ Some x → (k < length xs) × (get_or xs k x ≡ x)
at_place [] k x e = absurd (cc)
at_place (y ∷ xs) zero x e = let same : y ≡ x = cc in (omega arith, same)
at_place (y ∷ xs) (suc k) x e = let r = at_place xs k x e in (omega (arith, r.0), r.1)

-- a sum after a write over n
pub sum_set : {X : Type 0} (f : X → ℕ) (xs : List X) (k : ℕ) (n y : X) → slice_get xs k ≡ Some n → sum_by f (set xs k y) + f n ≡ sum_by f xs + f y
sum_set f xs k n y e =
    let p = at_place xs k n e in
    let s : sum_by f (set xs k y) + f (get_or xs k n) ≡ sum_by f xs + f y = sum_by-set f xs k y n p.0 in
    subst (λ z. sum_by f (set xs k y) + f z ≡ sum_by f xs + f y) p.1 s

few_floor : (i : Problem) (nodes : List Node) (k floor : ℕ) (n : Node) → Few i nodes → slice_get nodes k ≡ Some n → Few i (with_floor nodes k n floor)
few_floor i nodes k floor n f at =
    let w : sum_by (weight i) (set nodes k (record n { floor = floor })) + weight i n ≡ sum_by (weight i) nodes + weight i n = sum_set (weight i) nodes k n (record n { floor = floor }) at in
    let u : sum_by unsplit (set nodes k (record n { floor = floor })) + unsplit n ≡ sum_by unsplit nodes + unsplit n = sum_set unsplit nodes k n (record n { floor = floor }) at in
    let l : length (set nodes k (record n { floor = floor })) ≡ length nodes = length-set nodes k (record n { floor = floor }) in
    let a = f.within in
    let b = f.twice in
    record { within = omega arith; twice = omega arith }

-- two smaller spans weigh no more than one
two_weigh : (a b s : ℕ) → a < s → b < s → 2 ^ a + 2 ^ b ≤ 2 ^ s
two_weigh a b zero p q = absurd (omega arith)
two_weigh a b (suc s) p q =
    let pos : 0 < 2 = omega arith in
    let x : 2 ^ a ≤ 2 ^ s = pow-le-pow_right pos (let l : a ≤ s = omega arith in l) in
    let y : 2 ^ b ≤ 2 ^ s = pow-le-pow_right pos (let l : b ≤ s = omega arith in l) in
    omega (arith, pow-suc 2 s)

few_split : (i : Problem) (nodes : List Node) (k : ℕ) (class : Class) (m : ℕ) (n : Node) → Few i nodes → slice_get nodes k ≡ Some n → n.split ≡ false → is_live_class i class ≡ true → low n.cuts class ≤ m → m < high i n.cuts class → Few i (with_split nodes k n class m)
few_split i nodes k class m n f at e live p q =
    let olds = set nodes k (record n { split = true }) in
    let left = child n class AtMost m in
    let right = child n class AtLeast (m + 1) in
    let w : sum_by (weight i) olds + weight i n ≡ sum_by (weight i) nodes + 0 = sum_set (weight i) nodes k n (record n { split = true }) at in
    let u : sum_by unsplit olds + unsplit n ≡ sum_by unsplit nodes + 0 = sum_set unsplit nodes k n (record n { split = true }) at in
    let wn : weight i n ≡ 2 ^ span i n.cuts = ap (λ b. cond b 0 (2 ^ span i n.cuts)) e in
    let un : unsplit n ≡ suc 0 = ap (λ b. cond b 0 1) e in
    let l : length olds ≡ length nodes = length-set nodes k (record n { split = true }) in
    let la : length (olds ++ left ∷ right ∷ []) ≡ length olds + length (left ∷ right ∷ []) = length-append olds (left ∷ right ∷ []) in
    let wa : sum_by (weight i) (olds ++ left ∷ right ∷ []) ≡ sum_by (weight i) olds + sum_by (weight i) (left ∷ right ∷ []) = sum_by-append (weight i) olds (left ∷ right ∷ []) in
    let ua : sum_by unsplit (olds ++ left ∷ right ∷ []) ≡ sum_by unsplit olds + sum_by unsplit (left ∷ right ∷ []) = sum_by-append unsplit olds (left ∷ right ∷ []) in
    let two : 2 ^ span i left.cuts + 2 ^ span i right.cuts ≤ 2 ^ span i n.cuts = two_weigh (span i left.cuts) (span i right.cuts) (span i n.cuts) (span_left i n.cuts class m live p q) (span_right i n.cuts class m live p q) in
    let a = f.within in
    let b = f.twice in
    record { within = omega arith; twice = omega arith }

step_few : (i : Problem) (b c : Book) (post : Post) → Few i b.nodes → step i b post ≡ Some c → Few i c.nodes
step_few i b c (Plan worker rows n) f e =
    let r = cond_some (is_better i b rows n) (record b { best = rows; cost = n }) c e in
    subst (λ (d : Book). Few i d.nodes) r.1 f
step_few i b c (Priced worker k prices) f e =
    let r = at_node_some b c k (priced i b k prices) e in
    let n = r.0 in
    let q = cond_some (not n.split && are_prices i n.cuts prices) (with_floor b.nodes k n (max n.floor (bound_of i n.cuts prices))) r.2 r.3 in
    subst (λ (d : Book). Few i d.nodes) r.4 (subst (Few i) q.1 (few_floor i b.nodes k (max n.floor (bound_of i n.cuts prices)) n f r.1))
step_few i b c (Split worker k class m) f e =
    let r = at_node_some b c k (divided i b k class m) e in
    let n = r.0 in
    let q = cond_some (is_open b n && is_live_class i class && nat_le (low n.cuts class) m && nat_lt m (high i n.cuts class)) (with_split b.nodes k n class m) r.2 r.3 in
    let p3 = and_parts (is_open b n && is_live_class i class && nat_le (low n.cuts class) m) (nat_lt m (high i n.cuts class)) q.0 in
    let p2 = and_parts (is_open b n && is_live_class i class) (nat_le (low n.cuts class) m) p3.0 in
    let p1 = and_parts (is_open b n) (is_live_class i class) p2.0 in
    let p0 = and_parts (not n.split) (nat_lt n.floor b.cost) p1.0 in
    subst (λ (d : Book). Few i d.nodes) r.4 (subst (Few i) q.1 (few_split i b.nodes k class m n f r.1 (not-true n.split p0.0) p1.1 (leb-true _ _ p2.1) (ltb-true _ _ p3.1)))
step_few i b c (Settled worker k) f e =
    let r = at_node_some b c k (settled i b k) e in
    let n = r.0 in
    let q = cond_some (not n.split && is_settled i n.cuts) (with_floor b.nodes k n (settled_floor i n.cuts)) r.2 r.3 in
    subst (λ (d : Book). Few i d.nodes) r.4 (subst (Few i) q.1 (few_floor i b.nodes k (settled_floor i n.cuts) n f r.1))

after_few : (i : Problem) (b c : Book) (posts : List Post) → Few i b.nodes → book_after i b posts ≡ Some c → Few i c.nodes
after_few i b c [] f e = let same : b ≡ c = cc in subst (λ (d : Book). Few i d.nodes) same f
after_few i b c (post ∷ posts) f e =
    let r = bind_some (λ next. book_after i next posts) (step i b post) c e in
    after_few i r.0 c posts (step_few i b r.0 post f r.1) r.2

light : (i : Problem) (nodes : List Node) → sum_by unsplit nodes ≤ sum_by (weight i) nodes
light i [] = omega arith
light i (n ∷ nodes) =
    let a : sum_by unsplit (n ∷ nodes) ≡ unsplit n + sum_by unsplit nodes = sum_by-cons unsplit n nodes in
    let b : sum_by (weight i) (n ∷ nodes) ≡ weight i n + sum_by (weight i) nodes = sum_by-cons (weight i) n nodes in
    let rest : sum_by unsplit nodes ≤ sum_by (weight i) nodes = light i nodes in
    let here : unsplit n ≤ weight i n = elim n.split as (λ b. cond b 0 1 ≤ cond b 0 (2 ^ span i n.cuts)) [ true ↦ omega arith | false ↦ pow_pos (span i n.cuts) ] in
    omega arith

-- the nodes of a book, and one more, are at most two to the power of the root's span and one
pub few_nodes : (i : Problem) (posts : List Post) (b : Book) → book_of i posts ≡ Some b → length b.nodes + 1 ≤ 2 * 2 ^ span i []
few_nodes i posts b e =
    let f = after_few i (opening i) b posts (record { within = omega arith; twice = refl }) e in
    let a = f.within in
    let c = f.twice in
    let d = light i b.nodes in
    omega arith

-- ---- nodes and posts

abbrev Fewer : List Node → ℕ → Type 0
Fewer nodes posts = length nodes ≤ 1 + 2 * posts

more_nodes : (i : Problem) (b c : Book) (post : Post) (n : ℕ) → Fewer b.nodes n → step i b post ≡ Some c → Fewer c.nodes (n + 1)
more_nodes i b c (Plan worker rows m) n f e =
    let r = cond_some (is_better i b rows m) (record b { best = rows; cost = m }) c e in
    subst (λ (d : Book). Fewer d.nodes (n + 1)) r.1 (omega (arith, f))
more_nodes i b c (Priced worker k prices) n f e =
    let r = at_node_some b c k (priced i b k prices) e in
    let m = r.0 in
    let q = cond_some (not m.split && are_prices i m.cuts prices) (with_floor b.nodes k m (max m.floor (bound_of i m.cuts prices))) r.2 r.3 in
    let l : length (with_floor b.nodes k m (max m.floor (bound_of i m.cuts prices))) ≡ length b.nodes = length-set b.nodes k (record m { floor = max m.floor (bound_of i m.cuts prices) }) in
    subst (λ (d : Book). Fewer d.nodes (n + 1)) r.4 (subst (λ (xs : List Node). Fewer xs (n + 1)) q.1 (omega (arith, f, l)))
more_nodes i b c (Split worker k class m) n f e =
    let r = at_node_some b c k (divided i b k class m) e in
    let x = r.0 in
    let q = cond_some (is_open b x && is_live_class i class && nat_le (low x.cuts class) m && nat_lt m (high i x.cuts class)) (with_split b.nodes k x class m) r.2 r.3 in
    let olds = set b.nodes k (record x { split = true }) in
    let left = child x class AtMost m in
    let right = child x class AtLeast (m + 1) in
    let l : length olds ≡ length b.nodes = length-set b.nodes k (record x { split = true }) in
    let a : length (olds ++ left ∷ right ∷ []) ≡ length olds + 2 = length-append olds (left ∷ right ∷ []) in
    subst (λ (d : Book). Fewer d.nodes (n + 1)) r.4 (subst (λ (xs : List Node). Fewer xs (n + 1)) q.1 (omega (arith, f, l, a)))
more_nodes i b c (Settled worker k) n f e =
    let r = at_node_some b c k (settled i b k) e in
    let m = r.0 in
    let q = cond_some (not m.split && is_settled i m.cuts) (with_floor b.nodes k m (settled_floor i m.cuts)) r.2 r.3 in
    let l : length (with_floor b.nodes k m (settled_floor i m.cuts)) ≡ length b.nodes = length-set b.nodes k (record m { floor = settled_floor i m.cuts }) in
    subst (λ (d : Book). Fewer d.nodes (n + 1)) r.4 (subst (λ (xs : List Node). Fewer xs (n + 1)) q.1 (omega (arith, f, l)))

nodes_after : (i : Problem) (b c : Book) (posts : List Post) (n : ℕ) → Fewer b.nodes n → book_after i b posts ≡ Some c → Fewer c.nodes (n + length posts)
nodes_after i b c [] n f e = let same : b ≡ c = cc in subst (λ (d : Book). Fewer d.nodes (n + 0)) same (omega (arith, f))
nodes_after i b c (post ∷ posts) n f e =
    let r = bind_some (λ next. book_after i next posts) (step i b post) c e in
    let all : Fewer c.nodes (n + 1 + length posts) = nodes_after i r.0 c posts (n + 1) (more_nodes i b r.0 post n f r.1) r.2 in
    omega (arith, all)

-- a book has at most one node and two for each post
pub nodes_by_posts : (i : Problem) (posts : List Post) (b : Book) → book_of i posts ≡ Some b → length b.nodes ≤ 1 + 2 * length posts
nodes_by_posts i posts b e =
    let all : Fewer b.nodes (0 + length posts) = nodes_after i (opening i) b posts 0 (omega arith) e in
    omega (arith, all)
