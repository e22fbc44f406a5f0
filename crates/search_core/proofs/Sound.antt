-- Where a fold is defined, the book is sound.
use Rattle.search_core.proofs.Common.{◌≡◌, ℕ, max, Bool, true, false, cond, ◌&&◌, ◌==◌, not, List, [], ◌∷◌, refl, subst, nat_le, nat_lt, Option, Some, None, slice_get, option_and_then, and_parts, eqb-true, not-true, Problem, cost, rota_of, are_legal_rows, low, high, are_prices, bound_of, is_live_class, is_settled, Post, Plan, Priced, Split, Settled, Node, with_floor, with_split, settled_floor, NodesSound, root_sound, priced_sound, settled_sound, split_sound, nodes_are, Book, is_open, opening, priced, divided, settled, at_node, is_better, step, book_after, book_of, IsSound}

-- ---- what a step that is allowed says

pub cond_some : {X : Type 0} (c : Bool) (x y : X) → cond c (Some x) None ≡ Some y → (c ≡ true) × (x ≡ y)
cond_some true x y e = let same : x ≡ y = cc in (refl, same)
cond_some false x y e = absurd (cc)

pub bind_some : {X Y : Type 0} (f : X → Option Y) (o : Option X) (y : Y) → option_and_then f o ≡ Some y → (x : X) × (o ≡ Some x) × (f x ≡ Some y)
bind_some f None y e = absurd (cc)
bind_some f (Some x) y e = (x, refl, e)

-- the node at k, its new list of nodes, and the book with them
pub at_node_some : (b c : Book) (k : ℕ) (f : Node → Option (List Node)) → at_node b k f ≡ Some c → (n : Node) × (slice_get b.nodes k ≡ Some n) × (nodes : List Node) × (f n ≡ Some nodes) × (record b { nodes = nodes } ≡ c)
at_node_some b c k f e =
    let r = bind_some (λ (nodes : List Node). Some (record b { nodes = nodes })) (option_and_then f (slice_get b.nodes k)) c e in
    let s = bind_some f (slice_get b.nodes k) r.0 r.1 in
    let same : record b { nodes = r.0 } ≡ c = cc (r.2) in
    (s.0, s.1, r.0, s.2, same)

-- ---- soundness, by membership

pub record Sound (i : Problem) (b : Book) : Type 0 where
  pub legal : are_legal_rows i b.best ≡ true
  pub exact : cost i (rota_of b.best) ≡ b.cost
  pub nodes : NodesSound i [] b.nodes

opening_sound : (i : Problem) → Sound i (opening i)
opening_sound i = record { legal = refl; exact = refl; nodes = root_sound i [] }

-- each step that is allowed keeps a book sound
step_sound : (i : Problem) (b c : Book) (post : Post) → Sound i b → step i b post ≡ Some c → Sound i c
step_sound i b c (Plan worker rows n) s e =
    let r = cond_some (is_better i b rows n) (record b { best = rows; cost = n }) c e in
    let p2 = and_parts (are_legal_rows i rows && (cost i (rota_of rows) == n)) (nat_lt n b.cost) r.0 in
    let p1 = and_parts (are_legal_rows i rows) (cost i (rota_of rows) == n) p2.0 in
    subst (Sound i) r.1 (record { legal = p1.0; exact = eqb-true _ _ p1.1; nodes = s.nodes })
step_sound i b c (Priced worker k prices) s e =
    let r = at_node_some b c k (priced i b k prices) e in
    let n = r.0 in
    let q = cond_some (not n.split && are_prices i n.cuts prices) (with_floor b.nodes k n (max n.floor (bound_of i n.cuts prices))) r.2 r.3 in
    let p = and_parts (not n.split) (are_prices i n.cuts prices) q.0 in
    subst (Sound i) r.4 (record { legal = s.legal; exact = s.exact; nodes = subst (NodesSound i []) q.1 (priced_sound i [] b.nodes k n prices s.nodes r.1 (not-true n.split p.0) p.1) })
step_sound i b c (Split worker k class m) s e =
    let r = at_node_some b c k (divided i b k class m) e in
    let n = r.0 in
    let q = cond_some (is_open b n && is_live_class i class && nat_le (low n.cuts class) m && nat_lt m (high i n.cuts class)) (with_split b.nodes k n class m) r.2 r.3 in
    subst (Sound i) r.4 (record { legal = s.legal; exact = s.exact; nodes = subst (NodesSound i []) q.1 (split_sound i [] b.nodes k class m n s.nodes r.1) })
step_sound i b c (Settled worker k) s e =
    let r = at_node_some b c k (settled i b k) e in
    let n = r.0 in
    let q = cond_some (not n.split && is_settled i n.cuts) (with_floor b.nodes k n (settled_floor i n.cuts)) r.2 r.3 in
    let p = and_parts (not n.split) (is_settled i n.cuts) q.0 in
    subst (Sound i) r.4 (record { legal = s.legal; exact = s.exact; nodes = subst (NodesSound i []) q.1 (settled_sound i [] b.nodes k n s.nodes r.1 (not-true n.split p.0) p.1) })

pub after_sound : (i : Problem) (b c : Book) (posts : List Post) → Sound i b → book_after i b posts ≡ Some c → Sound i c
after_sound i b c [] s e = let same : b ≡ c = cc in subst (Sound i) same s
after_sound i b c (post ∷ posts) s e =
    let r = bind_some (λ next. book_after i next posts) (step i b post) c e in
    after_sound i r.0 c posts (step_sound i b r.0 post s r.1) r.2

-- the form of specs
pub sound_is : (i : Problem) (b : Book) → Sound i b → IsSound i b
sound_is i b s = record { legal = s.legal; exact = s.exact; nodes = nodes_are i [] b.nodes s.nodes }

-- where a fold is defined, the book is sound
pub fold_sound : (i : Problem) (posts : List Post) (b : Book) → book_of i posts ≡ Some b → IsSound i b
fold_sound i posts b e = sound_is i b (after_sound i (opening i) b posts (opening_sound i) e)
