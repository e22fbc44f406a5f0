-- The nodes of a book have the cuts that its posts' splits make, also where further posts follow.
use Rattle.recovery.proofs.Common.{◌≡◌, ℕ, zero, suc, ◌+◌, ◌<◌, ◌≤◌, max, true, false, cond, ◌&&◌, not, List, [], ◌∷◌, ◌++◌, length, map, fold, set, refl, sym, ap, ◌∙◌, append_assoc, arith, nat_le, nat_lt, Option, Some, slice_get, option_map_or, and_parts, ltb-true, append-nil, length-map, map-append, fold-append, slice_get_within, Problem, IsValid, Cut, low, high, are_prices, bound_of, is_live_class, is_settled, Node, child, with_floor, with_split, settled_floor, Post, Plan, Priced, Settled, Split, Book, opening, is_open, priced, settled, is_better, step, book_after, book_of, cond_some, bind_some, at_node_some, cuts_at, nodes_after, nodes_of}
use Rattle.search_core.specs.Book.{divided as divided_nodes}
use Rattle.head_splits.specs.declared.Side.TheVariants.{AtMost, AtLeast}
use Rattle.head_splits.proofs.Splits.{high_most}
use Rattle.recovery.proofs.CutTrees.{get_front, there_divided}

-- ---- one post

abbrev cuts_of : Node → List Cut
cuts_of n = n.cuts

-- a write over a node that keeps its cuts
set_same : (nodes : List Node) (k : ℕ) (n y : Node) → slice_get nodes k ≡ Some n → y.cuts ≡ n.cuts → map cuts_of (set nodes k y) ≡ map cuts_of nodes
set_same [] k n y e c = refl
set_same (x ∷ nodes) zero n y e c =
    let same : x ≡ n = cc in
    ap (λ (cuts : List Cut). cuts ∷ map cuts_of nodes) (c ∙ ap cuts_of (sym same))
set_same (x ∷ nodes) (suc k) n y e c = ap (λ (l : List (List Cut)). x.cuts ∷ l) (set_same nodes k n y e c)

cuts_there : (nodes : List Node) (k : ℕ) (n : Node) → slice_get nodes k ≡ Some n → cuts_at (map cuts_of nodes) k ≡ n.cuts
cuts_there [] k n e = absurd (cc)
cuts_there (x ∷ nodes) zero n e = let same : x ≡ n = cc in ap cuts_of same
cuts_there (x ∷ nodes) (suc k) n e = cuts_there nodes k n e

step_cuts : (i : Problem) (b c : Book) (post : Post) → i.heads ≤ 200 → step i b post ≡ Some c → map cuts_of c.nodes ≡ nodes_after (map cuts_of b.nodes) post
step_cuts i b c (Plan worker rows n) few e =
    let r = cond_some (is_better i b rows n) (record b { best = rows; cost = n }) c e in
    ap (λ (d : Book). map cuts_of d.nodes) (sym r.1)
step_cuts i b c (Priced worker k prices) few e =
    let r = at_node_some b c k (priced i b k prices) e in
    let n = r.0 in
    let floor = max n.floor (bound_of i n.cuts prices) in
    let q = cond_some (not n.split && are_prices i n.cuts prices) (with_floor b.nodes k n floor) r.2 r.3 in
    ap (λ (d : Book). map cuts_of d.nodes) (sym r.4) ∙ ap (map cuts_of) (sym q.1) ∙ set_same b.nodes k n (record n { floor = floor }) r.1 refl
step_cuts i b c (Split worker k class m) few e =
    let r = at_node_some b c k (divided_nodes i b k class m) e in
    let n = r.0 in
    let at : slice_get b.nodes k ≡ Some n = r.1 in
    let q = cond_some (is_open b n && is_live_class i class && nat_le (low n.cuts class) m && nat_lt m (high i n.cuts class)) (with_split b.nodes k n class m) r.2 r.3 in
    let p3 = and_parts (is_open b n && is_live_class i class && nat_le (low n.cuts class) m) (nat_lt m (high i n.cuts class)) q.0 in
    let below : m < high i n.cuts class = ltb-true _ _ p3.1 in
    let most : high i n.cuts class ≤ i.heads = high_most n.cuts class i.heads in
    let old : Node = record n { split = true } in
    let parts : List Node = child n class AtMost m ∷ child n class AtLeast (m + 1) ∷ [] in
    let there : k < length (map cuts_of b.nodes) = omega (arith, slice_get_within b.nodes k n at, length-map b.nodes cuts_of) in
    ap (λ (d : Book). map cuts_of d.nodes) (sym r.4)
    ∙ ap (map cuts_of) (sym q.1)
    ∙ map-append cuts_of (set b.nodes k old) parts
    ∙ ap (λ (l : List (List Cut)). l ++ map cuts_of parts) (set_same b.nodes k n old at refl)
    ∙ ap (λ (cuts : List Cut). map cuts_of b.nodes ++ (cuts ++ record { class = class; side = AtMost; m = m } ∷ []) ∷ (cuts ++ record { class = class; side = AtLeast; m = m + 1 } ∷ []) ∷ []) (sym (cuts_there b.nodes k n at))
    ∙ sym (there_divided (map cuts_of b.nodes) k class m there (omega (arith, below, most, few)))
step_cuts i b c (Settled worker k) few e =
    let r = at_node_some b c k (settled i b k) e in
    let n = r.0 in
    let q = cond_some (not n.split && is_settled i n.cuts) (with_floor b.nodes k n (settled_floor i n.cuts)) r.2 r.3 in
    ap (λ (d : Book). map cuts_of d.nodes) (sym r.4) ∙ ap (map cuts_of) (sym q.1) ∙ set_same b.nodes k n (record n { floor = settled_floor i n.cuts }) r.1 refl

-- ---- posts in order

after_cuts : (i : Problem) (b c : Book) (posts : List Post) → i.heads ≤ 200 → book_after i b posts ≡ Some c → map cuts_of c.nodes ≡ fold nodes_after (map cuts_of b.nodes) posts
after_cuts i b c [] few e = let same : b ≡ c = cc in ap (λ (d : Book). map cuts_of d.nodes) (sym same)
after_cuts i b c (post ∷ posts) few e =
    let r = bind_some (λ next. book_after i next posts) (step i b post) c e in
    after_cuts i r.0 c posts few r.2 ∙ ap (λ (l : List (List Cut)). fold nodes_after l posts) (step_cuts i b r.0 post few r.1)

book_cuts : (i : Problem) (b : Book) (posts : List Post) → i.heads ≤ 200 → book_of i posts ≡ Some b → map cuts_of b.nodes ≡ nodes_of posts
book_cuts i b posts few e = after_cuts i (opening i) b posts few e

-- ---- further posts

one_more : (nodes : List (List Cut)) (post : Post) → (r : List (List Cut)) × (nodes_after nodes post ≡ nodes ++ r)
one_more nodes (Plan worker rows c) = ([], sym (append-nil nodes))
one_more nodes (Priced worker k prices) = ([], sym (append-nil nodes))
one_more nodes (Split worker k class m) =
    let parts : List (List Cut) = (cuts_at nodes k ++ record { class = class; side = AtMost; m = m } ∷ []) ∷ (cuts_at nodes k ++ record { class = class; side = AtLeast; m = m + 1 } ∷ []) ∷ [] in
    elim (nat_lt k (length nodes) && nat_lt m 65535) as (λ b. (r : List (List Cut)) × (cond b (nodes ++ parts) nodes ≡ nodes ++ r)) [
      | true ↦ (parts, refl)
      | false ↦ ([], sym (append-nil nodes))
    ]
one_more nodes (Settled worker k) = ([], sym (append-nil nodes))

grown : (nodes : List (List Cut)) (posts : List Post) → (r : List (List Cut)) × (fold nodes_after nodes posts ≡ nodes ++ r)
grown nodes [] = ([], sym (append-nil nodes))
grown nodes (post ∷ posts) =
    let a = one_more nodes post in
    let g = grown (nodes_after nodes post) posts in
    (a.0 ++ g.0, g.1 ∙ ap (λ (l : List (List Cut)). l ++ g.0) a.1 ∙ append_assoc nodes a.0 g.0)

-- the cuts of a node of a book are those that the splits of its posts make, also where others follow
pub cuts_known : (i : Problem) (b : Book) (posts rest : List Post) (k : ℕ) (n : Node) → IsValid i → book_of i posts ≡ Some b → slice_get b.nodes k ≡ Some n → cuts_at (nodes_of (posts ++ rest)) k ≡ n.cuts
cuts_known i b posts rest k n valid e at =
    let here : map cuts_of b.nodes ≡ nodes_of posts = book_cuts i b posts valid.heads e in
    let g = grown (nodes_of posts) rest in
    let within : k < length (nodes_of posts) = omega (arith, slice_get_within b.nodes k n at, length-map b.nodes cuts_of, ap length here) in
    let all : nodes_of (posts ++ rest) ≡ nodes_of posts ++ g.0 = fold-append nodes_after ([] ∷ []) posts rest ∙ g.1 in
    ap (λ (l : List (List Cut)). cuts_at l k) all
    ∙ ap (λ (o : Option (List Cut)). option_map_or (λ cuts. cuts) o []) (get_front (nodes_of posts) g.0 k within)
    ∙ ap (λ (l : List (List Cut)). cuts_at l k) (sym here)
    ∙ cuts_there b.nodes k n at
