-- An outline follows the posts: after each post that is allowed it is that of the new book.
use Rattle.search_core.proofs.Common.{◌≡◌, inl, inr, ℕ, zero, suc, ◌+◌, ◌-◌, ◌*◌, ◌/◌, ◌%◌, ◌<◌, ◌≤◌, max, Bool, true, false, ◌&&◌, ◌==◌, not, List, [], ◌∷◌, ◌++◌, length, get_or, map, set, refl, sym, ap, ◌∙◌, subst, arith, nat_le, nat_lt, Option, Some, None, slice_get, IsSome, IsSomeAnd, option_map_or, option_and_then, and_parts, cases_lt, ltb-true, not-true, length-append, length-set, map-set, map-append, slice_get_within, slice_get-map, get_or_from_slice_get, Row, Problem, cost, rota_of, IsValid, Class, AtMost, AtLeast, Cut, low, high, high_most, are_prices, bound_of, is_live_class, is_settled, Node, child, with_floor, with_split, settled_floor, Post, Plan, Priced, Split, Settled, NodeState, Book, opening, is_open, priced, divided, settled, is_better, step, book_after, book_of, rows_in, part_of, best_of, cuts_in, IsPart, IsKept, OutlineView, unsplit_node, split_node, acted, StateView, state_of, number_at, value_of, book_or_opening}
use Rattle.search_core.specs.Outline.{floor_at}
use Rattle.search_core.proofs.Sound.{cond_some, bind_some, at_node_some}
use Rattle.search_core.proofs.Runs.{book_after-append, slice_get_front}

-- ---- the book of one post more

pub book_is : (i : Problem) (posts : List Post) (b : Book) → book_of i posts ≡ Some b → book_or_opening i posts ≡ b
unfolding book_or_opening
book_is i posts b e = ap (λ (o : Option Book). option_map_or (λ (b : Book). b) o (opening i)) e

pub book_more : (i : Problem) (posts : List Post) (post : Post) (b c : Book) → book_of i posts ≡ Some b → step i b post ≡ Some c → book_of i (posts ++ post ∷ []) ≡ Some c
book_more i posts post b c e s =
    book_after-append i (opening i) posts (post ∷ [])
    ∙ ap (option_and_then (λ (c : Book). book_after i c (post ∷ []))) e
    ∙ ap (option_and_then (λ (next : Book). book_after i next [])) s

-- ---- lists

last_is : {X : Type 0} (xs : List X) (x : X) → slice_get (xs ++ x ∷ []) (length xs) ≡ Some x
last_is [] x = refl
last_is (y ∷ xs) x = last_is xs x

first_new : {X : Type 0} (xs : List X) (x y : X) → slice_get (xs ++ x ∷ y ∷ []) (length xs) ≡ Some x
first_new [] x y = refl
first_new (z ∷ xs) x y = first_new xs x y

second_new : {X : Type 0} (xs : List X) (x y : X) → slice_get (xs ++ x ∷ y ∷ []) (suc (length xs)) ≡ Some y
second_new [] x y = refl
second_new (z ∷ xs) x y = second_new xs x y

get_front : {X : Type 0} (xs ys : List X) (k : ℕ) → k < length xs → slice_get (xs ++ ys) k ≡ slice_get xs k
get_front [] ys k h = absurd (omega arith)
get_front (x ∷ xs) ys zero h = refl
get_front (x ∷ xs) ys (suc k) h = get_front xs ys k (omega arith)

-- a node that is written over with one of the same cuts
cuts_in_set : (xs : List Node) (k : ℕ) (n y : Node) → slice_get xs k ≡ Some n → y.cuts ≡ n.cuts → (x : ℕ) → cuts_in (set xs k y) x ≡ cuts_in xs x
cuts_in_set [] k n y e c x = refl
cuts_in_set (z ∷ xs) zero n y e c zero = let same : z ≡ n = cc in c ∙ ap (λ (m : Node). m.cuts) (sym same)
cuts_in_set (z ∷ xs) zero n y e c (suc x) = refl
cuts_in_set (z ∷ xs) (suc k) n y e c zero = refl
cuts_in_set (z ∷ xs) (suc k) n y e c (suc x) = cuts_in_set xs k n y e c x

cuts_in_front : (xs ys : List Node) (x : ℕ) → x < length xs → cuts_in (xs ++ ys) x ≡ cuts_in xs x
cuts_in_front xs ys x h = ap (λ (o : Option Node). option_map_or (λ (n : Node). n.cuts) o []) (get_front xs ys x h)

-- ---- parts

-- a part stays one with more posts, more splits, and nodes of the same cuts
part_stays : (history more : List Post) (splits later : List ℕ) (old new : List Node) (k : ℕ) → k < length old → ((x : ℕ) → x < length old → cuts_in new x ≡ cuts_in old x) → IsPart history splits old k → IsPart (history ++ more) (splits ++ later) new k
part_stays history more splits later old new k within same p =
    let r = bind_some (part_of (k % 2 == 1)) (slice_get history p.at) p.part p.split in
    record {
      at = p.at;
      part = p.part;
      place = slice_get_front splits later ((k - 1) / 2) p.at p.place;
      split = ap (option_and_then (part_of (k % 2 == 1))) (slice_get_front history more p.at r.0 r.1) ∙ r.2;
      older = p.older;
      small = p.small;
      cuts = same k within ∙ p.cuts ∙ ap (λ (cuts : List Cut). cuts ++ p.part.1 ∷ []) (sym (same p.part.0 (let o = p.older in omega arith)));
    }

append_none : (xs : List ℕ) → xs ++ [] ≡ xs
append_none [] = refl
append_none (x ∷ xs) = ap (λ (ys : List ℕ). x ∷ ys) (append_none xs)

-- the same with no split more
part_kept : (history more : List Post) (splits : List ℕ) (old new : List Node) (k : ℕ) → k < length old → ((x : ℕ) → x < length old → cuts_in new x ≡ cuts_in old x) → IsPart history splits old k → IsPart (history ++ more) splits new k
part_kept history more splits old new k within same p =
    subst (λ (xs : List ℕ). IsPart (history ++ more) xs new k) (append_none splits) (part_stays history more splits [] old new k within same p)

-- ---- the opening book

pub opened : (i : Problem) (none : List Row) (c : ℕ) → IsValid i → none ≡ [] → c ≡ cost i [] → IsKept i [] none (record { nodes = unsplit_node 0 ∷ []; splits = []; best_at = None; cost = c; spare = 0 }) (opening i)
opened i none c valid e same = record {
  valid = valid;
  folds = refl;
  empty = e;
  best = ap (λ (rows : List Row). Some rows) e;
  cost = same;
  nodes = refl;
  root = refl;
  count = refl;
  parts = λ k p q. absurd (omega arith);
}

-- ---- a better plan

plan_kept : (i : Problem) (history : List Post) (none rows : List Row) (o : OutlineView) (b c : Book) (worker n value : ℕ) → IsKept i history none o b → step i b (Plan worker rows n) ≡ Some c → value ≡ n
    → IsKept i (history ++ Plan worker rows n ∷ []) none (acted o (Plan worker rows n) value (length history)) c
plan_kept i history none rows o b c worker n value s e v =
    let post : Post = Plan worker rows n in
    let r = cond_some (is_better i b rows n) (record b { best = rows; cost = n }) c e in
    subst (IsKept i (history ++ post ∷ []) none (acted o post value (length history))) r.1 (record {
      valid = s.valid;
      folds = book_more i history post b c s.folds e ∙ ap (λ (b : Book). Some b) (sym r.1);
      empty = s.empty;
      best = ap (option_and_then rows_in) (last_is history post);
      cost = v;
      nodes = s.nodes;
      root = s.root;
      count = s.count;
      parts = λ k p q. part_kept history (post ∷ []) o.splits b.nodes b.nodes k q (λ x h. refl) (s.parts k p q);
    })

-- ---- an unsplit node's new floor

best_more : (history more : List Post) (none rows : List Row) (at : Option ℕ) → best_of history none at ≡ Some rows → best_of (history ++ more) none at ≡ Some rows
best_more history more none rows None e = e
best_more history more none rows (Some at) e =
    let r = bind_some rows_in (slice_get history at) rows e in ap (option_and_then rows_in) (slice_get_front history more at r.0 r.1) ∙ r.2

floored : (i : Problem) (history : List Post) (none : List Row) (o : OutlineView) (b : Book) (post : Post) (k floor : ℕ) (n : Node) → IsKept i history none o b → slice_get b.nodes k ≡ Some n → n.split ≡ false
    → step i b post ≡ Some (record b { nodes = with_floor b.nodes k n floor })
    → IsKept i (history ++ post ∷ []) none (record o { nodes = set o.nodes k (unsplit_node floor); spare = o.spare - 1 }) (record b { nodes = with_floor b.nodes k n floor })
floored i history none o b post k floor n s at unsplit e =
    let new : Node = record n { floor = floor } in
    let same : (x : ℕ) → cuts_in (set b.nodes k new) x ≡ cuts_in b.nodes x = cuts_in_set b.nodes k n new at refl in
    let state : state_of new ≡ unsplit_node floor = ap (λ (b : Bool). record { floor = floor; split = b }) unsplit in
    let many : length (set b.nodes k new) ≡ length b.nodes = length-set b.nodes k new in
    record {
      valid = s.valid;
      folds = book_more i history post b (record b { nodes = with_floor b.nodes k n floor }) s.folds e;
      empty = s.empty;
      best = best_more history (post ∷ []) none b.best o.best_at s.best;
      cost = s.cost;
      nodes = ap (λ (xs : List NodeState). set xs k (unsplit_node floor)) s.nodes ∙ ap (set (map state_of b.nodes) k) (sym state) ∙ sym (map-set state_of b.nodes k new);
      root = same 0 ∙ s.root;
      count = many ∙ s.count;
      parts = λ x p q.
          let h : x < length b.nodes = subst (λ m. x < m) many q in
          part_kept history (post ∷ []) o.splits b.nodes (set b.nodes k new) x h (λ y g. same y) (s.parts x p h);
    }

-- a number of the node that is there
number_there : (b : Book) (k : ℕ) (n : Node) (f : Node → ℕ) → slice_get b.nodes k ≡ Some n → number_at b k f ≡ f n
number_there b k n f at = ap (λ (o : Option Node). option_map_or f o 0) at

floor_there : (o : OutlineView) (b : Book) (k : ℕ) (n : Node) → o.nodes ≡ map state_of b.nodes → slice_get b.nodes k ≡ Some n → floor_at o.nodes k ≡ n.floor
floor_there o b k n e at =
    let f : Option NodeState → ℕ = λ m. option_map_or (λ (x : NodeState). x.floor) m 0 in
    let got : slice_get (map state_of b.nodes) k ≡ Some (state_of n) = slice_get-map state_of b.nodes k ∙ ap (λ (m : Option Node). option_and_then (λ (x : Node). Some (state_of x)) m) at in
    ap (λ (xs : List NodeState). f (slice_get xs k)) e ∙ ap f got

floor_kept : (i : Problem) (history : List Post) (none : List Row) (o : OutlineView) (b c : Book) (post : Post) (k value : ℕ) → IsKept i history none o b → step i b post ≡ Some c
    → (n : Node) → slice_get b.nodes k ≡ Some n → n.split ≡ false → (floor : ℕ) → floor ≡ value → record b { nodes = with_floor b.nodes k n floor } ≡ c
    → IsKept i (history ++ post ∷ []) none (record o { nodes = set o.nodes k (unsplit_node value); spare = o.spare - 1 }) c
floor_kept i history none o b c post k value s e n at unsplit floor same r =
    let moved : IsKept i (history ++ post ∷ []) none (record o { nodes = set o.nodes k (unsplit_node floor); spare = o.spare - 1 }) (record b { nodes = with_floor b.nodes k n floor }) =
    floored i history none o b post k floor n s at unsplit (e ∙ ap (λ (b : Book). Some b) (sym r)) in
    subst (λ m. IsKept i (history ++ post ∷ []) none (record o { nodes = set o.nodes k (unsplit_node m); spare = o.spare - 1 }) c) same (subst (IsKept i (history ++ post ∷ []) none (record o { nodes = set o.nodes k (unsplit_node floor); spare = o.spare - 1 })) r moved)

-- ---- a split

-- places of the two parts of a split
odd_place : (s : ℕ) → (((1 + 2 * s) - 1) / 2 ≡ s) × (((1 + 2 * s) % 2 == 1) ≡ true)
odd_place s = (omega arith, ap (λ r. r == 1) (let e : (1 + 2 * s) % 2 ≡ 1 = omega arith in e))

even_place : (s : ℕ) → (((2 + 2 * s) - 1) / 2 ≡ s) × (((2 + 2 * s) % 2 == 1) ≡ false)
even_place s = (omega arith, ap (λ r. r == 1) (let e : (2 + 2 * s) % 2 ≡ 0 = omega arith in e))

split_kept : (i : Problem) (history : List Post) (none : List Row) (o : OutlineView) (b c : Book) (worker k m value : ℕ) (class : Class) → IsKept i history none o b → step i b (Split worker k class m) ≡ Some c → value ≡ value_of i b (Split worker k class m)
    → IsKept i (history ++ Split worker k class m ∷ []) none (acted o (Split worker k class m) value (length history)) c
split_kept i history none o b c worker k m value class s e v =
    let post : Post = Split worker k class m in
    let r = at_node_some b c k (divided i b k class m) e in
    let n = r.0 in
    let at : slice_get b.nodes k ≡ Some n = r.1 in
    let q = cond_some (is_open b n && is_live_class i class && nat_le (low n.cuts class) m && nat_lt m (high i n.cuts class)) (with_split b.nodes k n class m) r.2 r.3 in
    let p3 = and_parts (is_open b n && is_live_class i class && nat_le (low n.cuts class) m) (nat_lt m (high i n.cuts class)) q.0 in
    let below : m < high i n.cuts class = ltb-true _ _ p3.1 in
    let few : high i n.cuts class ≤ i.heads = high_most n.cuts class i.heads in
    let heads : i.heads ≤ 200 = s.valid.heads in
    let is : record b { nodes = with_split b.nodes k n class m } ≡ c = ap (λ (nodes : List Node). record b { nodes = nodes }) q.1 ∙ r.4 in
    let worth : value ≡ n.floor = v ∙ number_there b k n (λ (n : Node). n.floor) at in
    let old : Node = record n { split = true } in
    let left = child n class AtMost m in
    let right = child n class AtLeast (m + 1) in
    let olds = set b.nodes k old in
    let news = olds ++ left ∷ right ∷ [] in
    let splits = o.splits ++ length history ∷ [] in
    let many : length olds ≡ length b.nodes = length-set b.nodes k old in
    let all : length news ≡ length olds + 2 = length-append olds (left ∷ right ∷ []) in
    let more : length splits ≡ length o.splits + 1 = length-append o.splits (length history ∷ []) in
    let count = s.count in
    let there : k < length b.nodes = slice_get_within b.nodes k n at in
    let same : (x : ℕ) → x < length b.nodes → cuts_in news x ≡ cuts_in b.nodes x = λ x h. cuts_in_front olds (left ∷ right ∷ []) x (subst (λ l. x < l) (sym many) h) ∙ cuts_in_set b.nodes k n old at refl x in
    let above : cuts_in news k ≡ n.cuts = same k there ∙ ap (λ (o : Option Node). option_map_or (λ (n : Node). n.cuts) o []) at in
    subst (IsKept i (history ++ post ∷ []) none (acted o post value (length history))) is (record {
      valid = s.valid;
      folds = book_more i history post b c s.folds e ∙ ap (λ (b : Book). Some b) (sym is);
      empty = s.empty;
      best = best_more history (post ∷ []) none b.best o.best_at s.best;
      cost = s.cost;
      nodes = split_states o b k n class m value s.nodes worth;
      root = same 0 (omega arith) ∙ s.root;
      count = omega arith;
      parts = λ x p h.
          elim (cases_lt x (length b.nodes)) [
            | inl older ↦ part_stays history (post ∷ []) o.splits (length history ∷ []) b.nodes news x older same (s.parts x p older)
            | inr newer ↦ elim (cases_lt x (suc (length b.nodes))) [
              | inl first ↦
                  let e : x ≡ 1 + 2 * length o.splits = omega arith in
                  subst (IsPart (history ++ post ∷ []) splits news) (sym e) (record {
                    at = length history;
                    part = (k, record { class = class; side = AtMost; m = m });
                    place = ap (slice_get splits) (odd_place (length o.splits)).0 ∙ last_is o.splits (length history);
                    split = ap (option_and_then (part_of ((1 + 2 * length o.splits) % 2 == 1))) (last_is history post) ∙ ap (λ (first : Bool). part_of first post) (odd_place (length o.splits)).1;
                    older = omega arith;
                    small = omega arith;
                    cuts =
                        ap (λ (o : Option Node). option_map_or (λ (n : Node). n.cuts) o []) (ap (slice_get news) (let f : 1 + 2 * length o.splits ≡ length olds = omega arith in f) ∙ first_new olds left right)
                        ∙ ap (λ (cuts : List Cut). cuts ++ record { class = class; side = AtMost; m = m } ∷ []) (sym above);
                  })
              | inr second ↦
                  let e : x ≡ 2 + 2 * length o.splits = omega arith in
                  subst (IsPart (history ++ post ∷ []) splits news) (sym e) (record {
                    at = length history;
                    part = (k, record { class = class; side = AtLeast; m = m + 1 });
                    place = ap (slice_get splits) (even_place (length o.splits)).0 ∙ last_is o.splits (length history);
                    split = ap (option_and_then (part_of ((2 + 2 * length o.splits) % 2 == 1))) (last_is history post) ∙ ap (λ (first : Bool). part_of first post) (even_place (length o.splits)).1;
                    older = omega arith;
                    small = omega arith;
                    cuts =
                        ap (λ (o : Option Node). option_map_or (λ (n : Node). n.cuts) o []) (ap (slice_get news) (let f : 2 + 2 * length o.splits ≡ suc (length olds) = omega arith in f) ∙ second_new olds left right)
                        ∙ ap (λ (cuts : List Cut). cuts ++ record { class = class; side = AtLeast; m = m + 1 } ∷ []) (sym above);
                  })
            ]
          ];
    })
  where
    split_states : (o : OutlineView) (b : Book) (k : ℕ) (n : Node) (class : Class) (m value : ℕ) → o.nodes ≡ map state_of b.nodes → value ≡ n.floor
        → set o.nodes k (split_node value) ++ unsplit_node value ∷ unsplit_node value ∷ [] ≡ map state_of (with_split b.nodes k n class m)
    split_states o b k n class m value e v =
        ap (λ f. set o.nodes k (split_node f) ++ unsplit_node f ∷ unsplit_node f ∷ []) v
        ∙ ap (λ (xs : List NodeState). set xs k (split_node n.floor) ++ unsplit_node n.floor ∷ unsplit_node n.floor ∷ []) e
        ∙ ap (λ (xs : List NodeState). xs ++ unsplit_node n.floor ∷ unsplit_node n.floor ∷ []) (sym (map-set state_of b.nodes k (record n { split = true })))
        ∙ sym (map-append state_of (set b.nodes k (record n { split = true })) (child n class AtMost m ∷ child n class AtLeast (m + 1) ∷ []))

-- ---- any post

pub kept_more : (i : Problem) (history : List Post) (none : List Row) (o : OutlineView) (b c : Book) (post : Post) (value : ℕ) → IsKept i history none o b → step i b post ≡ Some c → value ≡ value_of i b post
    → IsKept i (history ++ post ∷ []) none (acted o post value (length history)) c
kept_more i history none o b c (Plan worker rows n) value s e v = plan_kept i history none rows o b c worker n value s e v
kept_more i history none o b c (Priced worker k prices) value s e v =
    let r = at_node_some b c k (priced i b k prices) e in
    let n = r.0 in
    let q = cond_some (not n.split && are_prices i n.cuts prices) (with_floor b.nodes k n (max n.floor (bound_of i n.cuts prices))) r.2 r.3 in
    let p = and_parts (not n.split) (are_prices i n.cuts prices) q.0 in
    let worth : value ≡ bound_of i n.cuts prices = v ∙ number_there b k n (λ (n : Node). bound_of i n.cuts prices) r.1 in
    let floor : max n.floor (bound_of i n.cuts prices) ≡ max (floor_at o.nodes k) value = ap (λ f. max f (bound_of i n.cuts prices)) (sym (floor_there o b k n s.nodes r.1)) ∙ ap (max (floor_at o.nodes k)) (sym worth) in
    floor_kept i history none o b c (Priced worker k prices) k (max (floor_at o.nodes k) value) s e n r.1 (not-true n.split p.0) (max n.floor (bound_of i n.cuts prices)) floor
    (ap (λ (nodes : List Node). record b { nodes = nodes }) q.1 ∙ r.4)
kept_more i history none o b c (Split worker k class m) value s e v = split_kept i history none o b c worker k m value class s e v
kept_more i history none o b c (Settled worker k) value s e v =
    let r = at_node_some b c k (settled i b k) e in
    let n = r.0 in
    let q = cond_some (not n.split && is_settled i n.cuts) (with_floor b.nodes k n (settled_floor i n.cuts)) r.2 r.3 in
    let p = and_parts (not n.split) (is_settled i n.cuts) q.0 in
    let worth : value ≡ settled_floor i n.cuts = v ∙ number_there b k n (λ (n : Node). settled_floor i n.cuts) r.1 in
    floor_kept i history none o b c (Settled worker k) k value s e n r.1 (not-true n.split p.0) (settled_floor i n.cuts) (sym worth)
    (ap (λ (nodes : List Node). record b { nodes = nodes }) q.1 ∙ r.4)

some_there : {X : Type 0} (o : Option X) → IsSome o → (x : X) × (o ≡ Some x)
some_there None h = absurd (cc)
some_there (Some x) h = (x, refl)

-- what an append makes of a kept outline
pub appended : (i : Problem) (history posts : List Post) (none : List Row) (o new : OutlineView) (post : Post) (value at : ℕ) → IsKept i history none o (book_or_opening i history)
    → IsSome (step i (book_or_opening i history) post) → value ≡ value_of i (book_or_opening i history) post → at ≡ length history → new ≡ acted o post value at → posts ≡ history ++ post ∷ []
    → IsKept i posts none new (book_or_opening i posts) × (step i (book_or_opening i history) post ≡ Some (book_or_opening i posts))
appended i history posts none o new post value at s allowed worth place acts is =
    let r = some_there (step i (book_or_opening i history) post) allowed in
    let k = kept_more i history none o (book_or_opening i history) r.0 post value s r.1 worth in
    let same : book_or_opening i (history ++ post ∷ []) ≡ r.0 = book_is i (history ++ post ∷ []) r.0 k.folds in
    let acting : acted o post value (length history) ≡ new = ap (acted o post value) (sym place) ∙ sym acts in
    let kept : IsKept i (history ++ post ∷ []) none new (book_or_opening i (history ++ post ∷ [])) = subst (IsKept i (history ++ post ∷ []) none new) (sym same) (subst (λ (o : OutlineView). IsKept i (history ++ post ∷ []) none o r.0) acting k) in (
      subst (λ (h : List Post). IsKept i h none new (book_or_opening i h)) (sym is) kept,
      r.1 ∙ ap (λ (b : Book). Some b) (sym same) ∙ ap (λ (h : List Post). Some (book_or_opening i h)) (sym is),
    )

pub spare_less : (o : OutlineView) (post : Post) (value at : ℕ) → (acted o post value at).spare ≡ o.spare - 1
spare_less o (Plan worker rows c) value at = refl
spare_less o (Priced worker k prices) value at = refl
spare_less o (Split worker k class m) value at = refl
spare_less o (Settled worker k) value at = refl

-- the opening book, as a state begins
pub opening_kept : (i : Problem) (history : List Post) (none : List Row) (o : OutlineView) (c : ℕ) → IsValid i → history ≡ [] → none ≡ [] → c ≡ cost i (rota_of none)
    → o ≡ record { nodes = unsplit_node 0 ∷ []; splits = []; best_at = None; cost = c; spare = 0 } → IsKept i history none o (book_or_opening i history)
opening_kept i history none o c valid empty no_rows worth is =
    let same : book_or_opening i [] ≡ opening i = book_is i [] (opening i) refl in
    let at : c ≡ cost i [] = worth ∙ ap (λ (rows : List Row). cost i (rota_of rows)) no_rows in
    let kept : IsKept i [] none o (opening i) = subst (λ (o : OutlineView). IsKept i [] none o (opening i)) (sym is) (opened i none c valid no_rows at) in
    subst (λ (h : List Post). IsKept i h none o (book_or_opening i h)) (sym empty) (subst (IsKept i [] none o) (sym same) kept)

-- ---- parts, as they are read

-- the part that a post made, with its place
pub record MadePart (nodes : List Node) (k : ℕ) (post : Post) : Type 0 where
  pub part : ℕ × Cut
  pub split : part_of (k % 2 == 1) post ≡ Some part
  pub older : part.0 < k
  pub small : part.1.m < 65536
  pub cuts : cuts_in nodes k ≡ cuts_in nodes part.0 ++ part.1 ∷ []

pub place_there : (i : Problem) (history : List Post) (none : List Row) (o : OutlineView) (b : Book) (k : ℕ) (splits : List ℕ) → IsKept i history none o b → 0 < k → k < length b.nodes → splits ≡ o.splits → get_or splits ((k - 1) / 2) 0 < length history
place_there i history none o b k splits s low high e =
    let p = s.parts k low high in
    let r = bind_some (part_of (k % 2 == 1)) (slice_get history p.at) p.part p.split in
    let is : get_or splits ((k - 1) / 2) 0 ≡ p.at = ap (λ (xs : List ℕ). get_or xs ((k - 1) / 2) 0) e ∙ get_or_from_slice_get o.splits ((k - 1) / 2) p.at 0 p.place in
    subst (λ at. at < length history) (sym is) (slice_get_within history p.at r.0 r.1)

pub made_part : (i : Problem) (history : List Post) (none : List Row) (o : OutlineView) (b : Book) (k : ℕ) (splits : List ℕ) (post : Post) → IsKept i history none o b → 0 < k → k < length b.nodes → splits ≡ o.splits
    → post ≡ get_or history (get_or splits ((k - 1) / 2) 0) post → MadePart b.nodes k post
made_part i history none o b k splits post s low high e is =
    let p = s.parts k low high in
    let r = bind_some (part_of (k % 2 == 1)) (slice_get history p.at) p.part p.split in
    let at : get_or splits ((k - 1) / 2) 0 ≡ p.at = ap (λ (xs : List ℕ). get_or xs ((k - 1) / 2) 0) e ∙ get_or_from_slice_get o.splits ((k - 1) / 2) p.at 0 p.place in
    let same : post ≡ r.0 = is ∙ ap (λ n. get_or history n post) at ∙ get_or_from_slice_get history p.at r.0 post r.1 in
    record {
      part = p.part;
      split = ap (part_of (k % 2 == 1)) same ∙ r.2;
      older = p.older;
      small = p.small;
      cuts = p.cuts;
    }

pub part_small : (nodes : List Node) (k : ℕ) (post : Post) → MadePart nodes k post → IsSomeAnd (part_of (k % 2 == 1) post) (λ p. p.1.m < 65536)
part_small nodes k post m = subst (λ (o : Option (ℕ × Cut)). IsSomeAnd o (λ p. p.1.m < 65536)) (sym m.split) m.small

pub part_is : (nodes : List Node) (k : ℕ) (post : Post) (p : ℕ × Cut) → MadePart nodes k post → part_of (k % 2 == 1) post ≡ Some p → (p.0 < k) × (cuts_in nodes k ≡ cuts_in nodes p.0 ++ p.1 ∷ [])
part_is nodes k post p m e =
    let same : m.part ≡ p = cc (m.split, e) in
    (subst (λ (p : ℕ × Cut). p.0 < k) same m.older, subst (λ (p : ℕ × Cut). cuts_in nodes k ≡ cuts_in nodes p.0 ++ p.1 ∷ []) same m.cuts)

-- ---- a state as it begins

pub opened_view : (i j : Problem) (history : List Post) (spare : ℕ) → i ≡ j → history ≡ [] → spare ≡ 0
    → ◌≡◌ {A = StateView} (record { instance = i; history = history; book = book_or_opening i history; spare = spare }) (record { instance = j; history = []; book = opening j; spare = 0 })
opened_view i j history spare e f g =
    let at : Problem → List Post → Book → ℕ → StateView = λ i h b s. record { instance = i; history = h; book = b; spare = s } in
    ap (λ (i : Problem). at i history (book_or_opening i history) spare) e
    ∙ ap (λ (h : List Post). at j h (book_or_opening j h) spare) f
    ∙ ap (λ (b : Book). at j [] b spare) (book_is j [] (opening j) refl)
    ∙ ap (at j [] (opening j)) g
