-- What workers found holds of the nodes of a book.
use Rattle.recovery.proofs.Common.{◌≡◌, inl, inr, ℕ, zero, suc, ◌+◌, ◌<◌, ◌≤◌, max, Bool, true, false, cond, ◌&&◌, not, List, [], ◌∷◌, ◌++◌, length, take, get_or, refl, sym, ap, ◌∙◌, subst, append_assoc, arith, nat_le, nat_lt, Option, Some, None, slice_get, IfSome, IsSome, IsTrue, and_from, false≢true, le-leb, lt-ltb, take_more, slice_get_within, Problem, IsValid, Class, Cut, Prices, are_prices, bound_of, low, high, settled_floor, with_floor, with_split, Node, is_live_class, is_settled, Post, Plan, Priced, Settled, Split, at_node, is_open, priced, settled, step, book_after, book_of, opening, Book, value_of, StateView, book_after-append, Taking, option_and_then, option_map_or, cuts_at, nodes_of, is_ready, AreFoundIn, Divides, IsBound, IsFoundAt, IsFoundIn, IsSettledAt}
use Rattle.dual_bound.specs.Proved.{IsProved, Proving}
use Rattle.search_core.specs.Book.{divided}
use Rattle.recovery.proofs.CutTrees.{get_more, get_seam}
use Rattle.recovery.proofs.NodesOf.{cuts_known}

-- ---- one more bound

found_one : (i : Problem) (nodes : List (List Cut)) (posts : List Post) (bounds : List (Option ℕ)) (post : Post) (found : Option ℕ)
    → length posts ≡ length bounds → AreFoundIn i nodes posts bounds → IfSome found (IsFoundIn i nodes post) → AreFoundIn i nodes (posts ++ post ∷ []) (bounds ++ found ∷ [])
found_one i nodes posts bounds post found same are is at p bound e f = elim (get_more posts post at p e) [
  | inl a ↦ elim (get_more bounds found at (Some bound) f) [
    | inl b ↦ are at p bound a b
    | inr b ↦ absurd (omega (arith, slice_get_within posts at p a, b.0, same))
  ]
  | inr a ↦ elim (get_more bounds found at (Some bound) f) [
    | inl b ↦ absurd (omega (arith, slice_get_within bounds at (Some bound) b, a.0, same))
    | inr b ↦ subst (λ (q : Post). IsFoundIn i nodes q bound) (sym a.1) (subst (λ (o : Option ℕ). IfSome o (IsFoundIn i nodes post)) (sym b.1) is)
  ]
]

pub found_more : (i : Problem) (nodes : List (List Cut)) (posts : List Post) (k : ℕ) (bounds more : List (Option ℕ)) (post : Post) (found : Option ℕ)
    → k < length posts → post ≡ get_or posts k post → length bounds ≡ k → AreFoundIn i nodes (take k posts) bounds → IfSome found (IsFoundIn i nodes post) → more ≡ bounds ++ found ∷ []
    → AreFoundIn i nodes (take (k + 1) posts) more
found_more i nodes posts k bounds more post found less is count are bound added =
    let passed : take (k + 1) posts ≡ take k posts ++ post ∷ [] = take_more posts k post less ∙ ap (λ (p : Post). take k posts ++ p ∷ []) (sym is) in
    let len : length (take k posts) ≡ length bounds = length_taken k posts (omega (arith, less)) ∙ sym count in
    subst (λ (l : List Post). AreFoundIn i nodes l more) (sym passed)
    (subst (λ (l : List (Option ℕ)). AreFoundIn i nodes (take k posts ++ post ∷ []) l) (sym added)
    (found_one i nodes (take k posts) bounds post found len are bound))
  where
    length_taken : (n : ℕ) (xs : List Post) → n ≤ length xs → length (take n xs) ≡ n
    length_taken zero xs h = refl
    length_taken (suc n) [] h = absurd (omega (arith, h))
    length_taken (suc n) (x ∷ xs) h = ap suc (length_taken n xs (omega (arith, h)))

-- what holds of the cuts that all splits make for a node holds of those of the node of a book, where that is there
there_too : (b : Book) (nodes : List (List Cut)) (k : ℕ) (P : List Cut → Type 0) → ((n : Node) → slice_get b.nodes k ≡ Some n → cuts_at nodes k ≡ n.cuts) → P (cuts_at nodes k)
    → (o : Option Node) → slice_get b.nodes k ≡ o → IfSome o (λ n. P n.cuts)
there_too b nodes k P known is None e = tt
there_too b nodes k P known is (Some n) e = subst P (known n e) is

found_is : (i : Problem) (b : Book) (nodes : List (List Cut)) (post : Post) (found : ℕ) → ((k : ℕ) (n : Node) → slice_get b.nodes k ≡ Some n → cuts_at nodes k ≡ n.cuts) → IsFoundIn i nodes post found → IsFoundAt i b post found
found_is i b nodes (Plan worker rows c) found known is = is
found_is i b nodes (Priced worker k prices) found known is = there_too b nodes k (λ cuts. IsBound i cuts prices found) (known k) is (slice_get b.nodes k) refl
found_is i b nodes (Split worker k class m) found known is = there_too b nodes k (λ cuts. Divides i cuts class m) (known k) is (slice_get b.nodes k) refl
found_is i b nodes (Settled worker k) found known is = there_too b nodes k (λ cuts. IsSettledAt i cuts found) (known k) is (slice_get b.nodes k) refl

found_known : (i : Problem) (b : Book) (nodes : List (List Cut)) (posts : List Post) (bounds : List (Option ℕ)) (at : ℕ) (post : Post) → ((k : ℕ) (n : Node) → slice_get b.nodes k ≡ Some n → cuts_at nodes k ≡ n.cuts)
    → AreFoundIn i nodes posts bounds → slice_get posts at ≡ Some post → (bound : Option ℕ) → IfSome bound (λ bound. slice_get bounds at ≡ Some (Some bound)) → IfSome bound (IsFoundAt i b post)
found_known i b nodes posts bounds at post known are here None e = tt
found_known i b nodes posts bounds at post known are here (Some bound) e = found_is i b nodes post bound known (are at post bound here e)

-- the bound of the next of some posts that a state takes
pub next_found : (i : Problem) (nodes : List (List Cut)) (posts rest : List Post) (bounds : List (Option ℕ)) (old mid : StateView) (passed left next : List Post) (at : ℕ) (post : Post) (bound : Option ℕ)
    → IsValid i → i ≡ old.instance → book_of old.instance old.history ≡ Some old.book → nodes ≡ nodes_of ((old.history ++ posts) ++ rest) → AreFoundIn i nodes posts bounds
    → Taking posts old passed left at mid → left ≡ post ∷ next → IfSome bound (λ bound. slice_get bounds at ≡ Some (Some bound)) → IfSome bound (IsFoundAt mid.instance mid.book post)
next_found i nodes posts rest bounds old mid passed left next at post bound valid j folds tree are t e found =
    let same : mid.instance ≡ i = t.takes.same ∙ sym j in
    let whole : passed ++ post ∷ next ≡ posts = ap (λ (l : List Post). passed ++ l) (sym e) ∙ t.split in
    let here : slice_get posts at ≡ Some post = ap (λ n. slice_get posts n) t.count ∙ ap (λ (l : List Post). slice_get l (length passed)) (sym whole) ∙ get_seam passed next post in
    let before : book_of i old.history ≡ Some old.book = ap (λ (p : Problem). book_of p old.history) j ∙ folds in
    let makes : book_of i (old.history ++ passed) ≡ Some mid.book =
    book_after-append i (opening i) old.history passed
    ∙ ap (λ (o : Option Book). option_and_then (λ c. book_after i c passed) o) before
    ∙ ap (λ (p : Problem). book_after p old.book passed) j
    ∙ t.takes.makes in
    let all : nodes ≡ nodes_of ((old.history ++ passed) ++ (post ∷ next ++ rest)) =
    tree
    ∙ ap (λ (l : List Post). nodes_of ((old.history ++ l) ++ rest)) (sym whole)
    ∙ ap (λ (l : List Post). nodes_of (l ++ rest)) (sym (append_assoc old.history passed (post ∷ next)))
    ∙ ap nodes_of (append_assoc (old.history ++ passed) (post ∷ next) rest) in
    let known : (k : ℕ) (n : Node) → slice_get mid.book.nodes k ≡ Some n → cuts_at nodes k ≡ n.cuts =
    λ k n there. ap (λ (l : List (List Cut)). cuts_at l k) all ∙ cuts_known i mid.book (old.history ++ passed) (post ∷ next ++ rest) k n valid makes there in
    subst (λ (p : Problem). IfSome bound (IsFoundAt p mid.book post)) (sym same) (found_known i mid.book nodes posts bounds at post known are here bound found)

-- ---- prices whose bound is found

pub bound_is : (i : Problem) (cuts known : List Cut) (prices posted : Prices) (p : Proving) (bound : ℕ)
    → IsProved p → p.instance ≡ i → p.cuts ≡ cuts → cuts ≡ known → p.prices ≡ prices → prices ≡ posted → bound ≡ p.bound → IsTrue (are_prices i known posted) × (bound ≡ bound_of i known posted)
bound_is i cuts known prices posted p bound is instance below there priced same found =
    let k : p.cuts ≡ known = below ∙ there in
    let q : p.prices ≡ posted = priced ∙ same in
    let passes : are_prices p.instance p.cuts p.prices ≡ are_prices i known posted =
    ap (λ (x : Problem). are_prices x p.cuts p.prices) instance ∙ ap (λ (x : List Cut). are_prices i x p.prices) k ∙ ap (λ (x : Prices). are_prices i known x) q in
    let exact : bound_of p.instance p.cuts p.prices ≡ bound_of i known posted =
    ap (λ (x : Problem). bound_of x p.cuts p.prices) instance ∙ ap (λ (x : List Cut). bound_of i x p.prices) k ∙ ap (λ (x : Prices). bound_of i known x) q in
    (sym passes ∙ is.passes, found ∙ is.exact ∙ exact)

-- ---- prices whose bound is known

there : (p : Node → Bool) (o : Option Node) → option_map_or p o false ≡ true → (n : Node) × (o ≡ Some n) × (p n ≡ true)
there p None h = absurd (false≢true h)
there p (Some n) h = (n, refl, h)

if_some : {X : Type 0} (o : Option X) (P : X → Type 0) (x : X) → o ≡ Some x → IfSome o P → P x
if_some None P x e h = absurd (cc)
if_some (Some y) P x e h = let same : y ≡ x = cc in subst P same h

some_of : {X : Type 0} (o : Option X) (x : X) → o ≡ Some x → IsSome o
some_of None x e = absurd (cc)
some_of (Some y) x e = refl

-- the book after the node of a post makes other nodes
makes : (b : Book) (k : ℕ) (f : Node → Option (List Node)) (n : Node) (nodes : List Node) → slice_get b.nodes k ≡ Some n → f n ≡ Some nodes → IsSome (at_node b k f)
makes b k f n nodes there allowed =
    some_of (at_node b k f) (record b { nodes = nodes })
    (ap (λ (o : Option Node). option_and_then (λ nodes. Some (record b { nodes = nodes })) (option_and_then f o)) there ∙ ap (λ (o : Option (List Node)). option_and_then (λ nodes. Some (record b { nodes = nodes })) o) allowed)

-- a post that a book is ready for and of which that was found is allowed, and the number that goes with it is what was found, or of a split the floor of its node
pub found_allowed : (i : Problem) (b : Book) (post : Post) (found : ℕ) → IsFoundAt i b post found → IsTrue (is_ready b post) → IsSome (step i b post)
found_allowed i b (Plan worker rows c) found is ready = absurd is
found_allowed i b (Priced worker k prices) found is ready =
    let t = there (λ n. not n.split) (slice_get b.nodes k) ready in
    let n = t.0 in
    let p = if_some (slice_get b.nodes k) (λ n. IsBound i n.cuts prices found) n t.1 is in
    let new = with_floor b.nodes k n (max n.floor (bound_of i n.cuts prices)) in
    makes b k (priced i b k prices) n new t.1 (ap (λ c. cond c (Some new) None) (and_from (not n.split) (are_prices i n.cuts prices) t.2 p.0))
found_allowed i b (Split worker k class m) found is ready =
    let t = there (is_open b) (slice_get b.nodes k) ready in
    let n = t.0 in
    let p = if_some (slice_get b.nodes k) (λ n. Divides i n.cuts class m) n t.1 is in
    let new = with_split b.nodes k n class m in
    let live : (is_open b n && is_live_class i class) ≡ true = and_from (is_open b n) (is_live_class i class) t.2 p.0 in
    let low_is : (is_open b n && is_live_class i class && nat_le (low n.cuts class) m) ≡ true = and_from (is_open b n && is_live_class i class) (nat_le (low n.cuts class) m) live (le-leb (low n.cuts class) m p.1) in
    let all = and_from (is_open b n && is_live_class i class && nat_le (low n.cuts class) m) (nat_lt m (high i n.cuts class)) low_is (lt-ltb m (high i n.cuts class) p.2) in
    makes b k (divided i b k class m) n new t.1 (ap (λ c. cond c (Some new) None) all)
found_allowed i b (Settled worker k) found is ready =
    let t = there (λ n. not n.split) (slice_get b.nodes k) ready in
    let n = t.0 in
    let p = if_some (slice_get b.nodes k) (λ n. IsSettledAt i n.cuts found) n t.1 is in
    let new = with_floor b.nodes k n (settled_floor i n.cuts) in
    makes b k (settled i b k) n new t.1 (ap (λ c. cond c (Some new) None) (and_from (not n.split) (is_settled i n.cuts) t.2 p.0))
