-- The hands of workers over a book.
use Rattle.search_book.proofs.Common.{◌≡◌, inl, inr, ℕ, ◌<◌, ◌≤◌, ◌^◌, Bool, true, false, ◌&&◌, not, List, [], ◌∷◌, length, map, set, refl, ap, ◌∙◌, subst, arith, nat_le, nat_lt, Option, Some, None, ◌||◌, sym, Err, IfOk, IsSomeAnd, Ok, Result, slice_get, option_map_or, list_all, list_any, and_parts, false≢true, le-leb, lt-leb, ltb-false, ltb-true, not-true, Node, is_free, Book, is_node_and, is_open, hand, is_node, cuts_in, state_of, hand_set}
use Rattle.shift_instance.proofs.Rotas.{slice_get_below}
use Rattle.head_splits.specs.declared.Cut.{Cut}
use Rattle.search_core.specs.declared.outline.NodeState.{NodeState}

-- ---- the nodes in the hands are unsplit
abbrev pub AreUnsplit : Book → List (Option ℕ) → Type 0
AreUnsplit b hands = (w x : ℕ) → hand hands w ≡ Some x → is_node_and b x (λ n. not n.split) ≡ true

-- steps were taken where a node is in a hand
abbrev pub AreCounted : ℕ → List (Option ℕ) → Type 0
AreCounted taken hands = (w x : ℕ) → hand hands w ≡ Some x → 0 < taken

open_unsplit : (b : Book) (o : Option Node) → option_map_or (is_open b) o false ≡ true → option_map_or (λ n. not n.split) o false ≡ true
open_unsplit b None h = absurd (false≢true h)
open_unsplit b (Some n) h = (and_parts (not n.split) (nat_lt n.floor b.cost) h).0

pub taken_unsplit : (b : Book) (hands : List (Option ℕ)) (w k : ℕ) → AreUnsplit b hands → is_free b hands k ≡ true → AreUnsplit b (set hands w (Some k))
taken_unsplit b hands w k unsplit free v x e =
    elim (hand_set hands w v (Some k) x e) [
      | inl p ↦
          let same : k ≡ x = cc (p.1) in
          subst (λ (y : ℕ). is_node_and b y (λ n. not n.split) ≡ true) same (open_unsplit b (slice_get b.nodes k) (and_parts (is_node_and b k (is_open b)) (not (list_any (is_node k) hands)) free).0)
      | inr p ↦ unsplit v x p.1
    ]

pub free_alone : (b : Book) (hands : List (Option ℕ)) (k : ℕ) → is_free b hands k ≡ true → list_any (is_node k) hands ≡ false
free_alone b hands k free = not-true _ ((and_parts (is_node_and b k (is_open b)) (not (list_any (is_node k) hands)) free).1)

pub emptied_counted : (taken : ℕ) (hands : List (Option ℕ)) (w : ℕ) → AreCounted taken hands → AreCounted taken (set hands w None)
emptied_counted taken hands w counted v x e = elim (hand_set hands w v None x e) [ inl p ↦ absurd (cc (p.1)) | inr p ↦ counted v x p.1 ]

pub emptied_unsplit : (b : Book) (hands : List (Option ℕ)) (w : ℕ) → AreUnsplit b hands → AreUnsplit b (set hands w None)
emptied_unsplit b hands w unsplit v x e = elim (hand_set hands w v None x e) [ inl p ↦ absurd (cc (p.1)) | inr p ↦ unsplit v x p.1 ]

-- a node of which something holds is there
node_there : (o : Option Node) (p : Node → Bool) → option_map_or p o false ≡ true → (n : Node) × (o ≡ Some n)
node_there None p h = absurd (false≢true h)
node_there (Some n) p h = (n, refl)

pub is_there : (b : Book) (k : ℕ) (p : Node → Bool) → is_node_and b k p ≡ true → k < length b.nodes
is_there b k p h = let n = node_there (slice_get b.nodes k) p h in slice_get_below b.nodes k n.0 n.1

-- ---- the cuts of the node in a hand
pub cuts_are : (o : Option Node) (cuts : List Cut) → IsSomeAnd o (λ n. cuts ≡ n.cuts) → cuts ≡ option_map_or (λ n. n.cuts) o []
cuts_are None cuts h = absurd h
cuts_are (Some n) cuts h = h

pub cuts_held : {E : Type 0} (r : Result (List Cut) E) (b told : Book) (h : Option ℕ) (node : ℕ) → told ≡ b → h ≡ Some node → IfOk r (λ cuts. IsSomeAnd (slice_get told.nodes node) (λ n. cuts ≡ n.cuts)) → IfOk r (λ cuts. (k : ℕ) → h ≡ Some k → cuts ≡ cuts_in b.nodes k)
cuts_held (Err e) b told h node same is r = tt
cuts_held (Ok cuts) b told h node same is r = λ k at.
    let here : node ≡ k = let both : Some node ≡ Some k = sym is ∙ at in cc (both) in
    cuts_are (slice_get told.nodes node) cuts r ∙ ap (λ (x : Book). cuts_in x.nodes node) same ∙ ap (cuts_in b.nodes) here

pub cuts_few : {E : Type 0} (r : Result (List Cut) E) (node : ℕ) → node ≤ 2 ^ 24 → IfOk r (λ cuts. length cuts ≤ node) → IfOk r (λ cuts. length cuts ≤ 2 ^ 24)
cuts_few (Err e) node small r = tt
cuts_few (Ok cuts) node small r = omega (arith, small, r)
