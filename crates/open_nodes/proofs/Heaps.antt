-- Open nodes in a heap, in their order.
use Rattle.open_nodes.proofs.Common.{◌≡◌, ◌⊎◌, inl, inr, ℕ, ◌+◌, ◌<◌, ◌≤◌, Bool, true, false, cond, ◌&&◌, ◌||◌, ◌==◌, not, nat_lt, List, [], ◌∷◌, length, refl, sym, ap, ◌∙◌, subst, arith, get_or, Some, slice_get, filter, list_all, list_any, false≢true, or_cases, has_node, is_before, is_listed, with_entry, Entry, Rises}
use Rattle.std.specs.declared.cmp.Ordering.TheVariants.{Less, Equal, Greater}
use Rattle.std.specs.declared.cmp.Reverse.{Reverse}
use Rattle.std.specs.BinaryHeap.{IsUpperBound}
use Rattle.std.specs.List.Sorted.{IsPermutation}
use Rattle.std.specs.Ordering.{is_lt, nat_cmp, ordering_then}
use Rattle.std.proofs.lemmas.List.Filters.{length-filter_both}
use Rattle.std.proofs.lemmas.List.Sorted.{IsPermutation-refl, length_permutation, list_any-IsPermutation}
use Rattle.open_nodes.specs.Kept.{heap_cmp, in_order, IsKept}
use Rattle.open_nodes.proofs.Orders.{any_filter, filter_rises, first_with, is_it, it_is, length_new, length_with, listed_filter, listed_with, none_listed, rises_same, with_rises}

pub order_rises : (items : List (Reverse Entry)) → Rises (in_order items)
order_rises [] = tt
order_rises (x ∷ items) = with_rises x.0 (in_order items) (order_rises items)

order_listed : (items : List (Reverse Entry)) (f k : ℕ) → is_listed (in_order items) f k ≡ list_any (λ x. is_it f k x.0) items
order_listed [] f k = refl
order_listed (x ∷ items) f k = listed_with x.0 (in_order items) f k ∙ ap (λ (t : Bool). is_it f k x.0 || t) (order_listed items f k)

order_length : (items : List (Reverse Entry)) → length (in_order items) ≤ length items
order_length [] = omega arith
order_length (x ∷ items) = omega (arith, order_length items, length_with x.0 (in_order items))

same_order : (items others : List (Reverse Entry)) → IsPermutation items others → in_order items ≡ in_order others
same_order items others moved =
    rises_same (in_order items) (in_order others) (order_rises items) (order_rises others)
    (λ f k. order_listed items f k ∙ list_any-IsPermutation (λ x. is_it f k x.0) items others moved ∙ sym (order_listed others f k))

-- ---- one more

pub pushed_order : (x : Reverse Entry) (items others : List (Reverse Entry)) → IsPermutation (x ∷ items) others → in_order others ≡ with_entry x.0 (in_order items)
pushed_order x items others moved = sym (same_order (x ∷ items) others moved)

pub pushed_once : (x : Reverse Entry) (items others : List (Reverse Entry)) → IsPermutation (x ∷ items) others → length (in_order items) ≡ length items → has_node (in_order items) x.0.1 ≡ false → length (in_order others) ≡ length others
pushed_once x items others moved once new =
    let long : length others ≡ length (x ∷ items) = length_permutation (x ∷ items) others moved in
    let more : length (with_entry x.0 (in_order items)) ≡ length (in_order items) + 1 = length_new x.0 (in_order items) (none_listed (in_order items) x.0.0 x.0.1 new) in
    let same : length (in_order others) ≡ length (with_entry x.0 (in_order items)) = ap length (pushed_order x items others moved) in
    omega (arith, long, more, same, once)

-- ---- the first taken out

compares : (p q r s : Bool) → is_lt (ordering_then (cond p Less (cond q Equal Greater)) (cond r Less (cond s Equal Greater))) ≡ (p || (q && r))
compares true q r s = refl
compares false true true s = refl
compares false true false true = refl
compares false true false false = refl
compares false false r s = refl

less_is : (x y : Reverse Entry) → is_lt (heap_cmp x y) ≡ is_before y.0 x.0
less_is x y = compares (nat_lt y.0.0 x.0.0) (y.0.0 == x.0.0) (nat_lt y.0.1 x.0.1) (y.0.1 == x.0.1)

bound_at : (x : Reverse Entry) (items : List (Reverse Entry)) → IsUpperBound heap_cmp x items → (f k : ℕ) → list_any (λ y. is_it f k y.0) items ≡ true → is_before (f, k) x.0 ≡ false
bound_at x [] b f k h = absurd (false≢true h)
bound_at x (y ∷ items) b f k h =
    elim (or_cases (is_it f k y.0) (list_any (λ z. is_it f k z.0) items) h) [
      | inl here ↦ subst (λ (e : Entry). is_before e x.0 ≡ false) (it_is f k y.0 here) (sym (less_is x y) ∙ b.0)
      | inr rest ↦ bound_at x items b.1 f k rest
    ]

pub popped_once : (x : Reverse Entry) (items others : List (Reverse Entry)) → IsPermutation items (x ∷ others) → length (in_order items) ≡ length items → length (in_order others) ≡ length others
popped_once x items others moved once =
    let long : length (x ∷ others) ≡ length items = length_permutation items (x ∷ others) moved in
    let same : length (in_order items) ≡ length (with_entry x.0 (in_order others)) = ap length (same_order items (x ∷ others) moved) in
    omega (arith, long, same, once, length_with x.0 (in_order others), order_length others)

pub popped_order : (x : Reverse Entry) (items others : List (Reverse Entry)) → IsPermutation items (x ∷ others) → length (in_order items) ≡ length items → IsUpperBound heap_cmp x others → in_order items ≡ x.0 ∷ in_order others
popped_order x items others moved once bound =
    let long : length (x ∷ others) ≡ length items = length_permutation items (x ∷ others) moved in
    let is : in_order items ≡ with_entry x.0 (in_order others) = same_order items (x ∷ others) moved in
    let same : length (in_order items) ≡ length (with_entry x.0 (in_order others)) = ap length is in
    let rest : length (in_order others) ≡ length others = popped_once x items others moved once in
    is ∙ first_with x.0 (in_order others) (λ f k h. bound_at x others bound f k (sym (order_listed others f k) ∙ h)) (omega (arith, long, same, once, rest))

-- the first, where it stays
pub peeked_first : (x : Reverse Entry) (items : List (Reverse Entry)) → 0 < length items → x ≡ get_or items 0 x → length (in_order items) ≡ length items → IsUpperBound heap_cmp x items → slice_get (in_order items) 0 ≡ Some x.0
peeked_first x [] some at once bound = absurd (omega (arith, some))
peeked_first x (y ∷ items) some at once bound =
    let below : IsUpperBound heap_cmp y items = subst (λ (z : Reverse Entry). IsUpperBound heap_cmp z items) at bound.1 in
    ap (λ (l : List Entry). slice_get l 0) (popped_order y (y ∷ items) items (IsPermutation-refl (y ∷ items)) once below) ∙ ap (λ (z : Reverse Entry). Some z.0) (sym at)

-- ---- those that pass a test

filter_order : (p : Entry → Bool) (items : List (Reverse Entry)) → in_order (filter (λ (x : Reverse Entry). p x.0) items) ≡ filter p (in_order items)
filter_order p items =
    let kept : List (Reverse Entry) = filter (λ (x : Reverse Entry). p x.0) items in
    rises_same (in_order kept) (filter p (in_order items)) (order_rises kept) (filter_rises p (in_order items) (order_rises items))
    (λ f k.
    order_listed kept f k ∙ any_filter (λ (x : Reverse Entry). x.0) p items f k
    ∙ ap (λ (t : Bool). p (f, k) && t) (sym (order_listed items f k)) ∙ sym (listed_filter p (in_order items) f k))

pub kept_order : (p : Entry → Bool) (items kept others : List (Reverse Entry)) → kept ≡ filter (λ (x : Reverse Entry). p x.0) items → IsPermutation kept others → in_order others ≡ filter p (in_order items)
kept_order p items kept others filtered moved = sym (same_order kept others moved) ∙ ap in_order filtered ∙ filter_order p items

pub kept_once : (p : Entry → Bool) (items kept others : List (Reverse Entry)) → kept ≡ filter (λ (x : Reverse Entry). p x.0) items → IsPermutation kept others → length (in_order items) ≡ length items → length (in_order others) ≡ length others
kept_once p items kept others filtered moved once =
    let q : Entry → Bool = λ e. not (p e) in
    let mine : List (Reverse Entry) = filter (λ (x : Reverse Entry). p x.0) items in
    let rest : List (Reverse Entry) = filter (λ (x : Reverse Entry). q x.0) items in
    let entries : length (filter p (in_order items)) + length (filter q (in_order items)) ≡ length (in_order items) = length-filter_both p q (λ _. refl) (in_order items) in
    let all : length mine + length rest ≡ length items = length-filter_both (λ (x : Reverse Entry). p x.0) (λ (x : Reverse Entry). q x.0) (λ _. refl) items in
    let a : length (in_order mine) ≡ length (filter p (in_order items)) = ap length (filter_order p items) in
    let b : length (in_order rest) ≡ length (filter q (in_order items)) = ap length (filter_order q items) in
    let long : length others ≡ length mine = length_permutation kept others moved ∙ ap length filtered in
    let same : length (in_order others) ≡ length (in_order mine) = ap length (kept_order p items kept others filtered moved ∙ sym (filter_order p items)) in
    let low = order_length mine in
    let high = order_length rest in
    omega (arith, entries, all, a, b, long, same, low, high, once)
