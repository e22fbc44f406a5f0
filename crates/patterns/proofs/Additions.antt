-- Sums of the numbers at prefixes, and what an addition does to them.
use Rattle.patterns.proofs.Common.{◌≡◌, inl, inr, ℕ, ◌+◌, ◌*◌, ◌^◌, ◌<◌, ◌≤◌, ℤ, pos, ◌+ℤ◌, Bool, true, false, cond, List, [], ◌∷◌, ◌++◌, map, length, take, get_or, refl, sym, ap, ◌∙◌, subst, arith, Option, Some, FitsSigned, to_z, of_z, w128, w64, cases_Bool, cond-true, cond-false, ints, fits_signed_from_abs, to_z-of_z, take_more, Break, same_list, begins_with, same_list_decides, with_added, AreSmall, share_of, bonus_of}
use Rattle.std.specs.Option.{unwrap_or}
use Rattle.std.specs.Int.RustNames.{unsigned_abs}
use Rattle.std.proofs.lemmas.List.Sums.{sum_by-cons}
use Rattle.std.specs.List.{sum_by, AllByRecursion, IsDistinct}
use Rattle.std.specs.Map.{lookup, keys_of}
use Rattle.std.proofs.lemmas.Map.Keys.{IsDistinct-head, IsDistinct-tail}
use Rattle.indexmap.specs.IndexMap.{insert_entry}
use Rattle.break_rules.specs.Sums.{int_sum_by}
use Rattle.break_rules.proofs.Sizes.{abs_add}
use Rattle.break_rules.proofs.Sums.{int_sum_by-cons, int_sum_by-same, int_sum_by-add}
use Rattle.patterns.proofs.Beginnings.{own_of, share_more, share_empty}

size_add : (a b : ℤ) → unsigned_abs (a +ℤ b) ≤ unsigned_abs a + unsigned_abs b
size_add a b = abs_add a b (unsigned_abs a) (unsigned_abs b) (omega arith) (omega arith)

-- the sum of the sizes of all numbers
abbrev pub weight : List (List Break × ℤ) → ℕ
weight es = sum_by (λ e. unsigned_abs e.1) es

weight-cons : (e : List Break × ℤ) (es : List (List Break × ℤ)) → weight (e ∷ es) ≡ unsigned_abs e.1 + weight es
weight-cons e es = sum_by-cons (λ (x : List Break × ℤ). unsigned_abs x.1) e es

share_size : (list : List Break) (e : List Break × ℤ) → unsigned_abs (share_of list e) ≤ unsigned_abs e.1
share_size list e = by (begins_with list e.0)
  where
    by : (b : Bool) → unsigned_abs (cond b e.1 (pos 0)) ≤ unsigned_abs e.1
    by true = omega arith
    by false = omega arith

-- the bonus of a list is no greater than all numbers together
pub bonus_size : (list : List Break) (es : List (List Break × ℤ)) → unsigned_abs (bonus_of es list) ≤ weight es
bonus_size list [] = omega arith
bonus_size list (e ∷ es) =
    let one : bonus_of (e ∷ es) list ≡ share_of list e +ℤ bonus_of es list = int_sum_by-cons (share_of list) e es in
    let two : unsigned_abs (share_of list e +ℤ bonus_of es list) ≤ unsigned_abs (share_of list e) + unsigned_abs (bonus_of es list) = size_add (share_of list e) (bonus_of es list) in
    let rest = bonus_size list es in
    let here = share_size list e in
    let all : weight (e ∷ es) ≡ unsigned_abs e.1 + weight es = weight-cons e es in
    let three : unsigned_abs (bonus_of (e ∷ es) list) ≡ unsigned_abs (share_of list e +ℤ bonus_of es list) = ap unsigned_abs one in
    omega arith

-- a number as small as few additions make it fits
pub fits : (z : ℤ) (w n : ℕ) → n ≤ 2 ^ 33 → w ≤ n * 1000000000000 → unsigned_abs z ≤ w → FitsSigned w128 z
fits z w n few within small = fits_signed_from_abs w128 z (omega arith)

pub fits_more : (z x : ℤ) (w n : ℕ) → n ≤ 2 ^ 33 → w ≤ n * 1000000000000 → unsigned_abs z ≤ w → unsigned_abs x ≤ 1000000000000 → FitsSigned w128 (z +ℤ x)
fits_more z x w n few within small one = fits_signed_from_abs w128 (z +ℤ x) (let both = size_add z x in omega arith)

-- a number that was read and then kept in bits
pub read : (r : ℤ) (o q : Option ℤ) → FitsSigned w128 r → r ≡ unwrap_or o (pos 0) → o ≡ q → to_z w128 (of_z w128 r) ≡ unwrap_or q (pos 0)
read r o q f e g = to_z-of_z w128 r f ∙ e ∙ ap (λ (x : Option ℤ). unwrap_or x (pos 0)) g

-- a number of few bits that was widened
pub widened : (r x : ℤ) → FitsSigned w128 r → FitsSigned w64 x → r ≡ to_z w64 (of_z w64 x) → to_z w128 (of_z w128 r) ≡ x
widened r x f g e = to_z-of_z w128 r f ∙ e ∙ to_z-of_z w64 x g

module _ {K : Type 0} (breaks : K → List Break) where
  -- the entries, each with the breaks of its key
  abbrev pub shown : List (K × ℤ) → List (List Break × ℤ)
  shown es = map (λ e. (breaks e.0, e.1)) es

  -- the number of a prefix, and 0 where it has none
  abbrev pub number_in : List (K × ℤ) → List Break → ℤ
  number_in es list = unwrap_or (lookup (λ k. same_list list (breaks k)) es) (pos 0)

  -- no two keys have the same breaks
  abbrev pub AreDistinct : List (K × ℤ) → Type 0
  AreDistinct es = IsDistinct (λ a b. same_list (breaks a) (breaks b)) (keys_of es)

  none_own : (list : List Break) (k : K) (es : List (K × ℤ)) → list ≡ breaks k → AllByRecursion (λ y. same_list (breaks k) (breaks y) ≡ false) (keys_of es)
      → int_sum_by (own_of list) (shown es) ≡ pos 0
  none_own list k [] same h = refl
  none_own list k (e ∷ es) same h =
      let other : same_list list (breaks e.0) ≡ false = ap (λ (l : List Break). same_list l (breaks e.0)) same ∙ h.0 in
      let here : own_of list (breaks e.0, e.1) ≡ pos 0 = cond-false _ e.1 (pos 0) other in
      let rest : int_sum_by (own_of list) (shown es) ≡ pos 0 = none_own list k es same h.1 in
      let one : int_sum_by (own_of list) (shown (e ∷ es)) ≡ own_of list (breaks e.0, e.1) +ℤ int_sum_by (own_of list) (shown es) = int_sum_by-cons (own_of list) (breaks e.0, e.1) (shown es) in
      omega (arith, ints)

  -- the entries whose prefix is the whole list: at most one
  own_sum : (list : List Break) (es : List (K × ℤ)) → AreDistinct es → int_sum_by (own_of list) (shown es) ≡ number_in es list
  own_sum list [] d = refl
  own_sum list (e ∷ es) d =
      let one : int_sum_by (own_of list) (shown (e ∷ es)) ≡ own_of list (breaks e.0, e.1) +ℤ int_sum_by (own_of list) (shown es) = int_sum_by-cons (own_of list) (breaks e.0, e.1) (shown es) in
      elim (cases_Bool (same_list list (breaks e.0))) [
        | inl s ↦
            let same : list ≡ breaks e.0 = (same_list_decides list (breaks e.0)).0 s in
            let rest : int_sum_by (own_of list) (shown es) ≡ pos 0 = none_own list e.0 es same (IsDistinct-head (λ a b. same_list (breaks a) (breaks b)) e.0 (keys_of es) d) in
            let here : own_of list (breaks e.0, e.1) ≡ e.1 = cond-true _ e.1 (pos 0) s in
            let found : number_in (e ∷ es) list ≡ e.1 = ap (λ o. unwrap_or o (pos 0)) (cond-true _ (Some e.1) (lookup (λ k. same_list list (breaks k)) es) s) in
            omega (arith, ints)
        | inr s ↦
            let rest : int_sum_by (own_of list) (shown es) ≡ number_in es list = own_sum list es (IsDistinct-tail (λ a b. same_list (breaks a) (breaks b)) e.0 (keys_of es) d) in
            let here : own_of list (breaks e.0, e.1) ≡ pos 0 = cond-false _ e.1 (pos 0) s in
            let found : number_in (e ∷ es) list ≡ number_in es list = ap (λ o. unwrap_or o (pos 0)) (cond-false _ (Some e.1) (lookup (λ k. same_list list (breaks k)) es) s) in
            omega (arith, ints)
      ]

  pub bonus_empty : (es : List (K × ℤ)) → AreDistinct es → bonus_of (shown es) [] ≡ number_in es []
  bonus_empty es d = int_sum_by-same (share_of []) (own_of []) (shown es) (λ e _. share_empty e) ∙ own_sum [] es d

  pub bonus_more : (es : List (K × ℤ)) (front : List Break) (last : Break) → AreDistinct es
      → bonus_of (shown es) (front ++ last ∷ []) ≡ bonus_of (shown es) front +ℤ number_in es (front ++ last ∷ [])
  bonus_more es front last d =
      let list = front ++ last ∷ [] in
      let same : bonus_of (shown es) list ≡ int_sum_by (λ e. share_of front e +ℤ own_of list e) (shown es) = int_sum_by-same (share_of list) (λ e. share_of front e +ℤ own_of list e) (shown es) (λ e _. share_more front last e) in
      same ∙ int_sum_by-add (share_of front) (own_of list) (shown es) ∙ ap (λ (z : ℤ). bonus_of (shown es) front +ℤ z) (own_sum list es d)

  pub number_size : (es : List (K × ℤ)) (list : List Break) → unsigned_abs (number_in es list) ≤ weight (shown es)
  number_size [] list = omega arith
  number_size (e ∷ es) list =
      let all : weight (shown (e ∷ es)) ≡ unsigned_abs e.1 + weight (shown es) = weight-cons (breaks e.0, e.1) (shown es) in
      let rest = number_size es list in
      elim (cases_Bool (same_list list (breaks e.0))) [
        | inl s ↦
            let found : unsigned_abs (number_in (e ∷ es) list) ≡ unsigned_abs e.1 = ap (λ o. unsigned_abs (unwrap_or o (pos 0))) (cond-true _ (Some e.1) (lookup (λ k. same_list list (breaks k)) es) s) in
            omega arith
        | inr s ↦
            let found : unsigned_abs (number_in (e ∷ es) list) ≡ unsigned_abs (number_in es list) = ap (λ o. unsigned_abs (unwrap_or o (pos 0))) (cond-false _ (Some e.1) (lookup (λ k. same_list list (breaks k)) es) s) in
            omega arith
      ]

  -- an insertion of the number with the addend is an addition
  pub shown_insert : (es : List (K × ℤ)) (k : K) (x v : ℤ) → v ≡ number_in es (breaks k) +ℤ x
      → shown (insert_entry (λ a b. same_list (breaks a) (breaks b)) es k v) ≡ with_added (shown es) (breaks k) x
  shown_insert [] k x v h = let e : v ≡ x = omega (arith, ints) in ap (λ (z : ℤ). (breaks k, z) ∷ []) e
  shown_insert (e ∷ es) k x v h =
      elim (cases_Bool (same_list (breaks k) (breaks e.0))) [
        | inl s ↦
            let found : number_in (e ∷ es) (breaks k) ≡ e.1 = ap (λ o. unwrap_or o (pos 0)) (cond-true _ (Some e.1) (lookup (λ q. same_list (breaks k) (breaks q)) es) s) in
            let value : v ≡ e.1 +ℤ x = omega (arith, ints) in
            let left : shown (insert_entry (λ a b. same_list (breaks a) (breaks b)) (e ∷ es) k v) ≡ (breaks e.0, v) ∷ shown es = ap shown (cond-true _ ((e.0, v) ∷ es) (e ∷ insert_entry (λ a b. same_list (breaks a) (breaks b)) es k v) s) in
            let right : with_added (shown (e ∷ es)) (breaks k) x ≡ (breaks e.0, e.1 +ℤ x) ∷ shown es = cond-true _ ((breaks e.0, e.1 +ℤ x) ∷ shown es) ((breaks e.0, e.1) ∷ with_added (shown es) (breaks k) x) s in
            left ∙ ap (λ (z : ℤ). (breaks e.0, z) ∷ shown es) value ∙ sym right
        | inr s ↦
            let found : number_in (e ∷ es) (breaks k) ≡ number_in es (breaks k) = ap (λ o. unwrap_or o (pos 0)) (cond-false _ (Some e.1) (lookup (λ q. same_list (breaks k) (breaks q)) es) s) in
            let value : v ≡ number_in es (breaks k) +ℤ x = omega (arith, ints) in
            let left : shown (insert_entry (λ a b. same_list (breaks a) (breaks b)) (e ∷ es) k v) ≡ (breaks e.0, e.1) ∷ shown (insert_entry (λ a b. same_list (breaks a) (breaks b)) es k v) = ap shown (cond-false _ ((e.0, v) ∷ es) (e ∷ insert_entry (λ a b. same_list (breaks a) (breaks b)) es k v) s) in
            let right : with_added (shown (e ∷ es)) (breaks k) x ≡ (breaks e.0, e.1) ∷ with_added (shown es) (breaks k) x = cond-false _ ((breaks e.0, e.1 +ℤ x) ∷ shown es) ((breaks e.0, e.1) ∷ with_added (shown es) (breaks k) x) s in
            left ∙ ap (λ (l : List (List Break × ℤ)). (breaks e.0, e.1) ∷ l) (shown_insert es k x v value) ∙ sym right
      ]

  -- the sum of a prefix's number and an addend fits
  pub added_fits : (es : List (K × ℤ)) (list : List Break) (n : ℕ) (a b x : ℤ) → AreSmall (shown es) n → a ≡ number_in es list → b ≡ x → unsigned_abs x ≤ 1000000000000
      → FitsSigned w128 (a +ℤ b)
  added_fits es list n a b x small had same limit =
      let size : unsigned_abs a ≤ weight (shown es) = subst (λ (z : ℤ). unsigned_abs z ≤ weight (shown es)) (sym had) (number_size es list) in
      let one : unsigned_abs b ≤ 1000000000000 = subst (λ (z : ℤ). unsigned_abs z ≤ 1000000000000) (sym same) limit in
      fits_more a b (weight (shown es)) n small.few small.within size one

  -- an insertion of that sum is an addition
  pub added : (es : List (K × ℤ)) (k : K) (list : List Break) (n : ℕ) (a b x : ℤ) → AreSmall (shown es) n → a ≡ number_in es list → b ≡ x → unsigned_abs x ≤ 1000000000000 → breaks k ≡ list
      → shown (insert_entry (λ a b. same_list (breaks a) (breaks b)) es k (to_z w128 (of_z w128 (a +ℤ b)))) ≡ with_added (shown es) list x
  added es k list n a b x small had same limit key =
      let v : ℤ = to_z w128 (of_z w128 (a +ℤ b)) in
      let value : v ≡ number_in es (breaks k) +ℤ x =
      to_z-of_z w128 (a +ℤ b) (added_fits es list n a b x small had same limit)
      ∙ ap (λ (z : ℤ). z +ℤ b) had ∙ ap (λ (z : ℤ). number_in es list +ℤ z) same ∙ ap (λ (l : List Break). number_in es l +ℤ x) (sym key) in
      shown_insert es k x v value ∙ ap (λ (l : List Break). with_added (shown es) l x) key

-- an addition adds at most its size
pub weight-with_added : (es : List (List Break × ℤ)) (list : List Break) (x : ℤ) → weight (with_added es list x) ≤ weight es + unsigned_abs x
weight-with_added [] list x = let all : weight ((list, x) ∷ []) ≡ unsigned_abs x + weight [] = weight-cons (list, x) [] in omega arith
weight-with_added (e ∷ es) list x =
    let all : weight (e ∷ es) ≡ unsigned_abs e.1 + weight es = weight-cons e es in
    elim (cases_Bool (same_list list e.0)) [
      | inl s ↦
          let found : weight (with_added (e ∷ es) list x) ≡ weight ((e.0, e.1 +ℤ x) ∷ es) = ap weight (cond-true _ ((e.0, e.1 +ℤ x) ∷ es) (e ∷ with_added es list x) s) in
          let one : weight ((e.0, e.1 +ℤ x) ∷ es) ≡ unsigned_abs (e.1 +ℤ x) + weight es = weight-cons (e.0, e.1 +ℤ x) es in
          let two = size_add e.1 x in
          omega arith
      | inr s ↦
          let found : weight (with_added (e ∷ es) list x) ≡ weight (e ∷ with_added es list x) = ap weight (cond-false _ ((e.0, e.1 +ℤ x) ∷ es) (e ∷ with_added es list x) s) in
          let one : weight (e ∷ with_added es list x) ≡ unsigned_abs e.1 + weight (with_added es list x) = weight-cons e (with_added es list x) in
          let two = weight-with_added es list x in
          omega arith
    ]

-- the entries after an addition are small
pub small_more : (es : List (List Break × ℤ)) (list : List Break) (x : ℤ) (n : ℕ) → AreSmall es n → n < 2 ^ 33 → unsigned_abs x ≤ 1000000000000 → AreSmall (with_added es list x) (n + 1)
small_more es list x n small room limit =
    let more = weight-with_added es list x in
    let w = small.within in
    record { few = omega arith; within = omega arith }

-- the sum for a list of one break more
module _ (es : List (List Break × ℤ)) (n : ℕ) (list : List Break) (at : ℕ) (sum r : ℤ) (small : AreSmall es n) (inside : at < length list)
    (so_far : sum ≡ bonus_of es (take at list)) (kept : to_z w128 (of_z w128 r) ≡ r)
    (more : (front : List Break) → (last : Break) → take (at + 1) list ≡ front ++ last ∷ [] → bonus_of es (take (at + 1) list) ≡ bonus_of es front +ℤ r) where
  sum_is : sum +ℤ to_z w128 (of_z w128 r) ≡ bonus_of es (take (at + 1) list)
  sum_is =
      let none : Break = record { start = 0; len = 0 } in
      ap (λ (z : ℤ). z +ℤ to_z w128 (of_z w128 r)) so_far ∙ ap (λ (z : ℤ). bonus_of es (take at list) +ℤ z) kept
      ∙ sym (more (take at list) (get_or list at none) (take_more list at none inside))

  pub sum_fits : FitsSigned w128 (sum +ℤ to_z w128 (of_z w128 r))
  sum_fits = fits _ (weight es) n small.few small.within (subst (λ (z : ℤ). unsigned_abs z ≤ weight es) (sym sum_is) (bonus_size (take (at + 1) list) es))

  pub sum_more : to_z w128 (of_z w128 (sum +ℤ to_z w128 (of_z w128 r))) ≡ bonus_of es (take (at + 1) list)
  sum_more = to_z-of_z w128 (sum +ℤ to_z w128 (of_z w128 r)) sum_fits ∙ sum_is

-- the sum for a list is small
pub all_small : (es : List (List Break × ℤ)) (n : ℕ) (list : List Break) (sum : ℤ) → AreSmall es n → sum ≡ bonus_of es list → unsigned_abs sum ≤ 2 ^ 33 * 1000000000000
all_small es n list sum small is =
    let size : unsigned_abs sum ≤ weight es = subst (λ (z : ℤ). unsigned_abs z ≤ weight es) (sym is) (bonus_size list es) in
    let few = small.few in
    let within = small.within in
    omega arith
