-- Where a duty goes among rows, and the prices of one slot more.
use Rattle.greedy.proofs.Common.{◌≡◌, ℕ, zero, suc, ◌+◌, ◌<◌, ◌≤◌, ℤ, Bool, true, false, cond, Some, List, [], ◌∷◌, ◌++◌, map, length, get_or, take, drop, set, refl, sym, ap, ◌∙◌, subst, arith, slice_get, IfSome, Duty, Row, Problem, slots, below, same_duty, duty_of, is_before, cover, some_at, get_or_some, with_one_more, marginal_price, marginal_prices, row_of}
use Rattle.greedy.proofs.Ranges.{map_more}

-- ---- rows
-- a duty goes on behind a row that comes before it
pub place_on : (d : Duty) (rows : List Row) (k : ℕ) (r : Row) → slice_get rows k ≡ Some r → is_before r (row_of d 1) ≡ true
    → take k rows ++ with_one_more d (drop k rows) ≡ take (suc k) rows ++ with_one_more d (drop (suc k) rows)
place_on d [] k r e h = absurd (cc)
place_on d (x ∷ xs) zero r e h =
    let same : x ≡ r = cc in
    ap (λ b. cond b (x ∷ with_one_more d xs) (cond (same_duty (duty_of x) d) (row_of (duty_of x) (x.count + 1) ∷ xs) (row_of d 1 ∷ x ∷ xs))) (ap (λ (z : Row). is_before z (row_of d 1)) same ∙ h)
place_on d (x ∷ xs) (suc k) r e h = ap (λ zs. x ∷ zs) (place_on d xs k r e h)

-- it counts in the first row that does not come before it, where it is that row's duty
pub place_alike : (d : Duty) (rows : List Row) (k : ℕ) (r : Row) → slice_get rows k ≡ Some r → is_before r (row_of d 1) ≡ false → same_duty (duty_of r) d ≡ true
    → take k rows ++ with_one_more d (drop k rows) ≡ set rows k (row_of (duty_of r) (r.count + 1))
place_alike d [] k r e h t = absurd (cc)
place_alike d (x ∷ xs) zero r e h t =
    let same : x ≡ r = cc in
    ap (λ b. cond b (x ∷ with_one_more d xs) (cond (same_duty (duty_of x) d) (row_of (duty_of x) (x.count + 1) ∷ xs) (row_of d 1 ∷ x ∷ xs))) (ap (λ (z : Row). is_before z (row_of d 1)) same ∙ h)
    ∙ ap (λ b. cond b (row_of (duty_of x) (x.count + 1) ∷ xs) (row_of d 1 ∷ x ∷ xs)) (ap (λ (z : Row). same_duty (duty_of z) d) same ∙ t)
    ∙ ap (λ (z : Row). row_of (duty_of z) (z.count + 1) ∷ xs) same
place_alike d (x ∷ xs) (suc k) r e h t = ap (λ zs. x ∷ zs) (place_alike d xs k r e h t)

-- and else in a new row before it
pub place_new : (d : Duty) (rows : List Row) (k : ℕ) (r : Row) → slice_get rows k ≡ Some r → is_before r (row_of d 1) ≡ false → same_duty (duty_of r) d ≡ false
    → take k rows ++ with_one_more d (drop k rows) ≡ take k rows ++ row_of d 1 ∷ drop k rows
place_new d [] k r e h t = absurd (cc)
place_new d (x ∷ xs) zero r e h t =
    let same : x ≡ r = cc in
    ap (λ b. cond b (x ∷ with_one_more d xs) (cond (same_duty (duty_of x) d) (row_of (duty_of x) (x.count + 1) ∷ xs) (row_of d 1 ∷ x ∷ xs))) (ap (λ (z : Row). is_before z (row_of d 1)) same ∙ h)
    ∙ ap (λ b. cond b (row_of (duty_of x) (x.count + 1) ∷ xs) (row_of d 1 ∷ x ∷ xs)) (ap (λ (z : Row). same_duty (duty_of z) d) same ∙ t)
place_new d (x ∷ xs) (suc k) r e h t = ap (λ zs. x ∷ zs) (place_new d xs k r e h t)

-- behind all rows it has a new row
pub place_last : (d : Duty) (rows : List Row) (k : ℕ) → length rows ≤ k → take k rows ++ with_one_more d (drop k rows) ≡ take k rows ++ row_of d 1 ∷ drop k rows
place_last d [] zero h = refl
place_last d [] (suc k) h = refl
place_last d (x ∷ xs) zero h = absurd (omega arith)
place_last d (x ∷ xs) (suc k) h = ap (λ zs. x ∷ zs) (place_last d xs k (omega arith))

some_here : (rows : List Row) (k : ℕ) (r : Row) → k < length rows → r ≡ get_or rows k r → slice_get rows k ≡ Some r
some_here rows k r l e =
    let x = some_at rows k l in
    x.1 ∙ ap (λ (z : Row). Some z) (sym (e ∙ (get_or_some rows k x.0 r x.1).1))

stops_at : (new : Row) (slice rows : List Row) (k : ℕ) (r : Row) → slice ≡ rows → IfSome (slice_get slice k) (λ r. is_before r new ≡ false) → slice_get rows k ≡ Some r → is_before r new ≡ false
stops_at new slice rows k r e h here = subst (λ o. IfSome o (λ r. is_before r new ≡ false)) (ap (λ xs. slice_get xs k) e ∙ here) h

rest_of : (d : Duty) (slice rows : List Row) (k : ℕ) → slice ≡ rows → with_one_more d slice ≡ take k slice ++ with_one_more d (drop k slice) → take k rows ++ with_one_more d (drop k rows) ≡ with_one_more d rows
rest_of d slice rows k e h = sym (subst (λ xs. with_one_more d xs ≡ take k xs ++ with_one_more d (drop k xs)) e h)

-- a duty more counts in its row, where it has one
pub add_alike : (new : Row) (slice rows : List Row) (k : ℕ) (r q : Row) (b : Bool) → slice ≡ rows → with_one_more (duty_of new) slice ≡ take k slice ++ with_one_more (duty_of new) (drop k slice) → IfSome (slice_get slice k) (λ r. is_before r new ≡ false)
    → k < length rows → r ≡ get_or rows k r → q ≡ get_or rows k q → b ≡ same_duty (duty_of q) (duty_of new) → b ≡ true
    → set rows k (row_of (duty_of r) (r.count + 1)) ≡ with_one_more (duty_of new) rows
add_alike new slice rows k r q b e rest stops l here there alike t =
    let at = some_here rows k r l here in
    let two : Some q ≡ Some r = sym (some_here rows k q l there) ∙ at in
    let same : q ≡ r = cc in
    sym (place_alike (duty_of new) rows k r at (stops_at new slice rows k r e stops at) (ap (λ (z : Row). same_duty (duty_of z) (duty_of new)) (sym same) ∙ sym alike ∙ t))
    ∙ rest_of (duty_of new) slice rows k e rest

-- and else in a new one
pub add_other : (new : Row) (slice rows : List Row) (k : ℕ) (q : Row) (b : Bool) → slice ≡ rows → with_one_more (duty_of new) slice ≡ take k slice ++ with_one_more (duty_of new) (drop k slice) → IfSome (slice_get slice k) (λ r. is_before r new ≡ false)
    → k < length rows → q ≡ get_or rows k q → b ≡ same_duty (duty_of q) (duty_of new) → b ≡ false
    → take k rows ++ row_of (duty_of new) 1 ∷ drop k rows ≡ with_one_more (duty_of new) rows
add_other new slice rows k q b e rest stops l there alike f =
    let at = some_here rows k q l there in
    sym (place_new (duty_of new) rows k q at (stops_at new slice rows k q e stops at) (sym alike ∙ f)) ∙ rest_of (duty_of new) slice rows k e rest

pub add_last : (new : Row) (slice rows : List Row) (k : ℕ) → slice ≡ rows → with_one_more (duty_of new) slice ≡ take k slice ++ with_one_more (duty_of new) (drop k slice) → length rows ≤ k
    → take k rows ++ row_of (duty_of new) 1 ∷ drop k rows ≡ with_one_more (duty_of new) rows
add_last new slice rows k e rest l = sym (place_last (duty_of new) rows k l) ∙ rest_of (duty_of new) slice rows k e rest

-- a row of one duty
pub one_row : (new : Row) (rows : List Row) (k : ℕ) → new.count ≡ 1 → take k rows ++ new ∷ drop k rows ≡ take k rows ++ row_of (duty_of new) 1 ∷ drop k rows
one_row new rows k e = ap (λ (n : ℕ). take k rows ++ row_of (duty_of new) n ∷ drop k rows) e

-- ---- prices
-- the prices so far, with one more
pub prices_more : (i : Problem) (rota : List Duty) (t c : ℕ) (prices more : List ℤ) (v : ℤ) → prices ≡ map (λ t. marginal_price i t (cover i rota t)) (below t) → more ≡ prices ++ v ∷ [] → v ≡ marginal_price i t c → c ≡ cover i rota t
    → more ≡ map (λ t. marginal_price i t (cover i rota t)) (below (t + 1))
prices_more i rota t c prices more v h e price read =
    e ∙ ap (λ zs. zs ++ v ∷ []) h
    ∙ ap (λ z. map (λ t. marginal_price i t (cover i rota t)) (below t) ++ z ∷ []) (price ∙ ap (marginal_price i t) read)
    ∙ sym (map_more (λ t. marginal_price i t (cover i rota t)) t)

pub prices_all : (i : Problem) (rota : List Duty) (t : ℕ) (prices : List ℤ) → prices ≡ map (λ t. marginal_price i t (cover i rota t)) (below t) → t ≡ slots i → prices ≡ marginal_prices i rota
unfolding marginal_prices
prices_all i rota t prices h e = h ∙ ap (λ k. map (λ t. marginal_price i t (cover i rota t)) (below k)) e
