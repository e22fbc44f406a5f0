-- The best list of a shift on a day: the least of those that earn most.
use Rattle.greedy.proofs.Common.{◌≡◌, inl, inr, ℕ, zero, suc, ◌+◌, ◌*◌, ◌≤◌, ℤ, pos, neg_ℤ, ◌+ℤ◌, ◌≤ℤ◌, ◌<ℤ◌, Bool, true, false, cond, not, Option, Some, None, List, [], ◌∷◌, refl, sym, ap, ◌∙◌, subst, arith, int_lt, slice_get, MatchOption, list_any, find, ints, cases_Bool, false≢true, Break, int_sum_by, Has, Sorted, any_some, any_none, IsLess, Duty, Problem, slots, shift_list, below, lists_of, is_list_of, works, price_of, earned, worth, IsBest, Has-lists_of, from_lists_of, duty, earned_with, is_greatest, best_list, IsWithin, ArePrices, Sorted-lists_of, int_sum_below_more}
use Rattle.patterns.specs.declared.Pattern.{Pattern}
use Rattle.greedy.proofs.Leading.{find_none}
use Rattle.greedy.proofs.Rounds.{lt_true, lt_false}

-- in a list that is in order, an element that passes is found where none before it passes
find_least : {X : Type 0} (R : X → X → Type 0) (p : X → Bool) (xs : List X) (x : X) → Sorted R xs → Has xs x → p x ≡ true → ((y : X) → Has xs y → p y ≡ true → R y x → ⊥) → find p xs ≡ Some x
find_least R p [] x s m t least = absurd m
find_least R p (y ∷ ys) x s m t least =
    elim m [
      | inl e ↦ ap (λ b. cond b (Some y) (find p ys)) (ap p e ∙ t) ∙ ap (λ z. Some z) e
      | inr r ↦ elim (cases_Bool (p y)) [
        | inl h ↦ absurd (least y (inl refl) h (s.0 x r))
        | inr f ↦ ap (λ b. cond b (Some y) (find p ys)) f ∙ find_least R p ys x s.1 r t (λ z n. least z (inr n))
      ]
    ]

pub not_true : (b : Bool) → not b ≡ true → b ≡ false
not_true true h = absurd (false≢true h)
not_true false h = refl

-- without bonuses a duty is worth what it earns
pub worth_none : (i : Problem) (prices : List ℤ) (d : Duty) → worth i prices [] d ≡ earned i prices d
worth_none i prices d = no_more (earned i prices d)
  where
    no_more : (z : ℤ) → z +ℤ pos 0 ≡ z
    no_more z = omega (arith, ints)

-- a list that is the least of greatest worth is the best list
pub best_found : (i : Problem) (prices : List ℤ) (s day : ℕ) (list : List Break) (value : ℤ) → IsBest i s day prices [] list value → (best_list i prices s day ≡ Some list) × (value ≡ earned_with i prices s day list)
unfolding best_list
best_found i prices s day list value b =
    let f : List Break → ℤ = earned_with i prices s day in
    let lists = lists_of i s in
    let worths : List Break → ℤ = λ l. worth i prices [] (duty s day l) in
    let is : value ≡ f list = b.is_worth ∙ worth_none i prices (duty s day list) in (
      find_least IsLess (is_greatest i prices s day) lists list (Sorted-lists_of (slice_get (shift_list i) s)) (Has-lists_of i s list b.legal)
          (elim (cases_Bool (list_any (λ other. int_lt (f list) (f other)) lists)) [
            | inl t ↦
                let other = any_some (λ other. int_lt (f list) (f other)) lists t in
                let more : f list <ℤ f other.0 = lt_true (f list) (f other.0) other.2 in
                let most : worths other.0 ≤ℤ value = b.greatest other.0 (from_lists_of i s other.0 other.1) in
                let e : worths other.0 ≡ f other.0 = worth_none i prices (duty s day other.0) in
                absurd (beyond (f list) (f other.0) (worths other.0) value more most e is)
            | inr e ↦ ap not e
          ])
          (λ y m g less.
          let none : list_any (λ other. int_lt (f y) (f other)) lists ≡ false = not_true (list_any (λ other. int_lt (f y) (f other)) lists) g in
          let up : f list ≤ℤ f y = lt_false (f y) (f list) (any_none (λ other. int_lt (f y) (f other)) lists list none (Has-lists_of i s list b.legal)) in
          let legal = from_lists_of i s y m in
          let most : worths y ≤ℤ value = b.greatest y legal in
          let e : worths y ≡ f y = worth_none i prices (duty s day y) in
          false≢true (sym (b.least y legal (same (f list) (f y) (worths y) value up most e is)) ∙ less)),
      is,
    )
  where
    beyond : (a b w v : ℤ) → a <ℤ b → w ≤ℤ v → w ≡ b → v ≡ a → ⊥
    beyond a b w v h m e f = omega (arith, ints)

    same : (a b w v : ℤ) → a ≤ℤ b → w ≤ℤ v → w ≡ b → v ≡ a → w ≡ v
    same a b w v h m e f = omega (arith, ints)

-- and where no list is legal there is none
pub best_missing : (i : Problem) (prices : List ℤ) (s day : ℕ) → ((list : List Break) → is_list_of i s list ≡ false) → best_list i prices s day ≡ None
unfolding best_list
best_missing i prices s day h = find_none (is_greatest i prices s day) (lists_of i s) (λ list m. absurd (false≢true (sym (h list) ∙ from_lists_of i s list m)))

-- ---- sizes
pub sum_within : (f : ℕ → ℤ) (b n : ℕ) → ((t : ℕ) → IsWithin b (f t)) → IsWithin (n * b) (int_sum_by f (below n))
sum_within f b zero h = record { above = omega (arith, ints); below = omega (arith, ints) }
sum_within f b (suc n) h =
    let r = sum_within f b n h in
    let low : neg_ℤ (pos (n * b)) ≤ℤ int_sum_by f (below n) = r.above in
    let high : int_sum_by f (below n) ≤ℤ pos (n * b) = r.below in
    let one : neg_ℤ (pos b) ≤ℤ f n = (h n).above in
    let two : f n ≤ℤ pos b = (h n).below in
    let m : int_sum_by f (below (n + 1)) ≡ int_sum_by f (below n) +ℤ f n = int_sum_below_more f n in
    let e : int_sum_by f (below (suc n)) ≡ int_sum_by f (below (n + 1)) = ap (λ k. int_sum_by f (below k)) (let s : suc n ≡ n + 1 = omega arith in s) in
    let p : suc n * b ≡ n * b + b = omega arith in
    record { above = omega (arith, ints); below = omega (arith, ints) }

widen : (a b : ℕ) (z : ℤ) → a ≤ b → IsWithin a z → IsWithin b z
widen a b z h w =
    let low : neg_ℤ (pos a) ≤ℤ z = w.above in
    let high : z ≤ℤ pos a = w.below in
    record { above = omega (arith, ints); below = omega (arith, ints) }

-- what a duty earns is no more than the weight of all slots
pub earned_small : (i : Problem) (prices : List ℤ) (d : Duty) → ArePrices i prices → IsWithin (2016 * 1000000) (earned i prices d)
earned_small i prices d h =
    let few : slots i ≤ 2016 = h.valid.few_slots in
    widen (slots i * 1000000) (2016 * 1000000) (earned i prices d) (omega arith)
    (sum_within (λ t. cond (works i d t) (price_of prices t) (pos 0)) 1000000 (slots i) (λ t. elim (works i d t) as (λ b. IsWithin 1000000 (cond b (price_of prices t) (pos 0))) [
      | true ↦ h.small t
      | false ↦ record { above = omega (arith, ints); below = omega (arith, ints) }
    ]))

-- what holds where nothing was found
pub none_at : {X : Type 0} {A : Type 0} (o : Option X) (B : X → Type 0) → o ≡ None → MatchOption o A B → A
none_at {X} {A} o B e h = subst (λ o. MatchOption o A B) e h

-- what was found, as a pair
pub found_at : (i : Problem) (prices : List ℤ) (s day : ℕ) (o : Option (Pattern × ℤ)) (p : Pattern) (value : ℤ) (A : Type 0) → o ≡ Some (p, value) → MatchOption o A (λ q. IsBest i s day prices [] q.0.list q.1) → IsBest i s day prices [] p.list value
found_at i prices s day o p value A e h = subst (λ o. MatchOption o A (λ q. IsBest i s day prices [] q.0.list q.1)) e h
