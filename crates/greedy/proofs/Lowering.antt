-- What more duties lower: marginal prices, the values of shifts, and their gains.
use Rattle.greedy.proofs.Common.{◌≡◌, ◌⊎◌, inl, inr, ℕ, ◌+◌, ◌<◌, ◌≤◌, ℤ, pos, neg_ℤ, ◌+ℤ◌, ◌-ℤ◌, ◌≤ℤ◌, ◌<ℤ◌, Bool, true, false, cond, ◌&&◌, ◌||◌, ◌==◌, not, Option, Some, None, List, [], ◌∷◌, ◌++◌, refl, sym, ap, ◌∙◌, arith, nat_lt, int_lt, option_map_or, list_any, find, ints, and_parts, and_from, cases_Bool, cases_lt, lt-ltb, ltb-true, ne_eqb, list_any-append, Break, int_sum_by, count_by-append, Has, any_none, any_some, from_below, int_sum_by-le, Duty, Problem, slots, need_at, need_max_at, below, lists_of, works, cover, heads_on, is_on, is_used, price_of, earned, duty, marginal_price, marginal_prices, earned_with, is_greatest, best_list, day_value, value_on, counts, gain, next_shift, new_duties}
use Rattle.greedy.proofs.BestLists.{not_true}
use Rattle.greedy.proofs.Falls.{price_below, price_within, price_above, price_at, new_used}
use Rattle.greedy.proofs.Leading.{lt_from}
use Rattle.greedy.proofs.Rounds.{find_some, find_has, listed, lt_true, lt_false, round_grows}

between : (a b c d : ℤ) → a ≡ b → c ≡ d → b ≤ℤ d → a ≤ℤ c
between a b c d e f h = omega (arith, ints)

no_more : (a b : ℤ) → a ≡ b → a ≤ℤ b
no_more a b e = omega (arith, ints)

beyond : (a b : ℤ) → a <ℤ b → b ≤ℤ a → ⊥
beyond a b h g = omega (arith, ints)

-- ---- prices
-- no marginal price is below minus the excess weight
least_price : (i : Problem) (t c : ℕ) → neg_ℤ (pos i.excess) ≤ℤ marginal_price i t c
least_price i t c =
    elim (nat_lt c (need_at i t)) as (λ b. neg_ℤ (pos i.excess) ≤ℤ cond b (pos i.shortage) (cond (nat_lt c (need_max_at i t)) (pos 0) (neg_ℤ (pos i.excess)))) [
      | true ↦ omega (arith, ints)
      | false ↦ elim (nat_lt c (need_max_at i t)) as (λ b. neg_ℤ (pos i.excess) ≤ℤ cond b (pos 0) (neg_ℤ (pos i.excess))) [
        | true ↦ omega (arith, ints)
        | false ↦ omega (arith, ints)
      ]
    ]

marginal_falls : (i : Problem) (t c d : ℕ) → c ≤ d → marginal_price i t d ≤ℤ marginal_price i t c
marginal_falls i t c d h =
    let new = marginal_price i t d in
    let old = marginal_price i t c in
    elim (cases_lt d (need_at i t)) [
      | inl l ↦ no_more new old (price_below i t d l ∙ sym (price_below i t c (omega arith)))
      | inr g ↦ elim (cases_lt d (need_max_at i t)) [
        | inl m ↦ elim (cases_lt c (need_at i t)) [
          | inl l ↦ between new (pos 0) old (pos i.shortage) (price_within i t d g m) (price_below i t c l) (omega (arith, ints))
          | inr n ↦ no_more new old (price_within i t d g m ∙ sym (price_within i t c n (omega arith)))
        ]
        | inr n ↦ between new (neg_ℤ (pos i.excess)) old old (price_above i t d g n) refl (least_price i t c)
      ]
    ]

-- more duties raise no marginal price
pub price_falls : (i : Problem) (rota more : List Duty) (t : ℕ) → t < slots i → price_of (marginal_prices i (rota ++ more)) t ≤ℤ price_of (marginal_prices i rota) t
price_falls i rota more t h =
    let both : cover i (rota ++ more) t ≡ cover i rota t + cover i more t = count_by-append (λ d. works i d t) rota more in
    let grown : cover i rota t ≤ cover i (rota ++ more) t = omega arith in
    between (price_of (marginal_prices i (rota ++ more)) t) (marginal_price i t (cover i (rota ++ more) t)) (price_of (marginal_prices i rota) t) (marginal_price i t (cover i rota t))
    (price_at i (rota ++ more) t h) (price_at i rota t h) (marginal_falls i t (cover i rota t) (cover i (rota ++ more) t) grown)

-- ---- values
earned_falls : (i : Problem) (new old : List ℤ) (d : Duty) → ((t : ℕ) → t < slots i → price_of new t ≤ℤ price_of old t) → earned i new d ≤ℤ earned i old d
earned_falls i new old d h =
    int_sum_by-le (λ t. cond (works i d t) (price_of new t) (pos 0)) (λ t. cond (works i d t) (price_of old t) (pos 0)) (below (slots i)) (λ t m.
    elim (works i d t) as (λ b. cond b (price_of new t) (pos 0) ≤ℤ cond b (price_of old t) (pos 0)) [
      | true ↦ h t (from_below (slots i) t m)
      | false ↦ omega (arith, ints)
    ])

-- of some elements one is greatest
top_of : {X : Type 0} (f : X → ℤ) (x : X) (xs : List X) → (m : X) × Has (x ∷ xs) m × ((y : X) → Has (x ∷ xs) y → f y ≤ℤ f m)
top_of f x [] = (x, inl refl, λ y m. elim m [ inl e ↦ no_more (f y) (f x) (sym (ap f e)) | inr none ↦ absurd none ])
top_of f x (z ∷ zs) =
    let r = top_of f z zs in
    elim (cases_Bool (int_lt (f r.0) (f x))) [
      | inl t ↦
          let more : f r.0 <ℤ f x = lt_true (f r.0) (f x) t in (
            x,
            inl refl,
            λ y m. elim m [
              | inl e ↦ no_more (f y) (f x) (sym (ap f e))
              | inr n ↦ let l : f y ≤ℤ f r.0 = r.2 y n in omega (arith, ints)
            ],
          )
      | inr u ↦
          let less : f x ≤ℤ f r.0 = lt_false (f r.0) (f x) u in (
            r.0,
            inr r.1,
            λ y m. elim m [
              | inl e ↦ let same : f x ≡ f y = ap f e in omega (arith, ints)
              | inr n ↦ r.2 y n
            ],
          )
    ]

found : {X : Type 0} (f : X → ℤ) (xs : List X) (x : X) → Has xs x → (b : X) × (find (λ y. not (list_any (λ o. int_lt (f y) (f o)) xs)) xs ≡ Some b)
found f [] x h = absurd h
found f (z ∷ zs) x h =
    let t = top_of f z zs in
    find_has (λ y. not (list_any (λ o. int_lt (f y) (f o)) (z ∷ zs))) (z ∷ zs) t.0 t.1 (elim (cases_Bool (list_any (λ o. int_lt (f t.0) (f o)) (z ∷ zs))) [
      | inl any ↦ let k = any_some (λ o. int_lt (f t.0) (f o)) (z ∷ zs) any in absurd (beyond (f t.0) (f k.0) (lt_true (f t.0) (f k.0) k.2) (t.2 k.0 k.1))
      | inr e ↦ ap not e
    ])

-- where a list is legal there is a best one
best_exists : (i : Problem) (prices : List ℤ) (s day : ℕ) (list : List Break) → Has (lists_of i s) list → (best : List Break) × (best_list i prices s day ≡ Some best)
unfolding best_list
best_exists i prices s day list m = found (earned_with i prices s day) (lists_of i s) list m

best_most : (i : Problem) (prices : List ℤ) (s day : ℕ) (list best : List Break) → best_list i prices s day ≡ Some best → Has (lists_of i s) list → earned_with i prices s day list ≤ℤ earned_with i prices s day best
unfolding best_list
best_most i prices s day list best e m =
    let f : List Break → ℤ = earned_with i prices s day in
    let p = find_some (is_greatest i prices s day) (lists_of i s) best e in
    lt_false (f best) (f list) (any_none (λ other. int_lt (f best) (f other)) (lists_of i s) list (not_true (list_any (λ other. int_lt (f best) (f other)) (lists_of i s)) p.1) m)

best_cases : (i : Problem) (prices : List ℤ) (s day : ℕ) → (best_list i prices s day ≡ None) ⊎ ((list : List Break) × (best_list i prices s day ≡ Some list))
best_cases i prices s day = elim (best_list i prices s day) as (λ o. (o ≡ None) ⊎ ((list : List Break) × (o ≡ Some list))) [ None ↦ inl refl | Some list ↦ inr (list, refl) ]

value_of : (i : Problem) (prices : List ℤ) (s day : ℕ) (o : Option (List Break)) → best_list i prices s day ≡ o → day_value i prices s day ≡ option_map_or (earned_with i prices s day) o (pos 0)
unfolding day_value
value_of i prices s day o e = ap (λ o. option_map_or (earned_with i prices s day) o (pos 0)) e

-- where no duty earns more the value is no more
pub value_no_more : (i : Problem) (new old : List ℤ) (s day : ℕ) → ((list : List Break) → earned_with i new s day list ≤ℤ earned_with i old s day list) → day_value i new s day ≤ℤ day_value i old s day
value_no_more i new old s day h =
    elim (best_cases i new s day) [
      | inl none ↦ elim (best_cases i old s day) [
        | inl also ↦ no_more (day_value i new s day) (day_value i old s day) (value_of i new s day None none ∙ sym (value_of i old s day None also))
        | inr some ↦
            let b = best_exists i new s day some.0 (listed i old s day some.0 some.1) in
            let wrong : None ≡ Some b.0 = sym none ∙ b.1 in
            absurd (cc)
      ]
      | inr some ↦
          let m = listed i new s day some.0 some.1 in
          let b = best_exists i old s day some.0 m in
          let is : day_value i new s day ≡ earned_with i new s day some.0 = value_of i new s day (Some some.0) some.1 in
          let was : day_value i old s day ≡ earned_with i old s day b.0 = value_of i old s day (Some b.0) b.1 in
          chain (day_value i new s day) (earned_with i new s day some.0) (earned_with i old s day some.0) (earned_with i old s day b.0) (day_value i old s day) is
          (h some.0) (best_most i old s day some.0 b.0 b.1 m) was
    ]
  where
    chain : (a b c d e : ℤ) → a ≡ b → b ≤ℤ c → c ≤ℤ d → e ≡ d → a ≤ℤ e
    chain a b c d e p q r s = omega (arith, ints)

-- where no price rises no value does
pub value_falls : (i : Problem) (new old : List ℤ) (s day : ℕ) → ((t : ℕ) → t < slots i → price_of new t ≤ℤ price_of old t) → day_value i new s day ≤ℤ day_value i old s day
value_falls i new old s day h = value_no_more i new old s day (λ list. earned_falls i new old (duty s day list) h)

-- ---- gains
-- what a day adds to the gain doesn't rise where its value falls and its heads grow
part_falls : (most h k : ℕ) (v w : ℤ) → h ≤ k → w ≤ℤ v → cond (nat_lt k most && int_lt (pos 0) w) w (pos 0) ≤ℤ cond (nat_lt h most && int_lt (pos 0) v) v (pos 0)
part_falls most h k v w more less =
    elim (cases_Bool (nat_lt k most && int_lt (pos 0) w)) [
      | inl t ↦
          let p = and_parts (nat_lt k most) (int_lt (pos 0) w) t in
          let room : k < most = ltb-true k most p.0 in
          let some : pos 0 <ℤ w = lt_true (pos 0) w p.1 in
          let both : (nat_lt h most && int_lt (pos 0) v) ≡ true = and_from (nat_lt h most) (int_lt (pos 0) v) (lt-ltb h most (omega arith)) (lt_from (pos 0) v (omega (arith, ints))) in
          between (cond (nat_lt k most && int_lt (pos 0) w) w (pos 0)) w (cond (nat_lt h most && int_lt (pos 0) v) v (pos 0)) v (ap (λ b. cond b w (pos 0)) t) (ap (λ b. cond b v (pos 0)) both) less
      | inr f ↦ elim (cases_Bool (nat_lt h most && int_lt (pos 0) v)) [
        | inl t ↦
            let some : pos 0 <ℤ v = lt_true (pos 0) v (and_parts (nat_lt h most) (int_lt (pos 0) v) t).1 in
            between (cond (nat_lt k most && int_lt (pos 0) w) w (pos 0)) (pos 0) (cond (nat_lt h most && int_lt (pos 0) v) v (pos 0)) v (ap (λ b. cond b w (pos 0)) f) (ap (λ b. cond b v (pos 0)) t) (omega (arith, ints))
        | inr g ↦ no_more (cond (nat_lt k most && int_lt (pos 0) w) w (pos 0)) (cond (nat_lt h most && int_lt (pos 0) v) v (pos 0)) (ap (λ b. cond b w (pos 0)) f ∙ sym (ap (λ b. cond b v (pos 0)) g))
      ]
    ]

-- the values of the days that count
abbrev pub counted : Problem → List Duty → ℕ → ℤ
counted i rota s = int_sum_by (λ day. cond (counts i rota s day) (value_on i rota s day) (pos 0)) (below i.days)

counted_falls : (i : Problem) (rota more : List Duty) (s : ℕ) → counted i (rota ++ more) s ≤ℤ counted i rota s
unfolding counts
counted_falls i rota more s =
    int_sum_by-le (λ day. cond (counts i (rota ++ more) s day) (value_on i (rota ++ more) s day) (pos 0)) (λ day. cond (counts i rota s day) (value_on i rota s day) (pos 0)) (below i.days) (λ day m.
    let both : heads_on (rota ++ more) s day ≡ heads_on rota s day + heads_on more s day = count_by-append (is_on s day) rota more in
    part_falls i.heads (heads_on rota s day) (heads_on (rota ++ more) s day) (value_on i rota s day) (value_on i (rota ++ more) s day) (omega arith)
    (value_falls i (marginal_prices i (rota ++ more)) (marginal_prices i rota) s day (λ t l. price_falls i rota more t l)))

pub gain_is : (i : Problem) (rota : List Duty) (s : ℕ) → gain i rota s ≡ counted i rota s -ℤ cond (is_used rota s) (pos 0) (pos i.shift)
unfolding gain
gain_is i rota s = refl

-- a shift that more duties leave as used as it was gains no more than before
pub gain_falls : (i : Problem) (rota more : List Duty) (s : ℕ) → is_used (rota ++ more) s ≡ is_used rota s → gain i (rota ++ more) s ≤ℤ gain i rota s
gain_falls i rota more s e =
    least (gain i (rota ++ more) s) (gain i rota s) (counted i (rota ++ more) s) (counted i rota s) (cond (is_used rota s) (pos 0) (pos i.shift))
    (gain_is i (rota ++ more) s ∙ ap (λ b. counted i (rota ++ more) s -ℤ cond b (pos 0) (pos i.shift)) e) (gain_is i rota s) (counted_falls i rota more s)
  where
    least : (a b c d w : ℤ) → a ≡ c -ℤ w → b ≡ d -ℤ w → c ≤ℤ d → a ≤ℤ b
    least a b c d w p q h = omega (arith, ints)

-- and any shift at most the shift weight more
pub gain_rises : (i : Problem) (rota more : List Duty) (s : ℕ) → gain i (rota ++ more) s ≤ℤ (gain i rota s +ℤ pos i.shift)
gain_rises i rota more s =
    weighed (gain i (rota ++ more) s) (gain i rota s) (counted i (rota ++ more) s) (counted i rota s) i.shift (is_used (rota ++ more) s) (is_used rota s) (gain_is i (rota ++ more) s) (gain_is i rota s) (counted_falls i rota more s)
  where
    weighed : (a b c d : ℤ) (w : ℕ) (u v : Bool) → a ≡ c -ℤ cond u (pos 0) (pos w) → b ≡ d -ℤ cond v (pos 0) (pos w) → c ≤ℤ d → a ≤ℤ (b +ℤ pos w)
    weighed a b c d w true true p q h = omega (arith, ints)
    weighed a b c d w true false p q h = omega (arith, ints)
    weighed a b c d w false true p q h = omega (arith, ints)
    weighed a b c d w false false p q h = omega (arith, ints)

-- a round leaves the other shifts as used as they were
pub others_used : (i : Problem) (rota : List Duty) (s k : ℕ) → next_shift i rota ≡ Some s → (k ≡ s → ⊥) → is_used (rota ++ new_duties i rota s) k ≡ is_used rota k
others_used i rota s k e ne =
    let none : is_used (new_duties i rota s) k ≡ false = new_used i rota s k (round_grows i rota s e) ∙ ne_eqb k s ne in
    list_any-append (λ (d : Duty). d.shift == k) rota (new_duties i rota s) ∙ ap (λ b. is_used rota k || b) none ∙ or_no (is_used rota k)
  where
    or_no : (b : Bool) → (b || false) ≡ b
    or_no true = refl
    or_no false = refl
