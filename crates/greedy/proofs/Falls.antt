-- A round lowers the cost by the gain of the shift that it takes.
use Rattle.greedy.proofs.Common.{◌≡◌, inl, inr, ℕ, zero, suc, ◌+◌, ◌-◌, ◌*◌, ◌/◌, ◌%◌, ◌<◌, ◌≤◌, ℤ, pos, neg_ℤ, ◌+ℤ◌, ◌-ℤ◌, ◌*ℤ◌, ◌<ℤ◌, Bool, true, false, cond, ◌&&◌, ◌||◌, ◌==◌, List, [], ◌∷◌, ◌++◌, length, refl, sym, ap, ◌∙◌, arith, sum_by, nat_lt, eq-eqb, Some, slice_get, option_map_or, list_any, ints, and_parts, eqb-true, lt-ltb, le-ltb, cases_Bool, cases_lt, list_any-append, sum_by-cons, get_or-map-range_with_len, div-mul-add, mul-le-mul_right, Break, Rule, works_at, int_sum_by, Has, from_below, any_some, any_none, any_at, same_tests, count_by-append, count_by_same, count_by_none, sum_by_same, count_by_at_most, count_by-below, int_sum_by-cons, int_sum_by-same, int_sum_by-add, int_sum_by_swap, int_sum_by_if, int_sum_by_zero, mul-suc, mul-zero, Shift, Duty, Problem, slots, day_slots, need_at, need_max_at, shift_list, slot_of, below, works, cover, slot_cost, is_used, shifts_used, cost, IsValid, price_of, earned, some_at, Has_at, shift_within, duty, best_duty, marginal_price, marginal_prices, used_list, value_on, counts, gain, next_shift, new_duties, greedy_after}
use Rattle.std.proofs.Common.{count_by}
use Rattle.shift_instance.proofs.Offsets.{same_offset}
use Rattle.greedy.proofs.Rounds.{best_earns, counts_parts, count_new, count_one, from_new_duties, next_gains, lt_true, next_cases, round_grows, round_some, round_none, rounds_none}

pub times_one : (v : ℤ) → v *ℤ pos 1 ≡ v
times_one v = mul-suc v 0 ∙ ap (λ z. v +ℤ z) (mul-zero v) ∙ omega (arith, ints)

-- the marginal price below a band, within it and above it
pub price_below : (i : Problem) (t c : ℕ) → c < need_at i t → marginal_price i t c ≡ pos i.shortage
price_below i t c l = ap (λ b. cond b (pos i.shortage) (cond (nat_lt c (need_max_at i t)) (pos 0) (neg_ℤ (pos i.excess)))) (lt-ltb c (need_at i t) l)

pub price_beyond : (i : Problem) (t c : ℕ) → need_at i t ≤ c → marginal_price i t c ≡ cond (nat_lt c (need_max_at i t)) (pos 0) (neg_ℤ (pos i.excess))
price_beyond i t c g = ap (λ b. cond b (pos i.shortage) (cond (nat_lt c (need_max_at i t)) (pos 0) (neg_ℤ (pos i.excess)))) (le-ltb c (need_at i t) g)

pub price_within : (i : Problem) (t c : ℕ) → need_at i t ≤ c → c < need_max_at i t → marginal_price i t c ≡ pos 0
price_within i t c g l = price_beyond i t c g ∙ ap (λ b. cond b (pos 0) (neg_ℤ (pos i.excess))) (lt-ltb c (need_max_at i t) l)

pub price_above : (i : Problem) (t c : ℕ) → need_at i t ≤ c → need_max_at i t ≤ c → marginal_price i t c ≡ neg_ℤ (pos i.excess)
price_above i t c g n = price_beyond i t c g ∙ ap (λ b. cond b (pos 0) (neg_ℤ (pos i.excess))) (le-ltb c (need_max_at i t) n)

-- what one duty more in a slot, or none, costs less is the slot's marginal price
pub slot_falls : (i : Problem) (t c k : ℕ) → need_at i t ≤ need_max_at i t → k ≤ 1 → pos (slot_cost i t (c + k)) +ℤ marginal_price i t c *ℤ pos k ≡ pos (slot_cost i t c)
slot_falls i t c zero band h = let e : c + 0 ≡ c = omega arith in ap (λ n. pos (slot_cost i t n) +ℤ marginal_price i t c *ℤ pos 0) e ∙ none (marginal_price i t c) (slot_cost i t c)
  where
    none : (p : ℤ) (n : ℕ) → pos n +ℤ p *ℤ pos 0 ≡ pos n
    none p n = ap (λ z. pos n +ℤ z) (mul-zero p) ∙ omega (arith, ints)
slot_falls i t c (suc zero) band h =
    let need = need_at i t in
    let most = need_max_at i t in
    let before = pos (slot_cost i t (c + 1)) in
    elim (cases_lt c need) [
      | inl l ↦
          let a : c + 1 - most ≡ 0 = omega arith in
          let b : c - most ≡ 0 = omega arith in
          let d : need - c ≡ need - (c + 1) + 1 = omega arith in
          ap (λ p. before +ℤ p *ℤ pos 1) (price_below i t c l) ∙ short i.excess i.shortage (c + 1 - most) (c - most) (need - (c + 1)) (need - c) a b d
      | inr g ↦
          let u : need - (c + 1) ≡ 0 = omega arith in
          let v : need - c ≡ 0 = omega arith in
          elim (cases_lt c most) [
            | inl m ↦
                let a : c + 1 - most ≡ 0 = omega arith in
                let b : c - most ≡ 0 = omega arith in
                ap (λ p. before +ℤ p *ℤ pos 1) (price_within i t c g m) ∙ level i.excess i.shortage (c + 1 - most) (c - most) (need - (c + 1)) (need - c) a b u v
            | inr n ↦
                let a : c + 1 - most ≡ c - most + 1 = omega arith in
                ap (λ p. before +ℤ p *ℤ pos 1) (price_above i t c g n) ∙ long i.excess i.shortage (c + 1 - most) (c - most) (need - (c + 1)) (need - c) a u v
          ]
    ]
  where
    short : (e s x y u v : ℕ) → x ≡ 0 → y ≡ 0 → v ≡ u + 1 → pos (e * x + s * u) +ℤ pos s *ℤ pos 1 ≡ pos (e * y + s * v)
    short e s x y u v p q r =
        let a : e * x ≡ 0 = ap (λ n. e * n) p ∙ omega arith in
        let b : e * y ≡ 0 = ap (λ n. e * n) q ∙ omega arith in
        let d : s * v ≡ s * u + s = ap (λ n. s * n) r ∙ omega arith in
        ap (λ z. pos (e * x + s * u) +ℤ z) (times_one (pos s)) ∙ omega (arith, ints)

    level : (e s x y u v : ℕ) → x ≡ 0 → y ≡ 0 → u ≡ 0 → v ≡ 0 → pos (e * x + s * u) +ℤ pos 0 *ℤ pos 1 ≡ pos (e * y + s * v)
    level e s x y u v p q r t =
        let same : e * x + s * u ≡ e * y + s * v = ap (λ n. e * n + s * u) (p ∙ sym q) ∙ ap (λ n. e * y + s * n) (r ∙ sym t) in
        ap (λ z. pos (e * x + s * u) +ℤ z) (times_one (pos 0)) ∙ omega (arith, ints)

    long : (e s x y u v : ℕ) → x ≡ y + 1 → u ≡ 0 → v ≡ 0 → pos (e * x + s * u) +ℤ neg_ℤ (pos e) *ℤ pos 1 ≡ pos (e * y + s * v)
    long e s x y u v p q r =
        let a : e * x ≡ e * y + e = ap (λ n. e * n) p ∙ omega arith in
        let b : s * u ≡ 0 = ap (λ n. s * n) q ∙ omega arith in
        let d : s * v ≡ 0 = ap (λ n. s * n) r ∙ omega arith in
        ap (λ z. pos (e * x + s * u) +ℤ z) (times_one (neg_ℤ (pos e))) ∙ omega (arith, ints)
slot_falls i t c (suc (suc k)) band h = absurd (omega arith)

-- the slots of a shift on two days are apart
works_offset : (i : Problem) (s day t : ℕ) (list : List Break) (x : Shift × Rule) → slice_get (shift_list i) s ≡ Some x → works i (duty s day list) t ≡ true → (o : ℕ) × (o < x.0.len) × ((day * day_slots i + x.0.start + o) % slots i ≡ t)
works_offset i s day t list x e h =
    let q : ℕ → Bool = λ o. works_at x.1 x.0.len list o && (slot_of i x.0 day o == t) in
    let any : list_any q (below x.0.len) ≡ true = sym (ap (λ o. option_map_or (λ (x : Shift × Rule). list_any (λ o. works_at x.1 x.0.len list o && (slot_of i x.0 day o == t)) (below x.0.len)) o false) e) ∙ h in
    let o = any_some q (below x.0.len) any in
    (o.0, from_below x.0.len o.0 o.1, eqb-true _ _ (and_parts (works_at x.1 x.0.len list o.0) (slot_of i x.0 day o.0 == t) o.2).1)

one_day : (i : Problem) (s a b t : ℕ) (l m : List Break) (x : Shift × Rule) → IsValid i → slice_get (shift_list i) s ≡ Some x → a < i.days → b < i.days → works i (duty s a l) t ≡ true → works i (duty s b m) t ≡ true → a ≡ b
one_day i s a b t l m x valid e ha hb wa wb =
    let within = shift_within i valid x (Has_at (shift_list i) s x e) in
    let short : x.0.len ≤ day_slots i = within.short in
    let p = works_offset i s a t l x e wa in
    let q = works_offset i s b t m x e wb in
    let n = slots i in
    let d = day_slots i in
    let lp : p.0 < d = (let z : p.0 < x.0.len = p.1 in omega arith) in
    let lq : q.0 < d = (let z : q.0 < x.0.len = q.1 in omega arith) in
    let na : suc a * d ≤ i.days * d = mul-le-mul_right d ha in
    let nb : suc b * d ≤ i.days * d = mul-le-mul_right d hb in
    let ea : (x.0.start + (a * d + p.0)) % n ≡ t = ap (λ k. k % n) (let z : x.0.start + (a * d + p.0) ≡ a * d + x.0.start + p.0 = omega arith in z) ∙ p.2 in
    let eb : (x.0.start + (b * d + q.0)) % n ≡ t = ap (λ k. k % n) (let z : x.0.start + (b * d + q.0) ≡ b * d + x.0.start + q.0 = omega arith in z) ∙ q.2 in
    let same : a * d + p.0 ≡ b * d + q.0 = same_offset x.0.start (a * d + p.0) (b * d + q.0) n (omega arith) (omega arith) (ea ∙ sym eb) in
    sym (div-mul-add a d p.0 lp) ∙ ap (λ k. k / d) same ∙ div-mul-add b d q.0 lq

-- the duty of a day that counts earns its value
best_value : (i : Problem) (rota : List Duty) (s day : ℕ) → counts i rota s day ≡ true → earned i (marginal_prices i rota) (best_duty i (marginal_prices i rota) s day) ≡ value_on i rota s day
best_value i rota s day h = best_earns i (marginal_prices i rota) s day (counts_parts i rota s day h).1

pub price_at : (i : Problem) (rota : List Duty) (t : ℕ) → t < slots i → price_of (marginal_prices i rota) t ≡ marginal_price i t (cover i rota t)
unfolding marginal_prices
price_at i rota t h = get_or-map-range_with_len (λ t. marginal_price i t (cover i rota t)) 0 (slots i) t t (pos 0) h (omega arith)

-- a test that at most one number below n passes
at_most_one : (q : ℕ → Bool) (n : ℕ) → ((x y : ℕ) → x < n → y < n → q x ≡ true → q y ≡ true → x ≡ y) → count_by q (below n) ≤ 1
at_most_one q n one =
    elim (cases_Bool (list_any q (below n))) [
      | inl t ↦
          let x = any_some q (below n) t in
          let most : count_by q (below n) ≤ count_by (λ s. x.0 == s) (below n) = count_by_at_most q (λ s. x.0 == s) (below n) (λ y m e. eq-eqb x.0 y (one x.0 y (from_below n x.0 x.1) (from_below n y m) x.2 e)) in
          let once : count_by (λ s. x.0 == s) (below n) ≡ 1 = count_by-below x.0 n (from_below n x.0 x.1) in
          omega arith
      | inr f ↦ let none : count_by q (below n) ≡ 0 = count_by_none q (below n) (λ y m. any_none q (below n) y f m) in omega arith
    ]

pub pos_sum : (f : ℕ → ℕ) (xs : List ℕ) → int_sum_by (λ x. pos (f x)) xs ≡ pos (sum_by f xs)
pos_sum f [] = refl
pos_sum f (x ∷ xs) = int_sum_by-cons (λ x. pos (f x)) x xs ∙ ap (λ z. pos (f x) +ℤ z) (pos_sum f xs) ∙ ap pos (sym (sum_by-cons f x xs))

-- the new duties that work in a slot
newly : Problem → List Duty → ℕ → ℕ → ℕ → Bool
newly i rota s t day = counts i rota s day && works i (best_duty i (marginal_prices i rota) s day) t

-- excess and shortage fall by the values of the days that count
slots_fall : (i : Problem) (rota : List Duty) (s : ℕ) → IsValid i → s < length (shift_list i)
    → pos (sum_by (λ t. slot_cost i t (cover i (rota ++ new_duties i rota s) t)) (below (slots i))) +ℤ int_sum_by (λ day. cond (counts i rota s day) (value_on i rota s day) (pos 0)) (below i.days)
    ≡ pos (sum_by (λ t. slot_cost i t (cover i rota t)) (below (slots i)))
unfolding newly
slots_fall i rota s valid hs =
    let n = slots i in
    let days = i.days in
    let x = some_at (shift_list i) s hs in
    let prices = marginal_prices i rota in
    let new = new_duties i rota s in
    let k : ℕ → ℕ = λ t. count_by (newly i rota s t) (below days) in
    let price : ℕ → ℤ = λ t. marginal_price i t (cover i rota t) in
    let w : ℕ → ℕ → Bool = λ day t. works i (best_duty i (marginal_prices i rota) s day) t in
    let values : int_sum_by (λ t. price t *ℤ pos (k t)) (below n) ≡ int_sum_by (λ day. cond (counts i rota s day) (value_on i rota s day) (pos 0)) (below days) =
    int_sum_by-same (λ t. price t *ℤ pos (k t)) (λ t. int_sum_by (λ day. cond (newly i rota s t day) (price t) (pos 0)) (below days)) (below n) (λ t m. sym (int_sum_by_if (newly i rota s t) (price t) (below days)))
    ∙ int_sum_by_swap (λ t day. cond (newly i rota s t day) (price t) (pos 0)) (below n) (below days)
    ∙ int_sum_by-same (λ day. int_sum_by (λ t. cond (newly i rota s t day) (price t) (pos 0)) (below n)) (λ day. cond (counts i rota s day) (value_on i rota s day) (pos 0)) (below days) (λ day m.
    elim (cases_Bool (counts i rota s day)) [
      | inl t ↦
          ap (λ b. int_sum_by (λ t. cond (b && w day t) (price t) (pos 0)) (below n)) t
          ∙ int_sum_by-same (λ t. cond (w day t) (price t) (pos 0)) (λ t. cond (w day t) (price_of prices t) (pos 0)) (below n) (λ t l. ap (λ z. cond (w day t) z (pos 0)) (sym (price_at i rota t (from_below n t l))))
          ∙ best_value i rota s day t ∙ ap (λ b. cond b (value_on i rota s day) (pos 0)) (sym t)
      | inr f ↦ ap (λ b. int_sum_by (λ t. cond (b && w day t) (price t) (pos 0)) (below n)) f ∙ int_sum_by_zero (below n) ∙ ap (λ b. cond b (value_on i rota s day) (pos 0)) (sym f)
    ]) in
    ap (λ z. pos (sum_by (λ t. slot_cost i t (cover i (rota ++ new) t)) (below n)) +ℤ z) (sym values)
    ∙ ap (λ z. z +ℤ int_sum_by (λ t. price t *ℤ pos (k t)) (below n)) (sym (pos_sum (λ t. slot_cost i t (cover i (rota ++ new) t)) (below n)))
    ∙ sym (int_sum_by-add (λ t. pos (slot_cost i t (cover i (rota ++ new) t))) (λ t. price t *ℤ pos (k t)) (below n))
    ∙ int_sum_by-same (λ t. pos (slot_cost i t (cover i (rota ++ new) t)) +ℤ price t *ℤ pos (k t)) (λ t. pos (slot_cost i t (cover i rota t))) (below n) (λ t m.
    ap (λ c. pos (slot_cost i t c) +ℤ price t *ℤ pos (k t))
    (count_by-append (λ d. works i d t) rota new ∙ ap (λ c. cover i rota t + c) (count_new i rota s (λ d. works i d t)))
    ∙ slot_falls i t (cover i rota t) (k t) (valid.bands t (from_below n t m))
    (at_most_one (newly i rota s t) days (λ a b ha hb p q.
    one_day i s a b t (used_list i prices s a) (used_list i prices s b) x.0 valid x.1 ha hb (and_parts (counts i rota s a) (w a t) p).1 (and_parts (counts i rota s b) (w b t) q).1)))
    ∙ pos_sum (λ t. slot_cost i t (cover i rota t)) (below n)

-- the shifts used are one more where the shift was not used yet
used_more : (p q : ℕ → Bool) (s n : ℕ) → s < n → ((k : ℕ) → k < n → q k ≡ (p k || (k == s))) → count_by q (below n) + cond (p s) 1 0 ≡ count_by p (below n) + 1
used_more p q s n h e =
    let xs = below n in
    let both : count_by (λ k. p k && (k == s)) xs ≡ cond (nat_lt s n && p s) 1 0 = count_one p s n in
    let here : count_by (λ k. true && (k == s)) xs ≡ cond (nat_lt s n && true) 1 0 = count_one (λ k. true) s n in
    let in_range : nat_lt s n ≡ true = lt-ltb s n h in
    let split : sum_by (λ k. cond (p k || (k == s)) 1 0 + cond (p k && (k == s)) 1 0) xs ≡ sum_by (λ k. cond (p k) 1 0 + cond (k == s) 1 0) xs =
    sum_by_same (λ k. cond (p k || (k == s)) 1 0 + cond (p k && (k == s)) 1 0) (λ k. cond (p k) 1 0 + cond (k == s) 1 0) xs (λ k m. each (p k) (k == s)) in
    let left = sum_add (λ k. cond (p k || (k == s)) 1 0) (λ k. cond (p k && (k == s)) 1 0) xs in
    let right = sum_add (λ k. cond (p k) 1 0) (λ k. cond (k == s) 1 0) xs in
    let same : count_by q xs ≡ count_by (λ k. p k || (k == s)) xs = count_by_same q (λ k. p k || (k == s)) xs (λ k m. e k (from_below n k m)) in
    let b : count_by (λ k. p k && (k == s)) xs ≡ cond (p s) 1 0 = both ∙ ap (λ c. cond (c && p s) 1 0) in_range in
    let o : count_by (λ k. k == s) xs ≡ 1 = here ∙ ap (λ c. cond (c && true) 1 0) in_range in
    omega arith
  where
    each : (a b : Bool) → ◌≡◌ {A = ℕ} (cond (a || b) 1 0 + cond (a && b) 1 0) (cond a 1 0 + cond b 1 0)
    each true true = refl
    each true false = refl
    each false true = refl
    each false false = refl

    sum_add : (f g : ℕ → ℕ) (xs : List ℕ) → sum_by (λ k. f k + g k) xs ≡ sum_by f xs + sum_by g xs
    sum_add f g [] = refl
    sum_add f g (x ∷ xs) =
        let h : sum_by (λ k. f k + g k) xs ≡ sum_by f xs + sum_by g xs = sum_add f g xs in
        let a : sum_by (λ k. f k + g k) (x ∷ xs) ≡ f x + g x + sum_by (λ k. f k + g k) xs = sum_by-cons (λ k. f k + g k) x xs in
        let b : sum_by f (x ∷ xs) ≡ f x + sum_by f xs = sum_by-cons f x xs in
        let d : sum_by g (x ∷ xs) ≡ g x + sum_by g xs = sum_by-cons g x xs in
        omega arith

-- a shift with new duties is used, and no other shift is by them
pub new_used : (i : Problem) (rota : List Duty) (s k : ℕ) → 1 ≤ length (new_duties i rota s) → is_used (new_duties i rota s) k ≡ (k == s)
new_used i rota s k some =
    let first = has_one (new_duties i rota s) some in
    let at : (d : Duty) → Has (new_duties i rota s) d → s ≡ d.shift = λ d m. ap (λ (x : Duty). x.shift) (from_new_duties i rota s d m).3 in
    same_tests (is_used (new_duties i rota s) k) (k == s)
    (λ h. let d = any_some (λ (d : Duty). d.shift == k) (new_duties i rota s) h in eq-eqb k s (sym (at d.0 d.1 ∙ eqb-true d.0.shift k d.2)))
    (λ h. any_at (λ (d : Duty). d.shift == k) (new_duties i rota s) first.0 first.1 (eq-eqb first.0.shift k (sym (at first.0 first.1) ∙ sym (eqb-true k s h))))
  where
    has_one : {X : Type 0} (xs : List X) → 1 ≤ length xs → (x : X) × Has xs x
    has_one [] h = absurd (omega arith)
    has_one (x ∷ xs) h = (x, inl refl)

weigh : (a b g u v : ℕ) (w : Bool) (z : ℤ) → pos a +ℤ z ≡ pos b → v + cond w 1 0 ≡ u + 1 → pos (a + g * v) +ℤ (z -ℤ cond w (pos 0) (pos g)) ≡ pos (b + g * u)
weigh a b g u v true z e f =
    let s : v ≡ u = omega arith in
    let m : g * v ≡ g * u = ap (λ n. g * n) s in
    omega (arith, ints)
weigh a b g u v false z e f =
    let s : v ≡ u + 1 = omega arith in
    let m : g * v ≡ g * u + g = ap (λ n. g * n) s ∙ omega arith in
    omega (arith, ints)

-- the gain of the shift that is taken is what the cost falls by
pub cost_falls : (i : Problem) (rota : List Duty) (s : ℕ) → IsValid i → next_shift i rota ≡ Some s → pos (cost i (rota ++ new_duties i rota s)) +ℤ gain i rota s ≡ pos (cost i rota)
unfolding gain
cost_falls i rota s valid e =
    let hs = (next_gains i rota s e).0 in
    let some = round_grows i rota s e in
    let next = rota ++ new_duties i rota s in
    weigh (sum_by (λ t. slot_cost i t (cover i next t)) (below (slots i))) (sum_by (λ t. slot_cost i t (cover i rota t)) (below (slots i)))
    i.shift (shifts_used i rota) (shifts_used i next) (is_used rota s)
    (int_sum_by (λ day. cond (counts i rota s day) (value_on i rota s day) (pos 0)) (below i.days))
    (slots_fall i rota s valid hs)
    (used_more (is_used rota) (is_used next) s (length (shift_list i)) hs (λ k l.
    list_any-append (λ (d : Duty). d.shift == k) rota (new_duties i rota s) ∙ ap (λ b. is_used rota k || b) (new_used i rota s k some)))

round_cheaper : (i : Problem) (rota : List Duty) (s : ℕ) → IsValid i → next_shift i rota ≡ Some s → cost i (rota ++ new_duties i rota s) < cost i rota
round_cheaper i rota s valid e =
    let gains : pos 0 <ℤ gain i rota s = lt_true (pos 0) (gain i rota s) (next_gains i rota s e).1 in
    less (cost i (rota ++ new_duties i rota s)) (cost i rota) (gain i rota s) (cost_falls i rota s valid e) gains
  where
    less : (m n : ℕ) (z : ℤ) → pos m +ℤ z ≡ pos n → pos 0 <ℤ z → m < n
    less m n z e h = omega (arith, ints)

-- so the plan after more rounds costs no more
pub rounds_cheaper : (i : Problem) (n : ℕ) (rota : List Duty) → IsValid i → cost i (greedy_after i n rota) ≤ cost i rota
rounds_cheaper i zero rota valid = let e : cost i (greedy_after i zero rota) ≡ cost i rota = ap (cost i) (rounds_none i rota) in omega arith
rounds_cheaper i (suc n) rota valid =
    elim (next_cases i rota) [
      | inl none ↦ let e : cost i (greedy_after i (suc n) rota) ≡ cost i rota = ap (cost i) (round_none i (suc n) rota none) in omega arith
      | inr some ↦
          let e : cost i (greedy_after i (suc n) rota) ≡ cost i (greedy_after i n (rota ++ new_duties i rota some.0)) = ap (cost i) (round_some i n rota some.0 some.1) in
          let rest : cost i (greedy_after i n (rota ++ new_duties i rota some.0)) ≤ cost i (rota ++ new_duties i rota some.0) = rounds_cheaper i n (rota ++ new_duties i rota some.0) valid in
          let one : cost i (rota ++ new_duties i rota some.0) < cost i rota = round_cheaper i rota some.0 valid some.1 in
          omega arith
    ]
