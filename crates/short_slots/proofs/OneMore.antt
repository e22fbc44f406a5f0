-- What a rota costs with one more duty in a slot that is short.
use Rattle.short_slots.proofs.Common.{◌≡◌, inl, inr, ℕ, zero, suc, ◌+◌, ◌-◌, ◌*◌, ◌<◌, ◌≤◌, Bool, true, false, cond, ◌==◌, nat_le, List, [], ◌∷◌, ◌++◌, length, refl, ap, ◌∙◌, subst, arith, sum_by, count_by, cases_Bool, cases_lt, and_parts, and_from, eqb-true, le-leb, sum_by-cons, mul-le-mul_left, Has-append_cases, all_at, all_from, Duty, Problem, slots, need_at, need_max_at, shift_list, below, works, cover, slot_cost, shifts_used, cost, is_on, heads_on, is_legal_duty, is_legal_rota, heads_within, legal_duty_parts, worked_slots, IsMostWorked, enough_shortage}
use Rattle.std.specs.List.{list_all}
use Rattle.break_rules.proofs.Counts.{count_by-below}
use Rattle.rota_cost.specs.Counted.{duties_of}
use Rattle.rota_cost.proofs.Duties.{with_pushed, used_same, used_more}
use Rattle.short_slots.specs.Cheapest.{IsCheapest, Helps}

-- a product whose second factor grows by one at most, and by one
at_most_more : (e x y : ℕ) → x ≤ y + 1 → e * x ≤ e * y + e
at_most_more e x y h = let z : e * x ≤ e * (y + 1) = mul-le-mul_left e h in let split : e * (y + 1) ≡ e * y + e = omega arith in omega arith

one_more : (s u v : ℕ) → v ≡ u + 1 → s * v ≡ s * u + s
one_more s u v h = ap (λ k. s * k) h ∙ omega arith

-- in a slot that wants at least n and at most m, one more employee costs at most the weight of excess
more_costs : (e s n m c : ℕ) → e * (c + 1 - m) + s * (n - (c + 1)) ≤ e * (c - m) + s * (n - c) + e
more_costs e s n m c =
    let above : c + 1 - m ≤ c - m + 1 = omega arith in
    let fewer : n - (c + 1) ≤ n - c = omega arith in
    added (e * (c + 1 - m)) (e * (c - m)) (s * (n - (c + 1))) (s * (n - c)) e (at_most_more e (c + 1 - m) (c - m) above) (mul-le-mul_left s fewer)
  where
    added : (a b u v e : ℕ) → a ≤ b + e → u ≤ v → a + u ≤ b + v + e
    added a b u v e h k = omega arith

-- and where the slot is short it saves the weight of shortage
more_saves : (e s n m c : ℕ) → c < n → e * (c + 1 - m) + s * (n - (c + 1)) + s ≤ e * (c - m) + s * (n - c) + e
more_saves e s n m c short =
    let above : c + 1 - m ≤ c - m + 1 = omega arith in
    let fewer : n - c ≡ n - (c + 1) + 1 = omega arith in
    saved (e * (c + 1 - m)) (e * (c - m)) (s * (n - (c + 1))) (s * (n - c)) e s (at_most_more e (c + 1 - m) (c - m) above) (one_more s (n - (c + 1)) (n - c) fewer)
  where
    saved : (a b u v e s : ℕ) → a ≤ b + e → v ≡ u + s → a + u + s ≤ b + v + e
    saved a b u v e s h k = omega arith

-- what is saved in one slot and lost in those where a duty works, slot by slot and in all
sums_grow : (f h : ℕ → ℕ) (here at : ℕ → Bool) (v e : ℕ) (xs : List ℕ) → ((k : ℕ) → f k + v * cond (here k) 1 0 ≤ h k + e * cond (at k) 1 0)
    → sum_by f xs + v * count_by here xs ≤ sum_by h xs + e * count_by at xs
sums_grow f h here at v e [] each = omega arith
sums_grow f h here at v e (x ∷ xs) each =
    joined v e (f x) (sum_by f xs) (sum_by f (x ∷ xs)) (h x) (sum_by h xs) (sum_by h (x ∷ xs)) (cond (here x) 1 0) (count_by here xs) (count_by here (x ∷ xs)) (cond (at x) 1 0) (count_by at xs) (count_by at (x ∷ xs))
    (sum_by-cons f x xs) (sum_by-cons h x xs) (sum_by-cons (λ k. cond (here k) 1 0) x xs) (sum_by-cons (λ k. cond (at k) 1 0) x xs)
    (each x) (sums_grow f h here at v e xs each)
  where
    joined : (v e a b ab c d cd m n mn p q pq : ℕ) → ab ≡ a + b → cd ≡ c + d → mn ≡ m + n → pq ≡ p + q → a + v * m ≤ c + e * p → b + v * n ≤ d + e * q → ab + v * mn ≤ cd + e * pq
    joined v e a b ab c d cd m n mn p q pq f g h k one rest =
        let x : v * mn ≡ v * m + v * n = ap (λ j. v * j) h ∙ omega arith in
        let y : e * pq ≡ e * p + e * q = ap (λ j. e * j) k ∙ omega arith in
        omega arith

-- a slot with one more duty, of which one slot that is short is meant
slot_grows : (i : Problem) (rota : List Duty) (d : Duty) (t k : ℕ) → works i d t ≡ true → cover i rota t < need_at i t
    → slot_cost i k (cover i (rota ++ d ∷ []) k) + i.shortage * cond (t == k) 1 0 ≤ slot_cost i k (cover i rota k) + i.excess * cond (works i d k) 1 0
slot_grows i rota d t k at_work short =
    let c = cover i rota k in
    let n = need_at i k in
    let m = need_max_at i k in
    let more : cover i (rota ++ d ∷ []) k ≡ c + cond (works i d k) 1 0 = (with_pushed rota d).each (λ x. works i x k) in
    elim (cases_Bool (t == k)) [
      | inl same ↦
          let e : t ≡ k = eqb-true t k same in
          let w : works i d k ≡ true = subst (λ (j : ℕ). works i d j ≡ true) e at_work in
          let less : c < n = subst (λ (j : ℕ). cover i rota j < need_at i j) e short in
          let one : cover i (rota ++ d ∷ []) k ≡ c + 1 = more ∙ ap (λ b. c + cond b 1 0) w in
          saved (slot_cost i k (cover i (rota ++ d ∷ []) k)) (slot_cost i k (c + 1)) (i.shortage * cond (t == k) 1 0) i.shortage (slot_cost i k c) (i.excess * cond (works i d k) 1 0)
          i.excess (ap (slot_cost i k) one) (all i.shortage (t == k) same) (all i.excess (works i d k) w) (more_saves i.excess i.shortage n m c less)
      | inr off ↦ elim (cases_Bool (works i d k)) [
        | inl w ↦
            let one : cover i (rota ++ d ∷ []) k ≡ c + 1 = more ∙ ap (λ b. c + cond b 1 0) w in
            lost (slot_cost i k (cover i (rota ++ d ∷ []) k)) (slot_cost i k (c + 1)) (i.shortage * cond (t == k) 1 0) (slot_cost i k c) (i.excess * cond (works i d k) 1 0) i.excess
            (ap (slot_cost i k) one) (none i.shortage (t == k) off) (all i.excess (works i d k) w) (more_costs i.excess i.shortage n m c)
        | inr w ↦
            let same : cover i (rota ++ d ∷ []) k ≡ c = more ∙ ap (λ b. c + cond b 1 0) w ∙ omega arith in
            kept (slot_cost i k (cover i (rota ++ d ∷ []) k)) (slot_cost i k c) (i.shortage * cond (t == k) 1 0) (i.excess * cond (works i d k) 1 0)
            (ap (slot_cost i k) same) (none i.shortage (t == k) off)
      ]
    ]
  where
    all : (v : ℕ) (b : Bool) → b ≡ true → v * cond b 1 0 ≡ v
    all v b e = ap (λ (z : Bool). v * cond z 1 0) e ∙ omega arith

    none : (v : ℕ) (b : Bool) → b ≡ false → v * cond b 1 0 ≡ 0
    none v b e = ap (λ (z : Bool). v * cond z 1 0) e ∙ omega arith

    saved : (a b l s d r e : ℕ) → a ≡ b → l ≡ s → r ≡ e → b + s ≤ d + e → a + l ≤ d + r
    saved a b l s d r e f g h k = omega arith

    lost : (a b l d r e : ℕ) → a ≡ b → l ≡ 0 → r ≡ e → b ≤ d + e → a + l ≤ d + r
    lost a b l d r e f g h k = omega arith

    kept : (a d l r : ℕ) → a ≡ d → l ≡ 0 → a + l ≤ d + r
    kept a d l r f g = omega arith

-- one more duty uses at most one more shift
shifts_grow : (i : Problem) (rota : List Duty) (d : Duty) → d.shift < length (shift_list i) → shifts_used i (rota ++ d ∷ []) ≤ shifts_used i rota + 1
shifts_grow i rota d hs = cases (duties_of rota d.shift) refl
  where
    cases : (n : ℕ) → duties_of rota d.shift ≡ n → shifts_used i (rota ++ d ∷ []) ≤ shifts_used i rota + 1
    cases zero e = let m : shifts_used i (rota ++ d ∷ []) ≡ shifts_used i rota + 1 = used_more i rota d (rota ++ d ∷ []) (with_pushed rota d) hs e in omega arith
    cases (suc n) e = let m : shifts_used i (rota ++ d ∷ []) ≡ shifts_used i rota = used_same i rota d (rota ++ d ∷ []) (with_pushed rota d) (omega arith) in omega arith

-- the cost with one more duty that works in a slot that is short
cost_grows : (i : Problem) (rota : List Duty) (d : Duty) (t : ℕ) → d.shift < length (shift_list i) → t < slots i → works i d t ≡ true → cover i rota t < need_at i t
    → cost i (rota ++ d ∷ []) + i.shortage ≤ cost i rota + i.excess * worked_slots i d + i.shift
cost_grows i rota d t hs ht at_work short =
    let next = rota ++ d ∷ [] in
    let xs = below (slots i) in
    let after : ℕ → ℕ = λ k. slot_cost i k (cover i next k) in
    let before : ℕ → ℕ = λ k. slot_cost i k (cover i rota k) in
    let all : sum_by after xs + i.shortage * count_by (λ k. t == k) xs ≤ sum_by before xs + i.excess * worked_slots i d =
    sums_grow after before (λ k. t == k) (λ k. works i d k) i.shortage i.excess xs (λ k. slot_grows i rota d t k at_work short) in
    let once : i.shortage * count_by (λ k. t == k) xs ≡ i.shortage = ap (λ n. i.shortage * n) (count_by-below t (slots i) ht) ∙ omega arith in
    let few : i.shift * shifts_used i next ≤ i.shift * (shifts_used i rota + 1) = mul-le-mul_left i.shift (shifts_grow i rota d hs) in
    let split : i.shift * (shifts_used i rota + 1) ≡ i.shift * shifts_used i rota + i.shift = omega arith in
    joined (sum_by after xs) (sum_by before xs) (i.shift * shifts_used i next) (i.shift * shifts_used i rota) (i.shift * (shifts_used i rota + 1)) (i.excess * worked_slots i d) (i.shortage * count_by (λ k. t == k) xs) i.shortage i.shift all once few split
  where
    joined : (a b u v w e z s g : ℕ) → a + z ≤ b + e → z ≡ s → u ≤ w → w ≡ v + g → a + u + s ≤ b + v + e + g
    joined a b u v w e z s g h p q r = omega arith

-- a legal rota is legal with one more duty for which there is room
legal_with : (i : Problem) (rota : List Duty) (d : Duty) → is_legal_rota i rota ≡ true → is_legal_duty i d ≡ true → heads_on rota d.shift d.day < i.heads → is_legal_rota i (rota ++ d ∷ []) ≡ true
legal_with i rota d legal own room =
    let p = and_parts (list_all (is_legal_duty i) rota) (list_all (λ x. nat_le (heads_on rota x.shift x.day) i.heads) rota) legal in
    let next = rota ++ d ∷ [] in
    and_from (list_all (is_legal_duty i) next) (list_all (λ x. nat_le (heads_on next x.shift x.day) i.heads) next)
    (all_from (is_legal_duty i) next (λ x m. elim (Has-append_cases rota (d ∷ []) x m) [
      | inl old ↦ all_at (is_legal_duty i) rota x p.0 old
      | inr new ↦ elim new [ inl e ↦ subst (λ (z : Duty). is_legal_duty i z ≡ true) e own | inr none ↦ absurd none ]
    ]))
    (all_from (λ x. nat_le (heads_on next x.shift x.day) i.heads) next (λ x m. le-leb _ _ (within x.shift x.day)))
  where
    within : (s day : ℕ) → heads_on (rota ++ d ∷ []) s day ≤ i.heads
    within s day =
        let more : heads_on (rota ++ d ∷ []) s day ≡ heads_on rota s day + cond (is_on s day d) 1 0 = (with_pushed rota d).each (is_on s day) in
        let old : heads_on rota s day ≤ i.heads = heads_within i rota legal s day in
        elim (cases_Bool (is_on s day d)) [
          | inl t ↦
              let q = and_parts (d.shift == s) (d.day == day) t in
              let less : heads_on rota s day < i.heads = subst (λ (n : ℕ). heads_on rota n day < i.heads) (eqb-true d.shift s q.0) (subst (λ (n : ℕ). heads_on rota d.shift n < i.heads) (eqb-true d.day day q.1) room) in
              let one : ◌≡◌ {A = ℕ} (cond (is_on s day d) 1 0) 1 = ap (λ b. cond b 1 0) t in
              omega arith
          | inr f ↦
              let no : ◌≡◌ {A = ℕ} (cond (is_on s day d) 1 0) 0 = ap (λ b. cond b 1 0) f in
              omega arith
        ]

-- no slot stays short that a duty could help
pub not_short : (i : Problem) (most : ℕ) (rota : List Duty) (t : ℕ) (d : Duty) → IsMostWorked i most → enough_shortage i most ≤ i.shortage → IsCheapest i rota → t < slots i → Helps i rota t d → need_at i t ≤ cover i rota t
not_short i most rota t d m enough cheapest ht helps = elim (cases_lt (cover i rota t) (need_at i t)) [
  | inl short ↦
      let grows : cost i (rota ++ d ∷ []) + i.shortage ≤ cost i rota + i.excess * worked_slots i d + i.shift = cost_grows i rota d t (legal_duty_parts i d helps.legal).shift ht helps.at_work short in
      let least : cost i rota ≤ cost i (rota ++ d ∷ []) = cheapest.least (rota ++ d ∷ []) (legal_with i rota d cheapest.legal helps.legal helps.room) in
      let few : i.excess * worked_slots i d ≤ i.excess * most = mul-le-mul_left i.excess (m.each d helps.legal) in
      absurd (never (cost i rota) (cost i (rota ++ d ∷ [])) i.shortage (i.excess * worked_slots i d) (i.excess * most) i.shift grows least few enough)
  | inr full ↦ full
]
  where
    never : (a b s e f g : ℕ) → b + s ≤ a + e + g → a ≤ b → e ≤ f → f + g + 1 ≤ s → ⊥
    never a b s e f g h p q r = omega arith
