-- How many duties of a legal rota work at once, and that no legal rota costs much.
use Rattle.rota_cost.proofs.Common.{◌≡◌, inl, inr, ℕ, zero, suc, ◌+◌, ◌-◌, ◌*◌, ◌/◌, ◌%◌, ◌<◌, ◌≤◌, Bool, true, false, cond, ◌&&◌, ◌==◌, List, [], ◌∷◌, length, refl, sym, ap, ◌∙◌, arith, sum_by, count_by, nat_lt, eq-eqb, Option, Some, None, slice_get, option_map_or, list_any, and_parts, and_from, lt-ltb, le-ltb, eqb-true, false≢true, cases_Bool, cases_order, ne_eqb, and_right, sum_by-cons, count_by-le-length, length-range_with_len, mul-add-lt, div-mul-add, mul-le-mul, mul-le-mul_right, Rule, works_at, Has, any_some, any_none, from_below, count_by_none, count_by_at_most, count_by_same, Shift, Duty, Problem, shift_list, slots, day_slots, slot_of, need_at, need_max_at, below, works, is_on, heads_on, is_legal_rota, cover, slot_cost, shifts_used, is_used, cost, IsValid, same_offset, heads_within, legal_duties, Has_at, shift_within}

pub split_count : {X : Type 0} (p q r : X → Bool) (xs : List X) → ((x : X) → ◌≡◌ {A = ℕ} (cond (p x) 1 0) (cond (q x) 1 0 + cond (r x) 1 0)) → count_by p xs ≡ count_by q xs + count_by r xs
split_count p q r [] h = refl
split_count {X} p q r (x ∷ xs) h =
    let a : count_by p (x ∷ xs) ≡ cond (p x) 1 0 + count_by p xs = sum_by-cons (λ x. cond (p x) 1 0) x xs in
    let b : count_by q (x ∷ xs) ≡ cond (q x) 1 0 + count_by q xs = sum_by-cons (λ x. cond (q x) 1 0) x xs in
    let c : count_by r (x ∷ xs) ≡ cond (r x) 1 0 + count_by r xs = sum_by-cons (λ x. cond (r x) 1 0) x xs in
    let d : ◌≡◌ {A = ℕ} (cond (p x) 1 0) (cond (q x) 1 0 + cond (r x) 1 0) = h x in
    let e : count_by p xs ≡ count_by q xs + count_by r xs = split_count p q r xs h in
    omega arith

last_or_below : (a n : ℕ) → ◌≡◌ {A = ℕ} (cond (nat_lt a (suc n)) 1 0) (cond (nat_lt a n) 1 0 + cond (a == n) 1 0)
last_or_below a n =
    elim (cases_order a n) [
      | inl e ↦ let x : ◌≡◌ {A = ℕ} (cond (nat_lt a (suc n)) 1 0) 1 = ap (λ t. cond t 1 0) (lt-ltb a (suc n) (omega arith)) in
          let y : ◌≡◌ {A = ℕ} (cond (nat_lt a n) 1 0) 0 = ap (λ t. cond t 1 0) (le-ltb a n (omega arith)) in
          let z : ◌≡◌ {A = ℕ} (cond (a == n) 1 0) 1 = ap (λ t. cond t 1 0) (eq-eqb a n e) in omega arith
      | inr o ↦ elim o [
        | inl l ↦ let x : ◌≡◌ {A = ℕ} (cond (nat_lt a (suc n)) 1 0) 1 = ap (λ t. cond t 1 0) (lt-ltb a (suc n) (omega arith)) in
            let y : ◌≡◌ {A = ℕ} (cond (nat_lt a n) 1 0) 1 = ap (λ t. cond t 1 0) (lt-ltb a n l) in
            let z : ◌≡◌ {A = ℕ} (cond (a == n) 1 0) 0 = ap (λ t. cond t 1 0) (ne_eqb a n (λ e. omega arith)) in omega arith
        | inr g ↦ let x : ◌≡◌ {A = ℕ} (cond (nat_lt a (suc n)) 1 0) 0 = ap (λ t. cond t 1 0) (le-ltb a (suc n) (omega arith)) in
            let y : ◌≡◌ {A = ℕ} (cond (nat_lt a n) 1 0) 0 = ap (λ t. cond t 1 0) (le-ltb a n (omega arith)) in
            let z : ◌≡◌ {A = ℕ} (cond (a == n) 1 0) 0 = ap (λ t. cond t 1 0) (ne_eqb a n (λ e. omega arith)) in omega arith
      ]
    ]

one_more : (p : Bool) (a b c : Bool) → ◌≡◌ {A = ℕ} (cond a 1 0) (cond b 1 0 + cond c 1 0) → ◌≡◌ {A = ℕ} (cond (p && a) 1 0) (cond (p && b) 1 0 + cond (p && c) 1 0)
one_more true a b c h = h
one_more false a b c h = omega arith

-- where at most m elements that pass have each number below n, at most n times m have a number below n
pub count_below : {X : Type 0} (p : X → Bool) (key : X → ℕ) (n m : ℕ) (xs : List X) → ((k : ℕ) → k < n → count_by (λ x. p x && (key x == k)) xs ≤ m) → count_by (λ x. p x && nat_lt (key x) n) xs ≤ n * m
count_below p key zero m xs h =
    let e : count_by (λ x. p x && nat_lt (key x) 0) xs ≡ 0 = count_by_none (λ x. p x && nat_lt (key x) 0) xs (λ x i. and_right (p x) (nat_lt (key x) 0) (le-ltb (key x) 0 (omega arith))) in
    omega arith
count_below p key (suc n) m xs h =
    let a : count_by (λ x. p x && nat_lt (key x) (suc n)) xs ≡ count_by (λ x. p x && nat_lt (key x) n) xs + count_by (λ x. p x && (key x == n)) xs =
    split_count (λ x. p x && nat_lt (key x) (suc n)) (λ x. p x && nat_lt (key x) n) (λ x. p x && (key x == n)) xs (λ x. one_more (p x) _ _ _ (last_or_below (key x) n)) in
    let b : count_by (λ x. p x && nat_lt (key x) n) xs ≤ n * m = count_below p key n m xs (λ k l. h k (omega arith)) in
    let c : count_by (λ x. p x && (key x == n)) xs ≤ m = h n (omega arith) in
    omega arith

known : {X : Type 0} (p : X → Bool) (o : Option X) → option_map_or p o false ≡ true → (x : X) × (o ≡ Some x) × (p x ≡ true)
known p None h = absurd (false≢true h)
known p (Some x) h = (x, refl, h)

-- whether a duty of a shift on a day works at a slot at some offset
abbrev covers : Problem → Duty → ℕ → Shift × Rule → Bool
covers i d t x = list_any (λ o. works_at x.1 x.0.len d.breaks o && (slot_of i x.0 d.day o == t)) (below x.0.len)

-- two duties of a shift that work at once are on one day
same_day : (i : Problem) (a b : Duty) (t : ℕ) → IsValid i → works i a t ≡ true → works i b t ≡ true → a.shift ≡ b.shift → a.day < i.days → b.day < i.days → a.day ≡ b.day
same_day i a b t valid wa wb e da db =
    let x = known (covers i a t) (slice_get (shift_list i) a.shift) wa in
    let y = known (covers i b t) (slice_get (shift_list i) b.shift) wb in
    let one : Some y.0 ≡ Some x.0 = sym y.1 ∙ ap (λ (s : ℕ). slice_get (shift_list i) s) (sym e) ∙ x.1 in
    let same : y.0 ≡ x.0 = cc in
    let z : covers i b t x.0 ≡ true = ap (λ q. covers i b t q) (sym same) ∙ y.2 in
    let s = day_slots i in
    let k = any_some (λ o. works_at x.0.1 x.0.0.len a.breaks o && (slot_of i x.0.0 a.day o == t)) (below x.0.0.len) x.2 in
    let j = any_some (λ o. works_at x.0.1 x.0.0.len b.breaks o && (slot_of i x.0.0 b.day o == t)) (below x.0.0.len) z in
    let short : x.0.0.len ≤ s = (shift_within i valid x.0 (Has_at (shift_list i) a.shift x.0 x.1)).short in
    let lk : k.0 < x.0.0.len = from_below x.0.0.len k.0 k.1 in
    let lj : j.0 < x.0.0.len = from_below x.0.0.len j.0 j.1 in
    let sk : k.0 < s = omega arith in
    let sj : j.0 < s = omega arith in
    let at : (a.day * s + x.0.0.start + k.0) % slots i ≡ t = eqb-true _ _ (and_parts (works_at x.0.1 x.0.0.len a.breaks k.0) (slot_of i x.0.0 a.day k.0 == t) k.2).1 in
    let bt : (b.day * s + x.0.0.start + j.0) % slots i ≡ t = eqb-true _ _ (and_parts (works_at x.0.1 x.0.0.len b.breaks j.0) (slot_of i x.0.0 b.day j.0 == t) j.2).1 in
    let am : x.0.0.start + (a.day * s + k.0) ≡ a.day * s + x.0.0.start + k.0 = omega arith in
    let bm : x.0.0.start + (b.day * s + j.0) ≡ b.day * s + x.0.0.start + j.0 = omega arith in
    let p : a.day * s + k.0 < s * i.days = mul-add-lt a.day s k.0 i.days da sk in
    let q : b.day * s + j.0 < s * i.days = mul-add-lt b.day s j.0 i.days db sj in
    let place : a.day * s + k.0 ≡ b.day * s + j.0 = same_offset x.0.0.start (a.day * s + k.0) (b.day * s + j.0) (slots i) (omega arith) (omega arith)
    (ap (λ (n : ℕ). n % slots i) am ∙ at ∙ sym (ap (λ (n : ℕ). n % slots i) bm ∙ bt)) in
    sym (div-mul-add a.day s k.0 sk) ∙ ap (λ (n : ℕ). n / s) place ∙ div-mul-add b.day s j.0 sj

-- the duties of a shift that work at once are on one day, so they are few
one_shift : (i : Problem) (rota : List Duty) (t s : ℕ) → IsValid i → is_legal_rota i rota ≡ true → count_by (λ d. works i d t && (d.shift == s)) rota ≤ i.heads
one_shift i rota t s valid h =
    let p : Duty → Bool = λ d. works i d t && (d.shift == s) in
    elim (cases_Bool (list_any p rota)) [
      | inl some ↦
          let x = any_some p rota some in
          let qx = and_parts (works i x.0 t) (x.0.shift == s) x.2 in
          let ex : x.0.shift ≡ s = eqb-true _ _ qx.1 in
          let most : count_by p rota ≤ heads_on rota s x.0.day = count_by_at_most p (is_on s x.0.day) rota (λ d m e.
          let q = and_parts (works i d t) (d.shift == s) e in
          let ed : d.shift ≡ s = eqb-true _ _ q.1 in
          and_from (d.shift == s) (d.day == x.0.day) q.1 (eq-eqb d.day x.0.day (same_day i d x.0 t valid q.0 qx.0 (ed ∙ sym ex) (legal_duties i rota h d m).day (legal_duties i rota h x.0 x.1).day))) in
          let within : heads_on rota s x.0.day ≤ i.heads = heads_within i rota h s x.0.day in
          omega arith
      | inr none ↦ let e : count_by p rota ≡ 0 = count_by_none p rota (λ d m. any_none p rota d none m) in omega arith
    ]

and_true : (a b : Bool) → b ≡ true → a ≡ (a && b)
and_true true b h = sym h
and_true false b h = refl

-- no more work at once than each shift may have on a day
cover_most : (i : Problem) (rota : List Duty) (t : ℕ) → IsValid i → is_legal_rota i rota ≡ true → cover i rota t ≤ length (shift_list i) * i.heads
cover_most i rota t valid h =
    let n = length (shift_list i) in
    let all : cover i rota t ≡ count_by (λ d. works i d t && nat_lt d.shift n) rota = count_by_same (λ d. works i d t) (λ d. works i d t && nat_lt d.shift n) rota (λ d m. and_true (works i d t) (nat_lt d.shift n) (lt-ltb _ _ (legal_duties i rota h d m).shift)) in
    let most : count_by (λ d. works i d t && nat_lt d.shift n) rota ≤ n * i.heads = count_below (λ d. works i d t) (λ d. d.shift) n i.heads rota (λ k small. one_shift i rota t k valid h) in
    omega arith

pub few_at_once : (i : Problem) (rota : List Duty) (t : ℕ) → IsValid i → is_legal_rota i rota ≡ true → cover i rota t ≤ 204800
few_at_once i rota t valid h =
    let a : cover i rota t ≤ length (shift_list i) * i.heads = cover_most i rota t valid h in
    let b : length (shift_list i) * i.heads ≤ 1024 * 200 = mul-le-mul valid.shifts valid.heads in
    omega arith

-- what a slot costs at most
slot_few : (i : Problem) (t c : ℕ) → IsValid i → t < slots i → c ≤ 204800 → slot_cost i t c ≤ 215000000000
slot_few i t c valid small few =
    let w : need_at i t ≤ 10000 = valid.need_limit t 0 (let l : length i.need ≡ slots i = valid.need_length in omega arith) in
    let a : i.excess * (c - need_max_at i t) ≤ 1000000 * 204800 = mul-le-mul valid.excess (let k : c - need_max_at i t ≤ 204800 = omega arith in k) in
    let b : i.shortage * (need_at i t - c) ≤ 1000000 * 10000 = mul-le-mul valid.shortage (let k : need_at i t - c ≤ 10000 = omega arith in k) in
    omega arith

pub sum_few : {X : Type 0} (f : X → ℕ) (m : ℕ) (xs : List X) → ((x : X) → Has xs x → f x ≤ m) → sum_by f xs ≤ length xs * m
sum_few f m [] h = omega arith
sum_few f m (x ∷ xs) h =
    let e : sum_by f (x ∷ xs) ≡ f x + sum_by f xs = sum_by-cons f x xs in
    let one : f x ≤ m = h x (inl refl) in
    let rest : sum_by f xs ≤ length xs * m = sum_few f m xs (λ y i. h y (inr i)) in
    omega arith

-- no legal rota costs as much as the number that stands for no cost
pub costs_below : (i : Problem) (rota : List Duty) → IsValid i → is_legal_rota i rota ≡ true → cost i rota < 1000000000000000
costs_below i rota valid h =
    let f : ℕ → ℕ = λ t. slot_cost i t (cover i rota t) in
    let all = below (slots i) in
    let a : sum_by f all ≤ length all * 215000000000 = sum_few f 215000000000 all (λ t m. slot_few i t (cover i rota t) valid (from_below (slots i) t m) (few_at_once i rota t valid h)) in
    let l : length all ≡ slots i = length-range_with_len 0 (slots i) in
    let n : slots i ≤ 2016 = valid.few_slots in
    let ln : length all ≤ 2016 = omega arith in
    let b : length all * 215000000000 ≤ 2016 * 215000000000 = mul-le-mul_right 215000000000 ln in
    let used : shifts_used i rota ≤ length (below (length (shift_list i))) = count_by-le-length (is_used rota) (below (length (shift_list i))) in
    let lu : length (below (length (shift_list i))) ≡ length (shift_list i) = length-range_with_len 0 (length (shift_list i)) in
    let k : length (shift_list i) ≤ 1024 = valid.shifts in
    let ku : shifts_used i rota ≤ 1024 = omega arith in
    let g : i.shift * shifts_used i rota ≤ 1000000 * 1024 = mul-le-mul valid.shift ku in
    omega arith
