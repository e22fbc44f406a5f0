-- Weak duality: every legal rota below some cuts costs at least the bound of each price set for them.
use Rattle.head_splits.proofs.Common.{◌≡◌, inl, inr, ℕ, zero, suc, ◌+◌, ◌-◌, ◌*◌, ◌<◌, ◌≤◌, ℤ, pos, negsuc, neg_ℤ, ◌+ℤ◌, ◌-ℤ◌, ◌*ℤ◌, ◌≤ℤ◌, Bool, true, false, cond, not, ◌&&◌, ◌||◌, ◌==◌, List, [], ◌∷◌, length, refl, sym, ap, ◌∙◌, subst, arith, fold, nat_le, nat_lt, int_le, sum_by, list_all, zip, ints, clamps, and_parts, leb-true, ltb-true, false≢true, cases_Bool, cond_both, cases_lt, and_left, le-ltb, AllPass-from_list_all, Break, begins_with, same_list, Has, Has-map, all_at, any_some, any_none, from_below, same_list_decides, Duty, Problem, slots, need_at, need_max_at, shift_list, below, works, lists_of, is_on, heads_on, is_legal_rota, cover, slot_cost, is_used, shifts_used, cost, price_of, earned, legal_duties, heads_within, count_by_same, count_by_none, count_by_at_most, Class, Side, AtMost, AtLeast, Cut, Prices, holds, class_count, same_class, keeps_to, meets_cut, meets, raised, lowered, low, high, whole_class, int_sum_by, rounded_up, is_nil, signed_price, bonus, reduced, best_value, is_forced, day_value, free_day_value, term, wanted_at, worth_at, slot_worth, cut_worth, total, bound_of, is_slot_price, is_cut_price, are_prices, int_sum_by-le, int_sum_by-same, int_sum_by-add, int_sum_by_zero, int_sum_by_swap, int_sum_by_if, int_sum_by_pick_below, int_sum_by_pos, within_range, within_free_range, greatest_bounds, rounded_up_least}
use Rattle.std.specs.Int.{int_min}
use Rattle.std.proofs.lemmas.Bool.{eqb-true}
use Rattle.std.proofs.Math.Nat.{mul-le-mul_left, mul-le-mul_right, mul_assoc, mul_comm}
use Rattle.std.proofs.Math.Bool.{and-true}
use Rattle.head_splits.specs.declared.TheConstants.{CUT_PRICE_MAX}
use Rattle.head_splits.proofs.Priced.{le_from_test, priced as price_parts}

-- ---- a slot: its price pays no more than excess above the band and shortage below it cost

-- where n more, at a cost of a each, are worth at most k each
step_law : (q a w n k x y : ℕ) → k ≤ q * a → y ≡ a * n + x → k * (w + n) ≤ q * y + k * w
step_law q a w n k x y h e =
    let m : k * n ≤ (q * a) * n = mul-le-mul_right n h in
    let e' : q * y ≡ q * (a * n + x) = ap (λ z. q * z) e in
    omega (arith, mul_assoc q a n)

nat_slot_law : (q b w c k x : ℕ) → k ≤ q * b → k * w ≤ q * (x + b * (w - c)) + k * c
nat_slot_law q b w c k x h =
    elim (cases_lt c w) [
      | inl l ↦
          let s : k * (c + (w - c)) ≤ q * (x + b * (w - c)) + k * c = step_law q b c (w - c) k x (x + b * (w - c)) h (omega arith) in
          let e : c + (w - c) ≡ w = omega arith in
          subst (λ n. k * n ≤ q * (x + b * (w - c)) + k * c) e s
      | inr g ↦ let m : k * w ≤ k * c = mul-le-mul_left k g in omega arith
    ]

slot_law : (i : Problem) (t q c : ℕ) (p : ℤ) → neg_ℤ (pos (q * i.excess)) ≤ℤ p → p ≤ℤ pos (q * i.shortage) → worth_at i t p ≤ℤ (pos (q * slot_cost i t c) +ℤ p *ℤ pos c)
slot_law i t q c (pos k) lower upper =
    let a = i.excess * (c - need_max_at i t) in
    let b = i.shortage * (need_at i t - c) in
    let few : k ≤ q * i.shortage = omega (arith, ints) in
    let law : k * need_at i t ≤ q * (a + b) + k * c = nat_slot_law q i.shortage (need_at i t) c k a few in
    let counts : k * wanted_at i t (pos k) ≡ k * need_at i t = ap (λ (n : ℕ). k * n) (ap (λ (less : Bool). cond less (need_max_at i t) (need_at i t)) (le-ltb k 0 (omega arith))) in
    omega (arith, ints)
slot_law i t q c (negsuc k) lower upper =
    let a = i.excess * (c - need_max_at i t) in
    let b = i.shortage * (need_at i t - c) in
    let few : suc k ≤ q * i.excess = omega (arith, ints) in
    let law : suc k * c ≤ q * (b + a) + suc k * need_max_at i t = nat_slot_law q i.excess c (need_max_at i t) (suc k) b few in
    let e : q * (b + a) ≡ q * (a + b) = ap (λ n. q * n) (omega arith) in
    omega (arith, ints)

or_second : (x y : Bool) → x ≡ true → (not x || y) ≡ true → y ≡ true
or_second x y e h = subst (λ b. (not b || y) ≡ true) e h

-- ---- a cut: a rota that meets it is worth no less than its number

cut_law : (side : Side) (l m n : ℕ) → keeps_to side m n ≡ true → (signed_price side l *ℤ pos m) ≤ℤ (signed_price side l *ℤ pos n)
cut_law AtMost zero m n h = omega (arith, ints)
cut_law AtMost (suc k) m n h = let r : suc k * n ≤ suc k * m = mul-le-mul_left (suc k) (leb-true n m h) in omega (arith, ints)
cut_law AtLeast l m n h = let r : l * m ≤ l * n = mul-le-mul_left l (leb-true m n h) in omega (arith, ints)

no_price : (side : Side) (m : ℕ) → signed_price side 0 *ℤ pos m ≡ pos 0
no_price AtMost m = omega (arith, ints)
no_price AtLeast m = omega (arith, ints)

from_zip : {X Y : Type 0} (xs : List X) (ys : List Y) (p : X × Y) → Has (zip xs ys) p → Has xs p.0
from_zip [] ys p h = absurd h
from_zip (x ∷ xs) [] p h = absurd h
from_zip {X} {Y} (x ∷ xs) (y ∷ ys) p h = elim h [ inl e ↦ inl (ap (λ (r : X × Y). r.0) e) | inr t ↦ inr (from_zip xs ys p t) ]

-- ---- the range of a class: below the cuts its number of duties lies within

raised_keeps : (side : Side) (m n k : ℕ) → keeps_to side m k ≡ true → n ≤ k → raised side m n ≤ k
raised_keeps AtMost m n k h l = l
raised_keeps AtLeast m n k h l = omega (arith, leb-true m k h)

lowered_keeps : (side : Side) (m n k : ℕ) → keeps_to side m k ≡ true → k ≤ n → k ≤ lowered side m n
lowered_keeps AtMost m n k h l = omega (arith, leb-true k m h)
lowered_keeps AtLeast m n k h l = l

pub same_class_is : (a b : Class) → same_class a b ≡ true → a ≡ b
same_class_is a b h =
    let p2 = and_parts ((a.shift == b.shift) && (a.day == b.day)) (same_list a.prefix b.prefix) h in
    let p1 = and_parts (a.shift == b.shift) (a.day == b.day) p2.0 in
    let s : a.shift ≡ b.shift = eqb-true _ _ p1.0 in
    let d : a.day ≡ b.day = eqb-true _ _ p1.1 in
    let l : a.prefix ≡ b.prefix = (same_list_decides a.prefix b.prefix).0 p2.1 in
    ap (λ (n : ℕ). record { shift = n; day = a.day; prefix = a.prefix }) s
    ∙ ap (λ (n : ℕ). record { shift = b.shift; day = n; prefix = a.prefix }) d
    ∙ ap (λ (n : List Break). record { shift = b.shift; day = b.day; prefix = n }) l

low_from : (rota : List Duty) (class : Class) (cuts : List Cut) (n : ℕ) → meets rota cuts ≡ true → n ≤ class_count rota class → fold (λ n c. cond (same_class c.class class) (raised c.side c.m n) n) n cuts ≤ class_count rota class
low_from rota class [] n h l = l
low_from rota class (c ∷ cuts) n h l =
    let p = and_parts (meets_cut rota c) (meets rota cuts) h in
    low_from rota class cuts _ p.1
    (cond_both (same_class c.class class) (raised c.side c.m n) n (λ k. k ≤ class_count rota class)
    (λ e. raised_keeps c.side c.m n (class_count rota class) (subst (λ x. keeps_to c.side c.m (class_count rota x) ≡ true) (same_class_is c.class class e) p.0) l)
    (λ e. l))

pub low_at_most : (rota : List Duty) (class : Class) (cuts : List Cut) → meets rota cuts ≡ true → low cuts class ≤ class_count rota class
low_at_most rota class cuts h = low_from rota class cuts 0 h (omega arith)

high_from : (rota : List Duty) (class : Class) (cuts : List Cut) (n : ℕ) → meets rota cuts ≡ true → class_count rota class ≤ n → class_count rota class ≤ fold (λ n c. cond (same_class c.class class) (lowered c.side c.m n) n) n cuts
high_from rota class [] n h l = l
high_from rota class (c ∷ cuts) n h l =
    let p = and_parts (meets_cut rota c) (meets rota cuts) h in
    high_from rota class cuts _ p.1
    (cond_both (same_class c.class class) (lowered c.side c.m n) n (λ k. class_count rota class ≤ k)
    (λ e. lowered_keeps c.side c.m n (class_count rota class) (subst (λ x. keeps_to c.side c.m (class_count rota x) ≡ true) (same_class_is c.class class e) p.0) l)
    (λ e. l))

-- a class has no more duties than its shift has on its day
pub class_within : (rota : List Duty) (class : Class) → class_count rota class ≤ heads_on rota class.shift class.day
class_within rota class = count_by_at_most (holds class) (is_on class.shift class.day) rota (λ d m h. (and_parts (is_on class.shift class.day d) (begins_with d.breaks class.prefix) h).0)

pub high_at_least : (i : Problem) (rota : List Duty) (class : Class) (cuts : List Cut) → is_legal_rota i rota ≡ true → meets rota cuts ≡ true → class_count rota class ≤ high i cuts class
high_at_least i rota class cuts l h =
    let few : heads_on rota class.shift class.day ≤ i.heads = heads_within i rota l class.shift class.day in
    let some : class_count rota class ≤ heads_on rota class.shift class.day = class_within rota class in
    high_from rota class cuts i.heads h (omega arith)

pub whole_class_count : (rota : List Duty) (s day : ℕ) → class_count rota (whole_class s day) ≡ heads_on rota s day
whole_class_count rota s day = count_by_same (holds (whole_class s day)) (is_on s day) rota (λ d m. and-true (is_on s day d))

pub none_in : {X : Type 0} (xs : List X) (x : X) → is_nil xs ≡ true → Has xs x → ⊥
none_in [] x e h = h
none_in (y ∷ xs) x e h = false≢true e

-- ---- the parts of the law

pub record Premises (i : Problem) (cuts : List Cut) (prices : Prices) (rota : List Duty) : Type 0 where
  pub scale : 1 ≤ prices.q
  pub slot_price : (t : ℕ) → t < slots i → (neg_ℤ (pos (prices.q * i.excess)) ≤ℤ price_of prices.slots t) × (price_of prices.slots t ≤ℤ pos (prices.q * i.shortage))
  pub cut_price : list_all is_cut_price (zip cuts prices.cuts) ≡ true
  pub legal : is_legal_rota i rota ≡ true
  pub meeting : meets rota cuts ≡ true

module _ (i : Problem) (cuts : List Cut) (prices : Prices) (rota : List Duty) (p : Premises i cuts prices rota) where
  -- slot by slot
  slots_le : int_sum_by (slot_worth i prices) (below (slots i)) ≤ℤ (pos (prices.q * sum_by (λ t. slot_cost i t (cover i rota t)) (below (slots i))) +ℤ int_sum_by (λ t. price_of prices.slots t *ℤ pos (cover i rota t)) (below (slots i)))
  slots_le =
      let f : ℕ → ℤ = λ t. pos (prices.q * slot_cost i t (cover i rota t)) in
      let g : ℕ → ℤ = λ t. price_of prices.slots t *ℤ pos (cover i rota t) in
      let each : int_sum_by (slot_worth i prices) (below (slots i)) ≤ℤ int_sum_by (λ t. f t +ℤ g t) (below (slots i)) =
      int_sum_by-le _ _ (below (slots i)) (λ t m.
      let r = p.slot_price t (from_below (slots i) t m) in
      slot_law i t prices.q (cover i rota t) (price_of prices.slots t) r.0 r.1) in
      let split : int_sum_by (λ t. f t +ℤ g t) (below (slots i)) ≡ int_sum_by f (below (slots i)) +ℤ int_sum_by g (below (slots i)) = int_sum_by-add f g (below (slots i)) in
      let costs : int_sum_by f (below (slots i)) ≡ pos (prices.q * sum_by (λ t. slot_cost i t (cover i rota t)) (below (slots i))) = int_sum_by_pos prices.q (λ t. slot_cost i t (cover i rota t)) (below (slots i)) in
      omega (arith, ints)

  cover_sum : int_sum_by (λ t. price_of prices.slots t *ℤ pos (cover i rota t)) (below (slots i)) ≡ int_sum_by (earned i prices.slots) rota
  cover_sum =
      int_sum_by-same _ _ (below (slots i)) (λ t m. sym (int_sum_by_if (λ d. works i d t) (price_of prices.slots t) rota))
      ∙ int_sum_by_swap (λ t d. cond (works i d t) (price_of prices.slots t) (pos 0)) (below (slots i)) rota

  -- cut by cut
  cut_le : (c : Cut × ℕ) → Has (zip cuts prices.cuts) c → cut_worth c ≤ℤ int_sum_by (λ d. bonus d c) rota
  cut_le c m =
      let priced = and_parts (nat_le c.1 CUT_PRICE_MAX) (not (is_nil c.0.class.prefix) || (c.1 == 0)) (all_at is_cut_price (zip cuts prices.cuts) c p.cut_price m) in
      elim (cases_Bool (is_nil c.0.class.prefix)) [
        | inl nil ↦
            let free : c.1 ≡ 0 = eqb-true c.1 0 (or_second (is_nil c.0.class.prefix) (c.1 == 0) nil priced.1) in
            let none : int_sum_by (λ d. bonus d c) rota ≡ pos 0 = int_sum_by-same _ _ rota (λ d h. ap (λ b. cond (not b && holds c.0.class d) (signed_price c.0.side c.1) (pos 0)) nil) ∙ int_sum_by_zero rota in
            let worth : cut_worth c ≡ pos 0 = ap (λ n. signed_price c.0.side n *ℤ pos c.0.m) free ∙ no_price c.0.side c.0.m in
            omega (arith, ints)
        | inr some ↦
            let all : int_sum_by (λ d. bonus d c) rota ≡ signed_price c.0.side c.1 *ℤ pos (class_count rota c.0.class) =
            int_sum_by-same _ _ rota (λ d h. ap (λ b. cond (not b && holds c.0.class d) (signed_price c.0.side c.1) (pos 0)) some)
            ∙ int_sum_by_if (holds c.0.class) (signed_price c.0.side c.1) rota in
            subst (λ z. cut_worth c ≤ℤ z) (sym all) (cut_law c.0.side c.1 c.0.m (class_count rota c.0.class) (all_at (meets_cut rota) cuts c.0 p.meeting (from_zip cuts prices.cuts c m)))
      ]

  cuts_le : int_sum_by cut_worth (zip cuts prices.cuts) ≤ℤ int_sum_by (λ d. int_sum_by (bonus d) (zip cuts prices.cuts)) rota
  cuts_le =
      subst (λ z. int_sum_by cut_worth (zip cuts prices.cuts) ≤ℤ z) (int_sum_by_swap (λ c d. bonus d c) (zip cuts prices.cuts) rota)
      (int_sum_by-le _ _ (zip cuts prices.cuts) cut_le)

  reduced_sum : int_sum_by (reduced i cuts prices) rota ≡ int_sum_by (earned i prices.slots) rota +ℤ int_sum_by (λ d. int_sum_by (bonus d) (zip cuts prices.cuts)) rota
  reduced_sum = int_sum_by-add (earned i prices.slots) (λ d. int_sum_by (bonus d) (zip cuts prices.cuts)) rota

  -- shift by shift
  of_shift : ℕ → Duty → ℤ
  of_shift s d = cond (d.shift == s) (reduced i cuts prices d) (pos 0)

  on_day : ℕ → ℕ → Duty → ℤ
  on_day s day d = cond (is_on s day d) (reduced i cuts prices d) (pos 0)

  -- no duty is worth more than the best of its shift and day
  reduced_le : (d : Duty) → Has rota d → reduced i cuts prices d ≤ℤ best_value i cuts prices d.shift d.day
  reduced_le d m =
      let l = legal_duties i rota p.legal d m in
      greatest_bounds _ (reduced i cuts prices d) (Has-map (λ list. reduced i cuts prices (record { shift = d.shift; day = d.day; breaks = list })) (lists_of i d.shift) d.breaks l.listed)

  day_le : (s day : ℕ) → int_sum_by (on_day s day) rota ≤ℤ (best_value i cuts prices s day *ℤ pos (heads_on rota s day))
  unfolding on_day
  day_le s day =
      subst (λ z. int_sum_by (on_day s day) rota ≤ℤ z) (int_sum_by_if (is_on s day) (best_value i cuts prices s day) rota)
      (int_sum_by-le _ _ rota (λ d m.
      elim (is_on s day d) as (λ b. is_on s day d ≡ b → cond b (reduced i cuts prices d) (pos 0) ≤ℤ cond b (best_value i cuts prices s day) (pos 0)) [
        | true ↦ λ e.
            let on = and_parts (d.shift == s) (d.day == day) e in
            let a : d.shift ≡ s = eqb-true _ _ on.0 in
            let b : d.day ≡ day = eqb-true _ _ on.1 in
            subst (λ k. reduced i cuts prices d ≤ℤ best_value i cuts prices k day) a (subst (λ k. reduced i cuts prices d ≤ℤ best_value i cuts prices d.shift k) b (reduced_le d m))
        | false ↦ λ e. omega (arith, ints)
      ] refl))

  shift_days : (s : ℕ) → int_sum_by (of_shift s) rota ≡ int_sum_by (λ day. int_sum_by (on_day s day) rota) (below i.days)
  unfolding of_shift on_day
  shift_days s =
      int_sum_by-same _ _ rota (λ d m.
      elim (d.shift == s) as (λ b. cond b (reduced i cuts prices d) (pos 0) ≡ int_sum_by (λ day. cond (b && (d.day == day)) (reduced i cuts prices d) (pos 0)) (below i.days)) [
        | true ↦ sym (int_sum_by_pick_below (reduced i cuts prices d) d.day i.days (legal_duties i rota p.legal d m).day)
        | false ↦ sym (int_sum_by_zero (below i.days))
      ])
      ∙ int_sum_by_swap (λ d day. on_day s day d) rota (below i.days)

  -- a shift without a duty earns nothing
  unused_zero : (s : ℕ) → is_used rota s ≡ false → int_sum_by (of_shift s) rota ≡ pos 0
  unfolding of_shift
  unused_zero s none =
      int_sum_by-same _ _ rota (λ d m. ap (λ b. cond b (reduced i cuts prices d) (pos 0)) (any_none (λ d. d.shift == s) rota d none m))
      ∙ int_sum_by_zero rota

  heads_low : (s day : ℕ) → low cuts (whole_class s day) ≤ heads_on rota s day
  heads_low s day = subst (λ n. low cuts (whole_class s day) ≤ n) (whole_class_count rota s day) (low_at_most rota (whole_class s day) cuts p.meeting)

  heads_high : (s day : ℕ) → heads_on rota s day ≤ high i cuts (whole_class s day)
  heads_high s day = subst (λ n. n ≤ high i cuts (whole_class s day)) (whole_class_count rota s day) (high_at_least i rota (whole_class s day) cuts p.legal p.meeting)

  shift_le : (s : ℕ) → int_sum_by (of_shift s) rota ≤ℤ int_sum_by (day_value i cuts prices s) (below i.days)
  unfolding of_shift on_day
  shift_le s =
      let each : int_sum_by (λ day. int_sum_by (on_day s day) rota) (below i.days) ≤ℤ int_sum_by (day_value i cuts prices s) (below i.days) =
      int_sum_by-le _ _ (below i.days) (λ day m.
      let a : int_sum_by (on_day s day) rota ≤ℤ (best_value i cuts prices s day *ℤ pos (heads_on rota s day)) = day_le s day in
      let b : (best_value i cuts prices s day *ℤ pos (heads_on rota s day)) ≤ℤ day_value i cuts prices s day =
      within_range (best_value i cuts prices s day) (low cuts (whole_class s day)) (heads_on rota s day) (high i cuts (whole_class s day)) (heads_low s day) (heads_high s day) in
      omega (arith, ints)) in
      subst (λ z. z ≤ℤ int_sum_by (day_value i cuts prices s) (below i.days)) (sym (shift_days s)) each

  shift_free_le : (s : ℕ) → int_sum_by (of_shift s) rota ≤ℤ int_sum_by (free_day_value i cuts prices s) (below i.days)
  unfolding of_shift on_day
  shift_free_le s =
      let each : int_sum_by (λ day. int_sum_by (on_day s day) rota) (below i.days) ≤ℤ int_sum_by (free_day_value i cuts prices s) (below i.days) =
      int_sum_by-le _ _ (below i.days) (λ day m.
      let a : int_sum_by (on_day s day) rota ≤ℤ (best_value i cuts prices s day *ℤ pos (heads_on rota s day)) = day_le s day in
      let b : (best_value i cuts prices s day *ℤ pos (heads_on rota s day)) ≤ℤ free_day_value i cuts prices s day =
      within_free_range (best_value i cuts prices s day) (heads_on rota s day) (high i cuts (whole_class s day)) (heads_high s day) in
      omega (arith, ints)) in
      subst (λ z. z ≤ℤ int_sum_by (free_day_value i cuts prices s) (below i.days)) (sym (shift_days s)) each

  -- a shift that some day needs has a duty
  forced_used : (s : ℕ) → is_forced i cuts s ≡ true → is_used rota s ≡ true
  forced_used s h =
      let day = any_some (λ day. nat_lt 0 (low cuts (whole_class s day))) (below i.days) h in
      let some : 0 < low cuts (whole_class s day.0) = ltb-true _ _ day.2 in
      let most : low cuts (whole_class s day.0) ≤ heads_on rota s day.0 = heads_low s day.0 in
      elim (cases_Bool (is_used rota s)) [
        | inl t ↦ t
        | inr f ↦
            let none : heads_on rota s day.0 ≡ 0 = count_by_none (is_on s day.0) rota (λ d m. and_left (d.shift == s) (d.day == day.0) (any_none (λ d. d.shift == s) rota d f m)) in
            absurd (omega arith)
      ]

  -- no duty is of a shift without a legal list
  listless : (s : ℕ) → is_nil (lists_of i s) ≡ true → is_used rota s ≡ false
  listless s nil =
      elim (cases_Bool (is_used rota s)) [
        | inl t ↦
            let d = any_some (λ d. d.shift == s) rota t in
            let e : d.0.shift ≡ s = eqb-true _ _ d.2 in
            absurd (none_in (lists_of i s) d.0.breaks nil (subst (λ k. Has (lists_of i k) d.0.breaks) e (legal_duties i rota p.legal d.0 d.1).listed))
        | inr f ↦ f
      ]

  shift_cost : ℕ → ℤ
  shift_cost s = cond (is_used rota s) (pos (prices.q * i.shift)) (pos 0)

  term_le : (s : ℕ) → (term i cuts prices s +ℤ int_sum_by (of_shift s) rota) ≤ℤ shift_cost s
  unfolding shift_cost
  term_le s =
      elim (is_nil (lists_of i s)) as (λ b. is_nil (lists_of i s) ≡ b → (cond b (pos 0) (cond (is_forced i cuts s) (pos (prices.q * i.shift) -ℤ int_sum_by (day_value i cuts prices s) (below i.days)) (int_min (pos 0) (pos (prices.q * i.shift) -ℤ int_sum_by (free_day_value i cuts prices s) (below i.days)))) +ℤ int_sum_by (of_shift s) rota) ≤ℤ cond (is_used rota s) (pos (prices.q * i.shift)) (pos 0)) [
        | true ↦ λ nil.
            let none = listless s nil in
            let zero : int_sum_by (of_shift s) rota ≡ pos 0 = unused_zero s none in
            let cost : cond (is_used rota s) (pos (prices.q * i.shift)) (pos 0) ≡ pos 0 = ap (λ b. cond b (pos (prices.q * i.shift)) (pos 0)) none in
            omega (arith, ints)
        | false ↦ λ some.
            elim (is_forced i cuts s) as (λ b. is_forced i cuts s ≡ b → (cond b (pos (prices.q * i.shift) -ℤ int_sum_by (day_value i cuts prices s) (below i.days)) (int_min (pos 0) (pos (prices.q * i.shift) -ℤ int_sum_by (free_day_value i cuts prices s) (below i.days))) +ℤ int_sum_by (of_shift s) rota) ≤ℤ cond (is_used rota s) (pos (prices.q * i.shift)) (pos 0)) [
              | true ↦ λ forced.
                  let cost : cond (is_used rota s) (pos (prices.q * i.shift)) (pos 0) ≡ pos (prices.q * i.shift) = ap (λ b. cond b (pos (prices.q * i.shift)) (pos 0)) (forced_used s forced) in
                  let most : int_sum_by (of_shift s) rota ≤ℤ int_sum_by (day_value i cuts prices s) (below i.days) = shift_le s in
                  omega (arith, ints)
              | false ↦ λ free.
                  let most : int_sum_by (of_shift s) rota ≤ℤ int_sum_by (free_day_value i cuts prices s) (below i.days) = shift_free_le s in
                  elim (cases_Bool (is_used rota s)) [
                    | inl t ↦
                        let cost : cond (is_used rota s) (pos (prices.q * i.shift)) (pos 0) ≡ pos (prices.q * i.shift) = ap (λ b. cond b (pos (prices.q * i.shift)) (pos 0)) t in
                        omega (arith, ints, clamps)
                    | inr f ↦
                        let cost : cond (is_used rota s) (pos (prices.q * i.shift)) (pos 0) ≡ pos 0 = ap (λ b. cond b (pos (prices.q * i.shift)) (pos 0)) f in
                        let zero : int_sum_by (of_shift s) rota ≡ pos 0 = unused_zero s f in
                        omega (arith, ints, clamps)
                  ]
            ] refl
      ] refl

  -- each duty is of one shift
  all_shifts : int_sum_by (λ s. int_sum_by (of_shift s) rota) (below (length (shift_list i))) ≡ int_sum_by (reduced i cuts prices) rota
  unfolding of_shift
  all_shifts =
      int_sum_by_swap (λ s d. of_shift s d) (below (length (shift_list i))) rota
      ∙ int_sum_by-same _ _ rota (λ d m. int_sum_by_pick_below (reduced i cuts prices d) d.shift (length (shift_list i)) (legal_duties i rota p.legal d m).shift)

  terms_le : (int_sum_by (term i cuts prices) (below (length (shift_list i))) +ℤ int_sum_by (reduced i cuts prices) rota) ≤ℤ pos (prices.q * i.shift * shifts_used i rota)
  unfolding shift_cost
  terms_le =
      let each : int_sum_by (λ s. term i cuts prices s +ℤ int_sum_by (of_shift s) rota) (below (length (shift_list i))) ≤ℤ int_sum_by shift_cost (below (length (shift_list i))) =
      int_sum_by-le _ _ (below (length (shift_list i))) (λ s m. term_le s) in
      let split : int_sum_by (λ s. term i cuts prices s +ℤ int_sum_by (of_shift s) rota) (below (length (shift_list i))) ≡ int_sum_by (term i cuts prices) (below (length (shift_list i))) +ℤ int_sum_by (λ s. int_sum_by (of_shift s) rota) (below (length (shift_list i))) =
      int_sum_by-add (term i cuts prices) (λ s. int_sum_by (of_shift s) rota) (below (length (shift_list i))) in
      let costs : int_sum_by shift_cost (below (length (shift_list i))) ≡ pos (prices.q * i.shift) *ℤ pos (shifts_used i rota) = int_sum_by_if (is_used rota) (pos (prices.q * i.shift)) (below (length (shift_list i))) in
      let all : int_sum_by (λ s. int_sum_by (of_shift s) rota) (below (length (shift_list i))) ≡ int_sum_by (reduced i cuts prices) rota = all_shifts in
      omega (arith, ints)

  -- the total is no more than the cost at the scale
  pub total_le : total i cuts prices ≤ℤ pos (prices.q * cost i rota)
  total_le =
      let a = slots_le in
      let b = cover_sum in
      let c = cuts_le in
      let d = reduced_sum in
      let e = terms_le in
      let f : prices.q * cost i rota ≡ prices.q * sum_by (λ t. slot_cost i t (cover i rota t)) (below (slots i)) + prices.q * i.shift * shifts_used i rota = omega (arith, mul_assoc prices.q i.shift (shifts_used i rota)) in
      omega (arith, ints)

premises : (i : Problem) (cuts : List Cut) (prices : Prices) (rota : List Duty) → are_prices i cuts prices ≡ true → is_legal_rota i rota ≡ true → meets rota cuts ≡ true → Premises i cuts prices rota
premises i cuts prices rota h legal meeting =
    let p = price_parts i cuts prices h in
    record {
      scale = p.scale;
      slot_price = λ t small.
          let len : length prices.slots ≡ slots i = p.slot_count in
          let one : is_slot_price i prices.q (price_of prices.slots t) ≡ true = AllPass-from_list_all (is_slot_price i prices.q) prices.slots p.slot_prices t (pos 0) (omega arith) in
          let both = and_parts (int_le (neg_ℤ (pos (prices.q * i.excess))) (price_of prices.slots t)) (int_le (price_of prices.slots t) (pos (prices.q * i.shortage))) one in
          (le_from_test _ _ both.0, le_from_test _ _ both.1);
      cut_price = p.cut_prices;
      legal = legal;
      meeting = meeting;
    }

-- every legal rota below the cuts costs at least the bound of a price set for them
pub weak_duality : (i : Problem) (cuts : List Cut) (prices : Prices) (rota : List Duty) → are_prices i cuts prices ≡ true → is_legal_rota i rota ≡ true → meets rota cuts ≡ true → bound_of i cuts prices ≤ cost i rota
weak_duality i cuts prices rota priced legal meeting =
    let p = premises i cuts prices rota priced legal meeting in
    let least : rounded_up prices.q (total i cuts prices) ≤ cost i rota = rounded_up_least prices.q (cost i rota) (total i cuts prices) p.scale (subst (λ n. total i cuts prices ≤ℤ pos n) (mul_comm prices.q (cost i rota)) (total_le i cuts prices rota p)) in
    omega arith
