-- The numbers that a cover keeps, after one duty more or less.
use Rattle.rota_cost.proofs.Common.{◌≡◌, inl, inr, ℕ, ◌+◌, ◌-◌, ◌*◌, ◌^◌, ◌<◌, ◌≤◌, Bool, true, false, cond, ◌==◌, List, [], ◌∷◌, ◌++◌, length, take, drop, append-nil, get_or, set, replicate, refl, sym, ap, ◌∙◌, subst, arith, eq-eqb, length-set, get_or-set_same, get_or-set_other, mul-le-mul, mul-le-mul_left, cases_eq, ne_eqb, get_or-replicate, length-replicate, drop_all, take_all, count_by-le-length, length-range_with_len, count_by_none, any_by_count, any_from_count, any_at, Has-below, Duty, Problem, shift_list, slots, below, count_of, cover, works, is_used, shifts_used, cost, IsValid, without, IsCounted, changed, duties_of, shift_cost, slots_cost}
use Rattle.rota_cost.specs.declared.cover.Change.{Change}
use Rattle.rota_cost.specs.declared.cover.Change.TheVariants.{More, Less}
use Rattle.rota_cost.proofs.Counting.{cost_from}
use Rattle.rota_cost.proofs.Duties.{IsWith, with_pushed, with_removed, with_length, used_same, used_more}
use Rattle.rota_cost.proofs.Sums.{slots_most}

pub changed_grows : (change : Change) (n : ℕ) → changed change n ≤ n + 1
changed_grows More n = omega arith
changed_grows Less n = omega arith

-- what the shifts used cost at most
pub used_most : (i : Problem) (duties : List Duty) → IsValid i → i.shift * shifts_used i duties ≤ 1024000000
used_most i duties valid =
    let a : shifts_used i duties ≤ length (below (length (shift_list i))) = count_by-le-length (is_used duties) (below (length (shift_list i))) in
    let b : length (below (length (shift_list i))) ≡ length (shift_list i) = length-range_with_len 0 (length (shift_list i)) in
    let c : length (shift_list i) ≤ 1024 = valid.shifts in
    let d : shifts_used i duties ≤ 1024 = omega arith in
    let e : i.shift * shifts_used i duties ≤ 1000000 * 1024 = mul-le-mul valid.shift d in
    omega arith

-- no more duties work in a slot, or are of a shift, than there are
pub working_few : (i : Problem) (duties : List Duty) (working shifts : List ℕ) (a b : ℕ) → IsCounted i duties working shifts a b → (t : ℕ) → t < slots i → get_or working t 0 ≤ length duties
working_few i duties working shifts a b h t small =
    let e : get_or working t 0 ≡ cover i duties t = h.covered t small in
    let l : cover i duties t ≤ length duties = count_by-le-length (λ d. works i d t) duties in
    omega arith

-- the two parts are the cost
pub counted_cost : (i : Problem) (duties : List Duty) (working shifts : List ℕ) (a b : ℕ) → IsCounted i duties working shifts a b → a + b ≡ cost i duties
counted_cost i duties working shifts a b h = ap (λ (n : ℕ). a + n) h.used ∙ cost_from i duties working a i.shift (shifts_used i duties) h.excess_and_shortage h.covered refl refl

pub parts_fit : (i : Problem) (duties : List Duty) (working shifts : List ℕ) (a b : ℕ) → IsCounted i duties working shifts a b → a + b ≤ 5000000000000000000
parts_fit i duties working shifts a b h =
    let few : (t : ℕ) → t < slots i → get_or working t 0 ≤ 2147483648 = λ t small. let l : get_or working t 0 ≤ length duties = working_few i duties working shifts a b h t small in let n : length duties ≤ 2 ^ 31 = h.few in omega arith in
    let most : slots_cost i working ≤ 2016 * (1000000 * 2147483648 + 10000000000) = slots_most i working 2147483648 h.valid few in
    let x : a ≡ slots_cost i working = h.excess_and_shortage in
    let y : b ≡ i.shift * shifts_used i duties = h.used in
    let z : i.shift * shifts_used i duties ≤ 1024000000 = used_most i duties h.valid in
    omega arith

-- no duty
pub counted_none : (i : Problem) (part : ℕ) → IsValid i → part ≡ slots_cost i (replicate (slots i) 0) → IsCounted i [] (replicate (slots i) 0) (replicate (length (shift_list i)) 0) part 0
counted_none i part valid e = record {
  valid = valid;
  few = omega arith;
  all_slots = length-replicate (slots i) 0;
  all_shifts = length-replicate (length (shift_list i)) 0;
  covered = λ t small. get_or-replicate (slots i) t 0 0 small;
  manned = λ s small. get_or-replicate (length (shift_list i)) s 0 0 small;
  excess_and_shortage = e;
  used = sym (ap (λ (k : ℕ). i.shift * k) (count_by_none (is_used []) (below (length (shift_list i))) (λ s m. refl)) ∙ (let z : i.shift * 0 ≡ 0 = omega arith in z));
}

pub counted_new : (i j : Problem) (duties : List Duty) (working shifts : List ℕ) (part : ℕ) → IsValid i → j ≡ i → duties ≡ [] → working ≡ replicate (slots i) 0 → shifts ≡ replicate (length (shift_list i)) 0 → part ≡ slots_cost i working → IsCounted j duties working shifts part 0
counted_new i j duties working shifts part valid same none slot_counts shift_counts e =
    subst (λ (k : Problem). IsCounted k duties working shifts part 0) (sym same)
    (subst (λ (ds : List Duty). IsCounted i ds working shifts part 0) (sym none)
    (subst (λ (xs : List ℕ). IsCounted i [] xs shifts part 0) (sym slot_counts)
    (subst (λ (xs : List ℕ). IsCounted i [] (replicate (slots i) 0) xs part 0) (sym shift_counts)
    (counted_none i part valid (e ∙ ap (slots_cost i) slot_counts)))))

-- the duties of each shift, where those of one are written anew
manned_set : (i : Problem) (before after : List Duty) (d : Duty) (shifts : List ℕ) (n : ℕ) → d.shift < length shifts → n ≡ duties_of after d.shift → ((s : ℕ) → (s ≡ d.shift → ⊥) → duties_of after s ≡ duties_of before s)
    → ((s : ℕ) → s < length (shift_list i) → get_or shifts s 0 ≡ duties_of before s) → (s : ℕ) → s < length (shift_list i) → get_or (set shifts d.shift n) s 0 ≡ duties_of after s
manned_set i before after d shifts n room here others h s small =
    elim (cases_eq s d.shift) [
      | inl e ↦ subst (λ (k : ℕ). get_or (set shifts d.shift n) k 0 ≡ duties_of after k) (sym e) (get_or-set_same shifts d.shift n 0 room ∙ here)
      | inr ne ↦ get_or-set_other shifts d.shift s n 0 ne ∙ h s small ∙ sym (others s ne)
    ]

-- a count of the duties of other shifts is as before
with_other : (before after : List Duty) (d : Duty) → IsWith before d after → (s : ℕ) → (s ≡ d.shift → ⊥) → duties_of after s ≡ duties_of before s
with_other before after d h s ne =
    let e : duties_of after s ≡ duties_of before s + cond (d.shift == s) 1 0 = h.each (λ x. x.shift == s) in
    let z : ◌≡◌ {A = ℕ} (cond (d.shift == s) 1 0) 0 = ap (λ b. cond b 1 0) (ne_eqb d.shift s (λ q. ne (sym q))) in
    omega arith

with_here : (before after : List Duty) (d : Duty) → IsWith before d after → duties_of after d.shift ≡ duties_of before d.shift + 1
with_here before after d h =
    let e : duties_of after d.shift ≡ duties_of before d.shift + cond (d.shift == d.shift) 1 0 = h.each (λ x. x.shift == d.shift) in
    let z : ◌≡◌ {A = ℕ} (cond (d.shift == d.shift) 1 0) 1 = ap (λ b. cond b 1 0) (eq-eqb d.shift d.shift refl) in
    omega arith

more_where : (b : Bool) (n : ℕ) → cond b (n + 1) n ≡ n + cond b 1 0
more_where true n = refl
more_where false n = omega arith

less_where : (b : Bool) (n m : ℕ) → n ≡ m + cond b 1 0 → cond b (n - 1) n ≡ m
less_where true n m e = omega arith
less_where false n m e = omega arith

-- what is paid for the shifts used and, besides, for one of them by its number of duties
used_after : (i : Problem) (before after : List Duty) (d : Duty) (n : ℕ) → IsWith before d after → d.shift < length (shift_list i) → n ≡ duties_of before d.shift → i.shift * shifts_used i after + shift_cost i n ≡ i.shift * shifts_used i before + shift_cost i (n + 1)
used_after i before after d n h known e =
    let next : shift_cost i (n + 1) ≡ i.shift = ap (λ b. cond b 0 i.shift) (ne_eqb (n + 1) 0 (λ q. omega arith)) in
    elim (cases_eq n 0) [
      | inl none ↦
          let one : shifts_used i after ≡ shifts_used i before + 1 = used_more i before d after h known (omega arith) in
          let free : shift_cost i n ≡ 0 = ap (λ b. cond b 0 i.shift) (eq-eqb n 0 none) in
          let all : i.shift * shifts_used i after ≡ i.shift * (shifts_used i before + 1) = ap (λ (k : ℕ). i.shift * k) one in
          omega arith
      | inr some ↦
          let same : shifts_used i after ≡ shifts_used i before = used_same i before d after h (let z : 0 < duties_of before d.shift = omega arith in z) in
          let paid : shift_cost i n ≡ i.shift = ap (λ b. cond b 0 i.shift) (ne_eqb n 0 some) in
          let all : i.shift * shifts_used i after ≡ i.shift * shifts_used i before = ap (λ (k : ℕ). i.shift * k) same in
          omega arith
    ]

-- a shift is paid for
pub shift_paid : (i : Problem) (duties : List Duty) (working shifts : List ℕ) (a b s : ℕ) → IsCounted i duties working shifts a b → s < length (shift_list i) → shift_cost i (get_or shifts s 0) ≤ b
shift_paid i duties working shifts a b s h known =
    let n = get_or shifts s 0 in
    let count : n ≡ duties_of duties s = h.manned s known in
    let all : b ≡ i.shift * shifts_used i duties = h.used in
    elim (cases_eq n 0) [
      | inl none ↦ let free : shift_cost i n ≡ 0 = ap (λ b. cond b 0 i.shift) (eq-eqb n 0 none) in omega arith
      | inr some ↦
          let paid : shift_cost i n ≡ i.shift = ap (λ b. cond b 0 i.shift) (ne_eqb n 0 some) in
          let used : is_used duties s ≡ true = any_from_count (λ d. d.shift == s) duties (let z : 0 < duties_of duties s = omega arith in z) in
          let some_used : 0 < shifts_used i duties = any_by_count (is_used duties) (below (length (shift_list i))) (any_at (is_used duties) (below (length (shift_list i))) s (Has-below (length (shift_list i)) s known) used) in
          let one : i.shift * 1 ≤ i.shift * shifts_used i duties = mul-le-mul_left i.shift (let z : 1 ≤ shifts_used i duties = omega arith in z) in
          omega arith
    ]

-- one duty more
pub counted_more : (i : Problem) (duties : List Duty) (d : Duty) (working shifts raised manned : List ℕ) (a b slot_part shift_part : ℕ) → d.shift < length (shift_list i) → length duties < 2 ^ 31 → IsCounted i duties working shifts a b
    → length raised ≡ length working → ((t : ℕ) → t < slots i → get_or raised t 0 ≡ cond (works i d t) (get_or working t 0 + 1) (get_or working t 0)) → slot_part ≡ slots_cost i raised
    → manned ≡ set shifts d.shift (get_or shifts d.shift 0 + 1) → shift_part + shift_cost i (get_or shifts d.shift 0) ≡ b + shift_cost i (get_or shifts d.shift 0 + 1)
    → IsCounted i (duties ++ d ∷ []) raised manned slot_part shift_part
counted_more i duties d working shifts raised manned a b slot_part shift_part known few h same up sum written paid =
    let n = get_or shifts d.shift 0 in
    let after = duties ++ d ∷ [] in
    let w = with_pushed duties d in
    let count : n ≡ duties_of duties d.shift = h.manned d.shift known in
    let old : b ≡ i.shift * shifts_used i duties = h.used in
    let next : i.shift * shifts_used i after + shift_cost i n ≡ i.shift * shifts_used i duties + shift_cost i (n + 1) = used_after i duties after d n w known count in
    record {
      valid = h.valid;
      few = omega (arith, with_length duties d after w);
      all_slots = same ∙ h.all_slots;
      all_shifts = ap (λ (xs : List ℕ). length xs) written ∙ length-set shifts d.shift (n + 1) ∙ h.all_shifts;
      covered = λ t small.
          up t small ∙ ap (λ (k : ℕ). cond (works i d t) (k + 1) k) (h.covered t small) ∙ more_where (works i d t) (cover i duties t) ∙ sym (w.each (λ x. works i x t));
      manned = λ s small.
          ap (λ (xs : List ℕ). get_or xs s 0) written
          ∙ manned_set i duties after d shifts (n + 1) (omega (arith, h.all_shifts)) (let e : duties_of after d.shift ≡ duties_of duties d.shift + 1 = with_here duties after d w in omega arith) (with_other duties after d w) h.manned s small;
      excess_and_shortage = sum;
      used = omega arith;
    }

-- one duty less
pub counted_less : (i : Problem) (duties : List Duty) (d : Duty) (working shifts lowered manned : List ℕ) (a b slot_part shift_part : ℕ) → d.shift < length (shift_list i) → 0 < count_of duties d → IsCounted i duties working shifts a b
    → length lowered ≡ length working → ((t : ℕ) → t < slots i → get_or lowered t 0 ≡ cond (works i d t) (get_or working t 0 - 1) (get_or working t 0)) → slot_part ≡ slots_cost i lowered
    → manned ≡ set shifts d.shift (get_or shifts d.shift 0 - 1) → shift_part + shift_cost i (get_or shifts d.shift 0) ≡ b + shift_cost i (get_or shifts d.shift 0 - 1)
    → IsCounted i (without d duties) lowered manned slot_part shift_part
counted_less i duties d working shifts lowered manned a b slot_part shift_part known there h same down sum written paid =
    let m = get_or shifts d.shift 0 - 1 in
    let after = without d duties in
    let w = with_removed duties d there in
    let count : get_or shifts d.shift 0 ≡ duties_of duties d.shift = h.manned d.shift known in
    let here : duties_of duties d.shift ≡ duties_of after d.shift + 1 = with_here after duties d w in
    let left : m ≡ duties_of after d.shift = omega arith in
    let up : m + 1 ≡ get_or shifts d.shift 0 = omega arith in
    let old : b ≡ i.shift * shifts_used i duties = h.used in
    let next : i.shift * shifts_used i duties + shift_cost i m ≡ i.shift * shifts_used i after + shift_cost i (m + 1) = used_after i after duties d m w known left in
    let same_cost : shift_cost i (m + 1) ≡ shift_cost i (get_or shifts d.shift 0) = ap (shift_cost i) up in
    let long : length duties ≡ length after + 1 = with_length after d duties w in
    let few : length duties ≤ 2 ^ 31 = h.few in
    record {
      valid = h.valid;
      few = omega arith;
      all_slots = same ∙ h.all_slots;
      all_shifts = ap (λ (xs : List ℕ). length xs) written ∙ length-set shifts d.shift m ∙ h.all_shifts;
      covered = λ t small.
          down t small ∙ less_where (works i d t) (get_or working t 0) (cover i after t) (h.covered t small ∙ w.each (λ x. works i x t));
      manned = λ s small.
          ap (λ (xs : List ℕ). get_or xs s 0) written
          ∙ manned_set i duties after d shifts m (omega (arith, h.all_shifts)) left (λ s ne. sym (with_other after duties d w s ne)) h.manned s small;
      excess_and_shortage = sum;
      used = omega arith;
    }

-- the numbers of the same duties of the same instance
pub moved : (i j : Problem) (duties : List Duty) (working shifts same_working same_shifts : List ℕ) (a b : ℕ) → j ≡ i → same_working ≡ working → same_shifts ≡ shifts → IsCounted j duties working shifts a b → IsCounted i duties same_working same_shifts a b
moved i j duties working shifts same_working same_shifts a b same e f h =
    subst (λ (k : Problem). IsCounted k duties same_working same_shifts a b) same
    (subst (λ (xs : List ℕ). IsCounted j duties xs same_shifts a b) (sym e)
    (subst (λ (xs : List ℕ). IsCounted j duties working xs a b) (sym f) h))

-- a whole list that is written back
pub written_back : (new old : List ℕ) (n : ℕ) → length new ≡ n → length old ≡ n → take n (new ++ drop (length new) old) ≡ new
written_back new old n a b =
    ap (λ zs. take n (new ++ zs)) (drop_all (length new) old (omega arith)) ∙ ap (take n) (append-nil new) ∙ ap (λ k. take k new) (sym a) ∙ take_all (length new) new (omega arith)

-- the numbers that are written back
pub put_back : (i j : Problem) (duties written : List Duty) (working shifts old_working old_shifts : List ℕ) (m n a b : ℕ) → j ≡ i → written ≡ duties → length working ≡ m → length old_working ≡ m → length shifts ≡ n → length old_shifts ≡ n
    → IsCounted i duties working shifts a b → IsCounted j written (take m (working ++ drop (length working) old_working)) (take n (shifts ++ drop (length shifts) old_shifts)) a b
put_back i j duties written working shifts old_working old_shifts m n a b same e lw lo ls lp h =
    subst (λ (ds : List Duty). IsCounted j ds (take m (working ++ drop (length working) old_working)) (take n (shifts ++ drop (length shifts) old_shifts)) a b) (sym e)
    (moved j i duties working shifts _ _ a b (sym same) (written_back working old_working m lw lo) (written_back shifts old_shifts n ls lp) h)
