-- Instances made from a number: their needs as they are made one by one, and that nothing keeps them from being instances.
use Rattle.instance_json.proofs.Common.{◌≡◌, ℕ, ◌+◌, ◌%◌, ◌≤◌, Bool, true, false, not, ◌||◌, ◌==◌, nat_lt, cond, List, [], ◌∷◌, ◌++◌, map, length, refl, sym, ap, ◌∙◌, arith, None, if◌then◌else◌, count_by, enumerate_from, zip, le-ltb, All-from_recursion, Rule, legal_lists, first_cause, period_causes, need_cause, band_cause, band_causes, wanted_causes, size_causes, types_causes, part_causes, instance_causes, below, day_slots, shift_list, next_state, state_after, drawn, draw, is_busy, draws_before, need_of, needs_of, hour_rule, generated}
use Rattle.std.specs.Prelude.{All}
use Rattle.std.proofs.Math.Numerals.{add-one}
use Rattle.std.proofs.lemmas.List.FromFn.{map-range_with_len_more, length-map-range_with_len}
use Rattle.std.proofs.lemmas.List.Sums.{sum_by_push}
use Rattle.break_rules.specs.RuleFaults.{rule_causes}
use Rattle.break_rules.proofs.Causes.{NoCause, none_from_no_cause, first_right}
use Rattle.shift_instance.specs.declared.Shift.{Shift}
use Rattle.shift_instance.proofs.Judged.{causes_of_kinds, causes_last}
use Rattle.shift_instance.proofs.Ranges.{range_next}

draws_more : (slot : ℕ) → draws_before (slot + 1) ≡ draws_before slot + cond (is_busy slot) 1 0
draws_more slot =
    let at : 0 + slot ≡ slot = omega arith in
    ap (λ (n : ℕ). draws_before n) (add-one slot) ∙ ap (λ (ks : List ℕ). count_by is_busy ks) (range_next 0 slot ∙ ap (λ (k : ℕ). below slot ++ k ∷ []) at)
    ∙ sum_by_push (λ (k : ℕ). cond (is_busy k) 1 0) (below slot) slot

-- the state before the first slot, and after one more step
pub no_steps : (number : ℕ) → number ≡ state_after number (draws_before 0)
unfolding state_after
no_steps number = refl

next_after : (number steps : ℕ) → next_state (state_after number steps) ≡ state_after number (steps + 1)
unfolding state_after
next_after number steps = ap (λ (n : ℕ). state_after number n) (sym (add-one steps))

state_at : (number slot state after : ℕ) (b : Bool) → is_busy slot ≡ b → state ≡ state_after number (draws_before slot) → after ≡ (if b then next_state state else state) → after ≡ state_after number (draws_before (slot + 1))
state_at number slot state after true e h is =
    let more : draws_before (slot + 1) ≡ draws_before slot + 1 = draws_more slot ∙ ap (λ (b : Bool). draws_before slot + cond b 1 0) e in
    is ∙ ap (λ (s : ℕ). next_state s) h ∙ next_after number (draws_before slot) ∙ ap (λ (n : ℕ). state_after number n) (sym more)
state_at number slot state after false e h is =
    let more : draws_before (slot + 1) ≡ draws_before slot + 0 = draws_more slot ∙ ap (λ (b : Bool). draws_before slot + cond b 1 0) e in
    let none : draws_before slot ≡ draws_before (slot + 1) = omega arith in
    is ∙ h ∙ ap (λ (n : ℕ). state_after number n) none

-- the state after a slot
pub state_more : (number slot state after : ℕ) → state ≡ state_after number (draws_before slot) → after ≡ (if is_busy slot then next_state state else state) → after ≡ state_after number (draws_before (slot + 1))
state_more number slot state after h is = state_at number slot state after (is_busy slot) refl h is

-- the need of a slot, by the state before it
pub need_made : (number slot state : ℕ) → state ≡ state_after number (draws_before slot) → (if is_busy slot then 2 + drawn (next_state state) % 3 else 1) ≡ need_of number slot
need_made number slot state h =
    ap (λ (s : ℕ). if is_busy slot then 2 + drawn s % 3 else 1) (ap (λ (s : ℕ). next_state s) h ∙ next_after number (draws_before slot))

-- the needs of no slot, and of one more
pub no_needs : (number : ℕ) → [] ≡ needs_of number 0
unfolding needs_of
no_needs number = refl

pub needs_more : (number slot need : ℕ) (needs after : List ℕ) → needs ≡ needs_of number slot → need ≡ need_of number slot → after ≡ needs ++ need ∷ [] → after ≡ needs_of number (slot + 1)
unfolding needs_of
needs_more number slot need needs after h here is =
    is ∙ ap (λ (n : ℕ). needs ++ n ∷ []) here ∙ ap (λ (ns : List ℕ). ns ++ need_of number slot ∷ []) h ∙ sym (map-range_with_len_more (need_of number) 0 slot slot (omega arith))

needs_length : (number count : ℕ) → length (needs_of number count) ≡ count
unfolding needs_of
needs_length number count = length-map-range_with_len (need_of number) 0 count

-- no need is above 4
small_need : (b : Bool) (drawn : ℕ) → (if b then 2 + drawn % 3 else 1) ≤ 4
small_need true drawn = omega arith
small_need false drawn = omega arith

needs_pass : (number from : ℕ) (slots : List ℕ) → NoCause (map need_cause (enumerate_from from (map (need_of number) slots)))
needs_pass number from [] = tt
needs_pass number from (slot ∷ slots) =
    let small : need_of number slot ≤ 4 = small_need (is_busy slot) (draw number (draws_before slot + 1)) in
    (le-ltb 10000 (need_of number slot) (omega arith), needs_pass number (from + 1) slots)

no_need_is_large : (number count : ℕ) → first_cause (map need_cause (enumerate_from 0 (needs_of number count))) ≡ None
unfolding needs_of
no_need_is_large number count = none_from_no_cause _ (needs_pass number 0 (below count))

-- and no band is faulty whose end is its need
no_band_fault : (need : ℕ) → need ≤ 4 → (nat_lt need need || nat_lt 10000 need) ≡ false
no_band_fault need small = ap (λ (b : Bool). b || nat_lt 10000 need) (le-ltb need need (omega arith)) ∙ le-ltb 10000 need (omega arith)

bands_pass : (number from : ℕ) (slots : List ℕ) → NoCause (map band_cause (enumerate_from from (zip (map (need_of number) slots) (map (need_of number) slots))))
bands_pass number from [] = tt
bands_pass number from (slot ∷ slots) = (no_band_fault (need_of number slot) (small_need (is_busy slot) (draw number (draws_before slot + 1))), bands_pass number (from + 1) slots)

all_bands_pass : (number count : ℕ) → NoCause (map band_cause (enumerate_from 0 (zip (needs_of number count) (needs_of number count))))
unfolding needs_of
all_bands_pass number count = bands_pass number 0 (below count)

no_band_is_faulty : (number : ℕ) → first_cause (band_causes (generated number)) ≡ None
unfolding generated
no_band_is_faulty number =
    let count : not (length (needs_of number 168) == 168) ≡ false = ap (λ (n : ℕ). not (n == 168)) (needs_length number 168) in
    none_from_no_cause (band_causes (generated number)) (count, all_bands_pass number 168)

all_are_wanted : (number : ℕ) → first_cause (wanted_causes (generated number)) ≡ None
unfolding generated
all_are_wanted number =
    first_right (map need_cause (enumerate_from 0 (generated number).need)) (band_causes (generated number)) (no_need_is_large number 168) ∙ no_band_is_faulty number

-- six shifts
pub six_shifts : (number : ℕ) → length (shift_list (generated number)) ≡ 6
unfolding generated
six_shifts number = refl

four : length (legal_lists hour_rule 8) ≡ 4
four = refl

-- and four lists of each
abbrev HasFour : Shift × Rule → Type 0
HasFour x = length (legal_lists x.1 x.0.len) ≡ 4

pub four_lists : (number : ℕ) → All (λ (x : Shift × Rule). length (legal_lists x.1 x.0.len) ≡ 4) (shift_list (generated number))
unfolding generated
four_lists number = All-from_recursion HasFour (shift_list (generated number)) (four, (four, (four, (four, (four, (four, tt))))))

whole_week : (number : ℕ) → first_cause (period_causes (generated number)) ≡ None
unfolding generated
whole_week number =
    let count : not (length (needs_of number 168) == 168) ≡ false = ap (λ (n : ℕ). not (n == 168)) (needs_length number 168) in
    none_from_no_cause (period_causes (generated number)) (refl, (refl, (count, tt)))

types_pass : (number : ℕ) → first_cause (types_causes (day_slots (generated number)) (generated number).kinds) ≡ None
unfolding generated rule_causes
types_pass number = refl

parts_pass : (number : ℕ) → first_cause (part_causes (generated number)) ≡ None
unfolding generated
parts_pass number =
    let i = generated number in
    causes_of_kinds (period_causes i) (wanted_causes i) (size_causes i) (types_causes (day_slots i) i.kinds) (whole_week number) (all_are_wanted number) refl
    ∙ types_pass number

-- nothing keeps the numbers from being an instance
pub faultless : (number : ℕ) → first_cause (instance_causes (generated number)) ≡ None
faultless number = causes_last (generated number) 6 (sym (six_shifts number)) (parts_pass number)
