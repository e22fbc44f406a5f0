-- Which slots legal duties reach: by prices of 1 for a slot, and by duties that were found before.
use Rattle.instance_warnings.proofs.Common.{◌≡◌, inl, inr, ℕ, ◌+◌, ◌-◌, ◌*◌, ◌<◌, ◌≤◌, ℤ, pos, ◌+ℤ◌, ◌≤ℤ◌, Bool, true, false, cond, not, ◌&&◌, ◌==◌, List, [], ◌∷◌, ◌++◌, replicate, refl, sym, ap, ◌∙◌, subst, arith, sum_by, count_by, nat_lt, eq-eqb, All, get_or-set_same, get_or-set_other, fold-append, IsTrue, IsSomeAnd, Option, slice_get, unsigned_abs, if◌then◌else◌, list_any, cases_Bool, cases_eq, ne_eqb, false≢true, and_parts, and_from, lt-ltb, All-set, All-replicate, All-nil, All-cons, All-head, All-tail, All-filter, Has, any_at, any_some, from_below, Rule, works_at, Duty, Problem, slots, need_at, shift_list, slot_of, below, is_legal_duty, is_legal_rota, is_list_of, works, cover, slot_cost, cost, price_of, earned, worth, IsBest, below_next, is_reached, is_missed, unreached, unreached_cost, unit_prices, IsReaching, AreLegal, AvoidsOn, Avoids}
use Rattle.std.proofs.lemmas.List.{append-nil, length-replicate, get_or-replicate}
use Rattle.std.specs.Prelude.{length, fold, max}
use Rattle.std.specs.Option.{option_map_or}
use Rattle.std.proofs.lemmas.Int.{ints}
use Rattle.break_rules.specs.declared.Break.{Break}
use Rattle.break_rules.proofs.Sums.{int_sum_by-same, int_sum_by_pick_below}
use Rattle.price_sums.specs.Along.{AreSmallPrices}
use Rattle.shift_instance.specs.declared.Shift.{Shift}
use Rattle.shift_instance.specs.AllDuties.{all_duties}
use Rattle.shift_instance.proofs.Shifts.{some_at, is_some_and_at, is_some_and_from}
use Rattle.shift_instance.proofs.AllDuties.{Has-all_duties, from_all_duties}
use Rattle.shift_instance.specs.Valid.{IsValid}
use Rattle.rota_cost.proofs.Coverage.{costs_below}
use Rattle.shift_instance.proofs.Rotas.{legal_duty_parts, legal_duties}
use Rattle.instance_warnings.proofs.Lists.{any_fails, sum_of_passing}

-- ---- prices of 1 for a slot

priced_here : (i : Problem) (t : ℕ) → t < slots i → price_of (unit_prices i t) t ≡ pos 1
priced_here i t h = get_or-set_same (replicate (slots i) (pos 0)) t (pos 1) (pos 0) (subst (λ n. t < n) (sym (length-replicate (slots i) (pos 0))) h)

priced_elsewhere : (i : Problem) (t s : ℕ) → s < slots i → (t ≡ s → ⊥) → price_of (unit_prices i t) s ≡ pos 0
priced_elsewhere i t s h ne =
    get_or-set_other (replicate (slots i) (pos 0)) t s (pos 1) (pos 0) (λ e. ne (sym e)) ∙ get_or-replicate (slots i) s (pos 0) (pos 0) h

same_both : (b : Bool) (z : ℤ) → cond b z z ≡ z
same_both b z = elim (cases_Bool b) [ inl t ↦ rw t refl | inr f ↦ rw f refl ]

-- at these prices a duty earns 1 where it works in the slot, and else nothing
pub earned_unit : (i : Problem) (t : ℕ) (d : Duty) → t < slots i → earned i (unit_prices i t) d ≡ cond (works i d t) (pos 1) (pos 0)
earned_unit i t d h =
    let v : ℤ = cond (works i d t) (pos 1) (pos 0) in
    let f : ℕ → ℤ = λ s. cond (works i d s) (price_of (unit_prices i t) s) (pos 0) in
    int_sum_by-same f (λ s. cond (t == s) v (pos 0)) (below (slots i))
    (λ s m. elim (cases_eq t s) [
      | inl e ↦ rw (eq-eqb t s e) (subst (λ k. f k ≡ v) e (ap (λ z. cond (works i d t) z (pos 0)) (priced_here i t h)))
      | inr ne ↦ rw (ne_eqb t s ne) (ap (λ z. cond (works i d s) z (pos 0)) (priced_elsewhere i t s (from_below (slots i) s m) ne) ∙ same_both (works i d s) (pos 0))
    ])
    ∙ int_sum_by_pick_below v t (slots i) h

and_false : (b : Bool) → (b && false) ≡ false
and_false b = elim (cases_Bool b) [ inl t ↦ rw t refl | inr f ↦ rw f refl ]

-- the duty of a shift on a day with a break list
abbrev pub with : ℕ → ℕ → List Break → Duty
with s day list = record { shift = s; day = day; breaks = list }

worth_unit : (i : Problem) (t s day : ℕ) (list : List Break) → t < slots i → worth i (unit_prices i t) [] (with s day list) ≡ cond (works i (with s day list) t) (pos 1) (pos 0)
worth_unit i t s day list h = let e = earned_unit i t (with s day list) h in let z : earned i (unit_prices i t) (with s day list) +ℤ pos 0 ≡ earned i (unit_prices i t) (with s day list) = omega (arith, ints) in z ∙ e

-- what a best list is worth
best_one : (i : Problem) (t s day : ℕ) (list : List Break) (value : ℤ) → t < slots i → IsBest i s day (unit_prices i t) [] list value → works i (with s day list) t ≡ true → value ≡ pos 1
best_one i t s day list value h best w = best.is_worth ∙ worth_unit i t s day list h ∙ ap (λ b. cond b (pos 1) (pos 0)) w

best_zero : (i : Problem) (t s day : ℕ) (list : List Break) (value : ℤ) → t < slots i → IsBest i s day (unit_prices i t) [] list value → works i (with s day list) t ≡ false → value ≡ pos 0
best_zero i t s day list value h best f = best.is_worth ∙ worth_unit i t s day list h ∙ ap (λ b. cond b (pos 1) (pos 0)) f

-- a best list of a value that isn't 0 works in the slot
pub best_reaches : (i : Problem) (t s day : ℕ) (list : List Break) (value : ℤ) → t < slots i → day < i.days → IsBest i s day (unit_prices i t) [] list value → (value ≡ pos 0 → ⊥) → IsReaching i t (with s day list)
best_reaches i t s day list value h on best some =
    elim (cases_Bool (works i (with s day list) t)) [
      | inl w ↦ record { legal = and_from (nat_lt day i.days) (is_list_of i s list) (lt-ltb day i.days on) best.legal; works = w }
      | inr f ↦ absurd (some (best_zero i t s day list value h best f))
    ]

one_above_zero : (value : ℤ) → value ≡ pos 0 → pos 1 ≤ℤ value → ⊥
one_above_zero value e h = omega (arith, ints)

-- where the best list isn't worth 1, none works in the slot
pub best_avoids : (i : Problem) (t s day : ℕ) (list : List Break) (value : ℤ) → t < slots i → IsBest i s day (unit_prices i t) [] list value → (value ≡ pos 1 → ⊥) → AvoidsOn i t s day
best_avoids i t s day list value h best small other legal =
    elim (cases_Bool (works i (with s day other) t)) [
      | inl w ↦
          let one : worth i (unit_prices i t) [] (with s day other) ≡ pos 1 = worth_unit i t s day other h ∙ ap (λ b. cond b (pos 1) (pos 0)) w in
          let most : pos 1 ≤ℤ value = subst (λ (z : ℤ). z ≤ℤ value) one (best.greatest other legal) in
          elim (cases_Bool (works i (with s day list) t)) [
            | inl v ↦ absurd (small (best_one i t s day list value h best v))
            | inr f ↦ absurd (one_above_zero value (best_zero i t s day list value h best f) most)
          ]
      | inr f ↦ f
    ]

-- a slot at which no offset of a shift on a day stands
abbrev pub IsApart : Problem → ℕ → ℕ → ℕ → ℕ → Type 0
IsApart i t s day k = IsSomeAnd (slice_get (shift_list i) s) (λ (x : Shift × Rule). slot_of i x.0 day k ≡ t → ⊥)

-- a slot at which no offset below one more than n stands
pub apart_next : (i : Problem) (t s day n slot : ℕ) → s < length (shift_list i) → IsSomeAnd (slice_get (shift_list i) s) (λ (x : Shift × Rule). slot ≡ slot_of i x.0 day n)
    → (slot ≡ t → ⊥) → ((k : ℕ) → k < n → IsApart i t s day k) → (k : ℕ) → k < n + 1 → IsApart i t s day k
apart_next i t s day n slot h is ne before k less =
    let found = some_at (shift_list i) s h in
    let x = found.0 in
    let same : slot ≡ slot_of i x.0 day n = is_some_and_at (slice_get (shift_list i) s) (λ (x : Shift × Rule). slot ≡ slot_of i x.0 day n) x found.1 is in
    elim (cases_eq k n) [
      | inl e ↦ subst (λ m. IsApart i t s day m) (sym e) (is_some_and_from (slice_get (shift_list i) s) (λ (x : Shift × Rule). slot_of i x.0 day n ≡ t → ⊥) x found.1 (λ at. ne (same ∙ at)))
      | inr other ↦ before k (omega arith)
    ]

-- the length of a shift, by its number
pub len_of : (i : Problem) (s : ℕ) (shift : Shift) → s < length (shift_list i) → IsSomeAnd (slice_get (shift_list i) s) (λ (x : Shift × Rule). shift ≡ x.0)
    → IsSomeAnd (slice_get (shift_list i) s) (λ (x : Shift × Rule). x.0.len ≤ shift.len)
len_of i s shift h is =
    let found = some_at (shift_list i) s h in
    let same : shift ≡ found.0.0 = is_some_and_at (slice_get (shift_list i) s) (λ (x : Shift × Rule). shift ≡ x.0) found.0 found.1 is in
    is_some_and_from (slice_get (shift_list i) s) (λ (x : Shift × Rule). x.0.len ≤ shift.len) found.0 found.1 (subst (λ (z : Shift). found.0.0.len ≤ z.len) (sym same) (omega arith))

-- where no offset of a shift on a day stands at a slot, none works in it
pub apart_avoids : (i : Problem) (t s day len : ℕ) → s < length (shift_list i) → IsSomeAnd (slice_get (shift_list i) s) (λ (x : Shift × Rule). x.0.len ≤ len)
    → ((k : ℕ) → k < len → IsApart i t s day k) → AvoidsOn i t s day
apart_avoids i t s day len h short apart list legal =
    let found = some_at (shift_list i) s h in
    let x = found.0 in
    let within : x.0.len ≤ len = is_some_and_at (slice_get (shift_list i) s) (λ (x : Shift × Rule). x.0.len ≤ len) x found.1 short in
    let stands : ℕ → Bool = λ offset. works_at x.1 x.0.len list offset && (slot_of i x.0 day offset == t) in
    ap (λ (o : Option (Shift × Rule)). option_map_or (λ (x : Shift × Rule). list_any (λ offset. works_at x.1 x.0.len list offset && (slot_of i x.0 day offset == t)) (below x.0.len)) o false) found.1
    ∙ any_fails stands (below x.0.len) (λ k m.
    let elsewhere = is_some_and_at (slice_get (shift_list i) s) (λ (x : Shift × Rule). slot_of i x.0 day k ≡ t → ⊥) x found.1 (apart k (omega (arith, from_below x.0.len k m, within))) in
    ap (λ b. works_at x.1 x.0.len list k && b) (ne_eqb (slot_of i x.0 day k) t elsewhere) ∙ and_false (works_at x.1 x.0.len list k))

-- ---- slots that are reached

pub reached_by : (i : Problem) (t : ℕ) (d : Duty) → IsReaching i t d → is_reached i t ≡ true
reached_by i t d r = any_at (λ x. works i x t) (all_duties i) d (Has-all_duties i d r.legal) r.works

pub not_reached : (i : Problem) (t : ℕ) → Avoids i t → is_reached i t ≡ false
not_reached i t avoids =
    any_fails (λ d. works i d t) (all_duties i) (λ d h.
    let legal = from_all_duties i d h in
    let l = legal_duty_parts i d legal in
    avoids d.shift l.shift d.day l.day d.breaks l.breaks)

legal_at : (i : Problem) (duties : List Duty) (d : Duty) → AreLegal i duties → Has duties d → is_legal_duty i d ≡ true
legal_at i [] d legal h = absurd h
legal_at i (x ∷ xs) d legal h =
    elim h [ inl e ↦ subst (λ z. is_legal_duty i z ≡ true) e (All-head (λ d. IsTrue (is_legal_duty i d)) x xs legal) | inr m ↦ legal_at i xs d (All-tail (λ d. IsTrue (is_legal_duty i d)) x xs legal) m ]

count_works : (p : Duty → Bool) (ds : List Duty) → list_any p ds ≡ false → count_by p ds ≡ 0
count_works p [] h = refl
count_works p (d ∷ ds) h = elim (cases_Bool (p d)) [ inl t ↦ absurd (false≢true (sym h ∙ rw t refl)) | inr f ↦ let rest : list_any p ds ≡ false = rw f at h in rw f (count_works p ds rest) ]

pub reached_in_cover : (i : Problem) (t : ℕ) (duties : List Duty) → AreLegal i duties → (cover i duties t ≡ 0 → ⊥) → is_reached i t ≡ true
reached_in_cover i t duties legal some =
    elim (cases_Bool (list_any (λ d. works i d t) duties)) [
      | inl w ↦ let r = any_some (λ d. works i d t) duties w in reached_by i t r.0 (record { legal = legal_at i duties r.0 legal r.1; works = r.2 })
      | inr f ↦ absurd (some (count_works (λ d. works i d t) duties f))
    ]

-- ---- what slots out of reach cost

pub unreached_costs : (i : Problem) (rota : List Duty) → is_legal_rota i rota ≡ true → unreached_cost i ≤ cost i rota
unreached_costs i rota legal =
    let p : ℕ → Bool = λ t. nat_lt 0 (need_at i t) && not (is_reached i t) in
    let bare : (t : ℕ) → p t ≡ true → cover i rota t ≡ 0 = λ t h.
    elim (cases_Bool (list_any (λ d. works i d t) rota)) [
      | inl w ↦
          let r = any_some (λ d. works i d t) rota w in
          let l = legal_duties i rota legal r.0 r.1 in
          let reached = reached_by i t r.0 (record { legal = and_from (nat_lt r.0.day i.days) (is_list_of i r.0.shift r.0.breaks) (lt-ltb r.0.day i.days l.day) l.breaks; works = r.2 }) in
          let bad : not (is_reached i t) ≡ true = (and_parts (nat_lt 0 (need_at i t)) (not (is_reached i t)) h).1 in
          absurd (false≢true (sym (ap not reached) ∙ bad))
      | inr f ↦ count_works (λ d. works i d t) rota f
    ] in
    let slot : sum_by (λ t. i.shortage * need_at i t) (unreached i) ≤ sum_by (λ t. slot_cost i t (cover i rota t)) (below (slots i)) =
    sum_of_passing (λ t. i.shortage * need_at i t) (λ t. slot_cost i t (cover i rota t)) p (below (slots i))
    (λ t m h.
    let whole : need_at i t - 0 ≡ need_at i t = omega arith in
    let part : i.shortage * (need_at i t - 0) ≡ i.shortage * need_at i t = ap (λ (n : ℕ). i.shortage * n) whole in
    rw (bare t h) (omega arith)) in
    omega arith

-- ---- slots out of reach are slots

all_of_has : {X : Type 0} (P : X → Type 0) (xs : List X) → ((x : X) → Has xs x → P x) → All P xs
all_of_has P [] f = All-nil P
all_of_has P (x ∷ xs) f = All-cons P x xs (f x (inl refl)) (all_of_has P xs (λ y h. f y (inr h)))

pub unreached_within : (i : Problem) → All (λ t. t < slots i) (unreached i)
unreached_within i =
    All-filter (is_missed i) (λ t. t < slots i) (below (slots i))
    (all_of_has (λ t. t < slots i) (below (slots i)) (λ t h. from_below (slots i) t h))

-- ---- what a slot adds to those out of reach

missed_of_reached : (b r : Bool) (xs ys : List ℕ) → r ≡ true → xs ≡ xs ++ cond (b && not r) ys []
missed_of_reached true true xs ys e = sym (append-nil xs)
missed_of_reached false true xs ys e = sym (append-nil xs)
missed_of_reached b false xs ys e = absurd (false≢true e)

pub missed_reached : (i : Problem) (t : ℕ) (xs : List ℕ) → is_reached i t ≡ true → xs ≡ xs ++ cond (is_missed i t) (t ∷ []) []
missed_reached i t xs e = missed_of_reached (nat_lt 0 (need_at i t)) (is_reached i t) xs (t ∷ []) e

pub same_if : (r : Bool) (xs ys : List ℕ) → r ≡ true → xs ≡ xs ++ (if r then [] else ys)
same_if true xs ys e = sym (append-nil xs)
same_if false xs ys e = absurd (false≢true e)

pub more_if : (r : Bool) (xs ys : List ℕ) → r ≡ false → xs ++ ys ≡ xs ++ (if r then [] else ys)
more_if true xs ys e = absurd (false≢true (sym e))
more_if false xs ys e = refl

-- what slots out of reach cost at least is below the limit of costs
pub unreached_few : (i : Problem) → IsValid i → unreached_cost i < 1000000000000000
unreached_few i valid =
    let least : unreached_cost i ≤ cost i [] = unreached_costs i [] refl in
    let few : cost i [] < 1000000000000000 = costs_below i [] valid refl in
    omega arith

-- the greatest number of one slot more
pub greatest_next : (f : ℕ → ℕ) (t : ℕ) → fold (λ most s. max most (f s)) 0 (below (t + 1)) ≡ max (fold (λ most s. max most (f s)) 0 (below t)) (f t)
greatest_next f t = ap (fold (λ most s. max most (f s)) 0) (below_next t) ∙ fold-append (λ most s. max most (f s)) 0 (below t) (t ∷ [])
