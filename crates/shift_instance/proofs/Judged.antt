-- An instance's numbers, judged.
use Rattle.shift_instance.proofs.Common.{◌≡◌, inl, inr, ℕ, zero, suc, ◌+◌, ◌*◌, ◌/◌, ◌<◌, ◌≤◌, Bool, true, false, not, ◌&&◌, ◌||◌, ◌==◌, List, [], ◌∷◌, ◌++◌, map, length, take, drop, get_or, sym, ap, ◌∙◌, subst, arith, nat_le, nat_lt, Option, Some, None, All, if◌then◌else◌, slice_get, flat_map, enumerate_from, zip, and_parts, or_cases, or_parts, leb-true, ltb-true, ltb-false, eqb-true, not-false, false≢true, drop_more, All-nil, All-cons, mul-le-mul, first_cause, rule_causes, no_cause, NoCause, none_from_no_cause, first_left, first_right, SlotMinutes, Days, NeedLength, NeedTooLarge, Weight, Heads, Types, StartRange, LengthRange, TooManyShifts, Name, BandLength, Band, NoMemory, Kind, Problem, slots, day_slots, need_at, need_max_at, shift_list, IsValid, IsKind, is_slot_minutes, period_causes, need_cause, band_cause, band_causes, wanted_causes, size_causes, cause_of_kind, kind_causes, types_causes, part_causes, instance_causes, Answers}
use Rattle.std.specs.Cmp.Lexicographic.{bytes_decides}
use Rattle.break_rules.specs.declared.RuleFault.{RuleFault}
use Rattle.shift_instance.specs.declared.InstanceFault.{InstanceFault}
use Rattle.shift_instance.specs.declared.InstanceFault.TheVariants.{Rule}
use Rattle.shift_instance.specs.Names.{is_name, has_name, is_taken}

-- the slots of a day
minutes_one : (m k : ℕ) → (m == k) ≡ true → (0 < k) × (24 ≤ 1440 / k) × (1440 / k ≤ 288) → (0 < m) × (24 ≤ 1440 / m) × (1440 / m ≤ 288)
minutes_one m k h p = subst (λ (j : ℕ). (0 < j) × (24 ≤ 1440 / j) × (1440 / j ≤ 288)) (sym (eqb-true m k h)) p

pub minutes : (m : ℕ) → is_slot_minutes m ≡ true → (0 < m) × (24 ≤ 1440 / m) × (1440 / m ≤ 288)
minutes m h =
    elim (or_cases (m == 5) _ h) [
      | inl e ↦ minutes_one m 5 e (omega arith, omega arith, omega arith)
      | inr a ↦
          elim (or_cases (m == 10) _ a) [
            | inl e ↦ minutes_one m 10 e (omega arith, omega arith, omega arith)
            | inr b ↦
                elim (or_cases (m == 15) _ b) [
                  | inl e ↦ minutes_one m 15 e (omega arith, omega arith, omega arith)
                  | inr c ↦
                      elim (or_cases (m == 20) _ c) [
                        | inl e ↦ minutes_one m 20 e (omega arith, omega arith, omega arith)
                        | inr d ↦
                            elim (or_cases (m == 30) _ d) [
                              | inl e ↦ minutes_one m 30 e (omega arith, omega arith, omega arith)
                              | inr f ↦
                                  elim (or_cases (m == 60) _ f) [ inl e ↦ minutes_one m 60 e (omega arith, omega arith, omega arith) | inr g ↦ absurd (false≢true g) ]
                            ]
                      ]
                ]
          ]
    ]

-- what no cause in a joined list says of its parts
none_left : {E : Type 0} (xs ys : List (Bool × E)) → NoCause (xs ++ ys) → NoCause xs
none_left [] ys h = tt
none_left (x ∷ xs) ys h = (h.0, none_left xs ys h.1)

none_right : {E : Type 0} (xs ys : List (Bool × E)) → NoCause (xs ++ ys) → NoCause ys
none_right [] ys h = h
none_right (x ∷ xs) ys h = none_right xs ys h.1

needs_small : (from : ℕ) (need : List ℕ) → NoCause (map need_cause (enumerate_from from need)) → All (λ n. n ≤ 10000) need
needs_small from [] h = All-nil (λ n. n ≤ 10000)
needs_small from (n ∷ need) h = All-cons (λ n. n ≤ 10000) n need (ltb-false 10000 n h.0) (needs_small (from + 1) need h.1)

-- bands without a fault
band_fits : (low high : ℕ) → (nat_lt high low || nat_lt 10000 high) ≡ false → (low ≤ high) × (high ≤ 10000)
band_fits low high h = let p = or_parts (nat_lt high low) (nat_lt 10000 high) h in (ltb-false high low p.0, ltb-false 10000 high p.1)

bands_small : (from : ℕ) (need most : List ℕ) → length most ≡ length need → NoCause (map band_cause (enumerate_from from (zip need most))) → All (λ n. n ≤ 10000) most
bands_small from [] [] e h = All-nil (λ n. n ≤ 10000)
bands_small from [] (m ∷ most) e h = absurd (omega arith)
bands_small from (n ∷ need) [] e h = absurd (omega arith)
bands_small from (n ∷ need) (m ∷ most) e h = All-cons (λ n. n ≤ 10000) m most (band_fits n m h.0).1 (bands_small (from + 1) need most (omega arith) h.1)

bands_fit : (from : ℕ) (need most : List ℕ) → NoCause (map band_cause (enumerate_from from (zip need most))) → (t : ℕ) → t < length need → t < length most → get_or need t 0 ≤ get_or most t 0
bands_fit from [] most h t small fits = absurd (omega arith)
bands_fit from (n ∷ need) [] h t small fits = absurd (omega arith)
bands_fit from (n ∷ need) (m ∷ most) h zero small fits = (band_fits n m h.0).0
bands_fit from (n ∷ need) (m ∷ most) h (suc t) small fits = bands_fit (from + 1) need most h.1 t (omega arith) (omega arith)

-- a rule without a fault
none_of_kind : (k : ℕ) (cs : List (Bool × RuleFault)) → NoCause (map (cause_of_kind k) cs) → NoCause cs
none_of_kind k [] h = tt
none_of_kind k (c ∷ cs) h = (h.0, none_of_kind k cs h.1)

-- the fault of a type's rule is the rule's
first_of_kind : (k : ℕ) (cs : List (Bool × RuleFault)) (e : RuleFault) → first_cause cs ≡ Some e → first_cause (map (cause_of_kind k) cs) ≡ Some (Rule k e)
first_of_kind k [] e h = absurd (cc)
first_of_kind k (c ∷ cs) e h = go c.0 (first_of_kind k cs e) h
  where
    go : (b : Bool) → (first_cause cs ≡ Some e → first_cause (map (cause_of_kind k) cs) ≡ Some (Rule k e)) → (if b then Some c.1 else first_cause cs) ≡ Some e → (if b then Some (Rule k c.1) else first_cause (map (cause_of_kind k) cs)) ≡ Some (Rule k e)
    go true rest h = let same : c.1 ≡ e = cc in ap (λ x. Some (Rule k x)) same
    go false rest h = rest h

pub rule_fault : (k : ℕ) (cs : List (Bool × RuleFault)) (e : RuleFault) → first_cause cs ≡ Some e → Some (Rule k e) ≡ first_cause (map (cause_of_kind k) cs)
rule_fault k cs e h = sym (first_of_kind k cs e h)

all_of_kind : (k : ℕ) (cs : List (Bool × RuleFault)) → NoCause cs → NoCause (map (cause_of_kind k) cs)
all_of_kind k [] h = tt
all_of_kind k (c ∷ cs) h = (h.0, all_of_kind k cs h.1)

pub no_rule_fault : (k : ℕ) (cs : List (Bool × RuleFault)) → first_cause cs ≡ None → None ≡ first_cause (map (cause_of_kind k) cs)
no_rule_fault k cs h = sym (none_from_no_cause (map (cause_of_kind k) cs) (all_of_kind k cs (no_cause cs h)))

-- a type without a fault
kind_fits : (i : Problem) (before : List Kind) (n : ℕ) (x : Kind) → NoCause (kind_causes (day_slots i) before (n, x)) → IsKind i x
kind_fits i before n x h =
    let name = or_parts (not (is_name x.name)) (is_taken before x.name) h.0 in
    let s = and_parts (nat_le x.start_min x.start_max) (nat_lt x.start_max (2 * day_slots i)) (not-false _ h.1.0) in
    let l = and_parts (nat_le 1 x.len_min && nat_le x.len_min x.len_max) (nat_le x.len_max (day_slots i)) (not-false _ h.1.1.0) in
    let m = and_parts (nat_le 1 x.len_min) (nat_le x.len_min x.len_max) l.0 in
    record {
      name = not-false _ name.0;
      starts = leb-true _ _ s.0;
      early = ltb-true _ _ s.1;
      some_length = leb-true _ _ m.0;
      lengths = leb-true _ _ m.1;
      short = leb-true _ _ l.1;
      passes = none_from_no_cause (rule_causes x.rule) (none_of_kind n (rule_causes x.rule) h.1.1.1);
    }

-- types without a fault
kinds_fit : (i : Problem) (all : List Kind) (from : ℕ) (kinds : List Kind) → NoCause (flat_map (λ k. kind_causes (day_slots i) (take k.0 all) k) (enumerate_from from kinds)) → All (IsKind i) kinds
kinds_fit i all from [] h = All-nil (IsKind i)
kinds_fit i all from (x ∷ kinds) h =
    All-cons (IsKind i) x kinds (kind_fits i (take from all) from x (none_left (kind_causes (day_slots i) (take from all) (from, x)) _ h))
    (kinds_fit i all (from + 1) kinds (none_right (kind_causes (day_slots i) (take from all) (from, x)) _ h))

-- no type has the name of one before it
free_at : (per_day : ℕ) (all : List Kind) (from : ℕ) (kinds : List Kind) (b : ℕ) (y : Kind) → NoCause (flat_map (λ k. kind_causes per_day (take k.0 all) k) (enumerate_from from kinds)) → slice_get kinds b ≡ Some y → is_taken (take (from + b) all) y.name ≡ false
free_at per_day all from [] b y h e = absurd (cc)
free_at per_day all from (x ∷ kinds) zero y h e =
    let same : x ≡ y = cc in
    let here = none_left (kind_causes per_day (take from all) (from, x)) _ h in
    let at : from ≡ from + 0 = omega arith in
    subst (λ (k : ℕ). is_taken (take k all) y.name ≡ false) at
    (subst (λ (k : Kind). is_taken (take from all) k.name ≡ false) same (or_parts (not (is_name x.name)) (is_taken (take from all) x.name) here.0).1)
free_at per_day all from (x ∷ kinds) (suc b) y h e =
    let rest = none_right (kind_causes per_day (take from all) (from, x)) _ h in
    let at : from + 1 + b ≡ from + suc b = omega arith in
    subst (λ (k : ℕ). is_taken (take k all) y.name ≡ false) at (free_at per_day all (from + 1) kinds b y rest e)

not_among : (kinds : List Kind) (name : List ℕ) (a b : ℕ) (x : Kind) → is_taken (take b kinds) name ≡ false → slice_get kinds a ≡ Some x → a < b → has_name name x ≡ false
not_among [] name a b x h e small = absurd (cc)
not_among (k ∷ kinds) name a zero x h e small = absurd (omega arith)
not_among (k ∷ kinds) name zero (suc b) x h e small =
    let same : k ≡ x = cc in
    subst (λ (q : Kind). has_name name q ≡ false) same (or_parts (has_name name k) (is_taken (take b kinds) name) h).0
not_among (k ∷ kinds) name (suc a) (suc b) x h e small =
    not_among kinds name a b x (or_parts (has_name name k) (is_taken (take b kinds) name) h).1 e (omega arith)

names_differ : (per_day : ℕ) (kinds : List Kind) → NoCause (types_causes per_day kinds) → (a b : ℕ) (x y : Kind) → slice_get kinds a ≡ Some x → slice_get kinds b ≡ Some y → a < b → ¬ (x.name ≡ y.name)
names_differ per_day kinds h a b x y at_a at_b small same =
    let at : 0 + b ≡ b = omega arith in
    let free = subst (λ (k : ℕ). is_taken (take k kinds) y.name ≡ false) at (free_at per_day kinds 0 kinds b y h at_b) in
    false≢true (sym (not_among kinds y.name a b x free at_a small) ∙ (bytes_decides x.name y.name).1 same)

-- the causes of the types from a place on: those of the type there, and then the rest
abbrev pub causes_from : ℕ → List Kind → ℕ → List (Bool × InstanceFault)
causes_from per_day kinds k = flat_map (λ k. kind_causes per_day (take k.0 kinds) k) (enumerate_from k (drop k kinds))

types_step : (per_day : ℕ) (kinds : List Kind) (k : ℕ) (x : Kind) → k < length kinds → x ≡ get_or kinds k x → causes_from per_day kinds k ≡ kind_causes per_day (take k kinds) (k, x) ++ causes_from per_day kinds (k + 1)
types_step per_day kinds k x small read =
    let e : drop k kinds ≡ x ∷ drop (k + 1) kinds = drop_more kinds k x small ∙ ap (λ (y : Kind). y ∷ drop (k + 1) kinds) (sym read) in
    ap (λ rest. flat_map (λ (k : ℕ × Kind). kind_causes per_day (take k.0 kinds) k) (enumerate_from k rest)) e

pub type_fault : (per_day : ℕ) (kinds : List Kind) (k : ℕ) (x : Kind) (all : List (Bool × InstanceFault)) (e : InstanceFault) → k < length kinds → x ≡ get_or kinds k x → Some e ≡ first_cause (kind_causes per_day (take k kinds) (k, x)) → first_cause (causes_from per_day kinds k) ≡ first_cause all → Some e ≡ first_cause all
type_fault per_day kinds k x all e small read fault rest =
    sym (first_left (kind_causes per_day (take k kinds) (k, x)) (causes_from per_day kinds (k + 1)) e (sym fault)) ∙ ap first_cause (sym (types_step per_day kinds k x small read)) ∙ rest

pub type_passes : (per_day : ℕ) (kinds : List Kind) (k : ℕ) (x : Kind) (all : List (Bool × InstanceFault)) → k < length kinds → x ≡ get_or kinds k x → None ≡ first_cause (kind_causes per_day (take k kinds) (k, x)) → first_cause (causes_from per_day kinds k) ≡ first_cause all → first_cause (causes_from per_day kinds (k + 1)) ≡ first_cause all
type_passes per_day kinds k x all small read none rest =
    sym (first_right (kind_causes per_day (take k kinds) (k, x)) (causes_from per_day kinds (k + 1)) (sym none)) ∙ ap first_cause (sym (types_step per_day kinds k x small read)) ∙ rest

pub few_kinds : (i : Problem) → first_cause (part_causes i) ≡ None → length i.kinds ≤ 16
few_kinds i h =
    let p = period_causes i in
    let n = wanted_causes i in
    let s = size_causes i in
    let k = types_causes (day_slots i) i.kinds in
    let sizes = none_right (p ++ n) s (none_left (p ++ n ++ s) k (no_cause (p ++ n ++ s ++ k) h)) in
    leb-true _ _ (and_parts (nat_le 1 (length i.kinds)) (nat_le (length i.kinds) 16) (not-false _ sizes.1.1.0)).1

-- a need for each slot
pub need_of_each : (i : Problem) → first_cause (period_causes i) ≡ None → length i.need ≡ slots i
need_of_each i h = let period = no_cause (period_causes i) h in eqb-true _ _ (not-false _ period.1.1.0)

-- numbers without a fault are valid
pub valid_from_none : (i : Problem) → first_cause (instance_causes i) ≡ None → IsValid i
unfolding instance_causes
valid_from_none i h =
    let p = period_causes i in
    let n = wanted_causes i in
    let s = size_causes i in
    let k = types_causes (day_slots i) i.kinds in
    let all = no_cause (instance_causes i) h in
    let front4 = none_left (p ++ n ++ s ++ k) _ all in
    let front3 = none_left (p ++ n ++ s) k front4 in
    let front2 = none_left (p ++ n) s front3 in
    let period = none_left p n front2 in
    let wanted = none_right p n front2 in
    let needs = none_left (map need_cause (enumerate_from 0 i.need)) (band_causes i) wanted in
    let bands = none_right (map need_cause (enumerate_from 0 i.need)) (band_causes i) wanted in
    let sizes = none_right (p ++ n) s front3 in
    let kinds = none_right (p ++ n ++ s) k front4 in
    let last = none_right (p ++ n ++ s ++ k) _ all in
    let m = minutes i.slot_minutes (not-false _ period.0) in
    let d = and_parts (nat_le 1 i.days) (nat_le i.days 7) (not-false _ period.1.0) in
    let w = or_parts (nat_lt 1000000 i.excess || nat_lt 1000000 i.shortage) (nat_lt 1000000 i.shift) sizes.0 in
    let v = or_parts (nat_lt 1000000 i.excess) (nat_lt 1000000 i.shortage) w.0 in
    let h = and_parts (nat_le 1 i.heads) (nat_le i.heads 200) (not-false _ sizes.1.0) in
    let t = and_parts (nat_le 1 (length i.kinds)) (nat_le (length i.kinds) 16) (not-false _ sizes.1.1.0) in
    let low : 1 ≤ i.days = leb-true _ _ d.0 in
    let high : i.days ≤ 7 = leb-true _ _ d.1 in
    let day_low : 24 ≤ day_slots i = m.1 in
    let day_high : day_slots i ≤ 288 = m.2 in
    let most : i.days * day_slots i ≤ 7 * 288 = mul-le-mul high day_high in
    let least : 1 * 24 ≤ i.days * day_slots i = mul-le-mul low day_low in
    let need_length : length i.need ≡ slots i = eqb-true _ _ (not-false _ period.1.1.0) in
    let band_length : length i.need_max ≡ slots i = eqb-true _ _ (not-false _ bands.0) in
    record {
      minutes = m.0;
      some_day_slots = day_low;
      day_limit = day_high;
      some_slots = omega arith;
      few_slots = omega arith;
      days = high;
      some_days = omega arith;
      need_length = need_length;
      need_limit = needs_small 0 i.need needs;
      band_length = band_length;
      band_limit = bands_small 0 i.need i.need_max (band_length ∙ sym need_length) bands.1;
      bands = λ t small. bands_fit 0 i.need i.need_max bands.1 t (omega arith) (omega arith);
      excess = ltb-false _ _ v.0;
      shortage = ltb-false _ _ v.1;
      shift = ltb-false _ _ w.1;
      heads = leb-true _ _ h.1;
      some_heads = leb-true _ _ h.0;
      types = leb-true _ _ t.1;
      some_types = leb-true _ _ t.0;
      kinds = kinds_fit i i.kinds 0 i.kinds kinds;
      names = names_differ (day_slots i) i.kinds kinds;
      shifts = ltb-false _ _ last.0;
    }

-- the causes of the parts, one list after another
pub causes_of_needs : {E : Type 0} (p n s k : List (Bool × E)) (e : E) → first_cause p ≡ None → first_cause n ≡ Some e → first_cause (p ++ n ++ s ++ k) ≡ Some e
causes_of_needs p n s k e a b = first_left (p ++ n ++ s) k e (first_left (p ++ n) s e (first_right p n a ∙ b))

pub causes_of_period : {E : Type 0} (p n s k : List (Bool × E)) (e : E) → first_cause p ≡ Some e → first_cause (p ++ n ++ s ++ k) ≡ Some e
causes_of_period p n s k e a = first_left (p ++ n ++ s) k e (first_left (p ++ n) s e (first_left p n e a))

pub causes_of_sizes : {E : Type 0} (p n s k : List (Bool × E)) (e : E) → first_cause p ≡ None → first_cause n ≡ None → first_cause s ≡ Some e → first_cause (p ++ n ++ s ++ k) ≡ Some e
causes_of_sizes p n s k e a b c = first_left (p ++ n ++ s) k e (first_right (p ++ n) s (first_right p n a ∙ b) ∙ c)

pub causes_of_kinds : {E : Type 0} (p n s k : List (Bool × E)) → first_cause p ≡ None → first_cause n ≡ None → first_cause s ≡ None → first_cause (p ++ n ++ s ++ k) ≡ first_cause k
causes_of_kinds p n s k a b c = first_right (p ++ n ++ s) k (first_right (p ++ n) s (first_right p n a ∙ b) ∙ c)

-- the last cause
pub causes_front : (i : Problem) (e : InstanceFault) → first_cause (part_causes i) ≡ Some e → first_cause (instance_causes i) ≡ Some e
unfolding instance_causes
causes_front i e h = first_left (part_causes i) _ e h

pub causes_last : (i : Problem) (found : ℕ) → found ≡ length (shift_list i) → first_cause (part_causes i) ≡ None → first_cause (instance_causes i) ≡ (if nat_lt 1024 found then Some (TooManyShifts found) else None)
unfolding instance_causes
causes_last i found e h = first_right (part_causes i) _ h ∙ ap (λ (n : ℕ). if nat_lt 1024 n then Some (TooManyShifts n) else None) (sym e)

-- no cause of the numbers is running out of memory
abbrev pub IsJudged : InstanceFault → Type 0
IsJudged NoMemory = ⊥
IsJudged e = Unit {0}

abbrev pub AreJudged : List (Bool × InstanceFault) → Type 0
AreJudged [] = Unit {0}
AreJudged (c ∷ cs) = IsJudged c.1 × AreJudged cs

judged-append : (xs ys : List (Bool × InstanceFault)) → AreJudged xs → AreJudged ys → AreJudged (xs ++ ys)
judged-append [] ys h g = g
judged-append (x ∷ xs) ys h g = (h.0, judged-append xs ys h.1 g)

judged_needs : (from : ℕ) (needs : List ℕ) → AreJudged (map need_cause (enumerate_from from needs))
judged_needs from [] = tt
judged_needs from (n ∷ needs) = (tt, judged_needs (from + 1) needs)

judged_bands : (from : ℕ) (bands : List (ℕ × ℕ)) → AreJudged (map band_cause (enumerate_from from bands))
judged_bands from [] = tt
judged_bands from (b ∷ bands) = (tt, judged_bands (from + 1) bands)

judged_wanted : (i : Problem) → AreJudged (wanted_causes i)
judged_wanted i = judged-append (map need_cause (enumerate_from 0 i.need)) (band_causes i) (judged_needs 0 i.need) (tt, judged_bands 0 (zip i.need i.need_max))

judged_rule : (k : ℕ) (cs : List (Bool × RuleFault)) → AreJudged (map (cause_of_kind k) cs)
judged_rule k [] = tt
judged_rule k (c ∷ cs) = (tt, judged_rule k cs)

judged_kinds : (per_day : ℕ) (all : List Kind) (from : ℕ) (kinds : List Kind) → AreJudged (flat_map (λ k. kind_causes per_day (take k.0 all) k) (enumerate_from from kinds))
judged_kinds per_day all from [] = tt
judged_kinds per_day all from (x ∷ kinds) =
    judged-append (kind_causes per_day (take from all) (from, x)) _ (tt, (tt, (tt, judged_rule from (rule_causes x.rule)))) (judged_kinds per_day all (from + 1) kinds)

first_judged : (cs : List (Bool × InstanceFault)) (e : InstanceFault) → AreJudged cs → first_cause cs ≡ Some e → IsJudged e
first_judged [] e h g = absurd (cc)
first_judged (c ∷ cs) e h g = go c.0 (first_judged cs e h.1) g
  where
    go : (b : Bool) → (first_cause cs ≡ Some e → IsJudged e) → (if b then Some c.1 else first_cause cs) ≡ Some e → IsJudged e
    go true rest g = let same : c.1 ≡ e = cc in subst (λ (x : InstanceFault). IsJudged x) same h.0
    go false rest g = rest g

judged_instance : (i : Problem) → AreJudged (instance_causes i)
unfolding instance_causes
judged_instance i =
    let n = wanted_causes i in
    let parts =
    judged-append (period_causes i ++ n ++ size_causes i) (types_causes (day_slots i) i.kinds) (judged-append (period_causes i ++ n) (size_causes i) (judged-append (period_causes i) n (tt, (tt, (tt, tt))) (judged_wanted i)) (tt, (tt, (tt, tt))))
    (judged_kinds (day_slots i) i.kinds 0 i.kinds) in
    judged-append (part_causes i) _ parts (tt, tt)

answers_from : (e : InstanceFault) (o : Option InstanceFault) → IsJudged e → o ≡ Some e → Answers e o
answers_from NoMemory o h g = absurd h
answers_from SlotMinutes o h g = g
answers_from Days o h g = g
answers_from (NeedLength found wanted) o h g = g
answers_from (NeedTooLarge slot) o h g = g
answers_from Weight o h g = g
answers_from Heads o h g = g
answers_from (Types found) o h g = g
answers_from (StartRange kind) o h g = g
answers_from (LengthRange kind) o h g = g
answers_from (Rule kind why) o h g = g
answers_from (TooManyShifts found) o h g = g
answers_from (Name kind) o h g = g
answers_from (BandLength found wanted) o h g = g
answers_from (Band slot) o h g = g

-- the fault that judging gives is the answer
pub answered : (i : Problem) (e : InstanceFault) → first_cause (instance_causes i) ≡ Some e → Answers e (first_cause (instance_causes i))
answered i e h = answers_from e (first_cause (instance_causes i)) (first_judged (instance_causes i) e (judged_instance i) h) h
