-- The document of a valid problem departs nowhere, and states that problem.
use Rattle.instance_json.proofs.Common.{◌≡◌, ℕ, ◌+◌, ◌≤◌, min, Bool, true, false, List, [], ◌∷◌, map, All, None, is_some, refl, ap, ◌∙◌, arith, not-false, All-head, All-tail, list_all, enumerate_from, Data, Lunch, Rule, IsTotal, IsLunch, IsRule, ranges_from_none, Kind, Problem, IsValid, IsKind, number_data, items_data, total_data, lunch_data, rule_data, kind_data, weights_data, is_banded, document_stating, document_data, first_some, object_departure, type_departure, document_departure, document_fields, weights_fields, type_fields, breaks_fields, number_up_to, total_of, lunch_of, rule_of, kind_of, problem_of, data_list, is_row, whole}
use Rattle.std.specs.Cmp.Lexicographic.{bytes_decides}
use Rattle.instance_json.proofs.Sizes.{slot_minutes_limit}

-- what each item of a list states
restated : {A : Type 0} (f : A → Data) (g : Data → A) (P : A → Type 0) → ((x : A) → P x → g (f x) ≡ x) → (xs : List A) → All P xs → map g (data_list (items_data (map f xs))) ≡ xs
restated f g P same [] h = refl
restated f g P same (x ∷ xs) h = rw (same x (All-head P x xs h)) (ap (λ ys. x ∷ ys) (restated f g P same xs (All-tail P x xs h)))

-- a test that each item passes
all_pass : {A : Type 0} (f : A → Data) (p : Data → Bool) → ((x : A) → p (f x) ≡ true) → (xs : List A) → list_all p (data_list (items_data (map f xs))) ≡ true
all_pass f p pass [] = refl
all_pass f p pass (x ∷ xs) = rw (pass x) (all_pass f p pass xs)

capped : (n most : ℕ) → n ≤ most → min n most ≡ n
capped n most h = omega arith

total_restated : (t : ℕ × ℕ) → IsTotal t → total_of (total_data t) ≡ t
total_restated t h =
    let from : t.0 ≤ 65535 = omega (arith, h.from) in
    let total : t.1 ≤ 65535 = omega (arith, h.total) in
    rw (capped t.0 65535 from, capped t.1 65535 total) refl

lunch_restated : (l : Lunch) → IsLunch l → lunch_of (lunch_data l) ≡ l
lunch_restated l h =
    let from_len : l.from_len ≤ 65535 = omega (arith, h.from_len) in
    let size : l.size ≤ 65535 = omega (arith, h.room, h.last) in
    let first : l.first ≤ 65535 = omega (arith, h.room, h.last) in
    let last : l.last ≤ 65535 = omega (arith, h.last) in
    rw (capped l.from_len 65535 from_len, capped l.size 65535 size, capped l.first 65535 first, capped l.last 65535 last) refl

pub rule_restated : (r : Rule) → IsRule r → rule_of (rule_data r) ≡ r
unfolding rule_of rule_data
rule_restated r h =
    let lead : r.lead ≤ 65535 = omega (arith, h.lead) in
    let tail : r.tail ≤ 65535 = omega (arith, h.tail) in
    let work_max : r.work_max ≤ 65535 = omega (arith, h.work_limit) in
    let work_min : r.work_min ≤ 65535 = omega (arith, h.work, h.work_limit) in
    let long_work : r.long_work ≤ 65535 = omega (arith, h.long_work) in
    let long_rest : r.long_rest ≤ 65535 = omega (arith, h.long_rest) in
    let size_max : r.size_max ≤ 65535 = omega (arith, h.size_limit) in
    let size_min : r.size_min ≤ 65535 = omega (arith, h.sizes, h.size_limit) in
    let resettle : r.resettle ≤ 65535 = omega (arith, h.resettle_limit) in
    rw (
      capped r.lead 65535 lead,
      capped r.tail 65535 tail,
      capped r.work_min 65535 work_min,
      capped r.work_max 65535 work_max,
      capped r.long_work 65535 long_work,
      capped r.long_rest 65535 long_rest,
      capped r.size_min 65535 size_min,
      capped r.size_max 65535 size_max,
      capped r.resettle 65535 resettle,
      restated total_data total_of IsTotal total_restated r.totals h.totals,
      restated lunch_data lunch_of IsLunch lunch_restated r.lunches h.lunches,
    ) refl

pub rule_fits : (at : ℕ) (r : Rule) → object_departure at breaks_fields (rule_data r) ≡ None
unfolding object_departure breaks_fields rule_data
rule_fits at r = rw (all_pass total_data (is_row 2) (λ t. refl) r.totals, all_pass lunch_data (is_row 4) (λ l. refl) r.lunches) refl

kind_restated : (i : Problem) → IsValid i → (k : Kind) → IsKind i k → kind_of (kind_data k) ≡ k
unfolding kind_of kind_data rule_data
kind_restated i v k h =
    let start_max : k.start_max ≤ 65535 = omega (arith, h.early, v.day_limit) in
    let start_min : k.start_min ≤ 65535 = omega (arith, h.starts, start_max) in
    let len_max : k.len_max ≤ 65535 = omega (arith, h.short, v.day_limit) in
    let len_min : k.len_min ≤ 65535 = omega (arith, h.lengths, len_max) in
    rw (
      capped k.start_min 65535 start_min,
      capped k.start_max 65535 start_max,
      capped k.len_min 65535 len_min,
      capped k.len_max 65535 len_max,
      rule_restated k.rule (ranges_from_none k.rule h.passes),
    ) refl

kind_fits : (at : ℕ) (k : Kind) → type_departure (at, kind_data k) ≡ None
unfolding type_departure type_fields object_departure kind_data rule_data
kind_fits at k = rw (rule_fits at k.rule) refl

kinds_fit : (at : ℕ) (kinds : List Kind) → first_some (map type_departure (enumerate_from at (data_list (items_data (map kind_data kinds))))) ≡ None
kinds_fit at [] = refl
kinds_fit at (k ∷ kinds) = rw (kind_fits at k) (kinds_fit (at + 1) kinds)

number_restated : (n : ℕ) → n ≤ 10000 → min n 4294967295 ≡ n
number_restated n h = omega arith

wanted_restated : (ns : List ℕ) → All (λ n. n ≤ 10000) ns → map (number_up_to 4294967295) (data_list (items_data (map number_data ns))) ≡ ns
wanted_restated ns h = restated number_data (number_up_to 4294967295) (λ n. n ≤ 10000) number_restated ns h

-- the numbers of a valid problem are no greater than those that are told apart
record HasCapped (i : Problem) : Type 0 where
  minutes : min i.slot_minutes 65535 ≡ i.slot_minutes
  days : min i.days 65535 ≡ i.days
  heads : min i.heads 65535 ≡ i.heads
  excess : min i.excess 4294967295 ≡ i.excess
  shortage : min i.shortage 4294967295 ≡ i.shortage
  shift : min i.shift 4294967295 ≡ i.shift

capped_numbers : (i : Problem) → IsValid i → HasCapped i
capped_numbers i v =
    let minutes : i.slot_minutes ≤ 65535 = omega (arith, slot_minutes_limit i v) in
    let days : i.days ≤ 65535 = omega (arith, v.days) in
    let heads : i.heads ≤ 65535 = omega (arith, v.heads) in
    let excess : i.excess ≤ 4294967295 = omega (arith, v.excess) in
    let shortage : i.shortage ≤ 4294967295 = omega (arith, v.shortage) in
    let shift : i.shift ≤ 4294967295 = omega (arith, v.shift) in
    record {
      minutes = capped i.slot_minutes 65535 minutes;
      days = capped i.days 65535 days;
      heads = capped i.heads 65535 heads;
      excess = capped i.excess 4294967295 excess;
      shortage = capped i.shortage 4294967295 shortage;
      shift = capped i.shift 4294967295 shift;
    }

-- the problem that its document states, with the bands stated, and where they are left out
stating_restated : (i : Problem) → IsValid i → problem_of (document_stating true i) ≡ i
unfolding problem_of weights_data
stating_restated i v =
    let c = capped_numbers i v in
    rw (
      c.minutes,
      c.days,
      c.heads,
      c.excess,
      c.shortage,
      c.shift,
      wanted_restated i.need v.need_limit,
      wanted_restated i.need_max v.band_limit,
      restated kind_data kind_of (IsKind i) (kind_restated i v) i.kinds v.kinds,
    ) refl

leaving_restated : (i : Problem) → IsValid i → problem_of (document_stating false i) ≡ record i { need_max = i.need }
unfolding problem_of weights_data
leaving_restated i v =
    let c = capped_numbers i v in
    rw (
      c.minutes,
      c.days,
      c.heads,
      c.excess,
      c.shortage,
      c.shift,
      wanted_restated i.need v.need_limit,
      restated kind_data kind_of (IsKind i) (kind_restated i v) i.kinds v.kinds,
    ) refl

restated_as : (stated : Bool) (i : Problem) → IsValid i → is_banded i ≡ stated → problem_of (document_stating stated i) ≡ i
restated_as true i v e = stating_restated i v
restated_as false i v e =
    let same : i.need ≡ i.need_max = (bytes_decides i.need i.need_max).0 (not-false _ e) in
    leaving_restated i v ∙ ap (λ (most : List ℕ). record i { need_max = most }) same

-- the problem that its document states
pub problem_restated : (i : Problem) → IsValid i → problem_of (document_data i) ≡ i
unfolding document_data
problem_restated i v = restated_as (is_banded i) i v refl

stating_fits : (stated : Bool) (i : Problem) → document_departure (document_stating stated i) ≡ None
unfolding document_departure document_fields weights_fields object_departure weights_data
stating_fits true i =
    rw (all_pass number_data (λ x. is_some (whole x)) (λ n. refl) i.need, all_pass number_data (λ x. is_some (whole x)) (λ n. refl) i.need_max, kinds_fit 1 i.kinds) refl
stating_fits false i = rw (all_pass number_data (λ x. is_some (whole x)) (λ n. refl) i.need, kinds_fit 1 i.kinds) refl

-- its document departs nowhere
pub document_fits : (i : Problem) → document_departure (document_data i) ≡ None
unfolding document_data
document_fits i = stating_fits (is_banded i) i
