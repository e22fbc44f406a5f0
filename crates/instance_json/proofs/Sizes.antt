-- How long a canonical text is, at most.
use Rattle.instance_json.proofs.Common.{◌≡◌, ℕ, suc, ◌+◌, ◌*◌, ◌^◌, ◌<◌, ◌≤◌, Bool, true, false, List, [], ◌∷◌, ◌++◌, map, length, All, IsTrue, codes, ap, ◌∙◌, arith, nat_tests, length-decimal-le, length-append, All-head, All-tail, All-nil, All-cons, escape, escape_byte, quoted, Data, Members, no_members, member, compact_text, items_text, members_text, comma_if, Lunch, Rule, IsTotal, IsLunch, IsRule, ranges_from_none, Kind, is_name, Problem, day_slots, IsValid, IsKind, number_data, items_data, list_data, total_data, lunch_data, rule_data, kind_data, weights_data, is_banded, with_bands, document_stating, document_data, canonical_text}
use Rattle.std.proofs.Math.Nat.{mul-div-le, mul-le-mul_left}

escape_byte_length : (b : ℕ) → length (escape_byte b) ≤ 6
unfolding escape_byte
escape_byte_length b = grind (arith, nat_tests)

escape_length : (s : List ℕ) → length (escape s) ≤ 6 * length s
escape_length [] = omega arith
escape_length (b ∷ s) = omega (arith, length-append (escape_byte b) (escape s), escape_byte_length b, escape_length s)

quoted_length : (s : List ℕ) → length (quoted s) ≤ 6 * length s + 2
quoted_length s = omega (arith, length-append (escape s) (34 ∷ []), escape_length s)

comma_length : (later : Bool) → length (comma_if later) ≤ 1
comma_length true = omega arith
comma_length false = omega arith

-- a list whose items each have a text of at most so many bytes
items_length : {A : Type 0} (f : A → Data) (most : ℕ) (later : Bool) (xs : List A) → All (λ x. length (compact_text (f x)) ≤ most) xs
    → length (items_text later (items_data (map f xs))) ≤ length xs * (most + 1) + 1
items_length f most later [] h = omega arith
items_length {A = A} f most later (x ∷ xs) h =
    let P = λ (x : A). length (compact_text (f x)) ≤ most in
    let first : length (compact_text (f x)) ≤ most = All-head P x xs h in
    let rest = items_length f most true xs (All-tail P x xs h) in
    let rest_text = items_text true (items_data (map f xs)) in
    let split : length (items_text later (items_data (map f (x ∷ xs)))) ≡ length (comma_if later) + (length (compact_text (f x)) + length rest_text) =
    length-append (comma_if later) (compact_text (f x) ++ rest_text) ∙ ap (λ n. length (comma_if later) + n) (length-append (compact_text (f x)) rest_text) in
    omega (arith, split, first, rest, comma_length later)

list_length : {A : Type 0} (f : A → Data) (most : ℕ) (xs : List A) → All (λ x. length (compact_text (f x)) ≤ most) xs
    → length (compact_text (list_data (map f xs))) ≤ length xs * (most + 1) + 2
list_length f most xs h = omega (arith, items_length f most false xs h)

-- an object's member and those after it
member_length : (later : Bool) (name : List ℕ) (d : Data) (ms : Members)
    → length (members_text later (member name d ms)) ≤ 6 * length name + 4 + length (compact_text d) + length (members_text true ms)
member_length later name d ms =
    let rest = members_text true ms in
    let inner : length (quoted name ++ 58 ∷ (compact_text d ++ rest)) ≡ length (quoted name) + suc (length (compact_text d) + length rest) =
    length-append (quoted name) (58 ∷ (compact_text d ++ rest)) ∙ ap (λ n. length (quoted name) + suc n) (length-append (compact_text d) rest) in
    omega (arith, length-append (comma_if later) (quoted name ++ 58 ∷ (compact_text d ++ rest)), inner, comma_length later, quoted_length name)

short_number : (n : ℕ) → n < 1000 → length (compact_text (number_data n)) ≤ 3
short_number n h = length-decimal-le 3 n (omega arith) (omega arith) (omega arith)

long_number : (n : ℕ) → n ≤ 1000000 → length (compact_text (number_data n)) ≤ 7
long_number n h = length-decimal-le 7 n (omega arith) (omega arith) (omega arith)

numbers_length : (ns : List ℕ) → All (λ n. n < 1000) ns → length (compact_text (list_data (map number_data ns))) ≤ length ns * 4 + 2
numbers_length ns h = list_length number_data 3 ns (λ k d q. short_number _ (h k d q))

total_length : (t : ℕ × ℕ) → IsTotal t → length (compact_text (total_data t)) ≤ 10
total_length t h =
    let small : All (λ n. n < 1000) (t.0 ∷ t.1 ∷ []) =
    All-cons (λ n. n < 1000) t.0 (t.1 ∷ []) (omega (arith, h.from)) (All-cons (λ n. n < 1000) t.1 [] (omega (arith, h.total)) (All-nil (λ n. n < 1000))) in
    numbers_length (t.0 ∷ t.1 ∷ []) small

lunch_length : (l : Lunch) → IsLunch l → length (compact_text (lunch_data l)) ≤ 18
lunch_length l h =
    let P = λ (n : ℕ). n < 1000 in
    let small : All (λ n. n < 1000) (l.from_len ∷ l.size ∷ l.first ∷ l.last ∷ []) =
    All-cons P l.from_len (l.size ∷ l.first ∷ l.last ∷ []) (omega (arith, h.from_len)) (All-cons P l.size (l.first ∷ l.last ∷ []) (omega (arith, h.room, h.last))
    (All-cons P l.first (l.last ∷ []) (omega (arith, h.room, h.last)) (All-cons P l.last [] (omega (arith, h.last)) (All-nil P)))) in
    numbers_length (l.from_len ∷ l.size ∷ l.first ∷ l.last ∷ []) small

name_length : (name : List ℕ) → IsTrue (is_name name) → length name ≤ 32
name_length name h = grind (arith, nat_tests)

rule_length : (r : Rule) → IsRule r → length (compact_text (rule_data r)) ≤ 900
unfolding rule_data
rule_length r h =
    let end = no_members in
    let m11 = member (codes "work_min") (number_data r.work_min) end in
    let m10 = member (codes "work_max") (number_data r.work_max) m11 in
    let totals = list_data (map total_data r.totals) in
    let m9 = member (codes "totals") totals m10 in
    let m8 = member (codes "tail") (number_data r.tail) m9 in
    let m7 = member (codes "size_min") (number_data r.size_min) m8 in
    let m6 = member (codes "size_max") (number_data r.size_max) m7 in
    let m5 = member (codes "resettle") (number_data r.resettle) m6 in
    let lunches = list_data (map lunch_data r.lunches) in
    let m4 = member (codes "lunches") lunches m5 in
    let m3 = member (codes "long_work") (number_data r.long_work) m4 in
    let m2 = member (codes "long_rest") (number_data r.long_rest) m3 in
    let totals_most : length (compact_text totals) ≤ length r.totals * 11 + 2 = list_length total_data 10 r.totals (λ k d q. total_length _ (h.totals k d q)) in
    let lunches_most : length (compact_text lunches) ≤ length r.lunches * 19 + 2 = list_length lunch_data 18 r.lunches (λ k d q. lunch_length _ (h.lunches k d q)) in
    omega (
      arith,
      h.few_totals,
      h.few_lunches,
      totals_most,
      lunches_most,
      member_length true (codes "work_min") (number_data r.work_min) end,
      short_number r.work_min (omega (arith, h.work, h.work_limit)),
      member_length true (codes "work_max") (number_data r.work_max) m11,
      short_number r.work_max (omega (arith, h.work_limit)),
      member_length true (codes "totals") totals m10,
      member_length true (codes "tail") (number_data r.tail) m9,
      short_number r.tail (omega (arith, h.tail)),
      member_length true (codes "size_min") (number_data r.size_min) m8,
      short_number r.size_min (omega (arith, h.sizes, h.size_limit)),
      member_length true (codes "size_max") (number_data r.size_max) m7,
      short_number r.size_max (omega (arith, h.size_limit)),
      member_length true (codes "resettle") (number_data r.resettle) m6,
      short_number r.resettle (omega (arith, h.resettle_limit)),
      member_length true (codes "lunches") lunches m5,
      member_length true (codes "long_work") (number_data r.long_work) m4,
      short_number r.long_work (omega (arith, h.long_work)),
      member_length true (codes "long_rest") (number_data r.long_rest) m3,
      short_number r.long_rest (omega (arith, h.long_rest)),
      member_length false (codes "lead") (number_data r.lead) m2,
      short_number r.lead (omega (arith, h.lead)),
    )

kind_length : (i : Problem) (k : Kind) → IsValid i → IsKind i k → length (compact_text (kind_data k)) ≤ 2000
unfolding kind_data
kind_length i k v h =
    let end = no_members in
    let m6 = member (codes "start_min") (number_data k.start_min) end in
    let m5 = member (codes "start_max") (number_data k.start_max) m6 in
    let m4 = member (codes "name") (Data.string k.name) m5 in
    let m3 = member (codes "len_min") (number_data k.len_min) m4 in
    let m2 = member (codes "len_max") (number_data k.len_max) m3 in
    omega (
      arith,
      rule_length k.rule (ranges_from_none k.rule h.passes),
      name_length k.name h.name,
      quoted_length k.name,
      member_length true (codes "start_min") (number_data k.start_min) end,
      short_number k.start_min (omega (arith, h.starts, h.early, v.day_limit)),
      member_length true (codes "start_max") (number_data k.start_max) m6,
      short_number k.start_max (omega (arith, h.early, v.day_limit)),
      member_length true (codes "name") (Data.string k.name) m5,
      member_length true (codes "len_min") (number_data k.len_min) m4,
      short_number k.len_min (omega (arith, h.lengths, h.short, v.day_limit)),
      member_length true (codes "len_max") (number_data k.len_max) m3,
      short_number k.len_max (omega (arith, h.short, v.day_limit)),
      member_length false (codes "breaks") (rule_data k.rule) m2,
    )

weights_length : (i : Problem) → IsValid i → length (compact_text (weights_data i)) ≤ 200
unfolding weights_data
weights_length i v =
    let end = no_members in
    let m3 = member (codes "shortage") (number_data i.shortage) end in
    let m2 = member (codes "shift") (number_data i.shift) m3 in
    omega (
      arith,
      member_length true (codes "shortage") (number_data i.shortage) end,
      long_number i.shortage v.shortage,
      member_length true (codes "shift") (number_data i.shift) m3,
      long_number i.shift v.shift,
      member_length false (codes "excess") (number_data i.excess) m2,
      long_number i.excess v.excess,
    )

pub slot_minutes_limit : (i : Problem) → IsValid i → i.slot_minutes < 1000
slot_minutes_limit i v =
    let fits : i.slot_minutes * day_slots i ≤ 1440 = mul-div-le 1440 i.slot_minutes in
    let more : i.slot_minutes * 24 ≤ i.slot_minutes * day_slots i = mul-le-mul_left i.slot_minutes v.some_day_slots in
    omega (arith, fits, more)

wanted_length : (ns : List ℕ) → All (λ n. n ≤ 10000) ns → length (compact_text (list_data (map number_data ns))) ≤ length ns * 8 + 2
wanted_length ns h = list_length number_data 7 ns (λ k d q. long_number _ (omega (arith, h k d q)))

bands_length : (stated : Bool) (most : List ℕ) (later : Members) → All (λ n. n ≤ 10000) most → length (members_text true (with_bands stated most later)) ≤ length most * 8 + 60 + length (members_text true later)
bands_length true most later h =
    omega (arith, member_length true (codes "need_max") (list_data (map number_data most)) later, wanted_length most h)
bands_length false most later h = omega arith

stating_length : (stated : Bool) (i : Problem) → IsValid i → length (compact_text (document_stating stated i)) ≤ 80000
stating_length stated i v =
    let end = no_members in
    let m6 = member (codes "weights") (weights_data i) end in
    let types = list_data (map kind_data i.kinds) in
    let m5 = member (codes "types") types m6 in
    let m4 = member (codes "slot_minutes") (number_data i.slot_minutes) m5 in
    let bands = with_bands stated i.need_max m4 in
    let need = list_data (map number_data i.need) in
    let m3 = member (codes "need") need bands in
    let m2 = member (codes "max_heads") (number_data i.heads) m3 in
    let kinds : length (compact_text types) ≤ length i.kinds * 2001 + 2 = list_length kind_data 2000 i.kinds (λ k d q. kind_length i _ v (v.kinds k d q)) in
    omega (
      arith,
      wanted_length i.need v.need_limit,
      bands_length stated i.need_max m4 v.band_limit,
      kinds,
      v.need_length,
      v.band_length,
      v.few_slots,
      v.types,
      weights_length i v,
      member_length true (codes "weights") (weights_data i) end,
      member_length true (codes "types") types m6,
      member_length true (codes "slot_minutes") (number_data i.slot_minutes) m5,
      short_number i.slot_minutes (slot_minutes_limit i v),
      member_length true (codes "need") need bands,
      member_length true (codes "max_heads") (number_data i.heads) m3,
      short_number i.heads (omega (arith, v.heads)),
      member_length false (codes "days") (number_data i.days) m2,
      short_number i.days (omega (arith, v.days)),
    )

document_length : (i : Problem) → IsValid i → length (compact_text (document_data i)) ≤ 80000
unfolding document_data
document_length i v = stating_length (is_banded i) i v

-- the canonical text of a valid problem is short
pub canonical_length : (i : Problem) → IsValid i → length (canonical_text i) ≤ 2 ^ 20
unfolding canonical_text
canonical_length i v = omega (arith, document_length i v)
