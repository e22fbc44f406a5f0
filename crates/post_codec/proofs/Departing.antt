-- Where a list of posts is read, the fault is where the bytes depart from every spelling.
use Rattle.post_codec.proofs.Common.{◌≡◌, ◌⊎◌, inl, inr, ℕ, ℤ, zero, suc, ◌+◌, ◌-◌, ◌^◌, ◌<◌, ◌≤◌, Bool, true, false, cond, ltb, List, [], ◌∷◌, ◌++◌, length, take, Result, Ok, Err, refl, sym, ap, subst, ◌∙◌, arith, length-append, Vec, IfErr, Global, w16, w32, w64, ltb-true, ne_eqb, cases_eq, eq-eqb, append-nil, take_at, take_all, PriceWidth, Five, Eight, Post, Plan, Priced, Split, Settled, CodecFault, u16_bytes, u32_bytes, u64_bytes, break_bytes, breaks_bytes, row_bytes, rows_bytes, class_bytes, bytes_in, room, price_bytes, twos_complement, slot_bytes, slots_bytes, cuts_bytes, prices_bytes, post_bytes, spelling_by, FitsBreak, FitsBreaks, FitsRow, FitsRows, FitsClass, FitsSlot, FitsCut, FitsSlots, FitsCuts, FitsPrices, FitsPost, FitsPosts, break_fields, breaks_fields, row_fields, rows_fields, class_fields, slots_fields, cuts_fields, prices_fields, post_fields, posts_fields, bytes_of, AreFirstFields, DepartAt, IsFaultOf, GivesPosts, Reader, ◌then◌, byte_at, number_at, to_break, break_at, breaks_at, to_row, row_at, rows_at, to_class, class_at, to_slot, price_at, slot_at, slots_at, cuts_at, to_prices, prices_at, to_plan, plan_at, to_priced, priced_at, to_split, split_at, to_settled, settled_at, post_at, posts_at, ended, by_offset, whole, reading, IsRead}
use Rattle.break_rules.specs.declared.Break.{Break}
use Rattle.shift_instance.specs.declared.Row.{Row}
use Rattle.head_splits.specs.declared.Class.{Class}
use Rattle.head_splits.specs.declared.Prices.{Prices}
use Rattle.post_codec.specs.declared.fault.CodecFault.TheVariants.{Departs, NoMemory}
use Rattle.post_codec.proofs.Laws.{AreBytes, byte, number_16, number_32, number_64, price_wide, price_number, tail_bytes}
use Rattle.post_codec.proofs.Formats.{break, row, class, slot, slots, complement_back, complement_fits, complement_small, post, posts, reads_spelling}
use Rattle.post_codec.proofs.Steers.{Begins, Steers, Field, left_of, no_fault, stopped, begins_none, bytes_more, leaves, part_steers, made_steers, pair_steers, field_steers, counted_steers, many_joins}

-- ---- single fields
guarded_fault : {A : Type 0} (b : Bool) (d left : ℕ) (x : A) → cond b (Err d) (Ok x) ≡ Err left → (b ≡ true) × (left ≡ d)
guarded_fault true d left x e = (refl, let same : d ≡ left = cc in sym same)
guarded_fault false d left x e = absurd (no_fault x left e)

field_16 : Field (λ n. n < 2 ^ 16) u16_bytes 2 (number_at w16)
unfolding u16_bytes
field_16 = record {
  inverse = number_16;
  some = (0, omega arith);
  sized = λ n. refl;
  short = λ bytes left e. let g = guarded_fault (ltb (length bytes) 2) (length bytes) left _ e in (g.1, ltb-true _ _ g.0);
}

field_32 : Field (λ n. n < 2 ^ 32) u32_bytes 4 (number_at w32)
unfolding u32_bytes
field_32 = record {
  inverse = number_32;
  some = (0, omega arith);
  sized = λ n. refl;
  short = λ bytes left e. let g = guarded_fault (ltb (length bytes) 4) (length bytes) left _ e in (g.1, ltb-true _ _ g.0);
}

field_64 : Field (λ n. n < 2 ^ 64) u64_bytes 8 (number_at w64)
unfolding u64_bytes
field_64 = record {
  inverse = number_64;
  some = (0, omega arith);
  sized = λ n. refl;
  short = λ bytes left e. let g = guarded_fault (ltb (length bytes) 8) (length bytes) left _ e in (g.1, ltb-true _ _ g.0);
}

field_price : (w : PriceWidth) → Field (FitsCut w) (price_bytes w) (bytes_in w) (price_at w)
field_price w = record {
  inverse = price_number w;
  some = (0, some_room w);
  sized = (price_wide w).len;
  short = λ bytes left e. let g = guarded_fault (ltb (length bytes) (bytes_in w)) (length bytes) left _ e in (g.1, ltb-true _ _ g.0);
}
  where
    some_room : (w : PriceWidth) → 0 < room w
    some_room Five = omega arith
    some_room Eight = omega arith

abbrev in_byte : ℕ → List ℕ
in_byte n = n ∷ []

byte_short : (bytes : List ℕ) (left : ℕ) → byte_at bytes ≡ Err left → (left ≡ length bytes) × (length bytes < 1)
byte_short [] left e = (let same : 0 ≡ left = cc in sym same, omega arith)
byte_short (b ∷ bytes) left e = absurd (no_fault (b, bytes) left e)

field_byte : Field (λ n. n < 2 ^ 8) in_byte 1 byte_at
field_byte = record { inverse = byte; some = (0, omega arith); sized = λ n. refl; short = byte_short }

steers_16 : Steers (λ n. n < 2 ^ 16) (λ n. u16_bytes n ∷ []) (number_at w16)
steers_16 = field_steers _ _ _ _ field_16

joins_16 : (n : ℕ) → bytes_of (u16_bytes n ∷ []) ≡ u16_bytes n
joins_16 n = append-nil (u16_bytes n)

-- ---- breaks and rows
break_joins : (b : Break) → bytes_of (break_fields b) ≡ break_bytes b
break_joins b = ap (λ (l : List ℕ). u16_bytes b.start ++ l) (append-nil (u16_bytes b.len))

break_steers : Steers FitsBreak break_fields break_at
unfolding break_at
break_steers = made_steers _ _ (number_at w16 then number_at w16) FitsBreak break_fields to_break (λ b. (b.start, b.len)) (λ a h. h) (λ a h. refl) (λ b h. h) (λ b. refl)
    (pair_steers _ _ (λ n. u16_bytes n ∷ []) _ _ (λ n. u16_bytes n ∷ []) _ number_16 joins_16 steers_16 steers_16)

breaks_joins : (bs : List Break) → bytes_of (breaks_fields bs) ≡ breaks_bytes bs
breaks_joins bs = many_joins in_byte break_bytes break_fields break_joins bs

breaks_steers : Steers FitsBreaks breaks_fields breaks_at
unfolding breaks_at
breaks_steers = counted_steers (2 ^ 8) 1 in_byte byte_at FitsBreak break_bytes break_fields break_at field_byte break break_joins break_steers

row_joins : (r : Row) → bytes_of (row_fields r) ≡ row_bytes r
unfolding u16_bytes
row_joins r = ap (λ (l : List ℕ). u16_bytes r.shift ++ (r.day ∷ []) ++ u16_bytes r.count ++ l) (breaks_joins r.breaks)

row_steers : Steers FitsRow row_fields row_at
unfolding row_at
row_steers = made_steers _ _ (number_at w16 then (byte_at then (number_at w16 then breaks_at))) FitsRow row_fields to_row (λ r. (r.shift, (r.day, (r.count, r.breaks)))) (λ a h. (h.0, h.1.0, h.1.1.0, h.1.1.1)) (λ a h. refl) (λ b h. (h.0, (h.1, (h.2, h.3)))) (λ b. refl)
    (pair_steers _ _ (λ n. u16_bytes n ∷ []) _ _ _ _ number_16 joins_16 steers_16
    (pair_steers _ _ (λ n. in_byte n ∷ []) _ _ _ _ byte (λ n. append-nil (in_byte n)) (field_steers _ _ _ _ field_byte)
    (pair_steers _ _ (λ n. u16_bytes n ∷ []) _ _ _ _ number_16 joins_16 steers_16 breaks_steers)))

rows_joins : (rs : List Row) → bytes_of (rows_fields rs) ≡ rows_bytes rs
rows_joins rs = many_joins u32_bytes row_bytes row_fields row_joins rs

rows_steers : Steers FitsRows rows_fields rows_at
unfolding rows_at
rows_steers = counted_steers (2 ^ 32) 4 u32_bytes (number_at w32) FitsRow row_bytes row_fields row_at field_32 row row_joins row_steers

-- ---- classes and prices
class_joins : (c : Class) → bytes_of (class_fields c) ≡ class_bytes c
unfolding u16_bytes
class_joins c = ap (λ (l : List ℕ). u16_bytes c.shift ++ (c.day ∷ []) ++ l) (breaks_joins c.prefix)

class_steers : Steers FitsClass class_fields class_at
unfolding class_at
class_steers = made_steers _ _ (number_at w16 then (byte_at then breaks_at)) FitsClass class_fields to_class (λ c. (c.shift, (c.day, c.prefix))) (λ a h. (h.0, h.1.0, h.1.1)) (λ a h. refl) (λ b h. (h.0, (h.1, h.2))) (λ b. refl)
    (pair_steers _ _ (λ n. u16_bytes n ∷ []) _ _ _ _ number_16 joins_16 steers_16
    (pair_steers _ _ (λ n. in_byte n ∷ []) _ _ _ _ byte (λ n. append-nil (in_byte n)) (field_steers _ _ _ _ field_byte) breaks_steers))

abbrev slot_field : PriceWidth → ℤ → List (List ℕ)
slot_field w price = slot_bytes w price ∷ []

abbrev cut_field : PriceWidth → ℕ → List (List ℕ)
cut_field w price = price_bytes w price ∷ []

slot_joins : (w : PriceWidth) (price : ℤ) → bytes_of (slot_field w price) ≡ slot_bytes w price
slot_joins w price = append-nil (slot_bytes w price)

cut_joins : (w : PriceWidth) (price : ℕ) → bytes_of (cut_field w price) ≡ price_bytes w price
cut_joins w price = append-nil (price_bytes w price)

cut_steers : (w : PriceWidth) → Steers (FitsCut w) (cut_field w) (price_at w)
cut_steers w = field_steers _ _ _ _ (field_price w)

slot_steers : (w : PriceWidth) → Steers (FitsSlot w) (slot_field w) (slot_at w)
unfolding slot_at
slot_steers w = made_steers (FitsCut w) (cut_field w) (price_at w) (FitsSlot w) (slot_field w) (to_slot w) (twos_complement w) (complement_fits w) (λ a h. ap (cut_field w) (complement_back w a h)) (complement_small w) (λ b. refl) (cut_steers w)

slots_joins : (w : PriceWidth) (prices : List ℤ) → bytes_of (slots_fields w prices) ≡ slots_bytes w prices
slots_joins w prices = many_joins u32_bytes (slot_bytes w) (slot_field w) (slot_joins w) prices

slots_steers : (w : PriceWidth) → Steers (FitsSlots w) (slots_fields w) (slots_at w)
unfolding slots_at
slots_steers w = counted_steers (2 ^ 32) 4 u32_bytes (number_at w32) (FitsSlot w) (slot_bytes w) (slot_field w) (slot_at w) field_32 (slot w) (slot_joins w) (slot_steers w)

cuts_joins : (w : PriceWidth) (prices : List ℕ) → bytes_of (cuts_fields w prices) ≡ cuts_bytes w prices
cuts_joins w prices = many_joins u32_bytes (price_bytes w) (cut_field w) (cut_joins w) prices

cuts_steers : (w : PriceWidth) → Steers (FitsCuts w) (cuts_fields w) (cuts_at w)
unfolding cuts_at
cuts_steers w = counted_steers (2 ^ 32) 4 u32_bytes (number_at w32) (FitsCut w) (price_bytes w) (cut_field w) (price_at w) field_32 (price_number w) (cut_joins w) (cut_steers w)

prices_joins : (w : PriceWidth) (p : Prices) → bytes_of (prices_fields w p) ≡ prices_bytes w p
unfolding u16_bytes u32_bytes
prices_joins w p =
    let each : bytes_of (slots_fields w p.slots ++ cuts_fields w p.cuts) ≡ slots_bytes w p.slots ++ cuts_bytes w p.cuts =
    bytes_more (slots_fields w p.slots) (cuts_fields w p.cuts) ∙ ap (λ (l : List ℕ). l ++ bytes_of (cuts_fields w p.cuts)) (slots_joins w p.slots) ∙ ap (λ (l : List ℕ). slots_bytes w p.slots ++ l) (cuts_joins w p.cuts) in
    ap (λ (l : List ℕ). u16_bytes p.q ++ l) each

prices_steers : (w : PriceWidth) → Steers (FitsPrices w) (prices_fields w) (prices_at w)
unfolding prices_at
prices_steers w = made_steers _ _ (number_at w16 then (slots_at w then cuts_at w)) (FitsPrices w) (prices_fields w) to_prices (λ p. (p.q, (p.slots, p.cuts))) (λ a h. (h.0, h.1.0, h.1.1)) (λ a h. refl) (λ b h. (h.0, (h.1, h.2))) (λ b. refl)
    (pair_steers _ _ (λ n. u16_bytes n ∷ []) _ _ _ _ number_16 joins_16 steers_16
    (pair_steers _ _ (slots_fields w) _ _ _ _ (slots w) (slots_joins w) (slots_steers w) (cuts_steers w)))

-- ---- posts, by their tags
-- the tag of a post's kind
abbrev tag_of : Post → ℕ
tag_of (Plan worker rs cost) = 1
tag_of (Priced worker node prices) = 2
tag_of (Split worker node c m) = 3
tag_of (Settled worker node) = 4

-- the fields behind a post's tag
abbrev behind : PriceWidth → Post → List (List ℕ)
behind w (Plan worker rs cost) = u16_bytes worker ∷ u64_bytes cost ∷ rows_fields rs
behind w (Priced worker node prices) = u16_bytes worker ∷ u32_bytes node ∷ prices_fields w prices
behind w (Split worker node c m) = u16_bytes worker ∷ u32_bytes node ∷ class_fields c ++ u16_bytes m ∷ []
behind w (Settled worker node) = u16_bytes worker ∷ u32_bytes node ∷ []

behind_tag : (w : PriceWidth) (p : Post) (k : ℕ) → bytes_of (take (suc k) (post_fields w p)) ≡ tag_of p ∷ bytes_of (take k (behind w p))
behind_tag w (Plan worker rs cost) k = refl
behind_tag w (Priced worker node prices) k = refl
behind_tag w (Split worker node c m) k = refl
behind_tag w (Settled worker node) k = refl

-- a post of the tag's kind, each of its numbers fitting its field
abbrev OfKind : PriceWidth → ℕ → Post → Type 0
OfKind w tag p = FitsPost w p × (tag_of p ≡ tag)

-- the fields of a worker and a node
abbrev node_fields : {A : Type 0} → (A → List (List ℕ)) → ℕ × (ℕ × A) → List (List ℕ)
node_fields fields x = (u16_bytes x.0 ∷ []) ++ ((u32_bytes x.1.0 ∷ []) ++ fields x.1.1)

steers_32 : Steers (λ n. n < 2 ^ 32) (λ n. u32_bytes n ∷ []) (number_at w32)
steers_32 = field_steers _ _ _ _ field_32

node_steers : {A : Type 0} (F : A → Type 0) (fields : A → List (List ℕ)) (read : Reader A) → Steers F fields read → Steers (λ (x : ℕ × (ℕ × A)). (x.0 < 2 ^ 16) × ((x.1.0 < 2 ^ 32) × F x.1.1)) (node_fields fields) (number_at w16 then (number_at w32 then read))
node_steers F fields read one =
    pair_steers _ _ (λ n. u16_bytes n ∷ []) _ _ _ _ number_16 joins_16 steers_16
    (pair_steers _ _ (λ n. u32_bytes n ∷ []) _ _ _ _ number_32 (λ n. append-nil (u32_bytes n)) steers_32 one)

plan_back : (w : PriceWidth) (p : Post) → OfKind w 1 p → (x : ℕ × (ℕ × List Row)) × ((x.0 < 2 ^ 16) × ((x.1.0 < 2 ^ 64) × FitsRows x.1.1)) × (behind w p ≡ (u16_bytes x.0 ∷ []) ++ ((u64_bytes x.1.0 ∷ []) ++ rows_fields x.1.1))
plan_back w (Plan worker rs cost) h = ((worker, (cost, rs)), (h.0.0, (h.0.1, h.0.2)), refl)
plan_back w (Priced worker node prices) h = absurd (omega (arith, h.1))
plan_back w (Split worker node c m) h = absurd (omega (arith, h.1))
plan_back w (Settled worker node) h = absurd (omega (arith, h.1))

plan_steers : (w : PriceWidth) → Steers (OfKind w 1) (behind w) plan_at
unfolding plan_at
plan_steers w = part_steers _ _ (number_at w16 then (number_at w64 then rows_at)) (OfKind w 1) (behind w) to_plan (λ a h. ((h.0, h.1.0, h.1.1), refl)) (λ a h. refl) (plan_back w)
    (pair_steers _ _ (λ n. u16_bytes n ∷ []) _ _ _ _ number_16 joins_16 steers_16
    (pair_steers _ _ (λ n. u64_bytes n ∷ []) _ _ _ _ number_64 (λ n. append-nil (u64_bytes n)) (field_steers _ _ _ _ field_64) rows_steers))

priced_back : (w : PriceWidth) (p : Post) → OfKind w 2 p → (x : ℕ × (ℕ × Prices)) × ((x.0 < 2 ^ 16) × ((x.1.0 < 2 ^ 32) × FitsPrices w x.1.1)) × (behind w p ≡ node_fields (prices_fields w) x)
priced_back w (Plan worker rs cost) h = absurd (omega (arith, h.1))
priced_back w (Priced worker node prices) h = ((worker, (node, prices)), (h.0.0, (h.0.1, h.0.2)), refl)
priced_back w (Split worker node c m) h = absurd (omega (arith, h.1))
priced_back w (Settled worker node) h = absurd (omega (arith, h.1))

priced_steers : (w : PriceWidth) → Steers (OfKind w 2) (behind w) (priced_at w)
unfolding priced_at
priced_steers w = part_steers _ _ (number_at w16 then (number_at w32 then prices_at w)) (OfKind w 2) (behind w) to_priced (λ a h. ((h.0, h.1.0, h.1.1), refl)) (λ a h. refl) (priced_back w) (node_steers _ _ _ (prices_steers w))

abbrev class_and_number : Class × ℕ → List (List ℕ)
class_and_number x = class_fields x.0 ++ u16_bytes x.1 ∷ []

split_back : (w : PriceWidth) (p : Post) → OfKind w 3 p → (x : ℕ × (ℕ × (Class × ℕ))) × ((x.0 < 2 ^ 16) × ((x.1.0 < 2 ^ 32) × (FitsClass x.1.1.0 × (x.1.1.1 < 2 ^ 16)))) × (behind w p ≡ node_fields class_and_number x)
split_back w (Plan worker rs cost) h = absurd (omega (arith, h.1))
split_back w (Priced worker node prices) h = absurd (omega (arith, h.1))
split_back w (Split worker node c m) h = ((worker, (node, (c, m))), (h.0.0, (h.0.1, (h.0.2, h.0.3))), refl)
split_back w (Settled worker node) h = absurd (omega (arith, h.1))

split_steers : (w : PriceWidth) → Steers (OfKind w 3) (behind w) split_at
unfolding split_at
split_steers w = part_steers _ _ (number_at w16 then (number_at w32 then (class_at then number_at w16))) (OfKind w 3) (behind w) to_split (λ a h. ((h.0, h.1.0, h.1.1.0, h.1.1.1), refl)) (λ a h. refl) (split_back w)
    (node_steers _ _ _ (pair_steers _ _ class_fields _ _ _ _ class class_joins class_steers steers_16))

settled_back : (w : PriceWidth) (p : Post) → OfKind w 4 p → (x : ℕ × ℕ) × ((x.0 < 2 ^ 16) × (x.1 < 2 ^ 32)) × (behind w p ≡ (u16_bytes x.0 ∷ []) ++ (u32_bytes x.1 ∷ []))
settled_back w (Plan worker rs cost) h = absurd (omega (arith, h.1))
settled_back w (Priced worker node prices) h = absurd (omega (arith, h.1))
settled_back w (Split worker node c m) h = absurd (omega (arith, h.1))
settled_back w (Settled worker node) h = ((worker, node), (h.0.0, h.0.1), refl)

settled_steers : (w : PriceWidth) → Steers (OfKind w 4) (behind w) settled_at
unfolding settled_at
settled_steers w = part_steers _ _ (number_at w16 then number_at w32) (OfKind w 4) (behind w) to_settled (λ a h. (h, refl)) (λ a h. refl) (settled_back w)
    (pair_steers _ _ (λ n. u16_bytes n ∷ []) _ _ _ _ number_16 joins_16 steers_16 steers_32)

-- a byte that is a tag, with the reader behind it
record Known (w : PriceWidth) (b : ℕ) (bytes : List ℕ) : Type 0 where
  read : Reader Post
  steers : Steers (OfKind w b) (behind w) read
  reads : post_at w (b ∷ bytes) ≡ read bytes

-- a byte that is no tag
record Unknown (w : PriceWidth) (b : ℕ) (bytes : List ℕ) : Type 0 where
  none : (p : Post) → tag_of p ≡ b → ⊥
  reads : post_at w (b ∷ bytes) ≡ Err (length (b ∷ bytes))

no_kind : (b : ℕ) → (b ≡ 1 → ⊥) → (b ≡ 2 → ⊥) → (b ≡ 3 → ⊥) → (b ≡ 4 → ⊥) → (p : Post) → tag_of p ≡ b → ⊥
no_kind b one two three four (Plan worker rs cost) e = one (sym e)
no_kind b one two three four (Priced worker node prices) e = two (sym e)
no_kind b one two three four (Split worker node c m) e = three (sym e)
no_kind b one two three four (Settled worker node) e = four (sym e)

of_kind : (w : PriceWidth) (b tag : ℕ) (read : Reader Post) → b ≡ tag → Steers (OfKind w tag) (behind w) read → Steers (OfKind w b) (behind w) read
of_kind w b tag read is one = subst (λ (t : ℕ). Steers (OfKind w t) (behind w) read) (sym is) one

known : (w : PriceWidth) (b : ℕ) (bytes : List ℕ) → Known w b bytes ⊎ Unknown w b bytes
unfolding post_at
known w b bytes = elim (cases_eq b 1) [
  | inl one ↦ inl (record { read = plan_at; steers = of_kind w b 1 plan_at one (plan_steers w); reads = rw (eq-eqb b 1 one) refl })
  | inr not_1 ↦ elim (cases_eq b 2) [
    | inl two ↦ inl (record { read = priced_at w; steers = of_kind w b 2 (priced_at w) two (priced_steers w); reads = rw (ne_eqb b 1 not_1, eq-eqb b 2 two) refl })
    | inr not_2 ↦ elim (cases_eq b 3) [
      | inl three ↦ inl (record { read = split_at; steers = of_kind w b 3 split_at three (split_steers w); reads = rw (ne_eqb b 1 not_1, ne_eqb b 2 not_2, eq-eqb b 3 three) refl })
      | inr not_3 ↦ elim (cases_eq b 4) [
        | inl four ↦ inl (record { read = settled_at; steers = of_kind w b 4 settled_at four (settled_steers w); reads = rw (ne_eqb b 1 not_1, ne_eqb b 2 not_2, ne_eqb b 3 not_3, eq-eqb b 4 four) refl })
        | inr not_4 ↦ inr (record { none = no_kind b not_1 not_2 not_3 not_4; reads = rw (ne_eqb b 1 not_1, ne_eqb b 2 not_2, ne_eqb b 3 not_3, ne_eqb b 4 not_4) refl })
      ]
    ]
  ]
]

no_tag : (w : PriceWidth) → post_at w [] ≡ Err 0
unfolding post_at
no_tag w = refl

some_post : (w : PriceWidth) → (p : Post) × FitsPost w p
some_post w = let plan = (plan_steers w).some in (plan.0, plan.1.0)

post_least : (w : PriceWidth) (bytes : List ℕ) (left : ℕ) → AreBytes bytes → post_at w bytes ≡ Err left → (at : ℕ) × (at + left ≡ length bytes) × Begins (FitsPost w) (post_fields w) (take at bytes)
post_least w [] left h e =
    let same : 0 ≡ left = let both = sym (no_tag w) ∙ e in cc in
    (0, omega (arith, same), begins_none (FitsPost w) (post_fields w) [] (some_post w))
post_least w (b ∷ bytes) left h e = elim (known w b bytes) [
  | inl k ↦
      let l = k.steers.least bytes left (tail_bytes b bytes h) (sym k.reads ∙ e) in (
        suc l.0,
        omega (arith, l.1),
        record {
          whole = l.2.whole;
          fits = l.2.fits.0;
          count = suc l.2.count;
          is = ap (λ (t : ℕ). t ∷ take l.0 bytes) (sym l.2.fits.1) ∙ ap (λ (x : List ℕ). tag_of l.2.whole ∷ x) l.2.is ∙ sym (behind_tag w l.2.whole l.2.count);
        },
      )
  | inr u ↦
      let same : length (b ∷ bytes) ≡ left = let both = sym u.reads ∙ e in cc in
      (0, omega (arith, same), begins_none (FitsPost w) (post_fields w) (b ∷ bytes) (some_post w))
]

post_leaves : (w : PriceWidth) (bytes : List ℕ) → AreBytes bytes → left_of (post_at w bytes) ≤ length bytes
post_leaves w [] h = rw (no_tag w) (omega arith)
post_leaves w (b ∷ bytes) h = elim (known w b bytes) [
  | inl k ↦
      let less : left_of (k.read bytes) ≤ length bytes = leaves k.steers bytes (tail_bytes b bytes h) in
      rw k.reads (omega arith)
  | inr u ↦ rw u.reads (omega arith)
]

none_begun : (bytes : List ℕ) (n : ℕ) → n ≤ length bytes → take n bytes ≡ [] → n ≡ 0
none_begun bytes zero le e = refl
none_begun [] (suc n) le e = absurd (omega arith)
none_begun (b ∷ bytes) (suc n) le e = absurd (cc)

tag_begun : (b n t : ℕ) (bytes front : List ℕ) → take n (b ∷ bytes) ≡ t ∷ front → (m : ℕ) × (n ≡ suc m) × (t ≡ b) × (take m bytes ≡ front)
tag_begun b zero t bytes front e = absurd (cc)
tag_begun b (suc m) t bytes front e = (m, refl, cc, cc)

post_most : (w : PriceWidth) (bytes : List ℕ) (n : ℕ) → AreBytes bytes → n ≤ length bytes → Begins (FitsPost w) (post_fields w) (take n bytes) → n + left_of (post_at w bytes) ≤ length bytes
post_most w bytes n h le begins = go begins.count begins.is
  where
    tagged : (bytes : List ℕ) (k : ℕ) → AreBytes bytes → n ≤ length bytes → take n bytes ≡ tag_of begins.whole ∷ bytes_of (take k (behind w begins.whole)) → n + left_of (post_at w bytes) ≤ length bytes
    tagged [] k h le e = absurd (no_front n e)
      where
        no_front : (n : ℕ) → take n [] ≡ tag_of begins.whole ∷ bytes_of (take k (behind w begins.whole)) → ⊥
        no_front zero e = absurd (cc)
        no_front (suc m) e = absurd (cc)
    tagged (b ∷ bytes) k h le e =
        let t = tag_begun b n (tag_of begins.whole) bytes (bytes_of (take k (behind w begins.whole))) e in
        elim (known w b bytes) [
          | inl kind ↦
              let most : t.0 + left_of (kind.read bytes) ≤ length bytes = kind.steers.most bytes t.0 (tail_bytes b bytes h) (omega (arith, t.1)) (record { whole = begins.whole; fits = (begins.fits, t.2); count = k; is = t.3 }) in
              rw kind.reads (omega (arith, t.1))
          | inr u ↦ absurd (u.none begins.whole t.2)
        ]

    go : (k : ℕ) → take n bytes ≡ bytes_of (take k (post_fields w begins.whole)) → n + left_of (post_at w bytes) ≤ length bytes
    go zero e = omega (arith, none_begun bytes n le e, post_leaves w bytes h)
    go (suc k) e = tagged bytes k h le (e ∙ behind_tag w begins.whole k)

post_steers : (w : PriceWidth) → Steers (FitsPost w) (post_fields w) (post_at w)
post_steers w = record { some = some_post w; least = post_least w; most = post_most w }

number_joins : (c : Class) (m : ℕ) → bytes_of (class_fields c ++ u16_bytes m ∷ []) ≡ class_bytes c ++ u16_bytes m
number_joins c m = bytes_more (class_fields c) (u16_bytes m ∷ []) ∙ ap (λ (l : List ℕ). l ++ bytes_of (u16_bytes m ∷ [])) (class_joins c) ∙ ap (λ (l : List ℕ). class_bytes c ++ l) (joins_16 m)

post_joins : (w : PriceWidth) (p : Post) → bytes_of (post_fields w p) ≡ post_bytes w p
unfolding u16_bytes u32_bytes u64_bytes
post_joins w (Plan worker rs cost) = ap (λ (l : List ℕ). 1 ∷ u16_bytes worker ++ u64_bytes cost ++ l) (rows_joins rs)
post_joins w (Priced worker node prices) = ap (λ (l : List ℕ). 2 ∷ u16_bytes worker ++ u32_bytes node ++ l) (prices_joins w prices)
post_joins w (Split worker node c m) = ap (λ (l : List ℕ). 3 ∷ u16_bytes worker ++ u32_bytes node ++ l) (number_joins c m)
post_joins w (Settled worker node) = refl

posts_steers : (w : PriceWidth) → Steers (FitsPosts w) (posts_fields w) (posts_at w)
unfolding posts_at
posts_steers w = counted_steers (2 ^ 16) 2 u16_bytes (number_at w16) (FitsPost w) (post_bytes w) (post_fields w) (post_at w) field_16 (post w) (post_joins w) (post_steers w)

pub posts_joins : (w : PriceWidth) (ps : List Post) → bytes_of (posts_fields w ps) ≡ spelling_by w ps
posts_joins w ps = many_joins u16_bytes (post_bytes w) (post_fields w) (post_joins w) ps

-- ---- all of the bytes
first_fields : (w : PriceWidth) (front : List ℕ) → Begins (FitsPosts w) (posts_fields w) front → AreFirstFields w front
first_fields w front b = record { posts = b.whole; fits = b.fits; count = b.count; is = b.is }

begins_of : (w : PriceWidth) (front : List ℕ) → AreFirstFields w front → Begins (FitsPosts w) (posts_fields w) front
begins_of w front a = record { whole = a.posts; fits = a.fits; count = a.count; is = a.is }

offset_fault : (n : ℕ) (r : Result (List Post) ℕ) (at : ℕ) → by_offset n r ≡ Err at → (left : ℕ) × (r ≡ Err left) × (n - left ≡ at)
offset_fault n (Ok x) at e = absurd (no_fault x at e)
offset_fault n (Err left) at e = (left, refl, cc)

rest_fault : (x : List Post × List ℕ) (left : ℕ) → ended x ≡ Err left → left ≡ length x.1
rest_fault (ps, []) left e = absurd (no_fault ps left e)
rest_fault (ps, b ∷ rest) left e = let same : length (b ∷ rest) ≡ left = cc in sym same

-- where reading stops, some front of fields ends, and none goes on
record Stopping (w : PriceWidth) (bytes : List ℕ) (left : ℕ) : Type 0 where
  at : ℕ
  sum : at + left ≡ length bytes
  before : AreFirstFields w (take at bytes)
  leaves_so : left_of (posts_at w bytes) ≡ left

stopping : (w : PriceWidth) (bytes : List ℕ) (left : ℕ) → AreBytes bytes → whole w bytes ≡ Err left → Stopping w bytes left
stopping w bytes left h e = elim (stopped (posts_at w bytes) ended left e) [
  | inl fault ↦
      let l = (posts_steers w).least bytes left h fault in
      record { at = l.0; sum = l.1; before = first_fields w (take l.0 bytes) l.2; leaves_so = ap left_of fault }
  | inr r ↦
      let x = r.0 in
      let took = (posts w).takes bytes x h r.1 in
      let rest : left ≡ length x.1 = rest_fault x left r.2 in
      let fields = posts_fields w x.0 in
      let is : take (length (spelling_by w x.0)) bytes ≡ bytes_of (take (length fields) fields) =
      ap (take (length (spelling_by w x.0))) took.parts ∙ take_at (spelling_by w x.0) x.1 (length (spelling_by w x.0)) refl
      ∙ sym (posts_joins w x.0) ∙ ap bytes_of (sym (take_all (length fields) fields (omega arith))) in
      record {
        at = length (spelling_by w x.0);
        sum = omega (arith, rest, ap length took.parts, length-append (spelling_by w x.0) x.1);
        before = record { posts = x.0; fits = took.fits; count = length fields; is = is };
        leaves_so = ap left_of r.1 ∙ sym rest;
      }
]

pub departs : (w : PriceWidth) (bytes : List ℕ) (at : ℕ) → AreBytes bytes → reading w bytes ≡ Err at → DepartAt w bytes at
departs w bytes at h e =
    let o = offset_fault (length bytes) (whole w bytes) at e in
    let s = stopping w bytes o.0 h o.1 in
    let place : s.at ≡ at = omega (arith, s.sum, o.2) in
    record {
      none = λ ps spells. no_fault ps at (sym (ap (reading w) spells.is ∙ reads_spelling w ps spells.fits) ∙ e);
      within = omega (arith, s.sum, place);
      before = subst (λ (n : ℕ). AreFirstFields w (take n bytes)) place s.before;
      last = λ n le first.
          let most : n + left_of (posts_at w bytes) ≤ length bytes = (posts_steers w).most bytes n h le (begins_of w (take n bytes) first) in
          omega (arith, s.leaves_so, s.sum, place);
    }

-- ---- the answer
pub fault_of : (w : PriceWidth) (bytes : List ℕ) (r : Result (Vec Post Global) CodecFault) → AreBytes bytes → IsRead r (reading w bytes) → IfErr r (IsFaultOf w bytes)
fault_of w bytes (Ok v) h e = tt
fault_of w bytes (Err (Departs at)) h e = departs w bytes at h e
fault_of w bytes (Err NoMemory) h e = tt

pub gives_posts : (r : Result (Vec Post Global) CodecFault) (ps : List Post) → IsRead r (Ok ps) → GivesPosts r ps
gives_posts (Ok v) ps e = let same : ps ≡ v.items = cc in sym same
gives_posts (Err (Departs at)) ps e = no_fault ps at e
gives_posts (Err NoMemory) ps e = tt
