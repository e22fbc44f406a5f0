-- The two laws for each part of a post, and for all of the bytes.
use Rattle.post_codec.proofs.Common.{pos, negsuc, suc, ◌≡◌, inl, inr, ℕ, ℤ, ◌+◌, ◌-◌, ◌^◌, ◌<◌, ◌≤◌, cond, eqb, List, [], ◌∷◌, ◌++◌, length, Result, Ok, Err, refl, sym, ap, subst, ◌∙◌, arith, IfOk, Vec, Global, w16, w32, append-nil, eqb-true, cases_lt, lt-ltb, le-ltb, PriceWidth, Five, Eight, Post, Plan, Priced, Split, Settled, CodecFault, u16_bytes, u32_bytes, u64_bytes, break_bytes, breaks_bytes, row_bytes, rows_bytes, class_bytes, room, half, price_bytes, twos_complement, slot_bytes, slots_bytes, cuts_bytes, prices_bytes, post_bytes, spelling_by, FitsBreak, FitsBreaks, FitsRow, FitsRows, FitsClass, FitsSlot, FitsCut, FitsSlots, FitsCuts, FitsPrices, FitsPost, FitsPosts, SpellsBy, ◌then◌, byte_at, number_at, to_break, break_at, breaks_at, to_row, row_at, rows_at, to_class, class_at, to_slot, price_at, slot_at, slots_at, cuts_at, to_prices, prices_at, to_plan, plan_at, to_priced, priced_at, to_split, split_at, to_settled, settled_at, post_at, posts_at, ended, by_offset, whole, reading, IsRead}
use Rattle.post_codec.proofs.Laws.{AreBytes, bound, same, Took, Inverse, pair, tagged, chosen, tail_bytes, byte, number_16, number_32, number_64, price_number, many, made_of}

pub break : Inverse FitsBreak break_bytes break_at
unfolding break_at
break = made_of _ _ (number_at w16 then number_at w16) FitsBreak break_bytes to_break (λ b. (b.start, b.len)) (λ a h. refl) (λ b h. refl) (λ b h. h) (λ b h. h) (λ b. refl)
    (pair number_16 number_16)

pub breaks : Inverse FitsBreaks breaks_bytes breaks_at
unfolding breaks_at
breaks = many (2 ^ 8) (λ n. n ∷ []) byte_at FitsBreak break_bytes break_at byte break

pub row : Inverse FitsRow row_bytes row_at
unfolding row_at u16_bytes u32_bytes
row = made_of _ _ (number_at w16 then (byte_at then (number_at w16 then breaks_at))) FitsRow row_bytes to_row (λ r. (r.shift, (r.day, (r.count, r.breaks)))) (λ a h. refl) (λ b h. refl) (λ b h. (h.0, h.1.0, h.1.1.0, h.1.1.1)) (λ b h. (h.0, (h.1, (h.2, h.3)))) (λ b. refl)
    (pair number_16 (pair byte (pair number_16 breaks)))

pub rows : Inverse FitsRows rows_bytes rows_at
unfolding rows_at
rows = many (2 ^ 32) u32_bytes (number_at w32) FitsRow row_bytes row_at number_32 row

-- ---- classes and prices

pub class : Inverse FitsClass class_bytes class_at
unfolding class_at u16_bytes
class = made_of _ _ (number_at w16 then (byte_at then breaks_at)) FitsClass class_bytes to_class (λ c. (c.shift, (c.day, c.prefix))) (λ a h. refl) (λ b h. refl) (λ a h. (h.0, h.1.0, h.1.1)) (λ b h. (h.0, (h.1, h.2))) (λ b. refl)
    (pair number_16 (pair byte breaks))

-- ---- two's complement
two_halves : (w : PriceWidth) → room w ≡ half w + half w
two_halves Five = refl
two_halves Eight = refl

pub complement_back : (w : PriceWidth) (n : ℕ) → n < room w → twos_complement w (to_slot w n) ≡ n
complement_back w n lt = elim (cases_lt n (half w)) [
  | inl small ↦ rw (lt-ltb n (half w) small) refl
  | inr large ↦ rw (le-ltb n (half w) large) (omega arith)
]

complement_forth : (w : PriceWidth) (price : ℤ) → FitsSlot w price → to_slot w (twos_complement w price) ≡ price
complement_forth w (pos n) fits = rw (lt-ltb n (half w) fits) refl
complement_forth w (negsuc n) fits =
    let e = two_halves w in
    let large : half w ≤ room w - suc n = omega arith in
    let same : room w - suc (room w - suc n) ≡ n = omega arith in
    rw (le-ltb (room w - suc n) (half w) large) (ap (λ (k : ℕ). negsuc k) same)

pub complement_fits : (w : PriceWidth) (n : ℕ) → n < room w → FitsSlot w (to_slot w n)
complement_fits w n lt = elim (cases_lt n (half w)) [
  | inl small ↦ rw (lt-ltb n (half w) small) small
  | inr large ↦ rw (le-ltb n (half w) large) (let e = two_halves w in omega arith)
]

pub complement_small : (w : PriceWidth) (price : ℤ) → FitsSlot w price → FitsCut w (twos_complement w price)
complement_small w (pos n) fits = let e = two_halves w in omega arith
complement_small w (negsuc n) fits = let e = two_halves w in omega arith

pub slot : (w : PriceWidth) → Inverse (FitsSlot w) (slot_bytes w) (slot_at w)
unfolding slot_at
slot w = made_of (FitsCut w) (price_bytes w) (price_at w) (FitsSlot w) (slot_bytes w) (to_slot w) (twos_complement w) (complement_back w) (complement_forth w) (complement_fits w) (complement_small w) (λ b. refl) (price_number w)

pub slots : (w : PriceWidth) → Inverse (FitsSlots w) (slots_bytes w) (slots_at w)
unfolding slots_at
slots w = many (2 ^ 32) u32_bytes (number_at w32) (FitsSlot w) (slot_bytes w) (slot_at w) number_32 (slot w)

pub cuts : (w : PriceWidth) → Inverse (FitsCuts w) (cuts_bytes w) (cuts_at w)
unfolding cuts_at
cuts w = many (2 ^ 32) u32_bytes (number_at w32) (FitsCut w) (price_bytes w) (price_at w) number_32 (price_number w)

pub prices : (w : PriceWidth) → Inverse (FitsPrices w) (prices_bytes w) (prices_at w)
unfolding prices_at u16_bytes u32_bytes
prices w = made_of _ _ (number_at w16 then (slots_at w then cuts_at w)) (FitsPrices w) (prices_bytes w) to_prices (λ c. (c.q, (c.slots, c.cuts))) (λ a h. refl) (λ b h. refl) (λ a h. (h.0, h.1.0, h.1.1)) (λ b h. (h.0, (h.1, h.2))) (λ b. refl)
    (pair number_16 (pair (slots w) (cuts w)))

-- ---- posts, by their tags

post_takes : (w : PriceWidth) (bytes : List ℕ) (x : Post × List ℕ) → AreBytes bytes → post_at w bytes ≡ Ok x → Took (FitsPost w) (post_bytes w) bytes x
unfolding post_at plan_at priced_at split_at settled_at u16_bytes u32_bytes u64_bytes
post_takes w [] x h e = absurd cc
post_takes w (b ∷ bytes) x h e =
    let rest = tail_bytes b bytes h in
    let no : Result (Post × List ℕ) ℕ = Err (length (b ∷ bytes)) in
    let from_4 : Result (Post × List ℕ) ℕ = cond (eqb b 4) (settled_at bytes) no in
    let from_3 : Result (Post × List ℕ) ℕ = cond (eqb b 3) (split_at bytes) from_4 in
    let from_2 : Result (Post × List ℕ) ℕ = cond (eqb b 2) (priced_at w bytes) from_3 in
    elim (chosen (eqb b 1) (plan_at bytes) from_2 (Ok x) e) [
      | inl p ↦ subst (λ (t : ℕ). Took (FitsPost w) (post_bytes w) (t ∷ bytes) x) (sym (eqb-true b 1 p.0))
          (tagged (pair number_16 (pair number_64 rows)) (FitsPost w) (post_bytes w) 1 to_plan (λ a. refl) (λ a f. (f.0, f.1.0, f.1.1)) bytes x rest p.1)
      | inr p ↦ elim (chosen (eqb b 2) (priced_at w bytes) from_3 (Ok x) p.1) [
        | inl q ↦ subst (λ (t : ℕ). Took (FitsPost w) (post_bytes w) (t ∷ bytes) x) (sym (eqb-true b 2 q.0))
            (tagged (pair number_16 (pair number_32 (prices w))) (FitsPost w) (post_bytes w) 2 to_priced (λ a. refl) (λ a f. (f.0, f.1.0, f.1.1)) bytes x rest q.1)
        | inr q ↦ elim (chosen (eqb b 3) (split_at bytes) from_4 (Ok x) q.1) [
          | inl r ↦ subst (λ (t : ℕ). Took (FitsPost w) (post_bytes w) (t ∷ bytes) x) (sym (eqb-true b 3 r.0))
              (tagged (pair number_16 (pair number_32 (pair class number_16))) (FitsPost w) (post_bytes w) 3 to_split (λ a. refl) (λ a f. (f.0, f.1.0, f.1.1.0, f.1.1.1)) bytes x rest r.1)
          | inr r ↦ elim (chosen (eqb b 4) (settled_at bytes) no (Ok x) r.1) [
            | inl t ↦ subst (λ (t : ℕ). Took (FitsPost w) (post_bytes w) (t ∷ bytes) x) (sym (eqb-true b 4 t.0))
                (tagged (pair number_16 number_32) (FitsPost w) (post_bytes w) 4 to_settled (λ a. refl) (λ a f. f) bytes x rest t.1)
            | inr t ↦ absurd (let never = t.1 in cc)
          ]
        ]
      ]
    ]

post_again : (w : PriceWidth) (p : Post) (rest : List ℕ) → FitsPost w p → post_at w (post_bytes w p ++ rest) ≡ Ok (p, rest)
unfolding post_at plan_at priced_at split_at settled_at u16_bytes u32_bytes u64_bytes
post_again w (Plan worker rs cost) rest h = rw ((pair number_16 (pair number_64 rows)).again (worker, (cost, rs)) rest (h.0, (h.1, h.2))) refl
post_again w (Priced worker node ps) rest h = rw ((pair number_16 (pair number_32 (prices w))).again (worker, (node, ps)) rest (h.0, (h.1, h.2))) refl
post_again w (Split worker node c m) rest h = rw ((pair number_16 (pair number_32 (pair class number_16))).again (worker, (node, (c, m))) rest (h.0, (h.1, (h.2, h.3)))) refl
post_again w (Settled worker node) rest h = rw ((pair number_16 number_32).again (worker, node) rest h) refl

pub post : (w : PriceWidth) → Inverse (FitsPost w) (post_bytes w) (post_at w)
post w = record { takes = post_takes w; again = post_again w }

pub posts : (w : PriceWidth) → Inverse (FitsPosts w) (spelling_by w) (posts_at w)
unfolding posts_at
posts w = many (2 ^ 16) u16_bytes (number_at w16) (FitsPost w) (post_bytes w) (post_at w) number_16 (post w)

-- ---- all of the bytes

nothing_left : (x : List Post × List ℕ) (ps : List Post) → ended x ≡ Ok ps → (x.0 ≡ ps) × (x.1 ≡ [])
nothing_left (l, []) ps e = (same l ps e, refl)
nothing_left (l, b ∷ rest) ps e = absurd cc

whole_takes : (w : PriceWidth) (bytes : List ℕ) (ps : List Post) → AreBytes bytes → whole w bytes ≡ Ok ps → SpellsBy w bytes ps
whole_takes w bytes ps h e =
    let a = bound (posts_at w bytes) ended ps e in
    let took = (posts w).takes bytes a.0 h a.1 in
    let end = nothing_left a.0 ps a.2 in
    subst (λ (l : List Post). SpellsBy w bytes l) end.0 (record { fits = took.fits; is = took.parts ∙ ap (λ (r : List ℕ). spelling_by w a.0.0 ++ r) end.1 ∙ append-nil (spelling_by w a.0.0) })

whole_again : (w : PriceWidth) (ps : List Post) → FitsPosts w ps → whole w (spelling_by w ps) ≡ Ok ps
whole_again w ps h =
    let read : posts_at w (spelling_by w ps) ≡ Ok (ps, []) = ap (posts_at w) (sym (append-nil (spelling_by w ps))) ∙ (posts w).again ps [] h in
    rw read refl

offset_ok : (n : ℕ) (r : Result (List Post) ℕ) (ps : List Post) → by_offset n r ≡ Ok ps → r ≡ Ok ps
offset_ok n (Ok x) ps e = e
offset_ok n (Err d) ps e = absurd cc

-- what is read is spelled so
pub found : (w : PriceWidth) (bytes : List ℕ) (r : Result (Vec Post Global) CodecFault) → AreBytes bytes → IsRead r (reading w bytes) → IfOk r (λ v. SpellsBy w bytes v.items)
found w bytes (Ok v) h e = whole_takes w bytes v.items h (offset_ok (length bytes) (whole w bytes) v.items e)
found w bytes (Err d) h e = tt

-- what is spelled so is read
pub reads_spelling : (w : PriceWidth) (ps : List Post) → FitsPosts w ps → reading w (spelling_by w ps) ≡ Ok ps
reads_spelling w ps h = rw (whole_again w ps h) refl

-- no bytes spell two lists
pub one_list_by : (w : PriceWidth) (bytes : List ℕ) (ps qs : List Post) → SpellsBy w bytes ps → SpellsBy w bytes qs → ps ≡ qs
one_list_by w bytes ps qs a b =
    same ps qs (sym (reads_spelling w ps a.fits) ∙ ap (reading w) (sym a.is ∙ b.is) ∙ reads_spelling w qs b.fits)

pub one_list : (bytes : List ℕ) (ps qs : List Post) → SpellsBy Five bytes ps → SpellsBy Five bytes qs → ps ≡ qs
one_list = one_list_by Five
