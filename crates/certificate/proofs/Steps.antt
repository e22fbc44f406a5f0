-- Proof lines are read exactly where they are spelled so.
use Rattle.certificate.proofs.Common.{◌≡◌, ℕ, ℤ, pos, negsuc, suc, ◌-◌, ◌^◌, ◌<◌, ◌≤◌, true, false, eqb, List, [], ◌∷◌, ◌++◌, length, Option, Some, None, option_map, refl, sym, ap, subst, ◌∙◌, arith, codes, FitsSigned, length-append, flat_map, decimal_nonempty, All, nat_lt, w64, decimal, signed_decimal, ltb-true, lt-ltb, ne_eqb, All-nil, All-cons, All-head, recursion_from_All, Break, Split, Priced, Settled, Line, joined, joined_or_dash, breaks_text, proof_line, HasSlot, FitsBreak, FitsLine, IsLine, Words, given, kept, behind, behind_or, led_by, led_or, both_sides, number_in, breaks_in, minus, slot_price_in, slots_in, cuts_in, to_split, split_in, to_priced, priced_in, settled_in, any_line_in, has_slot, proof_line_in, proof_count_in, parts_in}
use Rattle.certificate.specs.declared.proof_lines.Line.{Line as ProofLine}
use Rattle.certificate.proofs.Spelling.{Exact, Lacks, some_of, same_some, given_some, mapped_some, decimal_lacks, kept_exact, led_exact, sides_exact, behind_takes, behind_again}
use Rattle.certificate.proofs.Spelled.{number_below, breaks_exact, breaks_lack}
use Rattle.certificate.proofs.Feeds.{plain, joins, text_before, word_before}
use Rattle.certificate.proofs.LineReading.{lacks_line}
use Rattle.certificate.proofs.Joined.{parts_exact, parts_or_dash_exact, joined_lacks, joined_or_dash_lacks}

-- ---- one kind of text or another

-- the value stands behind the beginning, or is of the other kind
pub data Led {A : Type 0} (front : List ℕ) (read : Words A) (other : Option A) (text : List ℕ) (a : A) : Type 0 where
  Behind : (rest : List ℕ) → text ≡ front ++ rest → read rest ≡ Some a → Led front read other text a
  Other : other ≡ Some a → Led front read other text a

led_cases : {A : Type 0} (front : List ℕ) (read : Words A) (other : Option A) (text : List ℕ) (o : Option (List ℕ)) → behind front text ≡ o → (a : A) → behind_or o read other ≡ Some a → Led front read other text a
led_cases front read other text (Some rest) h a e = Behind rest (behind_takes front text rest h) e
led_cases front read other text None h a e = Other e

-- ---- numbers and `-`

pub number_no_dash : (n : ℕ) → n < 2 ^ 64 → decimal n ≡ codes "-" → ⊥
number_no_dash n lt e =
    let h = All-head (λ b. eqb b 45 ≡ false) 45 [] (subst (λ (l : List ℕ). Lacks 45 l) e (decimal_lacks 45 n (omega arith) lt)) in
    absurd (let never : true ≡ false = h in cc)

-- a number has no sign
no_sign : (n : ℕ) → n < 2 ^ 64 → (o : Option (List ℕ)) → behind (codes "-") (decimal n) ≡ o → o ≡ None
no_sign n lt None e = refl
no_sign n lt (Some rest) e =
    let is : decimal n ≡ 45 ∷ rest = behind_takes (codes "-") (decimal n) rest e in
    let h = All-head (λ b. eqb b 45 ≡ false) 45 rest (subst (λ (l : List ℕ). Lacks 45 l) is (decimal_lacks 45 n (omega arith) lt)) in
    absurd (let never : true ≡ false = h in cc)

-- ---- prices of slots

size_exact : Exact (λ n. (n ≤ 2 ^ 63) × (nat_lt 0 n ≡ true)) decimal (λ size. kept (λ n. nat_lt 0 n) (number_in (2 ^ 63) size))
size_exact = kept_exact (λ n. nat_lt 0 n) (number_below (2 ^ 63) (omega arith))

slot_takes : (text : List ℕ) (z : ℤ) → slot_price_in text ≡ Some z → (text ≡ signed_decimal z) × FitsSigned w64 z
unfolding slot_price_in
slot_takes text z e = elim (led_cases (codes "-") (λ size. option_map minus (kept (λ n. nat_lt 0 n) (number_in (2 ^ 63) size))) (option_map pos (number_in (2 ^ 63 - 1) text)) text (behind (codes "-") text) refl z e) [
  | Behind rest is read ↦
      let m = mapped_some minus (kept (λ n. nat_lt 0 n) (number_in (2 ^ 63) rest)) z read in
      let n : ℕ = m.0 in
      let t = size_exact.takes rest n m.1 in
      let some : 0 < n = ltb-true 0 n t.1.1 in
      let back : suc (n - 1) ≡ n = omega arith in
      let small : n - 1 < 2 ^ 63 = let le = t.1.0 in omega arith in
      let whole : (text ≡ signed_decimal (minus n)) × FitsSigned w64 (minus n) = (is ∙ ap (λ (l : List ℕ). 45 ∷ l) (t.0 ∙ ap decimal (sym back)), record { sfits = small }) in
      subst (λ (y : ℤ). (text ≡ signed_decimal y) × FitsSigned w64 y) m.2 whole
  | Other read ↦
      let m = mapped_some pos (number_in (2 ^ 63 - 1) text) z read in
      let n : ℕ = m.0 in
      let t = (number_below (2 ^ 63 - 1) (omega arith)).takes text n m.1 in
      let small : n < 2 ^ 63 = let le = t.1 in omega arith in
      let whole : (text ≡ signed_decimal (pos n)) × FitsSigned w64 (pos n) = (t.0, record { sfits = small }) in
      subst (λ (y : ℤ). (text ≡ signed_decimal y) × FitsSigned w64 y) m.2 whole
]

slot_again : (z : ℤ) → FitsSigned w64 z → slot_price_in (signed_decimal z) ≡ Some z
unfolding slot_price_in
slot_again (pos n) h =
    let small : n < 2 ^ 63 = h.sfits in
    ap (λ (o : Option (List ℕ)). behind_or o (λ size. option_map minus (kept (λ n. nat_lt 0 n) (number_in (2 ^ 63) size))) (option_map pos (number_in (2 ^ 63 - 1) (decimal n)))) (no_sign n (omega arith) (behind (codes "-") (decimal n)) refl)
    ∙ ap (option_map pos) ((number_below (2 ^ 63 - 1) (omega arith)).again n (omega arith))
slot_again (negsuc n) h =
    let small : n < 2 ^ 63 = h.sfits in
    ap (λ (o : Option (List ℕ)). behind_or o (λ size. option_map minus (kept (λ n. nat_lt 0 n) (number_in (2 ^ 63) size))) (option_map pos (number_in (2 ^ 63 - 1) (45 ∷ decimal (suc n))))) (behind_again (codes "-") (decimal (suc n)))
    ∙ ap (option_map minus) (size_exact.again (suc n) (omega arith, lt-ltb 0 (suc n) (omega arith)))
    ∙ (let back : suc n - 1 ≡ n = omega arith in ap (λ (k : ℕ). some_of (negsuc k)) back)

pub slot_exact : Exact (FitsSigned w64) signed_decimal slot_price_in
slot_exact = record { takes = slot_takes; again = slot_again }

slot_lacks : (by : ℕ) → by < 45 → (z : ℤ) → FitsSigned w64 z → Lacks by (signed_decimal z)
slot_lacks by small (pos n) h = let lt : n < 2 ^ 63 = h.sfits in decimal_lacks by n (omega arith) (omega arith)
slot_lacks by small (negsuc n) h = let lt : n < 2 ^ 63 = h.sfits in All-cons (λ b. eqb b by ≡ false) 45 (decimal (suc n)) (ne_eqb 45 by (λ e. omega arith)) (decimal_lacks by (suc n) (omega arith) (omega arith))

abbrev FitsSlots : List ℤ → Type 0
FitsSlots prices = All (FitsSigned w64) prices

-- the text of some prices is some text
some_slots : Exact (λ prices. FitsSlots prices × (0 < length prices)) (joined signed_decimal) (parts_in slot_price_in)
some_slots = parts_exact slot_exact (slot_lacks 44 (omega arith))

slots_takes : (text : List ℕ) (prices : List ℤ) → slots_in text ≡ Some prices → (text ≡ joined signed_decimal prices) × FitsSlots prices
unfolding slots_in
slots_takes [] prices e =
    let nothing : List ℤ = [] in
    subst (λ (y : List ℤ). ([] ≡ joined signed_decimal y) × FitsSlots y) (same_some nothing prices e) (refl, All-nil (FitsSigned w64))
slots_takes (b ∷ text) prices e = let t = some_slots.takes (b ∷ text) prices e in (t.0, t.1.0)

slots_by : (text : List ℕ) (prices : List ℤ) → 0 < length text → parts_in slot_price_in text ≡ Some prices → slots_in text ≡ Some prices
unfolding slots_in
slots_by [] prices some e = absurd (omega arith)
slots_by (b ∷ text) prices some e = e

some_digits : (z : ℤ) → FitsSigned w64 z → 0 < length (signed_decimal z)
some_digits (pos n) h = let small : n < 2 ^ 63 = h.sfits in decimal_nonempty n (omega arith)
some_digits (negsuc n) h = omega arith

some_text : (z : ℤ) (zs : List ℤ) → FitsSigned w64 z → 0 < length (joined signed_decimal (z ∷ zs))
some_text z zs h =
    let first = some_digits z h in
    let len = length-append (signed_decimal z) (flat_map (λ next. 44 ∷ signed_decimal next) zs) in
    omega arith

slots_again : (prices : List ℤ) → FitsSlots prices → slots_in (joined signed_decimal prices) ≡ Some prices
unfolding slots_in
slots_again [] h = refl
slots_again (z ∷ zs) h = slots_by (joined signed_decimal (z ∷ zs)) (z ∷ zs) (some_text z zs (All-head (FitsSigned w64) z zs h)) (some_slots.again (z ∷ zs) (h, omega arith))

pub slots_exact : Exact FitsSlots (joined signed_decimal) slots_in
slots_exact = record { takes = slots_takes; again = slots_again }

pub slots_lack : (by : ℕ) → by < 44 → (prices : List ℤ) → FitsSlots prices → Lacks by (joined signed_decimal prices)
slots_lack by small prices h = joined_lacks (FitsSigned w64) signed_decimal by small (slot_lacks by (omega arith)) prices (recursion_from_All (FitsSigned w64) prices h)

-- ---- prices of cuts

abbrev FitsCut : ℕ → Type 0
FitsCut price = price < 2 ^ 64

cut_exact : Exact FitsCut decimal (number_in (2 ^ 64 - 1))
cut_exact = let one = number_below (2 ^ 64 - 1) (omega arith) in record {
  takes = λ text n e. let t = one.takes text n e in (t.0, let le = t.1 in omega arith);
  again = λ n h. one.again n (omega arith);
}

cuts_exact : Exact (All FitsCut) (joined_or_dash decimal) cuts_in
unfolding cuts_in
cuts_exact = parts_or_dash_exact cut_exact (λ n h. decimal_lacks 44 n (omega arith) h) number_no_dash

cuts_lack : (by : ℕ) → by < 44 → (prices : List ℕ) → All FitsCut prices → Lacks by (joined_or_dash decimal prices)
cuts_lack by small prices h = joined_or_dash_lacks FitsCut decimal by small (λ n lt. decimal_lacks by n (omega arith) lt) prices (recursion_from_All FitsCut prices h)

-- ---- the three kinds of proof lines

abbrev SplitWords : Type 0
SplitWords = ℕ × (ℕ × (ℕ × (List Break × ℕ)))

abbrev FitsSplit : SplitWords → Type 0
FitsSplit x = (x.0 ≤ 4294967295) × ((x.1.0 ≤ 65535) × ((x.1.1.0 ≤ 255) × (All FitsBreak x.1.1.1.0 × (x.1.1.1.1 ≤ 65535))))

abbrev split_text : SplitWords → List ℕ
split_text x = decimal x.0 ++ 32 ∷ (decimal x.1.0 ++ 32 ∷ (decimal x.1.1.0 ++ 32 ∷ (breaks_text x.1.1.1.0 ++ 32 ∷ decimal x.1.1.1.1)))

abbrev split_words_in : Words SplitWords
split_words_in text = both_sides 32 (number_in 4294967295) (both_sides 32 (number_in 65535) (both_sides 32 (number_in 255) (both_sides 32 breaks_in (number_in 65535)))) text

split_exact : Exact FitsSplit split_text split_words_in
split_exact =
    sides_exact 32 (number_below 4294967295 (omega arith)) (λ n h. decimal_lacks 32 n (omega arith) (omega arith))
    (sides_exact 32 (number_below 65535 (omega arith)) (λ n h. decimal_lacks 32 n (omega arith) (omega arith))
    (sides_exact 32 (number_below 255 (omega arith)) (λ n h. decimal_lacks 32 n (omega arith) (omega arith))
    (sides_exact 32 breaks_exact (breaks_lack 32 (omega arith)) (number_below 65535 (omega arith)))))

abbrev PricedWords : Type 0
PricedWords = ℕ × (ℕ × (List ℤ × List ℕ))

abbrev FitsPriced : PricedWords → Type 0
FitsPriced x = (x.0 ≤ 4294967295) × ((x.1.0 ≤ 65535) × (FitsSlots x.1.1.0 × All FitsCut x.1.1.1))

abbrev priced_text : PricedWords → List ℕ
priced_text x = decimal x.0 ++ 32 ∷ (decimal x.1.0 ++ 32 ∷ (joined signed_decimal x.1.1.0 ++ 32 ∷ joined_or_dash decimal x.1.1.1))

abbrev priced_words_in : Words PricedWords
priced_words_in text = both_sides 32 (number_in 4294967295) (both_sides 32 (number_in 65535) (both_sides 32 slots_in cuts_in)) text

priced_exact : Exact FitsPriced priced_text priced_words_in
priced_exact =
    sides_exact 32 (number_below 4294967295 (omega arith)) (λ n h. decimal_lacks 32 n (omega arith) (omega arith))
    (sides_exact 32 (number_below 65535 (omega arith)) (λ n h. decimal_lacks 32 n (omega arith) (omega arith))
    (sides_exact 32 slots_exact (slots_lack 32 (omega arith)) cuts_exact))

split_step : (x : SplitWords) → FitsSplit x → FitsLine (to_split x)
split_step x h = (omega (arith, h.0), (omega (arith, h.1.0), omega (arith, h.1.1.0), h.1.1.1.0), omega (arith, h.1.1.1.1))

priced_step : (x : PricedWords) → FitsPriced x → FitsLine (to_priced x)
priced_step x h = (omega (arith, h.0), (omega (arith, h.1.0), h.1.1.0, h.1.1.1))

split_takes : (line : Line) (rest : List ℕ) (l : ProofLine) → line ≡ codes "split " ++ rest → split_in rest ≡ Some l → (line ≡ proof_line l) × FitsLine l
unfolding split_in
split_takes line rest l is e =
    let m = mapped_some to_split (split_words_in rest) l e in
    let t = split_exact.takes rest m.0 m.1 in
    let whole : (line ≡ proof_line (to_split m.0)) × FitsLine (to_split m.0) = (is ∙ ap (λ (r : List ℕ). codes "split " ++ r) t.0, split_step m.0 t.1) in
    subst (λ (y : ProofLine). (line ≡ proof_line y) × FitsLine y) m.2 whole

priced_takes : (line : Line) (rest : List ℕ) (l : ProofLine) → line ≡ codes "priced " ++ rest → priced_in rest ≡ Some l → (line ≡ proof_line l) × FitsLine l
unfolding priced_in
priced_takes line rest l is e =
    let m = mapped_some to_priced (priced_words_in rest) l e in
    let t = priced_exact.takes rest m.0 m.1 in
    let whole : (line ≡ proof_line (to_priced m.0)) × FitsLine (to_priced m.0) = (is ∙ ap (λ (r : List ℕ). codes "priced " ++ r) t.0, priced_step m.0 t.1) in
    subst (λ (y : ProofLine). (line ≡ proof_line y) × FitsLine y) m.2 whole

abbrev to_settled : ℕ → ProofLine
to_settled n = Settled n

settled_takes : (line : Line) (l : ProofLine) → led_by (codes "settled ") settled_in line ≡ Some l → (line ≡ proof_line l) × FitsLine l
unfolding settled_in
settled_takes line l e =
    let g = given_some (behind (codes "settled ") line) settled_in l e in
    let m = mapped_some to_settled (number_in 4294967295 g.0) l g.2 in
    let n : ℕ = m.0 in
    let t = (number_below 4294967295 (omega arith)).takes g.0 n m.1 in
    let small : n < 2 ^ 32 = let le = t.1 in omega arith in
    let whole : (line ≡ proof_line (to_settled n)) × FitsLine (to_settled n) = (behind_takes (codes "settled ") line g.0 g.1 ∙ ap (λ (r : List ℕ). codes "settled " ++ r) t.0, small) in
    subst (λ (y : ProofLine). (line ≡ proof_line y) × FitsLine y) m.2 whole

further_takes : (line : Line) (l : ProofLine) → led_or (codes "priced ") priced_in (led_by (codes "settled ") settled_in) line ≡ Some l → (line ≡ proof_line l) × FitsLine l
further_takes line l e = elim (led_cases (codes "priced ") priced_in (led_by (codes "settled ") settled_in line) line (behind (codes "priced ") line) refl l e) [
  | Behind rest is read ↦ priced_takes line rest l is read
  | Other read ↦ settled_takes line l read
]

any_takes : (line : Line) (l : ProofLine) → any_line_in line ≡ Some l → (line ≡ proof_line l) × FitsLine l
unfolding any_line_in
any_takes line l e = elim (led_cases (codes "split ") split_in (led_or (codes "priced ") priced_in (led_by (codes "settled ") settled_in) line) line (behind (codes "split ") line) refl l e) [
  | Behind rest is read ↦ split_takes line rest l is read
  | Other read ↦ further_takes line l read
]

any_again : (l : ProofLine) → FitsLine l → any_line_in (proof_line l) ≡ Some l
unfolding any_line_in split_in priced_in settled_in
any_again (Split node class m) h =
    let x : SplitWords = (node, (class.shift, (class.day, (class.prefix, m)))) in
    let fits : FitsSplit x = (omega (arith, h.0), (omega (arith, h.1.0), (omega (arith, h.1.1), (h.1.2, omega (arith, h.2))))) in
    ap (λ (o : Option (List ℕ)). behind_or o split_in (led_or (codes "priced ") priced_in (led_by (codes "settled ") settled_in) (codes "split " ++ split_text x))) (behind_again (codes "split ") (split_text x))
    ∙ ap (option_map to_split) (split_exact.again x fits)
any_again (Priced node prices) h =
    let x : PricedWords = (node, (prices.q, (prices.slots, prices.cuts))) in
    let fits : FitsPriced x = (omega (arith, h.0), (omega (arith, h.1.0), (h.1.1, h.1.2))) in
    ap (λ (o : Option (List ℕ)). behind_or o priced_in (led_by (codes "settled ") settled_in (codes "priced " ++ priced_text x))) (behind_again (codes "priced ") (priced_text x))
    ∙ ap (option_map to_priced) (priced_exact.again x fits)
any_again (Settled node) h =
    ap (λ (o : Option (List ℕ)). given o settled_in) (behind_again (codes "settled ") (decimal node))
    ∙ ap (option_map to_settled) ((number_below 4294967295 (omega arith)).again node (let lt : node < 2 ^ 32 = h in omega arith))

pub any_exact : Exact FitsLine proof_line any_line_in
any_exact = record { takes = any_takes; again = any_again }

pub any_is_line : (l : ProofLine) → FitsLine l → IsLine (proof_line l)
any_is_line (Split node class m) h = lacks_line (proof_line (Split node class m))
    (joins (codes "split ") (decimal node ++ 32 ∷ (decimal class.shift ++ 32 ∷ (decimal class.day ++ 32 ∷ (breaks_text class.prefix ++ 32 ∷ decimal m)))) (plain (codes "split ") refl)
    (word_before node (decimal class.shift ++ 32 ∷ (decimal class.day ++ 32 ∷ (breaks_text class.prefix ++ 32 ∷ decimal m))) (omega (arith, h.0))
    (word_before class.shift (decimal class.day ++ 32 ∷ (breaks_text class.prefix ++ 32 ∷ decimal m)) (omega (arith, h.1.0))
    (word_before class.day (breaks_text class.prefix ++ 32 ∷ decimal m) (omega (arith, h.1.1))
    (text_before (breaks_text class.prefix) (decimal m) (breaks_lack 10 (omega arith) class.prefix h.1.2)
    (decimal_lacks 10 m (omega arith) (omega (arith, h.2))))))))
any_is_line (Priced node prices) h = lacks_line (proof_line (Priced node prices))
    (joins (codes "priced ") (decimal node ++ 32 ∷ (decimal prices.q ++ 32 ∷ (joined signed_decimal prices.slots ++ 32 ∷ joined_or_dash decimal prices.cuts))) (plain (codes "priced ") refl)
    (word_before node (decimal prices.q ++ 32 ∷ (joined signed_decimal prices.slots ++ 32 ∷ joined_or_dash decimal prices.cuts)) (omega (arith, h.0))
    (word_before prices.q (joined signed_decimal prices.slots ++ 32 ∷ joined_or_dash decimal prices.cuts) (omega (arith, h.1.0))
    (text_before (joined signed_decimal prices.slots) (joined_or_dash decimal prices.cuts) (slots_lack 10 (omega arith) prices.slots h.1.1)
    (cuts_lack 10 (omega arith) prices.cuts h.1.2)))))
any_is_line (Settled node) h = lacks_line (proof_line (Settled node)) (joins (codes "settled ") (decimal node) (plain (codes "settled ") refl) (decimal_lacks 10 node (omega arith) (let lt : node < 2 ^ 32 = h in omega arith)))

-- a proof line that has a text of its own in a report
abbrev pub IsStep : ProofLine → Type 0
IsStep l = FitsLine l × HasSlot l

slot_shown : (l : ProofLine) → has_slot l ≡ true → HasSlot l
slot_shown (Split node class m) h = tt
slot_shown (Priced node prices) h = ltb-true 0 (length prices.slots) h
slot_shown (Settled node) h = tt

shows_slot : (l : ProofLine) → HasSlot l → has_slot l ≡ true
shows_slot (Split node class m) h = refl
shows_slot (Priced node prices) h = lt-ltb 0 (length prices.slots) h
shows_slot (Settled node) h = refl

pub step_exact : Exact IsStep proof_line proof_line_in
unfolding proof_line_in
step_exact = let one = kept_exact has_slot any_exact in record {
  takes = λ text l e. let t = one.takes text l e in (t.0, (t.1.0, slot_shown l t.1.1));
  again = λ l h. one.again l (h.0, shows_slot l h.1);
}

pub step_is_line : (l : ProofLine) → IsStep l → IsLine (proof_line l)
step_is_line l h = any_is_line l h.0

-- ---- the number of proof lines

pub proof_count_exact : Exact (λ n. n ≤ 4294967295) (λ n. codes "proof " ++ decimal n) proof_count_in
unfolding proof_count_in
proof_count_exact = led_exact (codes "proof ") (number_below 4294967295 (omega arith))

pub proof_count_is_line : (n : ℕ) → n ≤ 4294967295 → IsLine (codes "proof " ++ decimal n)
proof_count_is_line n h = lacks_line (codes "proof " ++ decimal n) (joins (codes "proof ") (decimal n) (plain (codes "proof ") refl) (decimal_lacks 10 n (omega arith) (omega arith)))
