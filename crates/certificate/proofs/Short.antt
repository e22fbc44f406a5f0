-- Prices of few digits, read in one pass over their text.
use Rattle.certificate.proofs.Common.{◌≡◌, ℕ, ℤ, pos, neg_ℤ, zero, suc, ◌+◌, ◌-◌, ◌*◌, ◌/◌, ◌%◌, ◌^◌, ◌<◌, ◌≤◌, List, [], ◌∷◌, ◌++◌, length, get_or, take, drop, Option, Some, refl, sym, ap, ◌∙◌, append_assoc, arith, FitsSigned, All, flat_map, w64, decimal, signed_decimal, decimal_digit, decimal_step, append-nil, take_all, All-nil, All-push, joined, Stop, Memory, Left, given, both_sides, slots_in, cuts_in, IsSlotsBefore, Misses}
use Rattle.std.proofs.lemmas.List.Concat.{flat_map-append}
use Rattle.certificate.proofs.Spelling.{cut_again}
use Rattle.certificate.proofs.Steps.{slots_exact, slots_lack}

-- ---- digits

pub one_digit : (b : ℕ) (rest : List ℕ) → 48 ≤ b → b ≤ 57 → b ∷ rest ≡ decimal (b - 48) ++ rest
one_digit b rest low high =
    let back : 48 + (b - 48) ≡ b = omega arith in
    ap (λ (n : ℕ). n ∷ rest) (sym back) ∙ ap (λ (l : List ℕ). l ++ rest) (sym (decimal_digit (b - 48) (omega arith)))

pub next_digit : (n b : ℕ) (rest : List ℕ) → 0 < n → n < 10 ^ 17 → 48 ≤ b → b ≤ 57 → decimal n ++ b ∷ rest ≡ decimal (n * 10 + (b - 48)) ++ rest
next_digit n b rest some small low high =
    let m : ℕ = n * 10 + (b - 48) in
    let front : m / 10 ≡ n = omega arith in
    let last : 48 + m % 10 ≡ b = omega arith in
    let is : decimal m ≡ decimal n ++ b ∷ [] = decimal_step m (omega arith) (omega arith) ∙ ap (λ (k : ℕ). decimal k ++ (48 + m % 10) ∷ []) front ∙ ap (λ (k : ℕ). decimal n ++ k ∷ []) last in
    sym (append_assoc (decimal n) (b ∷ []) rest) ∙ ap (λ (l : List ℕ). l ++ rest) (sym is)

-- the spelling of a price below 0
pub below_zero : (n : ℕ) → 0 < n → 45 ∷ decimal n ≡ signed_decimal (neg_ℤ (pos n))
below_zero zero some = absurd (omega arith)
below_zero (suc n) some = refl

-- ---- prices with commas between them

-- values, each with a comma behind it
abbrev pub each_behind : {A : Type 0} → (A → List ℕ) → List A → List ℕ
each_behind s list = flat_map (λ next. s next ++ 44 ∷ []) list

joined_more : {A : Type 0} (s : A → List ℕ) (x : A) (xs : List A) (z : A) → s x ++ 44 ∷ joined s (xs ++ z ∷ []) ≡ joined s (x ∷ (xs ++ z ∷ []))
joined_more s x [] z = refl
joined_more s x (y ∷ ys) z = refl

pub last_joined : {A : Type 0} (s : A → List ℕ) (list : List A) (z : A) (tail : List ℕ) → each_behind s list ++ (s z ++ tail) ≡ joined s (list ++ z ∷ []) ++ tail
last_joined s [] z tail = ap (λ (l : List ℕ). l ++ tail) (sym (append-nil (s z)))
last_joined s (x ∷ xs) z tail =
    append_assoc (s x ++ 44 ∷ []) (each_behind s xs) (s z ++ tail)
    ∙ append_assoc (s x) (44 ∷ []) (each_behind s xs ++ (s z ++ tail))
    ∙ ap (λ (l : List ℕ). s x ++ 44 ∷ l) (last_joined s xs z tail)
    ∙ sym (append_assoc (s x) (44 ∷ joined s (xs ++ z ∷ [])) tail)
    ∙ ap (λ (l : List ℕ). l ++ tail) (joined_more s x xs z)

-- what a loop keeps: the prices so far, each with a comma behind it, are the text in front
pub record AreBefore (text : List ℕ) (prices : List ℤ) (rest : List ℕ) : Type 0 where
  pub is : text ≡ each_behind signed_decimal prices ++ rest
  pub fit : All (FitsSigned w64) prices

pub all_before : (text : List ℕ) (prices : List ℤ) (rest : List ℕ) (z : ℤ) (tail : List ℕ) → rest ≡ signed_decimal z ++ 32 ∷ tail → FitsSigned w64 z → AreBefore text prices rest → IsSlotsBefore text (prices ++ z ∷ []) tail
all_before text prices rest z tail e fits h = record {
  is = h.is ∙ ap (λ (l : List ℕ). each_behind signed_decimal prices ++ l) e ∙ last_joined signed_decimal prices z (32 ∷ tail);
  fit = All-push (FitsSigned w64) prices z h.fit fits;
}

-- ---- the front of a slice

pub front_digit : (text rest : List ℕ) → 1 ≤ length text → rest ≡ take (length text - 1) (drop 1 text) → 48 ≤ get_or text 0 0 → get_or text 0 0 ≤ 57 → text ≡ decimal (get_or text 0 0 - 48) ++ rest
front_digit [] rest some is low high = absurd (omega arith)
front_digit (b ∷ bs) rest some is low high = one_digit b bs low high ∙ ap (λ (l : List ℕ). decimal (b - 48) ++ l) (sym (is ∙ take_all (length (b ∷ bs) - 1) bs (omega arith)))

pub front_next : (text front rest : List ℕ) (n : ℕ) → 1 ≤ length front → rest ≡ take (length front - 1) (drop 1 front) → 48 ≤ get_or front 0 0 → get_or front 0 0 ≤ 57 → 0 < n → n < 10 ^ 17 → text ≡ decimal n ++ front → text ≡ decimal (n * 10 + (get_or front 0 0 - 48)) ++ rest
front_next text [] rest n some is low high above small e = absurd (omega arith)
front_next text (b ∷ bs) rest n some is low high above small e =
    e ∙ next_digit n b bs above small low high ∙ ap (λ (l : List ℕ). decimal (n * 10 + (b - 48)) ++ l) (sym (is ∙ take_all (length (b ∷ bs) - 1) bs (omega arith)))

pub front_byte : (text : List ℕ) (b : ℕ) → 1 ≤ length text → get_or text 0 0 ≡ b → text ≡ b ∷ take (length text - 1) (drop 1 text)
front_byte [] b some e = absurd (omega arith)
front_byte (x ∷ xs) b some e = ap (λ (n : ℕ). n ∷ xs) e ∙ ap (λ (l : List ℕ). b ∷ l) (sym (take_all (length (x ∷ xs) - 1) xs (omega arith)))

-- ---- prices of slots and of cuts

-- the prices are those of the text before the first blank
pub slots_before : (text : List ℕ) (prices : List ℤ) (rest : List ℕ) → IsSlotsBefore text prices rest → both_sides 32 slots_in cuts_in text ≡ given (cuts_in rest) (λ b. Some (prices, b))
slots_before text prices rest h =
    rw (h.is, cut_again 32 (joined signed_decimal prices) rest (slots_lack 32 (omega arith) prices h.fit), slots_exact.again prices h.fit) refl

pub cuts_missed : (text : List ℕ) (prices : List ℤ) (rest : List ℕ) (left : ℕ) (e : Stop) → IsSlotsBefore text prices rest → Misses left e (cuts_in rest) → Misses left e (both_sides 32 slots_in cuts_in text)
cuts_missed text prices rest left Memory h missed = tt
cuts_missed text prices rest left (Left n) h missed = (missed.0, slots_before text prices rest h ∙ ap (λ (o : Option (List ℕ)). given o (λ b. Some (prices, b))) missed.1)

pub cuts_found : (text : List ℕ) (prices slots : List ℤ) (rest cuts : List ℕ) → IsSlotsBefore text prices rest → slots ≡ prices → cuts_in rest ≡ Some cuts → both_sides 32 slots_in cuts_in text ≡ Some (slots, cuts)
cuts_found text prices slots rest cuts h same found = slots_before text prices rest h ∙ rw (found, same) refl
