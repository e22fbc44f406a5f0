-- What is read is spelled so, and what is spelled so is read.
use Rattle.post_codec.proofs.Common.{◌≡◌, ℕ, zero, suc, ◌+◌, ◌^◌, ◌<◌, ◌≤◌, Bool, true, false, cond, ltb, List, [], ◌∷◌, ◌++◌, length, get_or, take, drop, Result, Ok, Err, refl, sym, ap, subst, ◌∙◌, append_assoc, arith, inl, inr, All, flat_map, AllByRecursion, w16, w32, w64, from_le_bytes, cases_lt, ltb-false, le-ltb, take_at, drop_at, take-append-drop, get_or-drop, get_or-take, get_or_past, flat_map-cons, All-from_recursion, recursion_from_All, PriceWidth, Five, Eight, u16_bytes, u32_bytes, u64_bytes, bytes_in, room, price_bytes, FitsCut, Reader, ◌>>=◌, ◌then◌, made, times, counted, byte_at, sized_at, number_at, price_at}
use Rattle.std.specs.Prelude.{◌⊎◌}
use Rattle.std.proofs.lemmas.List.{length-append, length-take}
use Rattle.std.proofs.lemmas.Nat.{le_bytes_2, le_bytes_4, le_bytes_8, from_le_bytes-to_le_bytes_2, from_le_bytes-to_le_bytes_4, from_le_bytes-to_le_bytes_8}

abbrev pub AreBytes : List ℕ → Type 0
AreBytes bytes = (i : ℕ) → get_or bytes i 0 < 256

bytes_drop : (n : ℕ) (bytes : List ℕ) → AreBytes bytes → AreBytes (drop n bytes)
bytes_drop n bytes h i = rw get_or-drop (h (n + i))

bytes_take : (n : ℕ) (bytes : List ℕ) → AreBytes bytes → AreBytes (take n bytes)
bytes_take n bytes h i =
    elim (cases_lt i n) [
      | inl lt ↦ rw (get_or-take n bytes i 0 lt) (h i)
      | inr le ↦ rw (get_or_past (take n bytes) i 0 (omega (arith, length-take n bytes))) (omega arith)
    ]

bytes_rest : (b : ℕ) (bytes : List ℕ) → AreBytes (b ∷ bytes) → AreBytes bytes
bytes_rest b bytes h i = h (suc i)

-- the value of a step that did not fail
pub bound : {A B : Type 0} (r : Result A ℕ) (f : A → Result B ℕ) (y : B) → (r >>= f) ≡ Ok y → (x : A) × (r ≡ Ok x) × (f x ≡ Ok y)
bound (Ok x) f y e = (x, refl, e)
bound (Err d) f y e = absurd cc

abbrev right : {A : Type 0} → A → Result A ℕ
right x = Ok x

pub same : {A : Type 0} (x y : A) → right x ≡ right y → x ≡ y
same x y e = cc

guarded : {A : Type 0} (b : Bool) (d : ℕ) (x y : A) → cond b (Err d) (Ok x) ≡ Ok y → (b ≡ false) × (x ≡ y)
guarded true d x y e = absurd cc
guarded false d x y e = (refl, cc)

-- A value took its spelling from the front of the bytes, and fits.
pub record Took {A : Type 0} (Fits : A → Type 0) (spell : A → List ℕ) (bytes : List ℕ) (x : A × List ℕ) : Type 0 where
  pub parts : bytes ≡ spell x.0 ++ x.1
  pub rest : AreBytes x.1
  pub fits : Fits x.0

-- A reader and a spelling are each other's inverse.
pub record Inverse {A : Type 0} (Fits : A → Type 0) (spell : A → List ℕ) (read : Reader A) : Type 0 where
  pub takes : (bytes : List ℕ) (x : A × List ℕ) → AreBytes bytes → read bytes ≡ Ok x → Took Fits spell bytes x
  pub again : (a : A) (rest : List ℕ) → Fits a → read (spell a ++ rest) ≡ Ok (a, rest)

-- ---- a byte

byte_takes : (bytes : List ℕ) (x : ℕ × List ℕ) → AreBytes bytes → byte_at bytes ≡ Ok x → Took (λ n. n < 2 ^ 8) (λ n. n ∷ []) bytes x
byte_takes [] x h e = absurd cc
byte_takes (b ∷ rest) x h e = subst (λ (y : ℕ × List ℕ). Took (λ n. n < 2 ^ 8) (λ n. n ∷ []) (b ∷ rest) y) (same (b, rest) x e) (record { parts = refl; rest = bytes_rest b rest h; fits = h 0 })

pub byte : Inverse (λ n. n < 2 ^ 8) (λ n. n ∷ []) byte_at
byte = record { takes = byte_takes; again = λ a rest fits. refl }

-- ---- a number

-- so many bytes are the spelling of a number below a limit
pub record IsWide (size limit : ℕ) (to : ℕ → List ℕ) (from : List ℕ → ℕ) : Type 0 where
  pub len : (n : ℕ) → length (to n) ≡ size
  pub back : (bytes : List ℕ) → length bytes ≡ size → AreBytes bytes → to (from bytes) ≡ bytes
  pub again : (n : ℕ) → n < limit → from (to n) ≡ n
  pub below : (bytes : List ℕ) → length bytes ≡ size → AreBytes bytes → from bytes < limit

number_takes : (size limit : ℕ) (to : ℕ → List ℕ) (from : List ℕ → ℕ) → IsWide size limit to from → (bytes : List ℕ) (x : ℕ × List ℕ) → AreBytes bytes → sized_at size from bytes ≡ Ok x → Took (λ n. n < limit) to bytes x
number_takes size limit to from wide bytes x h e =
    let front : List ℕ = take size bytes in
    let made : ℕ × List ℕ = (from (take size bytes), drop size bytes) in
    let g = guarded (ltb (length bytes) size) (length bytes) made x e in
    let long : size ≤ length bytes = ltb-false _ _ g.0 in
    let all : length (take size bytes) ≡ size = omega (arith, length-take size bytes) in
    let is : to (from (take size bytes)) ≡ take size bytes = wide.back (take size bytes) all (bytes_take size bytes h) in
    let took : Took (λ n. n < limit) to bytes made = record { parts = rw is (sym (take-append-drop size bytes)); rest = bytes_drop size bytes h; fits = wide.below (take size bytes) all (bytes_take size bytes h) } in
    subst (λ (y : ℕ × List ℕ). Took (λ n. n < limit) to bytes y) g.1 took

number_again : (size limit : ℕ) (to : ℕ → List ℕ) (from : List ℕ → ℕ) → IsWide size limit to from → (n : ℕ) (rest : List ℕ) → n < limit → sized_at size from (to n ++ rest) ≡ Ok (n, rest)
number_again size limit to from wide n rest lt =
    let len = wide.len n in
    let long : ltb (length (to n ++ rest)) size ≡ false = le-ltb _ _ (omega (arith, length-append (to n) rest)) in
    rw (long, take_at (to n) rest size len, drop_at (to n) rest size len, wide.again n lt) refl

number : (size limit : ℕ) (to : ℕ → List ℕ) (from : List ℕ → ℕ) → IsWide size limit to from → Inverse (λ n. n < limit) to (sized_at size from)
number size limit to from wide = record { takes = number_takes size limit to from wide; again = number_again size limit to from wide }

pub number_16 : Inverse (λ n. n < 2 ^ 16) u16_bytes (number_at w16)
unfolding u16_bytes
number_16 = number 2 (2 ^ 16) u16_bytes (from_le_bytes w16) (record { len = λ n. refl; back = λ bytes len h. le_bytes_2 bytes _ len h refl; again = λ n lt. from_le_bytes-to_le_bytes_2 n lt; below = λ bytes len h. omega (arith, h 0, h 1) })

pub number_32 : Inverse (λ n. n < 2 ^ 32) u32_bytes (number_at w32)
unfolding u32_bytes
number_32 = number 4 (2 ^ 32) u32_bytes (from_le_bytes w32) (record { len = λ n. refl; back = λ bytes len h. le_bytes_4 bytes _ len h refl; again = λ n lt. from_le_bytes-to_le_bytes_4 n lt; below = λ bytes len h. omega (arith, h 0, h 1, h 2, h 3) })

wide_64 : IsWide 8 (2 ^ 64) u64_bytes (from_le_bytes w64)
unfolding u64_bytes
wide_64 = record { len = λ n. refl; back = λ bytes len h. le_bytes_8 bytes _ len h refl; again = λ n lt. from_le_bytes-to_le_bytes_8 n lt; below = λ bytes len h. omega (arith, h 0, h 1, h 2, h 3, h 4, h 5, h 6, h 7) }

pub number_64 : Inverse (λ n. n < 2 ^ 64) u64_bytes (number_at w64)
number_64 = number 8 (2 ^ 64) u64_bytes (from_le_bytes w64) wide_64

-- ---- a price's number

-- five bytes and three of 0 behind them
bytes_more : (a b c d e : ℕ) → AreBytes (a ∷ b ∷ c ∷ d ∷ e ∷ []) → AreBytes (a ∷ b ∷ c ∷ d ∷ e ∷ 0 ∷ 0 ∷ 0 ∷ [])
bytes_more a b c d e h zero = h 0
bytes_more a b c d e h (suc zero) = h 1
bytes_more a b c d e h (suc (suc zero)) = h 2
bytes_more a b c d e h (suc (suc (suc zero))) = h 3
bytes_more a b c d e h (suc (suc (suc (suc zero)))) = h 4
bytes_more a b c d e h (suc (suc (suc (suc (suc zero))))) = omega arith
bytes_more a b c d e h (suc (suc (suc (suc (suc (suc zero)))))) = omega arith
bytes_more a b c d e h (suc (suc (suc (suc (suc (suc (suc zero))))))) = omega arith
bytes_more a b c d e h (suc (suc (suc (suc (suc (suc (suc (suc i)))))))) = omega arith

five_back : (bytes : List ℕ) → length bytes ≡ 5 → AreBytes bytes → price_bytes Five (from_le_bytes w64 bytes) ≡ bytes
unfolding price_bytes u64_bytes
five_back [] len h = absurd (omega arith)
five_back (a ∷ []) len h = absurd (omega arith)
five_back (a ∷ b ∷ []) len h = absurd (omega arith)
five_back (a ∷ b ∷ c ∷ []) len h = absurd (omega arith)
five_back (a ∷ b ∷ c ∷ d ∷ []) len h = absurd (omega arith)
five_back (a ∷ b ∷ c ∷ d ∷ e ∷ []) len h = ap (take 5) (le_bytes_8 (a ∷ b ∷ c ∷ d ∷ e ∷ 0 ∷ 0 ∷ 0 ∷ []) _ refl (bytes_more a b c d e h) refl)
five_back (a ∷ b ∷ c ∷ d ∷ e ∷ f ∷ rest) len h = absurd (omega arith)

five_again : (n : ℕ) → n < 2 ^ 40 → from_le_bytes w64 (price_bytes Five n) ≡ n
unfolding price_bytes u64_bytes
five_again n lt = omega (arith, from_le_bytes-to_le_bytes_8 n (omega arith))

five_below : (bytes : List ℕ) → length bytes ≡ 5 → AreBytes bytes → from_le_bytes w64 bytes < 2 ^ 40
five_below bytes len h =
    let past = λ (i : ℕ) (le : 5 ≤ i). get_or_past bytes i 0 (omega (arith, len)) in
    omega (arith, h 0, h 1, h 2, h 3, h 4, past 5 (omega arith), past 6 (omega arith), past 7 (omega arith))

wide_five : IsWide 5 (2 ^ 40) (price_bytes Five) (from_le_bytes w64)
unfolding price_bytes u64_bytes
wide_five = record { len = λ n. refl; back = five_back; again = five_again; below = five_below }

eight : (n : ℕ) → price_bytes Eight n ≡ u64_bytes n
unfolding price_bytes u64_bytes
eight n = refl

wide_eight : IsWide 8 (2 ^ 64) (price_bytes Eight) (from_le_bytes w64)
unfolding price_bytes u64_bytes
wide_eight = record { len = λ n. refl; back = wide_64.back; again = wide_64.again; below = wide_64.below }

pub price_wide : (w : PriceWidth) → IsWide (bytes_in w) (room w) (price_bytes w) (from_le_bytes w64)
price_wide Five = wide_five
price_wide Eight = wide_eight

pub price_number : (w : PriceWidth) → Inverse (FitsCut w) (price_bytes w) (price_at w)
price_number w = number (bytes_in w) (room w) (price_bytes w) (from_le_bytes w64) (price_wide w)

-- ---- one after the other

both_takes : {A B : Type 0} (F : A → Type 0) (s : A → List ℕ) (f : Reader A) (G : B → Type 0) (t : B → List ℕ) (g : Reader B) → Inverse F s f → Inverse G t g → (bytes : List ℕ) (x : (A × B) × List ℕ) → AreBytes bytes → (f then g) bytes ≡ Ok x → Took (λ (p : A × B). F p.0 × G p.1) (λ p. s p.0 ++ t p.1) bytes x
both_takes {A} {B} F s f G t g one two bytes x h e =
    let a = bound (f bytes) (λ a. g a.1 >>= λ b. Ok ((a.0, b.0), b.1)) x e in
    let b = bound (g a.0.1) (λ b. Ok ((a.0.0, b.0), b.1)) x a.2 in
    let ta = one.takes bytes a.0 h a.1 in
    let tb = two.takes a.0.1 b.0 ta.rest b.1 in
    let made : (A × B) × List ℕ = ((a.0.0, b.0.0), b.0.1) in
    let joined : bytes ≡ (s a.0.0 ++ t b.0.0) ++ b.0.1 = ta.parts ∙ ap (λ (l : List ℕ). s a.0.0 ++ l) tb.parts ∙ sym (append_assoc (s a.0.0) (t b.0.0) b.0.1) in
    let took : Took (λ (p : A × B). F p.0 × G p.1) (λ p. s p.0 ++ t p.1) bytes made = record { parts = joined; rest = tb.rest; fits = (ta.fits, tb.fits) } in
    subst (λ (y : (A × B) × List ℕ). Took (λ (p : A × B). F p.0 × G p.1) (λ p. s p.0 ++ t p.1) bytes y) (same made x b.2) took

both_again : {A B : Type 0} (F : A → Type 0) (s : A → List ℕ) (f : Reader A) (G : B → Type 0) (t : B → List ℕ) (g : Reader B) → Inverse F s f → Inverse G t g → (p : A × B) (rest : List ℕ) → F p.0 × G p.1 → (f then g) ((s p.0 ++ t p.1) ++ rest) ≡ Ok (p, rest)
both_again F s f G t g one two p rest fits =
    ap (f then g) (append_assoc (s p.0) (t p.1) rest) ∙ rw (one.again p.0 (t p.1 ++ rest) fits.0, two.again p.1 rest fits.1) refl

pub both : {A B : Type 0} (F : A → Type 0) (s : A → List ℕ) (f : Reader A) (G : B → Type 0) (t : B → List ℕ) (g : Reader B) → Inverse F s f → Inverse G t g → Inverse (λ (p : A × B). F p.0 × G p.1) (λ p. s p.0 ++ t p.1) (f then g)
both F s f G t g one two = record { takes = both_takes F s f G t g one two; again = both_again F s f G t g one two }

-- ---- a value by its parts

made_takes : {A B : Type 0} (F : A → Type 0) (s : A → List ℕ) (f : Reader A) (G : B → Type 0) (t : B → List ℕ) (to : A → B) (of : B → A) → ((a : A) → F a → of (to a) ≡ a) → ((a : A) → F a → G (to a)) → ((b : B) → t b ≡ s (of b)) → Inverse F s f → (bytes : List ℕ) (x : B × List ℕ) → AreBytes bytes → made to f bytes ≡ Ok x → Took G t bytes x
made_takes {A} {B} F s f G t to of back fits spelled one bytes x h e =
    let a = bound (f bytes) (λ a. Ok (to a.0, a.1)) x e in
    let ta = one.takes bytes a.0 h a.1 in
    let y : B × List ℕ = (to a.0.0, a.0.1) in
    let is : t (to a.0.0) ≡ s a.0.0 = spelled (to a.0.0) ∙ ap s (back a.0.0 ta.fits) in
    let took : Took G t bytes y = record { parts = ta.parts ∙ ap (λ (l : List ℕ). l ++ a.0.1) (sym is); rest = ta.rest; fits = fits a.0.0 ta.fits } in
    subst (λ (z : B × List ℕ). Took G t bytes z) (same y x a.2) took

made_again : {A B : Type 0} (F : A → Type 0) (s : A → List ℕ) (f : Reader A) (G : B → Type 0) (t : B → List ℕ) (to : A → B) (of : B → A) → ((b : B) → G b → to (of b) ≡ b) → ((b : B) → G b → F (of b)) → ((b : B) → t b ≡ s (of b)) → Inverse F s f → (b : B) (rest : List ℕ) → G b → made to f (t b ++ rest) ≡ Ok (b, rest)
made_again F s f G t to of forth fits spelled one b rest h =
    ap (made to f) (ap (λ (l : List ℕ). l ++ rest) (spelled b)) ∙ rw (one.again (of b) rest (fits b h), forth b h) refl

-- ---- so many, and a number before them

times_take : {A : Type 0} (F : A → Type 0) (s : A → List ℕ) (f : Reader A) → Inverse F s f → (n : ℕ) (bytes : List ℕ) (x : List A × List ℕ) → AreBytes bytes → times f n bytes ≡ Ok x → Took (λ (l : List A). (length l ≡ n) × AllByRecursion F l) (flat_map s) bytes x
unfolding times
times_take {A} F s f one zero bytes x h e =
    let made : List A × List ℕ = ([], bytes) in
    subst (λ (y : List A × List ℕ). Took (λ (l : List A). (length l ≡ 0) × AllByRecursion F l) (flat_map s) bytes y) (same made x e) (record { parts = refl; rest = h; fits = (refl, tt) })
times_take {A} F s f one (suc n) bytes x h e =
    let a = bound (f bytes) (λ first. times f n first.1 >>= λ others. Ok (first.0 ∷ others.0, others.1)) x e in
    let b = bound (times f n a.0.1) (λ others. Ok (a.0.0 ∷ others.0, others.1)) x a.2 in
    let ta = one.takes bytes a.0 h a.1 in
    let tb = times_take F s f one n a.0.1 b.0 ta.rest b.1 in
    let made : List A × List ℕ = (a.0.0 ∷ b.0.0, b.0.1) in
    let joined : bytes ≡ (s a.0.0 ++ flat_map s b.0.0) ++ b.0.1 = ta.parts ∙ ap (λ (l : List ℕ). s a.0.0 ++ l) tb.parts ∙ sym (append_assoc (s a.0.0) (flat_map s b.0.0) b.0.1) in
    let took : Took (λ (l : List A). (length l ≡ suc n) × AllByRecursion F l) (flat_map s) bytes made = record { parts = joined ∙ ap (λ (l : List ℕ). l ++ b.0.1) (sym (flat_map-cons s a.0.0 b.0.0)); rest = tb.rest; fits = (ap suc tb.fits.0, (ta.fits, tb.fits.1)) } in
    subst (λ (y : List A × List ℕ). Took (λ (l : List A). (length l ≡ suc n) × AllByRecursion F l) (flat_map s) bytes y) (same made x b.2) took

times_again : {A : Type 0} (F : A → Type 0) (s : A → List ℕ) (f : Reader A) → Inverse F s f → (l : List A) (rest : List ℕ) → AllByRecursion F l → times f (length l) (flat_map s l ++ rest) ≡ Ok (l, rest)
unfolding times
times_again F s f one [] rest fits = refl
times_again F s f one (a ∷ l) rest fits =
    let grouped : flat_map s (a ∷ l) ++ rest ≡ s a ++ (flat_map s l ++ rest) = ap (λ (x : List ℕ). x ++ rest) (flat_map-cons s a l) ∙ append_assoc (s a) (flat_map s l) rest in
    ap (times f (suc (length l))) grouped ∙ rw (one.again a (flat_map s l ++ rest) fits.0, times_again F s f one l rest fits.1) refl

counted_takes : {A : Type 0} (limit : ℕ) (ns : ℕ → List ℕ) (nf : Reader ℕ) (F : A → Type 0) (s : A → List ℕ) (f : Reader A) → Inverse (λ n. n < limit) ns nf → Inverse F s f → (bytes : List ℕ) (x : List A × List ℕ) → AreBytes bytes → counted nf f bytes ≡ Ok x → Took (λ (l : List A). (length l < limit) × All F l) (λ l. ns (length l) ++ flat_map s l) bytes x
counted_takes limit ns nf F s f num one bytes x h e =
    let a = bound (nf bytes) (λ n. times f n.0 n.1) x e in
    let ta = num.takes bytes a.0 h a.1 in
    let tb = times_take F s f one a.0.0 a.0.1 x ta.rest a.2 in
    let len : length x.0 ≡ a.0.0 = tb.fits.0 in
    record {
      parts = ta.parts ∙ ap (λ (l : List ℕ). ns a.0.0 ++ l) tb.parts ∙ sym (append_assoc (ns a.0.0) (flat_map s x.0) x.1) ∙ ap (λ (n : ℕ). (ns n ++ flat_map s x.0) ++ x.1) (sym len);
      rest = tb.rest;
      fits = (subst (λ (n : ℕ). n < limit) (sym len) ta.fits, All-from_recursion F x.0 tb.fits.1);
    }

counted_again : {A : Type 0} (limit : ℕ) (ns : ℕ → List ℕ) (nf : Reader ℕ) (F : A → Type 0) (s : A → List ℕ) (f : Reader A) → Inverse (λ n. n < limit) ns nf → Inverse F s f → (l : List A) (rest : List ℕ) → (length l < limit) × All F l → counted nf f ((ns (length l) ++ flat_map s l) ++ rest) ≡ Ok (l, rest)
counted_again limit ns nf F s f num one l rest fits =
    ap (counted nf f) (append_assoc (ns (length l)) (flat_map s l) rest) ∙ rw (num.again (length l) (flat_map s l ++ rest) fits.0) (times_again F s f one l rest (recursion_from_All F l fits.1))

pub many : {A : Type 0} (limit : ℕ) (ns : ℕ → List ℕ) (nf : Reader ℕ) (F : A → Type 0) (s : A → List ℕ) (f : Reader A) → Inverse (λ n. n < limit) ns nf → Inverse F s f → Inverse (λ (l : List A). (length l < limit) × All F l) (λ l. ns (length l) ++ flat_map s l) (counted nf f)
many limit ns nf F s f num one = record { takes = counted_takes limit ns nf F s f num one; again = counted_again limit ns nf F s f num one }

pub made_of : {A B : Type 0} (F : A → Type 0) (s : A → List ℕ) (f : Reader A) (G : B → Type 0) (t : B → List ℕ) (to : A → B) (of : B → A) → ((a : A) → F a → of (to a) ≡ a) → ((b : B) → G b → to (of b) ≡ b) → ((a : A) → F a → G (to a)) → ((b : B) → G b → F (of b)) → ((b : B) → t b ≡ s (of b)) → Inverse F s f → Inverse G t (made to f)
made_of F s f G t to of back forth fits fits_back spelled one = record { takes = made_takes F s f G t to of back fits spelled one; again = made_again F s f G t to of forth fits_back spelled one }

-- ---- the same with their parts found from the proofs

pub pair : {A B : Type 0} {F : A → Type 0} {s : A → List ℕ} {f : Reader A} {G : B → Type 0} {t : B → List ℕ} {g : Reader B} → Inverse F s f → Inverse G t g → Inverse (λ (p : A × B). F p.0 × G p.1) (λ p. s p.0 ++ t p.1) (f then g)
pair {A} {B} {F} {s} {f} {G} {t} {g} one two = both F s f G t g one two

-- a value behind a tag
pub tagged : {A B : Type 0} {F : A → Type 0} {s : A → List ℕ} {f : Reader A} → Inverse F s f → (G : B → Type 0) (t : B → List ℕ) (tag : ℕ) (to : A → B) → ((a : A) → t (to a) ≡ tag ∷ s a) → ((a : A) → F a → G (to a)) → (bytes : List ℕ) (x : B × List ℕ) → AreBytes bytes → made to f bytes ≡ Ok x → Took G t (tag ∷ bytes) x
tagged {A} {B} {F} {s} {f} one G t tag to spelled fits bytes x h e =
    let a = bound (f bytes) (λ a. Ok (to a.0, a.1)) x e in
    let ta = one.takes bytes a.0 h a.1 in
    let y : B × List ℕ = (to a.0.0, a.0.1) in
    let took : Took G t (tag ∷ bytes) y = record { parts = ap (λ (l : List ℕ). tag ∷ l) ta.parts ∙ ap (λ (l : List ℕ). l ++ a.0.1) (sym (spelled a.0.0)); rest = ta.rest; fits = fits a.0.0 ta.fits } in
    subst (λ (z : B × List ℕ). Took G t (tag ∷ bytes) z) (same y x a.2) took

pub chosen : {A : Type 0} (b : Bool) (x y z : A) → cond b x y ≡ z → ((b ≡ true) × (x ≡ z)) ⊎ ((b ≡ false) × (y ≡ z))
chosen true x y z e = inl (refl, e)
chosen false x y z e = inr (refl, e)

pub tail_bytes : (b : ℕ) (bytes : List ℕ) → AreBytes (b ∷ bytes) → AreBytes bytes
tail_bytes = bytes_rest
