-- Values with commas between them are read exactly where they are spelled so.
use Rattle.certificate.proofs.Common.{◌≡◌, ℕ, ◌<◌, false, eqb, List, [], ◌∷◌, ◌++◌, length, map, Some, refl, sym, ap, subst, ◌∙◌, arith, inl, inr, codes, All, bytes_eq, AllByRecursion, flat_map, slice_split, join_with_byte, ne_eqb, cases_Bool, append-nil, All-nil, All-cons, All-append, All-from_recursion, recursion_from_All, slice_split_at, slice_split_none, join_with_byte-slice_split, length-slice_split, joined, joined_or_dash, Words, given, each_in, parts_in, parts_or_dash}
use Rattle.certificate.proofs.Spelling.{Exact, Lacks, some_of, same_some, given_some, same_text, text_other}

each_takes : {A : Type 0} (F : A → Type 0) (s : A → List ℕ) (f : Words A) → Exact F s f → (ws : List (List ℕ)) (l : List A) → each_in f ws ≡ Some l → (ws ≡ map s l) × AllByRecursion F l
each_takes {A} F s f one [] l e = subst (λ (y : List A). ([] ≡ map s y) × AllByRecursion F y) (same_some [] l e) (refl, tt)
each_takes {A} F s f one (w ∷ ws) l e =
    let a = given_some (f w) (λ a. given (each_in f ws) (λ others. Some (a ∷ others))) l e in
    let b = given_some (each_in f ws) (λ others. Some (a.0 ∷ others)) l a.2 in
    let ta = one.takes w a.0 a.1 in
    let tb = each_takes F s f one ws b.0 b.1 in
    let made : List A = a.0 ∷ b.0 in
    let parts : w ∷ ws ≡ map s made = ap (λ (x : List ℕ). x ∷ ws) ta.0 ∙ ap (λ (x : List (List ℕ)). s a.0 ∷ x) tb.0 in
    let whole : (w ∷ ws ≡ map s made) × AllByRecursion F made = (parts, (ta.1, tb.1)) in
    subst (λ (y : List A). (w ∷ ws ≡ map s y) × AllByRecursion F y) (same_some made l b.2) whole

each_again : {A : Type 0} (F : A → Type 0) (s : A → List ℕ) (f : Words A) → Exact F s f → (l : List A) → AllByRecursion F l → each_in f (map s l) ≡ Some l
each_again F s f one [] h = refl
each_again F s f one (a ∷ l) h = rw (one.again a h.0, each_again F s f one l h.1) refl

join_parts : {A : Type 0} (s : A → List ℕ) (x : A) (xs : List A) → join_with_byte 44 (map s (x ∷ xs)) ≡ joined s (x ∷ xs)
join_parts s x [] = sym (append-nil (s x))
join_parts s x (y ∷ ys) = ap (λ (l : List ℕ). s x ++ 44 ∷ l) (join_parts s y ys)

split_parts : {A : Type 0} (F : A → Type 0) (s : A → List ℕ) → ((a : A) → F a → Lacks 44 (s a)) → (x : A) (xs : List A) → AllByRecursion F (x ∷ xs) → slice_split (λ b. eqb b 44) (joined s (x ∷ xs)) ≡ map s (x ∷ xs)
split_parts F s lacks x [] h = ap (slice_split (λ b. eqb b 44)) (append-nil (s x)) ∙ slice_split_none (λ b. eqb b 44) (s x) (lacks x h.0)
split_parts F s lacks x (y ∷ ys) h =
    slice_split_at (λ b. eqb b 44) (s x) 44 (joined s (y ∷ ys)) (lacks x h.0) refl
    ∙ ap (λ (l : List (List ℕ)). s x ∷ l) (split_parts F s lacks y ys h.1)

some_parts : (text : List ℕ) → slice_split (λ b. eqb b 44) text ≡ [] → ⊥
some_parts text e = let len = sym (length-slice_split (λ b. eqb b 44) text) ∙ ap length e in absurd (omega arith)

joined_text : {A : Type 0} (s : A → List ℕ) (text : List ℕ) (l : List A) → slice_split (λ b. eqb b 44) text ≡ map s l → (text ≡ joined s l) × (0 < length l)
joined_text s text [] e = absurd (some_parts text e)
joined_text s text (x ∷ xs) e = (sym (join_with_byte-slice_split 44 text) ∙ ap (join_with_byte 44) e ∙ join_parts s x xs, omega arith)

parts_take : {A : Type 0} (F : A → Type 0) (s : A → List ℕ) (f : Words A) → Exact F s f → (text : List ℕ) (l : List A) → parts_in f text ≡ Some l → (text ≡ joined s l) × (All F l × (0 < length l))
parts_take F s f one text l e =
    let t = each_takes F s f one (slice_split (λ b. eqb b 44) text) l e in
    let j = joined_text s text l t.0 in
    (j.0, (All-from_recursion F l t.1, j.1))

parts_again : {A : Type 0} (F : A → Type 0) (s : A → List ℕ) (f : Words A) → Exact F s f → ((a : A) → F a → Lacks 44 (s a)) → (l : List A) → All F l × (0 < length l) → parts_in f (joined s l) ≡ Some l
parts_again F s f one lacks [] h = let never = h.1 in absurd (omega arith)
parts_again F s f one lacks (x ∷ xs) h =
    let r = recursion_from_All F (x ∷ xs) h.0 in
    ap (each_in f) (split_parts F s lacks x xs r) ∙ each_again F s f one (x ∷ xs) r

-- at least one value, with commas between them
pub parts_exact : {A : Type 0} {F : A → Type 0} {s : A → List ℕ} {f : Words A} → Exact F s f → ((a : A) → F a → Lacks 44 (s a)) → Exact (λ l. All F l × (0 < length l)) (joined s) (parts_in f)
parts_exact {A} {F} {s} {f} one lacks = record { takes = parts_take F s f one; again = parts_again F s f one lacks }

joined_is : {A : Type 0} (s : A → List ℕ) (l : List A) → 0 < length l → joined s l ≡ joined_or_dash s l
joined_is s [] some = absurd (omega arith)
joined_is s (x ∷ xs) some = refl

or_dash_take : {A : Type 0} (F : A → Type 0) (s : A → List ℕ) (f : Words A) → Exact F s f → (text : List ℕ) (l : List A) → parts_or_dash f text ≡ Some l → (text ≡ joined_or_dash s l) × All F l
or_dash_take {A} F s f one text l e = elim (cases_Bool (bytes_eq text (codes "-"))) [
  | inl same ↦
      let nothing : List A = [] in
      let is : some_of nothing ≡ Some l = rw same at e in
      subst (λ (y : List A). (text ≡ joined_or_dash s y) × All F y) (same_some nothing l is) (same_text text (codes "-") same, All-nil F)
  | inr other ↦
      let is : parts_in f text ≡ Some l = rw other at e in
      let t = parts_take F s f one text l is in
      (t.0 ∙ joined_is s l t.1.1, t.1.0)
]

-- values aren't taken for `-` where the first of them isn't
not_dash : {A : Type 0} (F : A → Type 0) (s : A → List ℕ) → ((a : A) → F a → Lacks 44 (s a)) → ((a : A) → F a → s a ≡ codes "-" → ⊥) → (x : A) (xs : List A) → AllByRecursion F (x ∷ xs) → joined s (x ∷ xs) ≡ codes "-" → ⊥
not_dash F s lacks never x xs h e =
    let dash : slice_split (λ b. eqb b 44) (codes "-") ≡ codes "-" ∷ [] = slice_split_none (λ b. eqb b 44) (codes "-") (All-cons (λ b. eqb b 44 ≡ false) 45 [] refl (All-nil (λ b. eqb b 44 ≡ false))) in
    let both : s x ∷ map s xs ≡ codes "-" ∷ [] = sym (split_parts F s lacks x xs h) ∙ ap (slice_split (λ b. eqb b 44)) e ∙ dash in
    never x h.0 (let parts = both in cc)

or_dash_again : {A : Type 0} (F : A → Type 0) (s : A → List ℕ) (f : Words A) → Exact F s f → ((a : A) → F a → Lacks 44 (s a)) → ((a : A) → F a → s a ≡ codes "-" → ⊥) → (l : List A) → All F l → parts_or_dash f (joined_or_dash s l) ≡ Some l
or_dash_again F s f one lacks never [] h = refl
or_dash_again F s f one lacks never (x ∷ xs) h =
    let r = recursion_from_All F (x ∷ xs) h in
    let other : bytes_eq (joined s (x ∷ xs)) (codes "-") ≡ false = text_other (joined s (x ∷ xs)) (codes "-") (not_dash F s lacks never x xs r) in
    rw other (parts_again F s f one lacks (x ∷ xs) (h, omega arith))

-- values with commas between them, and `-` where there are none
pub parts_or_dash_exact : {A : Type 0} {F : A → Type 0} {s : A → List ℕ} {f : Words A} → Exact F s f → ((a : A) → F a → Lacks 44 (s a)) → ((a : A) → F a → s a ≡ codes "-" → ⊥) → Exact (All F) (joined_or_dash s) (parts_or_dash f)
parts_or_dash_exact {A} {F} {s} {f} one lacks never = record { takes = or_dash_take F s f one; again = or_dash_again F s f one lacks never }

-- ---- a byte that no value has

further_lack : {A : Type 0} (F : A → Type 0) (s : A → List ℕ) (by : ℕ) → by < 44 → ((a : A) → F a → Lacks by (s a)) → (l : List A) → AllByRecursion F l → Lacks by (flat_map (λ next. 44 ∷ s next) l)
further_lack F s by small lacks [] h = All-nil (λ b. eqb b by ≡ false)
further_lack F s by small lacks (x ∷ xs) h =
    All-cons (λ b. eqb b by ≡ false) 44 (s x ++ flat_map (λ next. 44 ∷ s next) xs) (ne_eqb 44 by (λ e. omega arith))
    (All-append (λ b. eqb b by ≡ false) (s x) (flat_map (λ next. 44 ∷ s next) xs) (lacks x h.0) (further_lack F s by small lacks xs h.1))

pub joined_lacks : {A : Type 0} (F : A → Type 0) (s : A → List ℕ) (by : ℕ) → by < 44 → ((a : A) → F a → Lacks by (s a)) → (l : List A) → AllByRecursion F l → Lacks by (joined s l)
joined_lacks F s by small lacks [] h = All-nil (λ b. eqb b by ≡ false)
joined_lacks F s by small lacks (x ∷ xs) h = All-append (λ b. eqb b by ≡ false) (s x) (flat_map (λ next. 44 ∷ s next) xs) (lacks x h.0) (further_lack F s by small lacks xs h.1)

pub joined_or_dash_lacks : {A : Type 0} (F : A → Type 0) (s : A → List ℕ) (by : ℕ) → by < 44 → ((a : A) → F a → Lacks by (s a)) → (l : List A) → AllByRecursion F l → Lacks by (joined_or_dash s l)
joined_or_dash_lacks F s by small lacks [] h = All-cons (λ b. eqb b by ≡ false) 45 [] (ne_eqb 45 by (λ e. omega arith)) (All-nil (λ b. eqb b by ≡ false))
joined_or_dash_lacks F s by small lacks (x ∷ xs) h = joined_lacks F s by small lacks (x ∷ xs) h
