-- Lists that leave the prefixes of bonuses.
use Rattle.pricing.proofs.Common.{◌≡◌, ◌⊎◌, inl, inr, ℕ, suc, ◌+◌, ◌<◌, ℤ, pos, ◌+ℤ◌, ◌-ℤ◌, ◌≤ℤ◌, true, false, cond, List, [], ◌∷◌, ◌++◌, length, take, drop, get_or, refl, sym, ap, ◌∙◌, subst, arith, append_assoc, append-nil, length-append, Option, ints, false≢true, cases_Bool, take_at, Break, Rule, is_legal, begins_with, IsRule, end_of_all, Has, any_none, same_tests, begins_rest, begins_from, int_sum_by-same, bonus_of, share_of, Found, sum_at, price_in, earned_from, resumes, Completes, Priced, rest_worth, IsBestTail, IsLegal, Covers, CoversFrom, IsLeaving, leads_further}
use Rattle.pricing.proofs.Lesser.{less_behind}
use Rattle.pricing.proofs.ByEdges.{worth_more}
use Rattle.pricing.proofs.Covered.{covers_on}

-- of two beginnings of a list one is a beginning of the other
pub split_two : {X : Type 0} (q bs p r : List X) → q ++ bs ≡ p ++ r → ((s : List X) × (q ≡ p ++ s)) ⊎ ((s : List X) × (p ≡ q ++ s))
split_two [] bs p r e = inr (p, refl)
split_two (x ∷ q) bs [] r e = inl (x ∷ q, refl)
split_two {X} (x ∷ q) bs (y ∷ p) r e =
    let heads : x ≡ y = cc in
    let tails : q ++ bs ≡ p ++ r = cc in
    elim (split_two q bs p r tails) [
      | inl s ↦ inl (s.0, ap (λ (z : X). z ∷ q) heads ∙ ap (λ (l : List X). y ∷ l) s.1)
      | inr s ↦ inr (s.0, ap (λ (z : X). z ∷ p) (sym heads) ∙ ap (λ (l : List X). x ∷ l) s.1)
    ]

begins_both : (q bs t p : List Break) → begins_with p q ≡ false → begins_with (q ++ bs) p ≡ true → begins_with (q ++ t) p ≡ true
begins_both q bs t p none h =
    elim (split_two q bs p (drop (length p) (q ++ bs)) (begins_rest (q ++ bs) p h)) [
      | inl s ↦ begins_from (q ++ t) p (s.0 ++ t) (ap (λ (l : List Break). l ++ t) s.1 ∙ append_assoc p s.0 t)
      | inr s ↦ absurd (false≢true (sym none ∙ begins_from p q s.0 s.1))
    ]

-- behind breaks that lead to no prefix all rests have one bonus
bonus_same : (entries : List (List Break × ℤ)) (q bs t : List Break) → leads_further entries q ≡ false → bonus_of entries (q ++ bs) ≡ bonus_of entries (q ++ t)
bonus_same entries q bs t none =
    int_sum_by-same (share_of (q ++ bs)) (share_of (q ++ t)) entries (λ e m.
    let out : begins_with e.0 q ≡ false = any_none (λ (e : List Break × ℤ). begins_with e.0 q) entries e none m in
    ap (λ b. cond b e.1 (pos 0)) (same_tests (begins_with (q ++ bs) e.0) (begins_with (q ++ t) e.0) (begins_both q bs t e.0 out) (begins_both q t bs e.0 out)))

-- what breaks at the front earn is the same for all rests
pub front_worth : (rule : Rule) (len : ℕ) (sums : List ℤ) (list q : List Break) → IsRule rule
    → (k : ℤ) × ((rest : List Break) → Completes rule len list (q ++ rest) → rest_worth sums rule len list (q ++ rest) ≡ k +ℤ rest_worth sums rule len (list ++ q) rest)
front_worth rule len sums list [] r = (
  pos 0,
  λ rest h.
      let same : rest_worth sums rule len list rest ≡ rest_worth sums rule len (list ++ []) rest = ap (λ (l : List Break). rest_worth sums rule len l rest) (sym (append-nil list)) in
      omega (arith, ints),
)
front_worth rule len sums list (b ∷ q) r =
    let on = front_worth rule len sums (list ++ b ∷ []) q r in
    let step : ℤ = sum_at sums b.start -ℤ sum_at sums (resumes rule (end_of_all list)) in (
      step +ℤ on.0,
      λ rest h.
          let one : rest_worth sums rule len list (b ∷ (q ++ rest)) ≡ step +ℤ rest_worth sums rule len (list ++ b ∷ []) (q ++ rest) = worth_more rule len list b sums (q ++ rest) r h in
          let two : rest_worth sums rule len (list ++ b ∷ []) (q ++ rest) ≡ on.0 +ℤ rest_worth sums rule len ((list ++ b ∷ []) ++ q) rest = on.1 rest (ap (is_legal rule len) (append_assoc list (b ∷ []) (q ++ rest)) ∙ h) in
          let three : rest_worth sums rule len ((list ++ b ∷ []) ++ q) rest ≡ rest_worth sums rule len (list ++ (b ∷ q)) rest = ap (λ (l : List Break). rest_worth sums rule len l rest) (append_assoc list (b ∷ []) q) in
          omega (arith, ints),
    )

module _ (p : Priced) (entries : List (List Break × ℤ)) (r : IsRule p.rule) where
  -- behind breaks that lead to no prefix a best rest is no worse than another
  pub covers_tail : (best : Option Found) (q bs t whole : List Break) → leads_further entries q ≡ false → IsBestTail p.rule p.len p.sums q t → whole ≡ q ++ t → IsLegal p (q ++ bs)
      → Covers p entries best whole → Covers p entries best (q ++ bs)
  covers_tail best q bs t whole none tail is legal c =
      let k = front_worth p.rule p.len p.sums [] q r in
      let one : earned_from (price_in p.sums) p.rule p.len 0 (q ++ bs) ≡ k.0 +ℤ rest_worth p.sums p.rule p.len q bs = k.1 bs legal in
      let two : earned_from (price_in p.sums) p.rule p.len 0 (q ++ t) ≡ k.0 +ℤ rest_worth p.sums p.rule p.len q t = k.1 t tail.1.allowed in
      let same : bonus_of entries (q ++ bs) ≡ bonus_of entries (q ++ t) = bonus_same entries q bs t none in
      let most : rest_worth p.sums p.rule p.len q bs ≤ℤ tail.0 = tail.1.greatest bs legal in
      let worth : rest_worth p.sums p.rule p.len q t ≡ tail.0 = tail.1.is_worth in
      covers_on p entries best (q ++ t) (q ++ bs) (subst (Covers p entries best) is c)
      (omega (arith, ints))
      (λ e. less_behind q bs t (tail.1.least bs legal (let s : rest_worth p.sums p.rule p.len q bs ≡ tail.0 = omega (arith, ints) in s)))

-- each list leaves the prefixes somewhere
leave : (entries : List (List Break × ℤ)) (front rest : List Break) → (front ≡ []) ⊎ (leads_further entries front ≡ true)
    → (f : List Break) × (r : List Break) × (front ++ rest ≡ f ++ r) × ((f ≡ []) ⊎ (leads_further entries f ≡ true)) × IsLeaving entries f r
leave entries front [] h = (front, [], refl, h, tt)
leave entries front (b ∷ bs) h =
    elim (cases_Bool (leads_further entries (front ++ b ∷ []))) [
      | inl t ↦ let on = leave entries (front ++ b ∷ []) bs (inr t) in (on.0, on.1, sym (append_assoc front (b ∷ []) bs) ∙ on.2, on.3, on.4)
      | inr n ↦ (front, b ∷ bs, refl, h, n)
    ]

pub all_covered : (p : Priced) (entries : List (List Break × ℤ)) (best : Option Found) → ((front : List Break) → (front ≡ []) ⊎ (leads_further entries front ≡ true) → CoversFrom p entries best front)
    → (list : List Break) → IsLegal p list → Covers p entries best list
all_covered p entries best from list legal =
    let l = leave entries [] list (inl refl) in
    subst (Covers p entries best) (sym l.2) (from l.0 l.3 l.1 (ap (is_legal p.rule p.len) (sym l.2) ∙ legal) l.4)

-- breaks with which a prefix begins are the first so many of it
pub first_of : (prefix front : List Break) → begins_with prefix front ≡ true → (front ≡ []) ⊎ ((k : ℕ) × (k < length prefix) × (take (k + 1) prefix ≡ front))
first_of prefix [] h = inl refl
first_of prefix (b ∷ bs) h =
    let e : prefix ≡ (b ∷ bs) ++ drop (length (b ∷ bs)) prefix = begins_rest prefix (b ∷ bs) h in
    let n : length prefix ≡ length (b ∷ bs) + length (drop (length (b ∷ bs)) prefix) = ap length e ∙ length-append (b ∷ bs) (drop (length (b ∷ bs)) prefix) in
    inr (length bs, omega arith, ap (take (length bs + 1)) e ∙ take_at (b ∷ bs) (drop (length (b ∷ bs)) prefix) (length bs + 1) (let m : length (b ∷ bs) ≡ length bs + 1 = omega arith in m))

-- an element stands at some place
pub place_in : {X : Type 0} (xs : List X) (x d : X) → Has xs x → (j : ℕ) × (j < length xs) × (get_or xs j d ≡ x)
place_in [] x d m = absurd m
place_in (y ∷ xs) x d m = elim m [ inl e ↦ (0, omega arith, e) | inr t ↦ let r = place_in xs x d t in (suc r.0, omega arith, r.2) ]
