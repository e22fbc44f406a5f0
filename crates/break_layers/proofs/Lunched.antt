-- The break time that lunches take.
use Rattle.break_layers.proofs.Common.{◌≡◌, inl, inr, ℕ, zero, suc, ◌+◌, ◌*◌, ◌<◌, ◌≤◌, Bool, false, eq-eqb, if◌then◌else◌, ◌&&◌, ◌==◌, true, List, [], ◌∷◌, length, get_or, refl, sym, ap, ◌∙◌, arith, nat_le, sum_by, list_any, and_left, and_parts, cases_Bool, eqb-true, false≢true, ne_eqb, or_right, sum_by-cons, Break, Lunch, end_of, is_lunch, bits_of, Has, any_none, any_some}

pub has_at : {X : Type 0} (xs : List X) (i : ℕ) (d : X) → i < length xs → Has xs (get_or xs i d)
has_at [] i d h = absurd (omega arith)
has_at (x ∷ xs) zero d h = inl refl
has_at (x ∷ xs) (suc i) d h = inr (has_at xs i d (omega arith))

-- a break is no longer than all together
one_of : (list : List Break) (b : Break) → Has list b → b.len ≤ sum_by (λ b. b.len) list
one_of [] b m = absurd m
one_of (c ∷ list) b m =
    let sum : sum_by (λ b. b.len) (c ∷ list) ≡ c.len + sum_by (λ b. b.len) list = sum_by-cons (λ (b : Break). b.len) c list in
    elim m [
      | inl e ↦ let same : c.len ≡ b.len = ap (λ (x : Break). x.len) e in omega arith
      | inr t ↦ let rest : b.len ≤ sum_by (λ b. b.len) list = one_of list b t in omega arith
    ]

-- breaks among which some break meets a lunch entry take its time
pub lunch_time : (list : List Break) (e : Lunch) → list_any (is_lunch e) list ≡ true → e.size ≤ sum_by (λ b. b.len) list
lunch_time list e h =
    let b = any_some (is_lunch e) list h in
    let p = and_parts ((b.0.len == e.size) && nat_le e.first b.0.start) (nat_le (end_of b.0) e.last) b.2 in
    let size : b.0.len ≡ e.size = eqb-true _ _ (and_parts (b.0.len == e.size) (nat_le e.first b.0.start) p.0).0 in
    let own = one_of list b.0 b.1 in
    omega arith

-- a break whose length no lunch entry has meets none
pub none_met : (es : List Lunch) (size : ℕ) (b : Break) → list_any (λ e. e.size == size) es ≡ false → b.len ≡ size → bits_of (λ e. is_lunch e b) es ≡ 0
none_met [] size b h is = refl
none_met (e ∷ es) size b h is =
    let p : (e.size == size) ≡ false = any_none (λ (x : Lunch). x.size == size) (e ∷ es) e h (inl refl) in
    let other : (b.len == e.size) ≡ false = ne_eqb b.len e.size (λ s. false≢true (sym p ∙ eq-eqb e.size size (sym s ∙ is))) in
    let here : is_lunch e b ≡ false = and_left ((b.len == e.size) && nat_le e.first b.start) (nat_le (end_of b) e.last) (and_left (b.len == e.size) (nat_le e.first b.start) other) in
    let rest : bits_of (λ e. is_lunch e b) es ≡ 0 = none_met es size b (rest_none es h) is in
    ap (λ (t : Bool). (if t then 1 else 0) + 2 * bits_of (λ e. is_lunch e b) es) here ∙ ap (λ n. 0 + 2 * n) rest
  where
    rest_none : (es : List Lunch) → list_any (λ e. e.size == size) (e ∷ es) ≡ false → list_any (λ e. e.size == size) es ≡ false
    rest_none es h = elim (cases_Bool (list_any (λ (x : Lunch). x.size == size) es)) [ inl t ↦ absurd (false≢true (sym h ∙ or_right (e.size == size) (list_any (λ (x : Lunch). x.size == size) es) t)) | inr f ↦ f ]
