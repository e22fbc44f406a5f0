-- Break lists in their order.
use Rattle.pricing.proofs.Common.{◌≡◌, ◌⊎◌, inl, inr, ◌<◌, Bool, true, false, ◌&&◌, ◌==◌, List, [], ◌∷◌, ◌++◌, refl, sym, ◌∙◌, subst, arith, nat_lt, eq-eqb, and_parts, and_from, ltb-true, lt-ltb, false≢true, or_cases, or_left, or_right, or_from, or_parts, and_left, cases_order, Break, same_break, is_less_break, is_less_list, same_break_decides}
use Rattle.std.proofs.lemmas.Bool.{eqb-true}
use Rattle.break_rules.proofs.Lesser.{less_once}
use Rattle.pricing.proofs.Best.{less_rests}

-- one of two breaks is less, or they are the same
either_less : (x y : Break) → (is_less_break x y ≡ true) ⊎ ((x ≡ y) ⊎ (is_less_break y x ≡ true))
either_less x y =
    elim (cases_order x.start y.start) [
      | inr o ↦ elim o [ inl l ↦ inl (or_left (nat_lt x.start y.start) _ (lt-ltb _ _ l)) | inr g ↦ inr (inr (or_left (nat_lt y.start x.start) _ (lt-ltb _ _ g))) ]
      | inl s ↦ elim (cases_order x.len y.len) [
        | inr o ↦ elim o [
          | inl l ↦ inl (or_right (nat_lt x.start y.start) _ (and_from (x.start == y.start) _ (eq-eqb _ _ s) (lt-ltb _ _ l)))
          | inr g ↦ inr (inr (or_right (nat_lt y.start x.start) _ (and_from (y.start == x.start) _ (eq-eqb _ _ (sym s)) (lt-ltb _ _ g))))
        ]
        | inl e ↦ inr (inl ((same_break_decides x y).0 (and_from (x.start == y.start) (x.len == y.len) (eq-eqb _ _ s) (eq-eqb _ _ e))))
      ]
    ]

less_on : (x y z : Break) → is_less_break x y ≡ true → is_less_break y z ≡ true → is_less_break x z ≡ true
less_on x y z h g =
    elim (or_cases (nat_lt x.start y.start) ((x.start == y.start) && nat_lt x.len y.len) h) [
      | inl l ↦
          let a : x.start < y.start = ltb-true _ _ l in
          elim (or_cases (nat_lt y.start z.start) ((y.start == z.start) && nat_lt y.len z.len) g) [
            | inl m ↦ let b : y.start < z.start = ltb-true _ _ m in or_left (nat_lt x.start z.start) _ (lt-ltb _ _ (omega arith))
            | inr m ↦ let b : y.start ≡ z.start = eqb-true _ _ (and_parts (y.start == z.start) _ m).0 in or_left (nat_lt x.start z.start) _ (lt-ltb _ _ (omega arith))
          ]
      | inr l ↦
          let p = and_parts (x.start == y.start) (nat_lt x.len y.len) l in
          let a : x.start ≡ y.start = eqb-true _ _ p.0 in
          let a' : x.len < y.len = ltb-true _ _ p.1 in
          elim (or_cases (nat_lt y.start z.start) ((y.start == z.start) && nat_lt y.len z.len) g) [
            | inl m ↦ let b : y.start < z.start = ltb-true _ _ m in or_left (nat_lt x.start z.start) _ (lt-ltb _ _ (omega arith))
            | inr m ↦
                let q = and_parts (y.start == z.start) (nat_lt y.len z.len) m in
                let b : y.start ≡ z.start = eqb-true _ _ q.0 in
                let b' : y.len < z.len = ltb-true _ _ q.1 in
                or_right (nat_lt x.start z.start) _ (and_from (x.start == z.start) _ (eq-eqb x.start z.start (a ∙ b)) (lt-ltb _ _ (omega arith)))
          ]
    ]

-- where no list is less than the next one, the first isn't less than the last
pub not_less_on : (xs ys zs : List Break) → is_less_list xs ys ≡ false → is_less_list ys zs ≡ false → is_less_list xs zs ≡ false
not_less_on [] [] zs h g = g
not_less_on [] (y ∷ ys) zs h g = absurd (false≢true (sym h))
not_less_on (x ∷ xs) [] [] h g = refl
not_less_on (x ∷ xs) [] (z ∷ zs) h g = absurd (false≢true (sym g))
not_less_on (x ∷ xs) (y ∷ ys) [] h g = refl
not_less_on (x ∷ xs) (y ∷ ys) (z ∷ zs) h g =
    let p = or_parts (is_less_break x y) (same_break x y && is_less_list xs ys) h in
    let q = or_parts (is_less_break y z) (same_break y z && is_less_list ys zs) g in
    let above : is_less_break z x ≡ true → is_less_list (x ∷ xs) (z ∷ zs) ≡ false = λ l. let o = less_once x z l in or_from (is_less_break x z) _ o.0 (and_left (same_break x z) (is_less_list xs zs) o.1) in
    elim (either_less x y) [
      | inl l ↦ absurd (false≢true (sym p.0 ∙ l))
      | inr o ↦ elim (either_less y z) [
        | inl l ↦ absurd (false≢true (sym q.0 ∙ l))
        | inr n ↦ elim o [
          | inr l ↦ elim n [ inl e ↦ above (subst (λ (b : Break). is_less_break b x ≡ true) e l) | inr m ↦ above (less_on z y x m l) ]
          | inl e ↦ elim n [
            | inr m ↦ above (subst (λ (b : Break). is_less_break z b ≡ true) (sym e) m)
            | inl f ↦
                let first : is_less_list xs ys ≡ false = rest (same_break x y) (is_less_list xs ys) ((same_break_decides x y).1 e) p.1 in
                let second : is_less_list ys zs ≡ false = rest (same_break y z) (is_less_list ys zs) ((same_break_decides y z).1 f) q.1 in
                subst (λ (b : Break). is_less_list (x ∷ xs) (b ∷ zs) ≡ false) (e ∙ f) (less_rests x xs zs (not_less_on xs ys zs first second))
          ]
        ]
      ]
    ]
  where
    rest : (a b : Bool) → a ≡ true → (a && b) ≡ false → b ≡ false
    rest true b h g = g
    rest false b h g = absurd (false≢true h)

-- behind the same breaks the order is that of the rests
pub less_behind : (front xs ys : List Break) → is_less_list xs ys ≡ false → is_less_list (front ++ xs) (front ++ ys) ≡ false
less_behind [] xs ys h = h
less_behind (b ∷ bs) xs ys h = less_rests b (bs ++ xs) (bs ++ ys) (less_behind bs xs ys h)

pub not_less_itself : (xs : List Break) → is_less_list xs xs ≡ false
not_less_itself [] = refl
not_less_itself (x ∷ xs) = less_rests x xs xs (not_less_itself xs)
