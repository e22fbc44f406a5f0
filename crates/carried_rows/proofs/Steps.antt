-- One step of a walk: along numbers, and along rows that fit.
use Rattle.carried_rows.proofs.Common.{◌≡◌, ℕ, suc, ◌+◌, ◌-◌, ◌<◌, Bool, true, false, cond, ◌==◌, List, [], ◌∷◌, filter, drop, length, slice_index_or, refl, sym, ap, ◌∙◌, arith, Some, drop_more, find, range_with_len, Row, moved, fitted}

-- a number that doesn't do isn't the first that does
pub find_past : (p : ℕ → Bool) (a n : ℕ) → a < n → p a ≡ false → find p (range_with_len a (n - a)) ≡ find p (range_with_len (a + 1) (n - (a + 1)))
find_past p a n l h =
    let e : n - a ≡ suc (n - (a + 1)) = omega arith in
    ap (λ (k : ℕ). find p (range_with_len a k)) e ∙ ap (λ (b : Bool). cond b (Some a) (find p (range_with_len (a + 1) (n - (a + 1))))) h

-- no room
none_fit : (t : ℕ) (rows : List Row) → fitted t 0 rows ≡ []
none_fit t [] = refl
none_fit t (r ∷ rows) = refl

pub fit_none : (t room : ℕ) (ys zs : List Row) → room ≡ 0 → fitted t 0 ys ≡ fitted t room zs
fit_none t room ys zs e = none_fit t ys ∙ sym (ap (λ (k : ℕ). fitted t k zs) e ∙ none_fit t zs)

-- the rows from a place on
pub drop_item : (items rows : List Row) (k : ℕ) (r : Row) → items ≡ rows → k < length items → r ≡ slice_index_or items k r → drop k rows ≡ r ∷ drop (k + 1) rows
drop_item items rows k r e l is =
    ap (drop k) (sym e) ∙ drop_more items k r l ∙ ap (λ (x : Row). x ∷ drop (k + 1) items) (sym is) ∙ ap (λ (rs : List Row). r ∷ drop (k + 1) rs) e
