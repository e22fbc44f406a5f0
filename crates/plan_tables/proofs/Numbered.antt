-- Texts over a numbered list, one element more at a time.
use Rattle.plan_tables.proofs.Common.{◌≡◌, ℕ, ◌+◌, ◌<◌, List, [], ◌∷◌, ◌++◌, length, get_or, take, sym, ap, ◌∙◌, arith, enumerate_from, flat_map, flat_map_more, take_more, length-take-le}

-- a list with one element more, numbered
pub enumerate_more : {X : Type 0} (n : ℕ) (xs : List X) (x : X) → enumerate_from n (xs ++ x ∷ []) ≡ enumerate_from n xs ++ (n + length xs, x) ∷ []
enumerate_more n [] x = ap (λ (k : ℕ). (k, x) ∷ []) (omega arith)
enumerate_more n (y ∷ ys) x =
    ap (λ l. (n, y) ∷ l) (enumerate_more (n + 1) ys x ∙ ap (λ k. enumerate_from (n + 1) ys ++ (k, x) ∷ []) (omega arith))

-- a text over one element more
pub numbered_more : {X : Type 0} (f : ℕ × X → List ℕ) (bs : List ℕ) (xs : List X) (k : ℕ) (d : X) → k < length xs → (bs ++ flat_map f (enumerate_from 0 (take k xs))) ++ f (k, get_or xs k d) ≡ bs ++ flat_map f (enumerate_from 0 (take (k + 1) xs))
numbered_more {X} f bs xs k d l =
    let x = get_or xs k d in
    let counted : 0 + length (take k xs) ≡ k = omega (arith, length-take-le k xs (omega arith)) in
    flat_map_more f bs (enumerate_from 0 (take k xs)) (k, x)
    ∙ ap (λ (ys : List (ℕ × X)). bs ++ flat_map f ys)
    (ap (λ (n : ℕ). enumerate_from 0 (take k xs) ++ (n, x) ∷ []) (sym counted) ∙ sym (enumerate_more 0 (take k xs) x) ∙ ap (λ (ys : List X). enumerate_from 0 ys) (sym (take_more xs k d l)))
