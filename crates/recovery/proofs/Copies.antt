-- A copy equals what it is made of, part by part.
use Rattle.recovery.proofs.Common.{◌≡◌, ◌∙◌, ℕ, ℤ, List, ap, AllZip, same_from_all_zip, Class, Prices}
use Rattle.break_rules.specs.declared.Break.{Break}

pub same_items : {X : Type 0} (xs ys : List X) → AllZip (λ (x y : X). y ≡ x) xs ys → ys ≡ xs
same_items {X} xs ys z = same_from_all_zip (λ (x y : X). y ≡ x) xs ys z (λ x y e. e)

abbrev class_of : ℕ → ℕ → List Break → Class
class_of shift day prefix = record { shift = shift; day = day; prefix = prefix }

pub same_class : (a b : Class) → a.shift ≡ b.shift → a.day ≡ b.day → a.prefix ≡ b.prefix → a ≡ b
same_class a b s d p = ap (λ (x : ℕ). class_of x a.day a.prefix) s ∙ ap (λ (x : ℕ). class_of b.shift x a.prefix) d ∙ ap (λ (x : List Break). class_of b.shift b.day x) p

abbrev prices_of : ℕ → List ℤ → List ℕ → Prices
prices_of q slots cuts = record { q = q; slots = slots; cuts = cuts }

pub same_prices : (a b : Prices) → a.q ≡ b.q → a.slots ≡ b.slots → a.cuts ≡ b.cuts → a ≡ b
same_prices a b q s c = ap (λ (x : ℕ). prices_of x a.slots a.cuts) q ∙ ap (λ (x : List ℤ). prices_of b.q x a.cuts) s ∙ ap (λ (x : List ℕ). prices_of b.q b.slots x) c
