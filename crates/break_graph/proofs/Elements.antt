-- Elements of lists, by their places.
use Rattle.break_graph.proofs.Common.{◌≡◌, inl, inr, ℕ, zero, suc, ◌<◌, List, [], ◌∷◌, length, get_or, slice_get, Some, refl, ap, subst, arith, Has}
use Rattle.std.proofs.lemmas.Option.{slice_get_within, get_or_from_slice_get}

pub Has-get_or : {X : Type 0} (xs : List X) (k : ℕ) (d : X) → k < length xs → Has xs (get_or xs k d)
Has-get_or [] k d h = absurd (omega arith)
Has-get_or (x ∷ xs) zero d h = inl refl
Has-get_or (x ∷ xs) (suc k) d h = inr (Has-get_or xs k d (omega arith))

pub Has-get : {X : Type 0} (xs : List X) (k : ℕ) (x : X) → slice_get xs k ≡ Some x → Has xs x
Has-get {X} xs k x h = subst (Has xs) (get_or_from_slice_get xs k x x h) (Has-get_or xs k x (slice_get_within xs k x h))

pub has_place : {X : Type 0} (xs : List X) (x : X) → Has xs x → (i : ℕ) × (slice_get xs i ≡ Some x)
has_place [] x m = absurd m
has_place (y ∷ ys) x m = elim m [ inl e ↦ (0, ap Some e) | inr t ↦ let r = has_place ys x t in (suc r.0, r.1) ]
