-- Results that stand at the places of their jobs.
use Rattle.std.proofs.Common.{◌≡◌, ◌⊎◌, inl, inr, ℕ, zero, suc, List, [], ◌∷◌, ◌++◌, length, set, refl, sym, ap, ◌∙◌, subst, append_assoc, arith, Option, Some, None, All}
use Rattle.std.specs.Prelude.{slice_get}
use Rattle.std.proofs.lemmas.List.{length-append}
use Rattle.std.proofs.lemmas.List.Elements.{All-head, All-tail}
use Rattle.job_pieces.specs.Results.{AreGiven}

same_some : {X : Type 0} (x y : X) → Some x ≡ Some y → x ≡ y
same_some x y e = cc

-- results that are taken out of their slots, one after another
pub record Taken {O : Type 0} (slots passed left : List (Option O)) (all : List O) : Type 0 where
  pub split : passed ++ left ≡ slots
  pub filled : (at : ℕ) (output : O) → slice_get all at ≡ Some output → slice_get passed at ≡ Some (Some output)
  pub count : length all ≡ length passed

last_get : {X : Type 0} (xs : List X) (x y : X) (at : ℕ) → slice_get (xs ++ x ∷ []) at ≡ Some y → (slice_get xs at ≡ Some y) ⊎ ((at ≡ length xs) × (x ≡ y))
last_get [] x y zero e = inr (refl, same_some x y e)
last_get [] x y (suc at) e = absurd (cc)
last_get (z ∷ xs) x y zero e = inl e
last_get (z ∷ xs) x y (suc at) e = elim (last_get xs x y at e) [
  | inl a ↦ inl a
  | inr b ↦ inr (ap suc b.0, b.1)
]

front_get : {X : Type 0} (xs ys : List X) (k : ℕ) (x : X) → slice_get xs k ≡ Some x → slice_get (xs ++ ys) k ≡ Some x
front_get [] ys k x e = absurd (cc)
front_get (z ∷ xs) ys zero x e = e
front_get (z ∷ xs) ys (suc k) x e = front_get xs ys k x e

seam_get : {X : Type 0} (xs ys : List X) (y : X) → slice_get (xs ++ y ∷ ys) (length xs) ≡ Some y
seam_get [] ys y = refl
seam_get (x ∷ xs) ys y = seam_get xs ys y

-- one more result
pub taken_more : {O : Type 0} (slots passed left next : List (Option O)) (all more : List O) (slot : Option O) (output : O)
    → Taken slots passed left all → left ≡ slot ∷ next → slot ≡ Some output → more ≡ all ++ output ∷ [] → Taken slots (passed ++ slot ∷ []) next more
taken_more {O} slots passed left next all more slot output t e is added = record {
  split = append_assoc passed (slot ∷ []) next ∙ ap (λ (l : List (Option O)). passed ++ l) (sym e) ∙ t.split;
  filled = λ at x f. elim (last_get all output x at (ap (λ (l : List O). slice_get l at) (sym added) ∙ f)) [
    | inl a ↦ front_get passed (slot ∷ []) at (Some x) (t.filled at x a)
    | inr b ↦
        ap (λ n. slice_get (passed ++ slot ∷ []) n) (b.0 ∙ t.count)
        ∙ seam_get passed [] slot
        ∙ ap (λ o. Some o) (is ∙ ap (λ y. Some y) b.1)
  ];
  count = omega (arith, t.count, ap length added, length-append all (output ∷ []), length-append passed (slot ∷ []));
}
