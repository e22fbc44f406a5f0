-- A text to which one piece after another is added.
use Rattle.plan_tables.proofs.Common.{◌≡◌, ℕ, List, ◌++◌, Result, OnOk, ap, subst, ◌∙◌, append_assoc}

-- two pieces one after another are one piece
pub joined : (a x y : List ℕ) {b c : List ℕ} → b ≡ a ++ x → c ≡ b ++ y → c ≡ a ++ (x ++ y)
joined a x y e f = f ∙ ap (λ (t : List ℕ). t ++ y) e ∙ append_assoc a x y

-- the same where adding the second may fail
pub joined_last : {V E : Type 0} (r : Result V E) (a x y c : List ℕ) {b : List ℕ} → b ≡ a ++ x → OnOk r (c ≡ b ++ y) → OnOk r (c ≡ a ++ (x ++ y))
joined_last r a x y c e = subst (λ (t : List ℕ). OnOk r (c ≡ t)) (ap (λ (t : List ℕ). t ++ y) e ∙ append_assoc a x y)
