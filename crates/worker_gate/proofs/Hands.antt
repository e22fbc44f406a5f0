-- The hands of workers, as they are emptied one after another.
use Rattle.worker_gate.proofs.Common.{◌≡◌, inl, inr, ℕ, zero, suc, ◌+◌, ◌<◌, List, [], ◌∷◌, length, set, replicate, refl, sym, ap, ◌∙◌, arith, Option, Some, None, ∥∥₁_elim, props, cases_lt, BoardView, IsSoundBoard, empty_hands, hand, hand_set, AreEmptyFrom, AreTurns, clear_of, turns_keep}

none_some : (x : ℕ) → None ≡ Some x → ⊥
none_some x e = cc (e)

no_node : (h : Option ℕ) → ((x : ℕ) → h ≡ Some x → ⊥) → h ≡ None
no_node None never = refl
no_node (Some x) never = absurd (never x refl)

-- an empty hand stays as it is where it is emptied
pub empty_already : (hands : List (Option ℕ)) (w : ℕ) → w < length hands → hand hands w ≡ None → hands ≡ set hands w None
empty_already [] w low e = absurd (omega arith)
empty_already (h ∷ hands) zero low e = ap (λ (x : Option ℕ). x ∷ hands) e
empty_already (h ∷ hands) (suc w) low e = ap (λ (rest : List (Option ℕ)). h ∷ rest) (empty_already hands w (omega arith) e)

-- where the hands below a number are empty, and the hand of that number is emptied, those below the next number are empty
pub emptied_more : (hands : List (Option ℕ)) (at : ℕ) → ((w : ℕ) → w < at → hand hands w ≡ None) → (w : ℕ) → w < at + 1 → hand (set hands at None) w ≡ None
emptied_more hands at before w low = no_node (hand (set hands at None) w) (λ x e.
    elim (hand_set hands at w None x e) [
      | inl p ↦ none_some x p.1
      | inr p ↦ let less : w < at = omega (arith, low, p.0) in none_some x (sym (before w less) ∙ p.1)
    ])

all_empty : (hands : List (Option ℕ)) → ((w : ℕ) → hand hands w ≡ None) → hands ≡ replicate (length hands) None
all_empty [] each = refl
all_empty (h ∷ hands) each =
    let rest : hands ≡ replicate (length hands) None = all_empty hands (λ w. each (suc w)) in
    ap (λ (x : Option ℕ). x ∷ hands) (each 0) ∙ ap (λ (l : List (Option ℕ)). None ∷ l) rest

-- where all workers' hands are empty, so are all hands
pub whole_empty : (workers : ℕ) (hands : List (Option ℕ)) → length hands ≡ 16 → AreEmptyFrom workers hands → ((w : ℕ) → w < workers → hand hands w ≡ None) → hands ≡ empty_hands
whole_empty workers hands sixteen far near =
    let each : (w : ℕ) → hand hands w ≡ None = λ w. elim (cases_lt w workers) [ inl low ↦ near w low | inr high ↦ far w high ] in
    all_empty hands each ∙ ap (λ (n : ℕ). replicate n None) sixteen

-- the same of a board whose workers' turns began with empty hands
pub all_emptied : (workers : ℕ) (old new : BoardView) (commits : ℕ) → old.hands ≡ empty_hands → IsSoundBoard new → ∥ AreTurns workers old new commits ∥₁
    → ((w : ℕ) → w < workers → hand new.hands w ≡ None) → new.hands ≡ empty_hands
all_emptied workers old new commits empty sound turns near =
    ∥∥₁_elim turns (hlevel props) (λ there. whole_empty workers new.hands sound.sixteen (clear_of workers old new commits empty there) near)

-- the budget is that of the board as it was opened
pub budget_merely : (workers : ℕ) (old new : BoardView) (commits : ℕ) → ∥ AreTurns workers old new commits ∥₁ → new.budget ≡ old.budget
budget_merely workers old new commits turns = ∥∥₁_elim turns (hlevel props) (λ there. (turns_keep workers old new commits there).budget)
