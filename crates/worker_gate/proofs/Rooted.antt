-- What the root of a board's lock says of the board as it was opened.
use Rattle.worker_gate.proofs.Common.{◌≡◌, ◌⊎◌, inr, ℕ, ◌<◌, ◌^◌, true, All, List, length, get_or, refl, sym, ap, subst, None, Snapshot, Problem, BoardView, BoardRoot, root_at, AreTurns, empty_hands, NoMemory, KnowsBoard, WorkersEnd}

module _ {B : Type 0} (seen : B → BoardView) where
  -- a worker of a number below that of the workers knows the board
  pub knows : (i : Problem) (number workers : ℕ) (opened : Snapshot B) → (seen opened.value).instance ≡ i → (seen opened.value).budget < 2 ^ 63 → number < workers → KnowsBoard seen i number (root_at opened workers)
  knows i number workers opened instance budget low = record { instance = instance; budget = budget; worker = low }

  -- workers of whom each knows the root, each at the place of its number
  pub all_know : {A : Type 0} (number : A → ℕ) (P : A → Type 0) (i : Problem) (root : BoardRoot B) (xs : List A)
      → ((k : ℕ) → k < length xs → KnowsBoard seen i k root) → ((k : ℕ) (d : A) → k < length xs → number (get_or xs k d) ≡ k) → All P xs
      → All (λ p. P p × KnowsBoard seen i (number p) root) xs
  all_know number P i root xs known numbers rests k d low = (rests k d low, subst (λ (n : ℕ). KnowsBoard seen i n root) (sym (numbers k d low)) (known k low))

  -- turns from the board of one root are turns from that of the same
  pub turns_from : (workers n : ℕ) (opened first : Snapshot B) (board : B) (new : BoardView) (commits sum : ℕ) → root_at opened workers ≡ root_at first n → first.value ≡ board → commits ≡ sum
      → ∥ AreTurns workers (seen opened.value) new commits ∥₁ → ∥ AreTurns n (seen board) new sum ∥₁
  turns_from workers n opened first board new commits sum root is same turns =
      let a : ∥ AreTurns n (seen opened.value) new commits ∥₁ = subst (λ (k : ℕ). ∥ AreTurns k (seen opened.value) new commits ∥₁) (ap (λ (r : BoardRoot B). r.workers) root) turns in
      let b : ∥ AreTurns n (seen first.value) new commits ∥₁ = subst (λ (o : Snapshot B). ∥ AreTurns n (seen o.value) new commits ∥₁) (ap (λ (r : BoardRoot B). r.opened) root) a in
      let e : ∥ AreTurns n (seen board) new commits ∥₁ = subst (λ (v : B). ∥ AreTurns n (seen v) new commits ∥₁) is b in
      subst (λ (k : ℕ). ∥ AreTurns n (seen board) new k ∥₁) same e
