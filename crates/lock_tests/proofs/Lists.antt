-- Lists of told pairs, and of seats as a lock is made.
use Rattle.std.proofs.Common.{◌≡◌, ℕ, zero, suc, ◌^◌, List, [], ◌∷◌, ◌++◌, All, length, refl, ap, Option}
use Rattle.std.proofs.lemmas.List.Elements.{All-cons, All-nil}
use Rattle.atomic_table.specs.Seated.{TableId}
use Rattle.best_cell.specs.Told.{last_behind, last_of}
use Rattle.turn_lock.specs.Seats.{new_seat, new_seats, SeatView}

last_behind_push : (p : ℕ × ℕ) (xs : List (ℕ × ℕ)) (q : ℕ × ℕ) → last_behind p (xs ++ q ∷ []) ≡ q
last_behind_push p [] q = refl
last_behind_push p (x ∷ xs) q = last_behind_push x xs q

pub last_push : (xs : List (ℕ × ℕ)) (q : ℕ × ℕ) → last_of (xs ++ q ∷ []) ≡ q
last_push [] q = refl
last_push (x ∷ xs) q = last_behind_push x xs q

module _ {R : Type 0} where
  -- a seat at this lock, with all its turns
  abbrev pub IsNewAt : TableId → SeatView R → Type 0
  IsNewAt lock s = (s.lock ≡ lock) × (s.left ≡ 2 ^ 56)

  pub all_new : (lock : TableId) (root : Option R) (first count : ℕ) → All (IsNewAt lock) (new_seats lock root first count)
  all_new lock root first zero = All-nil (IsNewAt lock)
  all_new lock root first (suc count) = All-cons (IsNewAt lock) (new_seat lock root first) (new_seats lock root (suc first) count) (refl, refl) (all_new lock root (suc first) count)

  pub all_at : (lock : TableId) (root : Option R) (first count : ℕ) → All (λ (s : SeatView R). s.lock ≡ lock) (new_seats lock root first count)
  all_at lock root first zero = All-nil (λ (s : SeatView R). s.lock ≡ lock)
  all_at lock root first (suc count) = All-cons (λ (s : SeatView R). s.lock ≡ lock) (new_seat lock root first) (new_seats lock root (suc first) count) refl (all_at lock root (suc first) count)

  pub count_new : (lock : TableId) (root : Option R) (first count : ℕ) → length (new_seats lock root first count) ≡ count
  count_new lock root first zero = refl
  count_new lock root first (suc count) = ap suc (count_new lock root (suc first) count)
