-- Seats with turns as their lock was made, given away one after another.
use Rattle.worker_gate.proofs.Common.{◌≡◌, ℕ, zero, suc, List, length, get_or, remove, refl, ap, ◌∙◌, Option, new_seat, new_seats, SeatView}
use Rattle.atomic_table.specs.Seated.{TableId}

module _ {R : Type 0} (lock : TableId) (root : Option R) where
  pub new_count : (first n : ℕ) → length (new_seats lock root first n) ≡ n
  new_count first zero = refl
  new_count first (suc n) = ap suc (new_count (suc first) n)

  -- the first of them, and the others
  pub seat_first : (xs : List (SeatView R)) (first n m : ℕ) (d : SeatView R) → xs ≡ new_seats lock root first n → n ≡ suc m → get_or xs 0 d ≡ new_seat lock root first
  seat_first xs first n m d is more = ap (λ (l : List (SeatView R)). get_or l 0 d) (is ∙ ap (new_seats lock root first) more)

  pub seats_rest : (xs : List (SeatView R)) (first n m : ℕ) → xs ≡ new_seats lock root first n → n ≡ suc m → remove xs 0 ≡ new_seats lock root (suc first) m
  seats_rest xs first n m is more = ap (λ (l : List (SeatView R)). remove l 0) (is ∙ ap (new_seats lock root first) more)
