-- The seat of a worker at the lock of a board: at its place, or at a lock whose turns are taken in the order of tickets. Source: this project's profile.
use Rattle.std.specs.Prelude.{◌≡◌, ℕ, Option, Some}
use Rattle.std.specs.Option.{option_map_or}
use Rattle.atomic_table.specs.Seated.{TableId}
use Rattle.atomic_table.specs.declared.badge.Badge.{Badge}
use Rattle.board_lock.specs.declared.roots.BoardRoot.{BoardRoot}
use Rattle.board_lock.specs.declared.view.View.{View}
use Rattle.board_lock.specs.Passes.{RestsAt}
use Rattle.turn_lock.specs.Seats.{LockView, SeatView}
use Rattle.worker_gate.specs.declared.chair.Chair.{Chair}
use Rattle.worker_gate.specs.declared.chair.Chair.TheVariants.{Badge as BadgeThere, Turns as TurnsThere}
use Rattle.worker_gate.specs.declared.chair.TurnPass.{TurnPass}

module _ {B : Type 0} where
  -- how many turns the seat has left, if it is there
  abbrev pub left_of : Option (SeatView (BoardRoot B)) → ℕ
  left_of seat = option_map_or (λ s. s.left) seat 0

  -- the seat of a number is there, it is of this lock, and knows that root
  abbrev pub IsSeatAt : LockView → ℕ → BoardRoot B → Option (SeatView (BoardRoot B)) → Type 0
  IsSeatAt lock number root seat =
      (there : SeatView (BoardRoot B)) × (seat ≡ Some there) × (there.lock ≡ lock.name) × (there.number ≡ number) × (there.root ≡ Some root)

  -- at a place lies a seat that is at this lock, outside, and knows that root
  abbrev pub HasBadge : TableId → BoardRoot B → Chair B → Type 0
  HasBadge lock root chair = (badge : Badge (View (BoardRoot B))) × (chair ≡ BadgeThere badge) × RestsAt (λ r. r ≡ root) lock badge

  -- at a place lies the seat of a number, which is at this lock with turns, and knows that root
  abbrev pub HasTurns : LockView → ℕ → BoardRoot B → Chair B → Type 0
  HasTurns lock number root chair = (pass : TurnPass B) × (chair ≡ TurnsThere pass) × IsSeatAt lock number root pass.seat × (pass.root.value ≡ root)
