-- What contracts see of a lock and of its seats. Source: this project's profile.
use Rattle.std.specs.Prelude.{◌≡◌, ◌⊎◌, ℕ, zero, suc, ◌^◌, ◌-◌, List, [], ◌∷◌, ◌++◌, Option, drop, length}
use Rattle.atomic_table.specs.Seated.{TableId}
use Rattle.turn_lock.specs.declared.pass.Pass.{Pass}
use Rattle.turn_lock.specs.Passes.{IsPrefix}

-- a lock: its name, which no other lock has, and how many seats it was made with
pub record LockView : Type 0 where
  pub name : TableId
  pub seats : ℕ

-- a seat: the name of its lock, its number, how many turns it has left, the root of the lock's value, the passes that it knows, and its own
pub record SeatView (R : Type 0) : Type 0 where
  pub lock : TableId
  pub number : ℕ
  pub left : ℕ
  pub root : Option R
  pub known : List Pass
  pub mine : List Pass

module _ {R : Type 0} where
  -- a seat as a lock is made
  abbrev pub new_seat : TableId → Option R → ℕ → SeatView R
  new_seat lock root number = record { lock = lock; number = number; left = 2 ^ 56; root = root; known = []; mine = [] }

  -- so many seats as a lock is made, numbered from the first on
  abbrev pub new_seats : TableId → Option R → ℕ → ℕ → List (SeatView R)
  new_seats lock root first zero = []
  new_seats lock root first (suc count) = new_seat lock root first ∷ new_seats lock root (suc first) count

  -- the seat knows these passes
  abbrev pub knows : SeatView R → List Pass → SeatView R
  knows seat passes = record seat { known = passes }

  -- the seat that was inside, after a turn that left this history: its own passes are those that it had, and the one behind all that was known
  abbrev pub left_with : SeatView R → List Pass → SeatView R
  left_with seat passes = record seat { known = passes; mine = seat.mine ++ drop (length seat.known) passes; left = seat.left - 1 }

  -- What the second of two seats is once they have met: of what both knew one is a front of the other, and it knows the longer one.
  abbrev pub Meets : SeatView R → SeatView R → SeatView R → Type 0
  Meets a b after = (IsPrefix b.known a.known × (after ≡ knows b a.known)) ⊎ (IsPrefix a.known b.known × (after ≡ b))
