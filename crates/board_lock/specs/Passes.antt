-- What clauses say of a seat at a lock. Source: this project's profile.
use Rattle.std.specs.Prelude.{◌≡◌, ◌∷◌, [], Option, None}
use Rattle.atomic_table.specs.Seated.{TableId}
use Rattle.atomic_table.specs.declared.shared.Seat.{Seat}
use Rattle.atomic_table.specs.declared.badge.Badge.{Badge}
use Rattle.board_lock.specs.declared.view.View.{View}

module _ {T R : Type 0} where
  -- what the seat knows of the value behind its lock
  abbrev pub root_of : Seat (Option T) (View R) → R
  root_of p = p.me.0.root

  -- the seat is at this lock, and outside
  abbrev pub IsOutside : TableId → Seat (Option T) (View R) → Type 0
  IsOutside lock p = (p.table_id ≡ lock) × (p.me.1 ≡ []) × (p.me.0.stage ≡ 0)

  -- the seat is at this lock, and inside: the value is out of the slot
  abbrev pub IsInside : TableId → Seat (Option T) (View R) → Type 0
  IsInside lock p = (p.table_id ≡ lock) × (p.me.1 ≡ (0, None) ∷ []) × (p.me.0.stage ≡ 1)

-- a badge is that of a seat at this lock, which is outside, and knows a root for which P holds
abbrev pub RestsAt : {R : Type 0} → (R → Type 0) → TableId → Badge (View R) → Type 0
RestsAt {R} P lock b = (b.table_id ≡ lock) × ((v : View R) × (b.views ≡ v ∷ []) × (v.stage ≡ 0) × P v.root)
