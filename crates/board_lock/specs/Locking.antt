-- The rule of a lock with one word and one slot. All views keep one root. Where the word is 0, a value of that root is at home, and
-- no view is inside. Where it is 1, one view is inside, and the slot is out with it; or that view has retired the lock, and the slot
-- is empty for good. Source: this project's profile.
use Rattle.std.specs.Prelude.{◌≡◌, ◌≢◌, ◌⊎◌, ◌∷◌, [], ℕ, List, Option, Some, None, slice_index, length}
use mathlib.Core.Option.{some, none}
use lib.ListN.{get_elem?}
use Rattle.atomic_table.specs.Table.{State, Me, Step}
use Rattle.board_lock.specs.declared.view.View.{View}

module _ {R : Type 0} where
  abbrev pub view : R → ℕ → View R
  view r stage = record { root = r; stage = stage }

  -- a seat that is outside, inside, or has retired the lock
  abbrev pub outside : R → View R
  outside r = view r 0

  abbrev pub inside : R → View R
  inside r = view r 1

  abbrev pub retired : R → View R
  retired r = view r 2

  abbrev pub AllOutside : List (View R) → Type 0
  AllOutside views = (i : ℕ) (v : View R) → get_elem? views i ≡ some v → v.stage ≡ 0

  -- the seat's view has this stage, and all others are outside
  abbrev pub OneAt : ℕ → ℕ → List (View R) → Type 0
  OneAt seat stage views =
      ((w : View R) × (get_elem? views seat ≡ some w) × (w.stage ≡ stage))
      × ((i : ℕ) (v : View R) → get_elem? views i ≡ some v → i ≢ seat → v.stage ≡ 0)

module _ {R T : Type 0} (root : T → R) where
  -- the word is 0: nobody is inside, and a value of the root is at home
  abbrev pub IsFree : R → State (Option T) (View R) → Type 0
  IsFree key s =
      (slice_index s.words 0 ≡ 0) × AllOutside s.views
      × ((value : T) × (get_elem? s.homes 0 ≡ some (some (Some value))) × (root value ≡ key))

  -- the word is 1: one seat is inside, and has the slot
  abbrev pub IsTaken : State (Option T) (View R) → Type 0
  IsTaken s = (slice_index s.words 0 ≡ 1) × ((seat : ℕ) × OneAt seat 1 s.views) × (get_elem? s.homes 0 ≡ some none)

  -- the word is 1: one seat has retired the lock, and the slot is empty
  abbrev pub IsRetired : State (Option T) (View R) → Type 0
  IsRetired s = (slice_index s.words 0 ≡ 1) × ((seat : ℕ) × OneAt seat 2 s.views) × (get_elem? s.homes 0 ≡ some (some None))

  pub record Guarded (key : R) (s : State (Option T) (View R)) : Type 0 where
    pub one_word : length s.words ≡ 1
    pub roots : (i : ℕ) (v : View R) → get_elem? s.views i ≡ some v → v.root ≡ key
    pub state : IsFree key s ⊎ (IsTaken s ⊎ IsRetired s)

  -- the seat has gone inside, with a value of its root
  abbrev pub Seized : Me (Option T) (View R) → Me (Option T) (View R) → Type 0
  Seized m n = (n.0 ≡ inside m.0.root) × ((value : T) × (n.1 ≡ (0, Some value) ∷ []) × (root value ≡ m.0.root))

  -- a seat tries the word: where it finds 0, it goes inside, and else all stays
  abbrev pub Tried : Step (Option T) → Me (Option T) (View R) → ℕ → Me (Option T) (View R) → Type 0
  Tried st m r n = (r ≡ 0 → Seized m n) × (r ≢ 0 → n ≡ m)
