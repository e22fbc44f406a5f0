-- The rule of a ticket lock. Its table has two words, the next ticket and the one that is served, and one slot. There is one history of passes; the
-- value in the slot has it, or the one seat that is inside. Source: this project's profile.
use Rattle.std.specs.Prelude.{◌≡◌, ◌≢◌, ◌⊎◌, ◌+◌, ◌-◌, ◌*◌, ◌<◌, ◌≤◌, ◌^◌, ◌==◌, ◌∷◌, ◌++◌, [], ℕ, zero, suc, Bool, List, Option, Some, None, cond, drop, length, slice_index}
use mathlib.Core.Option.{some, none}
use lib.ListN.{get_elem?}
use Rattle.atomic_table.specs.Table.{State, Me}
use Rattle.atomic_table.specs.Seated.{TableId}
use Rattle.turn_lock.specs.declared.pass.Pass.{Pass}
use Rattle.turn_lock.specs.declared.view.Part.{Part}
use Rattle.turn_lock.specs.declared.view.View.{View}
use Rattle.turn_lock.specs.Passes.{of_number, IsPrefix}
use Rattle.turn_lock.specs.Seats.{SeatView}

-- a number of each, added up
abbrev pub total : {V : Type 0} → (V → ℕ) → List V → ℕ
total f [] = 0
total f (v ∷ vs) = f v + total f vs

abbrev pub one_if : Bool → ℕ
one_if b = cond b 1 0

-- a number that counts for a seat alone
abbrev pub for_seat : ℕ → ℕ → ℕ
for_seat zero x = 0
for_seat (suc zero) x = x
for_seat (suc (suc k)) x = 0

module _ {R : Type 0} where
  -- ---- views

  abbrev pub spent : View R
  spent = record { kind = 0; root = None; number = 0; stage = 0; ticket = 0; left = 0; known = []; mine = []; heard = []; parts = 0; others = [] }

  -- a seat as a lock is made
  abbrev pub fresh : Option R → ℕ → Part R
  fresh root number = record { root = root; number = number; known = []; mine = [] }

  abbrev pub fresh_from : Option R → ℕ → ℕ → List (Part R)
  fresh_from root first zero = []
  fresh_from root first (suc count) = fresh root first ∷ fresh_from root (suc first) count

  -- The first seat has the last number. It stands for so many others, numbered from the first on, to which it hasn't given theirs yet.
  abbrev pub making : Option R → ℕ → ℕ → ℕ → View R
  making root last first others = record { kind = 1; root = root; number = last; stage = 0; ticket = 0; left = (others + 1) * 2 ^ 56; known = []; mine = []; heard = []; parts = others + 1; others = fresh_from root first others }

  abbrev pub first_view : R → ℕ → View R
  first_view r seats = making (Some r) (seats - 1) 0 (seats - 1)

  abbrev pub behind : List (Part R) → List (Part R)
  behind [] = []
  behind (p ∷ ps) = ps

  -- it gives the first of those others its number
  abbrev pub dealer : View R → View R
  dealer v = record v { left = v.left - 2 ^ 56; parts = v.parts - 1; others = behind v.others }

  abbrev pub seat_of : List (Part R) → View R
  seat_of [] = spent
  seat_of (p ∷ ps) = record { kind = 1; root = p.root; number = p.number; stage = 0; ticket = 0; left = 2 ^ 56; known = p.known; mine = p.mine; heard = []; parts = 1; others = [] }

  abbrev pub dealt : View R → View R
  dealt v = seat_of v.others

  -- what is known of a seat that is taken in
  abbrev pub part_of : View R → Part R
  part_of v = record { root = v.root; number = v.number; known = v.known; mine = v.mine }

  abbrev pub gathers : View R → View R → View R
  gathers v w = record v { parts = v.parts + w.parts; others = part_of w ∷ v.others }

  abbrev pub drew : View R → ℕ → View R
  drew v ticket = record v { stage = 1; ticket = ticket; left = v.left - 1 }

  abbrev pub entered : View R → List Pass → View R
  entered v passes = record v { stage = 2; known = passes }

  abbrev pub left_view : View R → List Pass → List Pass → View R
  left_view v passes new = record v { stage = 0; known = passes; mine = v.mine ++ new }

  -- after a turn that left this history
  abbrev pub after_turn : View R → List Pass → View R
  after_turn v passes = left_view v passes (drop (length v.known) passes)

  -- a note of what a seat knows
  abbrev pub note_of : View R → View R
  note_of v = record { kind = 2; root = v.root; number = v.number; stage = 0; ticket = 0; left = 0; known = v.known; mine = []; heard = []; parts = 0; others = [] }

  abbrev pub hears : View R → View R → View R
  hears v w = record v { heard = w.known }

  -- of what the seat knew and what it heard, one begins the other, and it knows the longer one now
  abbrev pub Compared : View R → View R → Type 0
  Compared v w =
      (w ≡ record v { known = w.known; heard = [] })
      × ((IsPrefix v.known v.heard × (w.known ≡ v.heard)) ⊎ (IsPrefix v.heard v.known × (w.known ≡ v.known)))

  -- ---- what contracts see of a view

  abbrev pub first_of : List (View R) → View R
  first_of [] = spent
  first_of (v ∷ vs) = v

  abbrev pub seen_as : TableId → ℕ → ℕ → View R → SeatView R
  seen_as lock number left v = record { lock = lock; number = number; left = left; root = v.root; known = v.known; mine = v.mine }

  -- a badge of one seat that is outside, with its number and the turns that it has left
  abbrev pub IsOutside : ℕ → ℕ → List (View R) → Type 0
  IsOutside number left views =
      (views ≡ first_of views ∷ []) × ((first_of views).kind ≡ 1) × ((first_of views).stage ≡ 0) × ((first_of views).parts ≡ 1)
      × ((first_of views).number ≡ number) × ((first_of views).left ≡ left)

  -- a seat that is inside, with the slot in its hand: the turn that it is in counts as one that it has left
  abbrev pub IsInside : {T : Type 0} → ℕ → ℕ → Me (Option T) (View R) → Type 0
  IsInside number left me =
      (me.1 ≡ (0, None) ∷ []) × (me.0.kind ≡ 1) × (me.0.stage ≡ 2) × (me.0.parts ≡ 1) × (me.0.number ≡ number) × (me.0.left + 1 ≡ left)

  -- ---- the rule

  abbrev pub At : List (View R) → ℕ → View R → Type 0
  At views by v = get_elem? views by ≡ some v

  -- how many of the parts have that number
  abbrev pub times_in : ℕ → List (Part R) → ℕ
  times_in n [] = 0
  times_in n (p ∷ ps) = one_if (p.number == n) + times_in n ps

  -- how often a view stands for the seat of that number
  abbrev pub claims : ℕ → View R → ℕ
  claims n v = for_seat v.kind (one_if (v.number == n) + times_in n v.others)

  -- each part has the root, knows a front of the history, and its own passes in it
  abbrev pub AreKnown : R → List Pass → List (Part R) → Type 0
  AreKnown key log [] = Unit {0}
  AreKnown key log (p ∷ ps) = ((p.root ≡ Some key) × IsPrefix p.known log × (of_number p.number log ≡ p.mine)) × AreKnown key log ps

  -- what each view is, beside the history
  pub record Fits (key : R) (log : List Pass) (v : View R) : Type 0 where
    pub root : 0 < v.kind → v.root ≡ Some key
    pub known : 0 < v.kind → IsPrefix v.known log
    pub mine : v.kind ≡ 1 → of_number v.number log ≡ v.mine
    pub inside : v.stage ≡ 2 → v.known ≡ log
    pub seated : 0 < v.stage → v.kind ≡ 1
    pub heard : IsPrefix v.heard log
    pub part : v.kind ≡ 1 → 0 < v.parts
    pub others : v.kind ≡ 1 → AreKnown key log v.others

module _ {R T : Type 0} (root : T → R) (passes : T → List Pass) where
  -- the value is at home, has the history, and nobody is inside
  abbrev pub IsHome : R → List Pass → State (Option T) (View R) → Type 0
  IsHome key log s =
      ((by : ℕ) (v : View R) → At s.views by v → v.stage ≢ 2)
      × ((value : T) × (get_elem? s.homes 0 ≡ some (some (Some value))) × (root value ≡ key) × (passes value ≡ log))

  -- one seat is inside, and has the slot
  abbrev pub IsOut : State (Option T) (View R) → Type 0
  IsOut s = (by : ℕ) × (v : View R) × At s.views by v × (v.stage ≡ 2) × (get_elem? s.homes 0 ≡ some none)

  pub record IsRuled (key : R) (seats : ℕ) (s : State (Option T) (View R)) : Type 0 where
    pub two_words : length s.words ≡ 2
    pub log : List Pass
    pub order : slice_index s.words 1 ≤ slice_index s.words 0
    pub room : slice_index s.words 0 + total (λ v. v.left) s.views ≤ 2 ^ 60
    pub drawn : (by : ℕ) (v : View R) → At s.views by v → 0 < v.stage → (slice_index s.words 1 ≤ v.ticket) × (v.ticket < slice_index s.words 0)
    pub apart : (by : ℕ) (v : View R) (other : ℕ) (w : View R) → At s.views by v → At s.views other w → 0 < v.stage → 0 < w.stage → v.ticket ≡ w.ticket → by ≡ other
    pub served : (by : ℕ) (v : View R) → At s.views by v → v.stage ≡ 2 → v.ticket ≡ slice_index s.words 1
    pub numbers : (n : ℕ) → total (claims n) s.views ≤ 1
    pub parts : total (λ v. v.parts) s.views ≡ seats
    pub fits : (by : ℕ) (v : View R) → At s.views by v → Fits key log v
    pub slot : IsHome key log s ⊎ IsOut s

  -- what a look that finds the seat's ticket tells: the value, whose passes begin with what the seat knew, and hold its own
  abbrev pub GoesInside : Me (Option T) (View R) → Me (Option T) (View R) → Type 0
  GoesInside m n =
      (value : T) × (n ≡ (entered m.0 (passes value), (0, Some value) ∷ [])) × (m.0.root ≡ Some (root value))
      × IsPrefix m.0.known (passes value) × (of_number m.0.number (passes value) ≡ m.0.mine)
