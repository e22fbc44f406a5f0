-- The folder of a plan: its files, each under its own name and under its other one, and the marker. Which of a folder's contents are an old plan,
-- a new one, or a new one that is to be put in place.
use Rattle.std.specs.Prelude.{◌≡◌, ◌⊎◌, ◌<◌, ℕ, List, [], slice_index_or, Bool, true, false, Option, None, Some, is_some}

-- the bytes of each file under its own name and under its other one, by the file's number, and whether the marker stands
pub record Held : Type 0 where
  pub whole : ℕ → Option (List ℕ)
  pub fresh : ℕ → Option (List ℕ)
  pub is_marked : Bool

-- what changes the bytes of one file under its other name, or leaves them, and nothing else
pub record ChangesFresh (file : ℕ) (before after : Held) : Type 0 where
  pub wholes : (k : ℕ) → after.whole k ≡ before.whole k
  pub others : (k : ℕ) → (k ≡ file → ⊥) → after.fresh k ≡ before.fresh k
  pub marker : after.is_marked ≡ before.is_marked

-- what changes the bytes of one file under its own name, or leaves them, and nothing else
pub record ChangesWhole (file : ℕ) (before after : Held) : Type 0 where
  pub freshes : (k : ℕ) → after.fresh k ≡ before.fresh k
  pub others : (k : ℕ) → (k ≡ file → ⊥) → after.whole k ≡ before.whole k
  pub marker : after.is_marked ≡ before.is_marked

-- what makes or takes away the marker, or leaves it, and changes no file
pub record ChangesMarker (before after : Held) : Type 0 where
  pub wholes : (k : ℕ) → after.whole k ≡ before.whole k
  pub freshes : (k : ℕ) → after.fresh k ≡ before.fresh k

-- one file stands under its own name with the bytes that it had under its other one, and no longer under that; nothing else changed
pub record Places (file : ℕ) (before after : Held) : Type 0 where
  pub own : after.whole file ≡ before.fresh file
  pub none : after.fresh file ≡ None
  pub wholes : (k : ℕ) → (k ≡ file → ⊥) → after.whole k ≡ before.whole k
  pub freshes : (k : ℕ) → (k ≡ file → ⊥) → after.fresh k ≡ before.fresh k
  pub marker : after.is_marked ≡ before.is_marked

-- nothing changed
pub record IsSame (before after : Held) : Type 0 where
  pub wholes : (k : ℕ) → after.whole k ≡ before.whole k
  pub freshes : (k : ℕ) → after.fresh k ≡ before.fresh k
  pub marker : after.is_marked ≡ before.is_marked

-- the files stand under their own names as they did, and the marker is as it was
pub record IsBegun (before after : Held) : Type 0 where
  pub wholes : (k : ℕ) → after.whole k ≡ before.whole k
  pub marker : after.is_marked ≡ before.is_marked

-- the same, and where the marker stands nothing changed at all
pub record GivesUp (before after : Held) : Type 0 where
  pub wholes : (k : ℕ) → after.whole k ≡ before.whole k
  pub freshes : before.is_marked ≡ true → (k : ℕ) → after.fresh k ≡ before.fresh k
  pub marker : after.is_marked ≡ before.is_marked

-- a file on its way: it stands under its other name as before, and if it doesn't stand there then as before under its own one; or it got its own
-- name in place of its other one
abbrev pub GoesItsWay : Option (List ℕ) → Option (List ℕ) → Option (List ℕ) → Option (List ℕ) → Type 0
GoesItsWay own other own_after other_after =
    ((other_after ≡ other) × (other ≡ None → own_after ≡ own)) ⊎ ((other_after ≡ None) × (own_after ≡ other) × (is_some other ≡ true))

-- each file is on its way, and the marker is as it was
pub record OnTheWay (before after : Held) : Type 0 where
  pub files : (k : ℕ) → GoesItsWay (before.whole k) (before.fresh k) (after.whole k) (after.fresh k)
  pub marker : after.is_marked ≡ before.is_marked

-- calls that take a folder from what it may hold to what it may hold after such a change, and leave nothing but that at any moment, if a run ends there
pub record Goes (before after passed_before passed_after : Held → Type 0) (Change : Held → Held → Type 0) : Type 0 where
  pub holds : (held : Held) → after held → (was : Held) × before was × Change was held
  pub moments : (held : Held) → passed_after held → passed_before held ⊎ ((was : Held) × before was × Change was held)

-- the bytes of a file of a plan by its number
abbrev pub plan_at : List (List ℕ) → ℕ → List ℕ
plan_at files k = slice_index_or files k []

-- the old plan: the files stand under their own names as they did, and there is no marker
pub record IsOld (was held : Held) : Type 0 where
  pub wholes : (k : ℕ) → held.whole k ≡ was.whole k
  pub marker : held.is_marked ≡ false

-- a new plan: each of its files stands under its own name, and there is no marker
pub record IsNew (count : ℕ) (plan : ℕ → List ℕ) (held : Held) : Type 0 where
  pub wholes : (k : ℕ) → k < count → held.whole k ≡ Some (plan k)
  pub marker : held.is_marked ≡ false

-- a file that is whole: under its other name, or under its own one alone
abbrev pub IsWhole : List ℕ → Option (List ℕ) → Option (List ℕ) → Type 0
IsWhole bytes own other = (other ≡ Some bytes) ⊎ ((own ≡ Some bytes) × (other ≡ None))

-- a new plan that is to be put in place: the marker stands, and each file is whole
pub record IsMarked (count : ℕ) (plan : ℕ → List ℕ) (held : Held) : Type 0 where
  pub files : (k : ℕ) → k < count → IsWhole (plan k) (held.whole k) (held.fresh k)
  pub marker : held.is_marked ≡ true

-- the old plan, a new one, or a new one that is to be put in place
abbrev pub IsBetween : ℕ → (ℕ → List ℕ) → Held → Held → Type 0
IsBetween count plan was held = IsOld was held ⊎ IsMarked count plan held ⊎ IsNew count plan held

-- of a folder without the marker, it stays the old plan, or becomes a new one, or one that is to be put in place
abbrev pub Puts : ℕ → (ℕ → List ℕ) → Held → Held → Type 0
Puts count plan was held = was.is_marked ≡ false → IsBetween count plan was held

-- a plan that is to be put in place is so still, or is in its place; and where there is no marker the old plan stays
pub record Mends (count : ℕ) (was held : Held) : Type 0 where
  pub marked : (plan : ℕ → List ℕ) → IsMarked count plan was → IsMarked count plan held ⊎ IsNew count plan held
  pub unmarked : was.is_marked ≡ false → IsOld was held
