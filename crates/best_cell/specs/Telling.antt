-- The rule of the cell: there is one list of told pairs, in order, whose last pair is in the words. What a pass knows is a front of it, and
-- the one teller knows all of it. Source: this project's profile.
use Rattle.std.specs.Prelude.{◌≡◌, ◌≢◌, ℕ, List, [], ◌∷◌, ◌++◌, true, false, slice_index}
use mathlib.Core.Option.{some}
use lib.ListN.{get_elem?}
use Rattle.best_cell.specs.declared.view.View.{View}
use Rattle.best_cell.specs.Told.{last_of, AreTold, IsFront, IsOrderly}

abbrev pub teller : List (ℕ × ℕ) → View
teller told = record { tells = true; told = told }

abbrev pub reader : List (ℕ × ℕ) → View
reader told = record { tells = false; told = told }

abbrev pub reader_of : View → View
reader_of v = reader v.told

-- the pass of that number knows a front of the told pairs, and all of them where it tells: then it is the one teller
abbrev pub Fits : ℕ → List (ℕ × ℕ) → ℕ → View → Type 0
Fits teller told by v = IsFront v.told told × (v.tells ≡ true → (by ≡ teller) × (v.told ≡ told))

abbrev pub IsKept : (ℕ → ℕ → Type 0) → List ℕ → List View → Type 0
IsKept tells words views =
    (teller : ℕ) × (told : List (ℕ × ℕ)) × IsOrderly told
    × (told ≢ [] → last_of told ≡ (slice_index words 0, slice_index words 1))
    × AreTold tells told
    × ((by : ℕ) (v : View) → get_elem? views by ≡ some v → Fits teller told by v)

-- the teller adds the pair that it writes
abbrev pub AddsOne : View → List ℕ → List ℕ → View → Type 0
AddsOne v before after w = w ≡ teller (v.told ++ (slice_index after 0, slice_index after 1) ∷ [])

-- a reader knows all pairs so far, and finds the last of them
abbrev pub FindsLast : (ℕ → ℕ → Type 0) → View → List ℕ → List ℕ → View → Type 0
FindsLast tells v before after w =
    (w.tells ≡ false) × IsFront v.told w.told × IsOrderly w.told × (w.told ≢ [] → last_of w.told ≡ (slice_index after 0, slice_index after 1))
    × AreTold tells w.told
