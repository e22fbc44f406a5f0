-- What jobs gave so far, by their numbers.
use Rattle.std.specs.Prelude.{◌≡◌, ℕ, List, Option, Some, slice_get}

-- each result that is there is one that the job of its number may give
abbrev pub AreGiven : {O : Type 0} → (ℕ → O → Type 0) → List (Option O) → Type 0
AreGiven {O} gives slots = (at : ℕ) (output : O) → slice_get slots at ≡ Some (Some output) → gives at output
