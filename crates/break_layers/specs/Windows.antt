-- The greatest numbers of the windows of a row.
use Rattle.std.specs.Prelude.{◌≡◌, ℕ, ◌+◌, ◌<◌, ◌≤◌, ℤ, ◌≤ℤ◌, List, slice_index_or}
use Rattle.break_layers.specs.declared.windows.TheConstants.{NOTHING}

-- the number at a place of a row, and the one that stands for nothing behind the row's end
abbrev pub number_in : List ℤ → ℕ → ℤ
number_in row at = slice_index_or row at NOTHING

-- the greatest of so many numbers of a row from a place on
pub record IsMostIn (row : List ℤ) (from width : ℕ) (most : ℤ) : Type 0 where
  pub reached : (k : ℕ) × (from ≤ k) × (k < from + width) × (number_in row k ≡ most)
  pub greatest : (k : ℕ) → from ≤ k → k < from + width → number_in row k ≤ℤ most
