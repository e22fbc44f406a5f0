-- What a thorough search was told.
use Rattle.std.specs.Prelude.{ℕ, Option}
use Rattle.advice.specs.declared.adviser.Told.{Told}

-- how often it was told something, and what it was told last
pub record Searching : Type 0 where
  pub told : ℕ
  pub last : Option Told
