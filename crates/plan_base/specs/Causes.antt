-- Counts of calls and of faults, and why a call on the outside answers Failed.
use Rattle.std.specs.Prelude.{ℕ, ◌+◌, ◌-◌, ◌^◌, ◌≤◌, min, Result, OnErr}

-- a count one higher; at the last value of a u64 it stands still
abbrev pub next_count : ℕ → ℕ
next_count count = min (count + 1) (2 ^ 64 - 1)

-- there was a fault between the two counts, or the count has no room left to show it
abbrev pub Rose : ℕ → ℕ → Type 0
Rose before now = next_count before ≤ now

-- a count of faults never falls, and a call answers an error only where the count rose in it
pub record CountsFaults {T E : Type 0} (before now : ℕ) (result : Result T E) : Type 0 where
  pub grows : before ≤ now
  pub failed : OnErr result (Rose before now)
