-- What a draft of a plan stands for, and what exchanges of duties make of it. Source: this project's profile.
use Rattle.std.specs.Prelude.{◌≡◌, ℕ, ◌+◌, Bool, List, count_by}
use Rattle.shift_instance.specs.declared.Duty.{Duty}
use Rattle.shift_instance.specs.declared.Row.{Row}
use Rattle.shift_instance.specs.Problem.{Problem}

-- an instance, and the rows of a legal plan for it: how often each duty stands in it, in order
pub record Drafting : Type 0 where
  pub instance : Problem
  pub rows : List Row

-- duties that are those of a plan without some and with others
abbrev pub IsExchanged : List Duty → List Duty → List Duty → List Duty → Type 0
IsExchanged old gone made new = (p : Duty → Bool) → count_by p new + count_by p gone ≡ count_by p old + count_by p made
