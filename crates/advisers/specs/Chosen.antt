-- What is found of the solution that prices choose.
use Rattle.std.specs.Prelude.{◌≡◌, ◌≤◌, ◌<◌, List, All, length}
use Rattle.shift_instance.specs.declared.Row.{Row}
use Rattle.shift_instance.specs.Problem.{Problem, shift_list}
use Rattle.head_splits.specs.declared.Cut.{Cut}
use Rattle.dual_bound.specs.Pricer.{Pricing}

-- rows of shifts of the shift list, no more than one for each shift and day
pub record AreRows (i : Problem) (rows : List Row) : Type 0 where
  pub known : All (λ r. r.shift < length (shift_list i)) rows
  pub few : length rows ≤ 7168

-- a pricer is one of an instance and of some cuts
abbrev pub IsFor : Pricing → Problem → List Cut → Type 0
IsFor p i cuts = (p.instance ≡ i) × (p.cuts ≡ cuts)
