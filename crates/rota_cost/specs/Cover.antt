-- What a cover stands for: the duties that are in it.
use Rattle.std.specs.Prelude.{List, [], ◌∷◌, if◌then◌else◌}
use Rattle.shift_instance.specs.declared.Duty.{Duty}
use Rattle.shift_instance.specs.Problem.{Problem}
use Rattle.shift_instance.specs.Rota.{same_duty}

-- an instance, and the duties in a cover for it, in the order in which they were added
pub record Covering : Type 0 where
  pub instance : Problem
  pub duties : List Duty

-- duties without the first of them that is the same as a duty
abbrev pub without : Duty → List Duty → List Duty
without d [] = []
without d (other ∷ rest) = if same_duty d other then rest else other ∷ without d rest
