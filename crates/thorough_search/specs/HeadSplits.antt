-- Splits of the duties of a shift on a day.
use Rattle.std.specs.Prelude.{◌≡◌, [], List, length, ◌<◌, ◌≤◌}
use Rattle.shift_instance.specs.Problem.{Problem, shift_list}
use Rattle.head_splits.specs.declared.Cut.{Cut}
use Rattle.head_splits.specs.Cuts.{low, high}
use Rattle.advice.specs.declared.advice.Splitting.{Splitting}

-- the class of all duties of a shift on a day, with a number that its range holds and isn't the greatest
pub record IsHeadSplit (i : Problem) (cuts : List Cut) (s : Splitting) : Type 0 where
  pub whole : s.class.prefix ≡ []
  pub shift : s.class.shift < length (shift_list i)
  pub day : s.class.day < i.days
  pub least : low cuts s.class ≤ s.m
  pub greatest : s.m < high i cuts s.class
