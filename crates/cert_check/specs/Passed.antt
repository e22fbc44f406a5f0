-- What a walk over legal duties says, and the rows that it adds.
use Rattle.std.specs.Prelude.{◌≡◌, Bool, not, List, Option, is_some}
use Rattle.shift_instance.specs.declared.Duty.{Duty}
use Rattle.shift_instance.specs.declared.Row.{Row}
use Rattle.shift_instance.specs.Problem.{Problem}
use Rattle.head_splits.specs.declared.Cut.{Cut}
use Rattle.head_splits.specs.Below.{IsWalked}

-- whether cuts fix the number of each of some duties; if so, their rows have joined those before
abbrev pub IsPassed : Problem → List Cut → List Duty → Bool → List Row → List Row → Type 0
IsPassed i cuts duties fixed before after = (found : Option Duty) × IsWalked i cuts duties found before after × (fixed ≡ not (is_some found))
