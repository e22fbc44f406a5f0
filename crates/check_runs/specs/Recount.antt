-- What the recount of a report says. Source: this project's profile.
use Rattle.std.specs.Prelude.{ℕ, List, ◌++◌, Bool, true, false, Option, Some, None, codes}
use Rattle.std.specs.Fmt.{decimal}
use Rattle.shift_instance.specs.declared.Row.{Row}
use Rattle.shift_instance.specs.Problem.{Problem}
use Rattle.shift_instance.specs.Rota.{cost, rota_of}
use Rattle.rota_cost.specs.RowFaults.{row_fault}
use Rattle.rota_cost.specs.declared.RowFault.{RowFault}
use Rattle.rota_cost.specs.RowFaults.{row_of}

-- what is said of rows whose first fault is given: their cost, or the bad row
abbrev pub said_of : Problem → List Row → Option RowFault → List ℕ
said_of i rows None = codes "cost " ++ decimal (cost i (rota_of rows))
said_of i rows (Some fault) = codes "refused 5 " ++ decimal (row_of fault)

-- what is said of the rows of a report, or of a report without rows
abbrev pub recount_text : Problem → Option (List Row) → List ℕ
recount_text i None = codes "cost -"
recount_text i (Some rows) = said_of i rows (row_fault i rows)

-- whether there is no fault
abbrev pub is_faultless : Option RowFault → Bool
is_faultless None = true
is_faultless (Some fault) = false

-- whether the rows of a report are accepted: it has none, or they are legal
abbrev pub are_accepted : Problem → Option (List Row) → Bool
are_accepted i None = true
are_accepted i (Some rows) = is_faultless (row_fault i rows)
