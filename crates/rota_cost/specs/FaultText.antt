-- How a fault of rows is shown.
use Rattle.std.specs.Prelude.{ℕ, List, ◌++◌, codes}
use Rattle.std.specs.Fmt.{decimal}
use Rattle.rota_cost.specs.declared.RowFault.{RowFault}
use Rattle.rota_cost.specs.declared.RowFault.TheVariants.{UnknownShift, Day, Breaks, ZeroCount, HeadsOver, NotSorted}

-- a fault's number, and then its row, separated by a space
abbrev pub row_fault_text : RowFault → List ℕ
row_fault_text (UnknownShift row) = codes "1 " ++ decimal row
row_fault_text (Day row) = codes "2 " ++ decimal row
row_fault_text (Breaks row) = codes "3 " ++ decimal row
row_fault_text (ZeroCount row) = codes "4 " ++ decimal row
row_fault_text (HeadsOver row) = codes "5 " ++ decimal row
row_fault_text (NotSorted row) = codes "6 " ++ decimal row
