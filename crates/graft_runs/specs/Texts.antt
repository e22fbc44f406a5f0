-- What a command writes. Source: this project's own format.
use Rattle.std.specs.Prelude.{⊤, ℕ, List, [], ◌∷◌, ◌++◌, map, codes, if◌then◌else◌}
use Rattle.std.specs.Option.{option_map_or}
use Rattle.std.specs.Fmt.{decimal}
use Rattle.shift_instance.specs.declared.Row.{Row}
use Rattle.certificate.specs.LineText.{Line, row_line}
use Rattle.cert_check.specs.declared.judged.Refused.{Refused as Refusal}
use Rattle.cert_check.specs.declared.judged.Refused.TheVariants.{BadSplit, BadPrice, NotSettled, BoundTooHigh, BadPlan, WrongCost, NoMemory as NoMemoryLeft}
use Rattle.report_grafts.specs.declared.fault.GraftFault.{GraftFault}
use Rattle.report_grafts.specs.declared.fault.GraftFault.TheVariants.{Refused, NoNode, IsSplit, OtherCuts, NoRows, NoMemory}
use Rattle.report_grafts.specs.Run.{Run, is_finished}
use Rattle.report_nodes.specs.declared.listing.OpenNode.{OpenNode}

-- the number and the numbers of a refusal of the checker; running out of memory is none
abbrev pub refused_numbers : Refusal → List ℕ
refused_numbers (BadSplit line) = codes "1 " ++ decimal line
refused_numbers (BadPrice line) = codes "2 " ++ decimal line
refused_numbers (NotSettled line) = codes "3 " ++ decimal line
refused_numbers (BoundTooHigh claimed found) = codes "4 " ++ (decimal claimed ++ (codes " " ++ decimal found))
refused_numbers (BadPlan row) = codes "5 " ++ decimal row
refused_numbers (WrongCost claimed found) = codes "6 " ++ (decimal claimed ++ (codes " " ++ decimal found))
refused_numbers NoMemoryLeft = []

-- what is said of a fault: its number and its own numbers, and those of a refusal of the checker in its own words; running out of memory is none
abbrev pub fault_text : GraftFault → List ℕ
fault_text (Refused why) = codes "graft refused 1 " ++ refused_numbers why
fault_text (NoNode node) = codes "graft refused 2 " ++ decimal node
fault_text (IsSplit node) = codes "graft refused 3 " ++ decimal node
fault_text (OtherCuts at) = codes "graft refused 4 " ++ decimal at
fault_text NoRows = codes "graft refused 5"
fault_text NoMemory = []

-- something is said of each fault but running out of memory
abbrev pub IsNamed : GraftFault → Type 0
IsNamed NoMemory = ⊥
IsNamed why = ⊤

-- the cheaper of the rows of a report, with their cost, and the best rota of a run
abbrev pub rows_after : Run → ℕ × List Row → ℕ × List Row
rows_after r p = option_map_or (λ b. (b.cost, b.rows)) r.best p

-- the lines of rows with their cost, after a run
abbrev pub rows_lines : Run → ℕ × List Row → List Line
rows_lines r p =
    (codes "breaks " ++ ((if is_finished r then codes "optimal" else codes "stopped") ++ (codes " cost " ++ (decimal p.0 ++ (codes " bound " ++ decimal r.floor)))))
    ∷ (map row_line p.1 ++ codes "end" ∷ [])

-- the lines of rows whose breaks were planned anew
abbrev pub breaks_lines : Run → ℕ × List Row → List Line
breaks_lines r p = rows_lines r (rows_after r p)

-- the line of an open node: its number, its floor and how many cuts it has
abbrev pub open_line : OpenNode → Line
open_line n = codes "node " ++ (decimal n.node ++ (codes " floor " ++ (decimal n.floor ++ (codes " cuts " ++ decimal n.cuts))))
