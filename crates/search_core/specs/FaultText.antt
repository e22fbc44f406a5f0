-- How a refusal of a post is shown. Source: this project's own format.
use Rattle.std.specs.Prelude.{ℕ, List, [], ◌∷◌, ◌++◌, codes}
use Rattle.std.specs.List.{flat_map}
use Rattle.std.specs.Fmt.{decimal}
use Rattle.break_rules.specs.declared.Break.{Break}
use Rattle.head_splits.specs.declared.Class.{Class}
use Rattle.rota_cost.specs.FaultText.{row_fault_text}
use Rattle.dual_bound.specs.Faults.{price_fault_text}
use Rattle.search_core.specs.declared.fault.StepFault.{StepFault}
use Rattle.search_core.specs.declared.fault.StepFault.TheVariants.{NotLegal, WrongCost, NotBetter, NoNode, IsSplit, NotOpen, NotLive, OutOfRange, NotSettled, Price, NoMemory}

-- a break as `start+length`
abbrev pub break_text : Break → List ℕ
break_text b = decimal b.start ++ codes "+" ++ decimal b.len

-- breaks that follow another one, each after a comma
abbrev pub more_breaks_text : List Break → List ℕ
more_breaks_text bs = flat_map (λ b. codes "," ++ break_text b) bs

-- breaks with commas between them, and `-` where there are none
abbrev pub breaks_text : List Break → List ℕ
breaks_text [] = codes "-"
breaks_text (b ∷ bs) = break_text b ++ more_breaks_text bs

-- a class: its shift, its day and its breaks, separated by spaces
abbrev pub class_text : Class → List ℕ
class_text c = decimal c.shift ++ codes " " ++ decimal c.day ++ codes " " ++ breaks_text c.prefix

-- a refusal's number, and then its fields in their order, or what the refusal in it shows, separated by spaces
abbrev pub step_fault_text : StepFault → List ℕ
step_fault_text (NotLegal fault) = codes "1 " ++ row_fault_text fault
step_fault_text (WrongCost kept found) = codes "2 " ++ decimal kept ++ codes " " ++ decimal found
step_fault_text (NotBetter best) = codes "3 " ++ decimal best
step_fault_text (NoNode node) = codes "4 " ++ decimal node
step_fault_text (IsSplit node) = codes "5 " ++ decimal node
step_fault_text (NotOpen floor best) = codes "6 " ++ decimal floor ++ codes " " ++ decimal best
step_fault_text (NotLive class) = codes "7 " ++ class_text class
step_fault_text (OutOfRange lo hi) = codes "8 " ++ decimal lo ++ codes " " ++ decimal hi
step_fault_text (NotSettled class) = codes "9 " ++ class_text class
step_fault_text (Price fault) = codes "10 " ++ price_fault_text fault
step_fault_text NoMemory = codes "no memory"
