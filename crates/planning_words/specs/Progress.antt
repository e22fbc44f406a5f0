-- What is said of a search while it runs.
use Rattle.std.specs.Prelude.{ℕ, ◌-◌, ◌*◌, ◌/◌, ◌%◌, List, ◌++◌, codes, max}
use Rattle.std.specs.Fmt.{decimal}

-- the gap between a cost and a bound in thousandths of the cost
abbrev pub gap_of : ℕ → ℕ → ℕ
gap_of cost bound = (cost - bound) * 1000 / max 1 cost

-- for how many seconds a search has run, and how many steps it has taken
unfoldable pub steps_text : ℕ → ℕ → List ℕ
steps_text seconds steps = decimal seconds ++ codes " s, " ++ decimal steps ++ codes " steps, "

-- what the best plan costs and how many seconds ago it was found, and what every plan is known to cost at least
unfoldable pub cost_text : ℕ → ℕ → ℕ → List ℕ
cost_text cost quiet bound = codes "cost " ++ decimal cost ++ codes " for " ++ decimal quiet ++ codes " s, bound " ++ decimal bound

-- a gap in thousandths, as hundredths with tenths of them
unfoldable pub gap_text : ℕ → List ℕ
gap_text gap = codes ", gap " ++ decimal (gap / 10) ++ codes "." ++ decimal (gap % 10) ++ codes " %"

-- the line of a search that has run for so many seconds and taken so many steps, whose best plan has that cost and was found so many
-- seconds ago, where every plan is known to cost at least the bound
unfoldable pub progress_text : ℕ → ℕ → ℕ → ℕ → ℕ → List ℕ
progress_text seconds steps cost quiet bound = steps_text seconds steps ++ cost_text cost quiet bound ++ gap_text (gap_of cost bound)
