-- What a plan adds up to, as lines of text.
use Rattle.std.specs.Prelude.{ℕ, ◌+◌, ◌==◌, List, [], ◌∷◌, ◌++◌, codes, if◌then◌else◌}
use Rattle.std.specs.List.{enumerate_from, flat_map}
use Rattle.std.specs.Fmt.{decimal}
use Rattle.shift_instance.specs.Problem.{Problem}
use Rattle.plan_tables.specs.declared.costliest.CostlySlot.{CostlySlot}
use Rattle.plan_tables.specs.declared.summary.CostPart.{CostPart}
use Rattle.plan_tables.specs.declared.summary.DaySummary.{DaySummary}
use Rattle.plan_tables.specs.declared.summary.Summary.{Summary}
use Rattle.plan_tables.specs.declared.tallies.Totals.{Totals}
use Rattle.plan_tables.specs.Columns.{at_left, at_right}
use Rattle.plan_tables.specs.Times.{day_of_slot, span_text, time_of_slot}

-- a part of the cost: its name, its amount, its weight and its cost
unfoldable pub part_line : List ℕ → CostPart → List ℕ
part_line name p =
    at_left 12 name ++ at_right 12 (decimal p.amount) ++ at_right 9 (decimal p.weight) ++ at_right 18 (decimal p.cost) ++ codes "\n"

-- what the columns of the cost are
unfoldable pub cost_head : List ℕ
cost_head = codes "part              amount   weight              cost\n"

-- the whole cost
unfoldable pub cost_line : ℕ → List ℕ
cost_line cost = codes "cost " ++ at_right 46 (decimal cost) ++ codes "\n"

-- the three parts of the cost, and the cost
unfoldable pub cost_lines : Summary → List ℕ
cost_lines s =
    cost_head
    ++ part_line (codes "excess") s.excess
    ++ part_line (codes "shortage") s.shortage
    ++ part_line (codes "shifts used") s.shifts
    ++ cost_line s.cost

-- the hours wanted, as a range where the least and the most differ
unfoldable pub wanted_hours : Problem → Totals → List ℕ
wanted_hours i t = if t.wanted == t.wanted_max then span_text i t.wanted else span_text i t.wanted ++ codes "-" ++ span_text i t.wanted_max

-- how wide the columns of wanted hours and of a slot's wanted employees are: wider where some slot has more than one wanted number
abbrev pub hours_width : Summary → ℕ
hours_width s = if s.totals.wanted == s.totals.wanted_max then 12 else 24

abbrev pub employees_width : Summary → ℕ
employees_width s = if s.totals.wanted == s.totals.wanted_max then 9 else 14

-- the hours wanted, in a column of that width, and those worked, too many and too few
unfoldable pub totals_columns : Problem → ℕ → Totals → List ℕ
totals_columns i width t =
    at_right width (wanted_hours i t) ++ at_right 12 (span_text i t.worked)
    ++ at_right 12 (span_text i t.over) ++ at_right 12 (span_text i t.under)

-- a day, counted from 0: its number, counted from 1, how many duties start on it, and its hours
unfoldable pub day_line : Problem → ℕ → ℕ × DaySummary → List ℕ
day_line i width (k, day) = at_right 3 (decimal (k + 1)) ++ at_right 9 (decimal day.duties) ++ totals_columns i width day.totals ++ codes "\n"

-- what the columns of the days are before that of the wanted hours, and behind it
unfoldable pub days_head_begin : List ℕ
days_head_begin = codes "\nday   duties"

unfoldable pub days_head_end : List ℕ
days_head_end = codes "      worked        over       under\n"

-- what the columns of the days are
unfoldable pub days_head : ℕ → List ℕ
days_head width = days_head_begin ++ at_right width (codes "wanted") ++ days_head_end

-- the days from the first, and all of them together
unfoldable pub days_lines : Problem → Summary → List ℕ
days_lines i s =
    days_head (hours_width s)
    ++ flat_map (day_line i (hours_width s)) (enumerate_from 0 s.days.items)
    ++ codes "all" ++ at_right 9 (decimal s.duties) ++ totals_columns i (hours_width s) s.totals ++ codes "\n"

-- the day and the time of a slot
unfoldable pub moment_columns : Problem → ℕ → List ℕ
moment_columns i t = at_right 3 (decimal (day_of_slot i t)) ++ codes "  " ++ time_of_slot i t

-- the employees wanted in a slot, as a range where the least and the most differ
unfoldable pub wanted_employees : CostlySlot → List ℕ
wanted_employees s = if s.wanted == s.wanted_max then decimal s.wanted else decimal s.wanted ++ codes "-" ++ decimal s.wanted_max

-- a slot that costs something: its day and time, the employees wanted, in a column of that width, and at work, and its cost
unfoldable pub costly_line : Problem → ℕ → CostlySlot → List ℕ
costly_line i width s =
    moment_columns i s.slot
    ++ at_right width (wanted_employees s) ++ at_right 9 (decimal s.working) ++ at_right 18 (decimal s.cost) ++ codes "\n"

-- what the columns of the slots that cost most are
unfoldable pub costliest_head : ℕ → List ℕ
costliest_head width = codes "\nday  time " ++ at_right width (codes "wanted") ++ codes "  working              cost\n"

-- the slots that cost most below a line of what the columns are, and nothing where no slot costs anything
unfoldable pub costliest_lines : Problem → ℕ → List CostlySlot → List ℕ
costliest_lines i width [] = []
costliest_lines i width (s ∷ ss) = costliest_head width ++ flat_map (costly_line i width) (s ∷ ss)

-- the cost with its parts, the hours of the days, and the slots that cost most
unfoldable pub summary_lines : Problem → Summary → List ℕ
summary_lines i s = cost_lines s ++ days_lines i s ++ costliest_lines i (employees_width s) s.costliest.items
