-- The top of the page: what the plan adds up to.
use Rattle.std.specs.Prelude.{ℕ, ◌+◌, nat_lt, Bool, true, false, List, [], ◌∷◌, ◌++◌, codes}
use Rattle.std.specs.List.{enumerate_from, flat_map}
use Rattle.std.specs.Fmt.{decimal}
use Rattle.shift_instance.specs.Problem.{Problem}
use Rattle.plan_tables.specs.declared.costliest.CostlySlot.{CostlySlot}
use Rattle.plan_tables.specs.declared.summary.CostPart.{CostPart}
use Rattle.plan_tables.specs.declared.summary.DaySummary.{DaySummary}
use Rattle.plan_tables.specs.declared.summary.Summary.{Summary}
use Rattle.plan_tables.specs.declared.tallies.Totals.{Totals}
use Rattle.plan_tables.specs.SummaryLines.{wanted_employees, wanted_hours}
use Rattle.plan_tables.specs.Times.{day_of_slot, span_text, time_of_slot}
use Rattle.plan_page.specs.declared.overview.TheConstants.{BAND_SIGN, NEED_SIGN, OTHER_SIGNS}
use Rattle.plan_page.specs.Cells.{cell, row_begin, row_end, row_head}
use Rattle.plan_page.specs.Escaping.{escaped}

-- a part of the cost: its name, its amount, its weight and its cost
unfoldable pub part_row : List ℕ → CostPart → List ℕ
part_row name p = row_head name ++ cell (decimal p.amount) ++ cell (decimal p.weight) ++ cell (decimal p.cost) ++ row_end

-- the beginning of the table of the cost, with its columns
unfoldable pub cost_head : List ℕ
cost_head = codes "<table><caption>Cost</caption><thead><tr><th>Part</th><th>Amount</th><th>Weight</th><th>Cost</th></tr></thead><tbody>\n"

-- what stands before the whole cost, and behind it
unfoldable pub foot_begin : List ℕ
foot_begin = codes "</tbody><tfoot><tr><th scope=\"row\">Cost</th><td></td><td></td>"

unfoldable pub foot_end : List ℕ
foot_end = codes "</tr></tfoot></table>\n"

-- the whole cost, and the end of the table
unfoldable pub cost_foot : ℕ → List ℕ
cost_foot cost = foot_begin ++ cell (decimal cost) ++ foot_end

-- the table of the cost and its three parts
unfoldable pub cost_table : Summary → List ℕ
cost_table s =
    cost_head ++ part_row (codes "Excess") s.excess ++ part_row (codes "Shortage") s.shortage ++ part_row (codes "Shifts used") s.shifts
    ++ cost_foot s.cost

-- how many duties start, and the hours wanted, as a range where the least and the most differ, worked, too many and too few
unfoldable pub totals_cells : Problem → ℕ → Totals → List ℕ
totals_cells i duties t =
    cell (decimal duties) ++ cell (wanted_hours i t) ++ cell (span_text i t.worked) ++ cell (span_text i t.over) ++ cell (span_text i t.under)
    ++ row_end

-- a day, counted from 0: its number, counted from 1, how many duties start on it, and its hours
unfoldable pub day_row : Problem → ℕ × DaySummary → List ℕ
day_row i (k, day) = row_head (decimal (k + 1)) ++ totals_cells i day.duties day.totals

-- the beginning of the table of the days, with its columns
unfoldable pub days_head : List ℕ
days_head =
    codes "<table><caption>Hours</caption><thead><tr><th>Day</th><th>Duties</th><th>Wanted</th><th>Worked</th><th>Over</th><th>Under</th></tr></thead><tbody>\n"

-- what stands before the row of all days, and behind it
unfoldable pub all_head : List ℕ
all_head = codes "</tbody><tfoot><tr><th scope=\"row\">All</th>"

unfoldable pub all_end : List ℕ
all_end = codes "</tfoot></table>\n"

-- the table of the days from the first, and of all of them together
unfoldable pub days_table : Problem → Summary → List ℕ
days_table i s = days_head ++ flat_map (day_row i) (enumerate_from 0 s.days.items) ++ all_head ++ totals_cells i s.duties s.totals ++ all_end

-- the day and the time of a slot
unfoldable pub moment_cells : Problem → ℕ → List ℕ
moment_cells i t = cell (decimal (day_of_slot i t)) ++ cell (time_of_slot i t)

-- a slot that costs something: its day and time, the employees wanted, as a range where the least and the most differ, and at work, and
-- its cost
unfoldable pub costly_row : Problem → CostlySlot → List ℕ
costly_row i s =
    row_begin ++ moment_cells i s.slot ++ cell (wanted_employees s) ++ cell (decimal s.working) ++ cell (decimal s.cost) ++ row_end

-- the beginning of the table of the slots that cost most, with its columns, and its end
unfoldable pub costliest_head : List ℕ
costliest_head =
    codes "<table><caption>Slots that cost most</caption><thead><tr><th>Day</th><th>Time</th><th>Wanted</th><th>Working</th><th>Cost</th></tr></thead><tbody>\n"

unfoldable pub costliest_end : List ℕ
costliest_end = codes "</tbody></table>\n"

-- the table of the slots that cost most, and nothing where no slot costs anything
unfoldable pub costliest_table : Problem → List CostlySlot → List ℕ
costliest_table i [] = []
costliest_table i (s ∷ ss) = costliest_head ++ flat_map (costly_row i) (s ∷ ss) ++ costliest_end

-- what stands behind the line on how the plan stands
unfoldable pub tables_begin : List ℕ
tables_begin = codes "</p>\n<div class=\"tables\">\n"

-- a line on how the plan stands
unfoldable pub standing_line : List ℕ → List ℕ
standing_line standing = codes "<p>" ++ escaped standing ++ tables_begin

-- the end of the tables
unfoldable pub tables_end : List ℕ
tables_end = codes "</div>\n"

-- whether some of the slots that were added up have more than one wanted number
abbrev pub has_bands : Totals → Bool
has_bands t = nat_lt t.wanted t.wanted_max

-- what the line of the need means, what the strip of the bands means, where there is one, and what the other signs mean
unfoldable pub need_sign : List ℕ
need_sign = NEED_SIGN.now

unfoldable pub band_sign : Bool → List ℕ
band_sign true = BAND_SIGN.now
band_sign false = []

unfoldable pub other_signs : List ℕ
other_signs = OTHER_SIGNS.now

-- what the signs in the pictures mean
unfoldable pub key_text : Bool → List ℕ
key_text banded = need_sign ++ band_sign banded ++ other_signs

-- the line on how the plan stands, the three tables, and what the signs in the pictures mean
unfoldable pub overview : Problem → Summary → List ℕ → List ℕ
overview i s standing =
    standing_line standing ++ cost_table s ++ days_table i s ++ costliest_table i s.costliest.items ++ tables_end
    ++ key_text (has_bands s.totals)
