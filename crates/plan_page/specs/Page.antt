-- The page of a plan.
use Rattle.std.specs.Prelude.{◌≡◌, ℕ, ◌+◌, ◌*◌, Bool, true, false, Option, Some, None, List, [], ◌++◌, codes, slice_get, String, string_bytes}
use Rattle.std.specs.List.{enumerate_from, flat_map}
use Rattle.std.specs.declared.alloc.Global.{Global}
use Rattle.std.specs.Fmt.{decimal}
use Rattle.shift_instance.specs.declared.Duty.{Duty}
use Rattle.shift_instance.specs.declared.Row.{Row}
use Rattle.shift_instance.specs.Problem.{Problem, day_slots}
use Rattle.shift_instance.specs.Rota.{rota_of}
use Rattle.plan_tables.specs.declared.summary.DaySummary.{DaySummary}
use Rattle.plan_tables.specs.declared.summary.Summary.{Summary}
use Rattle.plan_tables.specs.declared.tallies.Totals.{Totals}
use Rattle.plan_tables.specs.Starting.{by_start}
use Rattle.plan_tables.specs.SummaryLines.{wanted_hours}
use Rattle.plan_tables.specs.Summing.{IsSummary}
use Rattle.plan_tables.specs.Times.{span_text}
use Rattle.plan_page.specs.declared.head.TheConstants.{BEGINNING, LOOKS}
use Rattle.plan_page.specs.Bars.{bars}
use Rattle.plan_page.specs.Chart.{chart, most_employees}
use Rattle.plan_page.specs.Escaping.{escaped}
use Rattle.plan_page.specs.Overview.{has_bands, overview}
use Rattle.plan_page.specs.Sections.{sections_text}
use Rattle.plan_page.specs.declared.page.PageTexts.{PageTexts}

-- what stands before the title, and how the page looks
unfoldable pub beginning : List ℕ
beginning = BEGINNING.now

unfoldable pub looks : List ℕ
looks = LOOKS.now

-- the beginning of the page, up to its heading
unfoldable pub head : List ℕ → List ℕ
head heading = beginning ++ escaped heading ++ looks ++ escaped heading ++ codes "</h1>\n"

-- the number of a day, counted from 1
unfoldable pub day_begin : ℕ → List ℕ
day_begin number = codes "<section class=\"day\">\n<h2>Day " ++ decimal number

-- the name of a day behind a comma, and nothing where it has none
unfoldable pub day_name : Option (String Global) → List ℕ
day_name None = []
day_name (Some name) = codes ", " ++ escaped (string_bytes name)

unfoldable pub title_end : List ℕ
title_end = codes "</h2>\n"

-- the title of a day, counted from 0: its number, and its name among those of the days
unfoldable pub day_title : List (String Global) → ℕ → List ℕ
day_title names k = day_begin (k + 1) ++ day_name (slice_get names k) ++ title_end

-- how many duties start on a day
unfoldable pub day_duties : ℕ → List ℕ
day_duties duties = codes "<p>" ++ decimal duties ++ codes " duties start. Hours wanted "

-- how long some slots are together, and how long others are, with a text between
unfoldable pub spans_text : Problem → ℕ → List ℕ → ℕ → List ℕ
spans_text i slots between others = span_text i slots ++ between ++ span_text i others

-- the hours wanted, as a range where the least and the most differ, and those worked
unfoldable pub wanted_worked : Problem → Totals → List ℕ
wanted_worked i t = wanted_hours i t ++ codes ", worked " ++ span_text i t.worked

-- what stands before the hours too many, and behind all of them
unfoldable pub over_begin : List ℕ
over_begin = codes ", over "

unfoldable pub hours_end : List ℕ
hours_end = codes ".</p>\n"

-- how many duties start on a day, and its hours wanted, worked, too many and too few
unfoldable pub day_hours : Problem → DaySummary → List ℕ
day_hours i day =
    day_duties day.duties ++ wanted_worked i day.totals
    ++ over_begin ++ spans_text i day.totals.over (codes ", under ") day.totals.under ++ hours_end

unfoldable pub day_end : List ℕ
day_end = codes "</section>\n"

-- the picture of a day that begins at a slot, with the bands where there are some, the rows whose duties started on the day before, and
-- those whose duties start on it
unfoldable pub day_pictures : Problem → List Duty → List Row → ℕ → Bool → List ℕ
day_pictures i rota rows first banded =
    chart i rota (most_employees i rota) first banded ++ bars i first false rows ++ bars i first true rows

-- a day, counted from 0: its title, its hours, its picture and its rows
unfoldable pub day_section : Problem → List Duty → List Row → List (String Global) → ℕ × DaySummary → List ℕ
day_section i rota rows names (k, day) =
    day_title names k ++ day_hours i day ++ day_pictures i rota rows (k * day_slots i) (has_bands day.totals) ++ day_end

-- the end of the page
unfoldable pub page_end : List ℕ
page_end = codes "</body>\n</html>\n"

-- the top of the page: the heading, the summary below a line on how the plan stands, and the texts above the days
unfoldable pub page_top : Problem → PageTexts → Summary → List ℕ
page_top i texts s = head (string_bytes texts.heading) ++ overview i s (string_bytes texts.standing) ++ sections_text texts.above.items

-- the days from the first, and the texts below them
unfoldable pub page_days : Problem → List Duty → List Row → PageTexts → Summary → List ℕ
page_days i rota rows texts s =
    flat_map (day_section i rota rows texts.days.items) (enumerate_from 0 s.days.items) ++ sections_text texts.below.items ++ page_end

-- the page of a rota with its rows, what is said beside them, and its summary
unfoldable pub page_text : Problem → List Duty → List Row → PageTexts → Summary → List ℕ
page_text i rota rows texts s = page_top i texts s ++ page_days i rota rows texts s

-- this is the page of rows: it shows a summary of them, and them by their start
pub record IsPage (i : Problem) (rows : List Row) (texts : PageTexts) (page : List ℕ) : Type 0 where
  pub summary : Summary
  pub sums : IsSummary i (rota_of rows) summary
  pub bytes : page ≡ page_text i (rota_of rows) (by_start i rows) texts summary
