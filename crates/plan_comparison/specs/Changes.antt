-- Duties that two plans have in common, and those that one of them has alone.
-- Source: this project's profile.
use Rattle.std.specs.Prelude.{ℕ, ◌-◌, ◌==◌, List, map, min, max, sum_by, if◌then◌else◌}
use Rattle.shift_instance.specs.declared.Row.{Row}
use Rattle.shift_instance.specs.Problem.{Problem, below}
use Rattle.shift_instance.specs.Rota.{same_duty, duty_of}
use Rattle.carried_rows.specs.Carrying.{carried}
use Rattle.plan_comparison.specs.declared.comparing.DayChanges.{DayChanges}

-- how often rows have the duty of a row
abbrev pub times_in : List Row → Row → ℕ
times_in rows r = sum_by (λ q. if same_duty (duty_of q) (duty_of r) then q.count else 0) rows

-- how many duties of rows other rows have too
abbrev pub kept_duties : List Row → List Row → ℕ
kept_duties others rows = sum_by (λ r. min r.count (times_in others r)) rows

-- the same of the duties of one day
abbrev pub kept_on : List Row → List Row → ℕ → ℕ
kept_on others rows day = sum_by (λ r. if r.day == day then min r.count (times_in others r) else 0) rows

-- how many duties rows have on a day
abbrev pub duties_on : List Row → ℕ → ℕ
duties_on rows day = sum_by (λ r. if r.day == day then r.count else 0) rows

-- what became of the duties of a day: those kept are those of the new plan that the carried rows have too
abbrev pub day_changes : List Row → List Row → List Row → ℕ → DayChanges
day_changes carried before after day = record {
  kept = kept_on carried after day;
  gone = duties_on before day - kept_on carried after day;
  new = duties_on after day - kept_on carried after day;
}

-- the same of each day that one of two instances has
abbrev pub changes : Problem → Problem → List Row → List Row → List DayChanges
changes i j before after = map (day_changes (carried i j before) before after) (below (max i.days j.days))
