-- What a plan adds up to.
use Rattle.std.specs.Prelude.{◌≡◌, List, length}
use Rattle.shift_instance.specs.declared.Duty.{Duty}
use Rattle.shift_instance.specs.Problem.{Problem, below, slots}
use Rattle.shift_instance.specs.Rota.{cost}
use Rattle.plan_tables.specs.declared.summary.TheConstants.{COSTLIEST}
use Rattle.plan_tables.specs.declared.summary.Summary.{Summary}
use Rattle.plan_tables.specs.Costliest.{AreCostliest}
use Rattle.plan_tables.specs.Tallies.{day_summaries, excess_part, shifts_part, shortage_part, totals_in}

-- this is a summary of a rota
pub record IsSummary (i : Problem) (rota : List Duty) (s : Summary) : Type 0 where
  pub cost : s.cost ≡ cost i rota
  pub excess : s.excess ≡ excess_part i rota
  pub shortage : s.shortage ≡ shortage_part i rota
  pub shifts : s.shifts ≡ shifts_part i rota
  pub duties : s.duties ≡ length rota
  pub totals : s.totals ≡ totals_in i rota (below (slots i))
  pub costliest : AreCostliest i rota COSTLIEST s.costliest.items
  pub days : s.days.items ≡ day_summaries i rota
