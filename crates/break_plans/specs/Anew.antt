-- Breaks planned anew below fixed duties. Source: break scheduling for given shifts, after Beer, Gärtner, Musliu, Schafhauser and Slany (2010);
-- that the numbers of duties are those of an older plan is this project's profile.
use Rattle.std.specs.Prelude.{◌≡◌, ◌<◌, ℕ, IsTrue, List, Option}
use Rattle.std.specs.Option.{option_map, unwrap_or}
use Rattle.shift_instance.specs.declared.Duty.{Duty}
use Rattle.shift_instance.specs.declared.Row.{Row}
use Rattle.shift_instance.specs.Problem.{Problem}
use Rattle.shift_instance.specs.Rota.{are_legal_rows, cost, rota_of}
use Rattle.report_grafts.specs.Pins.{pins_of, HaveSameHeads}
use Rattle.report_grafts.specs.Run.{top, Run}
use Rattle.subtree_search.specs.Stepping.{steps_enough, IsSearched}
use Rattle.break_plans.specs.declared.planning.Anew.{Anew}

-- a rota has as many duties of each shift on each day as rows; a shift without a legal break list has none in any legal rota
abbrev pub HasHeadsOf : Problem → List Row → List Duty → Type 0
HasHeadsOf i rows rota = HaveSameHeads i rota (rota_of rows)

-- rows are legal, have as many duties of each shift on each day as others, and cost less
pub record IsCheaper (i : Problem) (rows new : List Row) : Type 0 where
  pub legal : IsTrue (are_legal_rows i new)
  pub heads : HasHeadsOf i rows (rota_of new)
  pub less : cost i (rota_of new) < cost i (rota_of rows)

-- the rows that stand then: the cheaper ones, and else those before
abbrev pub rows_after : List Row → Option (List Row) → List Row
rows_after rows cheaper = unwrap_or cheaper rows

-- the steps after which each search for cheaper rows is finished
abbrev pub steps_for : Problem → List Row → ℕ
steps_for i rows = steps_enough i (pins_of i (rota_of rows))

-- what a search below the numbers of duties of rows came to that looked for cheaper ones, in no more than so many steps
pub record ComesOfSearch (i : Problem) (rows : List Row) (steps : ℕ) (anew : Anew) : Type 0 where
  pub run : Run
  pub searched : IsSearched i (pins_of i (rota_of rows)) (cost i (rota_of rows)) steps run
  pub cheaper : anew.cheaper ≡ option_map (λ best. best.rows) run.best
  pub cost : anew.cost ≡ top run
  pub floor : anew.floor ≡ run.floor
  pub taken : anew.steps ≡ run.taken
