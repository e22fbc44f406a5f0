-- The ranges within which a rule's numbers are.
use Rattle.std.specs.Prelude.{ℕ, ◌+◌, ◌≤◌, All, length, IsTrue}
use Rattle.break_rules.specs.declared.Lunch.{Lunch}
use Rattle.break_rules.specs.declared.Rule.{Rule}
use Rattle.break_rules.specs.RuleFaults.{rise_strictly, are_lunches_in_order}

-- an entry of the totals within the ranges
pub record IsTotal (entry : ℕ × ℕ) : Type 0 where
  pub from : entry.0 ≤ 288
  pub total : entry.1 ≤ 48

-- a lunch within the ranges
pub record IsLunch (lunch : Lunch) : Type 0 where
  pub from_len : lunch.from_len ≤ 288
  pub some_size : 1 ≤ lunch.size
  pub room : lunch.first + lunch.size ≤ lunch.last
  pub last : lunch.last ≤ 288

-- a rule within the ranges
pub record IsRule (rule : Rule) : Type 0 where
  pub some_work : 1 ≤ rule.work_min
  pub work : rule.work_min ≤ rule.work_max
  pub work_limit : rule.work_max ≤ 288
  pub some_size : 1 ≤ rule.size_min
  pub sizes : rule.size_min ≤ rule.size_max
  pub size_limit : rule.size_max ≤ 48
  pub rising : IsTrue (rise_strictly rule.totals)
  pub lunch_order : IsTrue (are_lunches_in_order rule.lunches)
  pub resettle_limit : rule.resettle ≤ 1
  pub resettles_in_work : rule.resettle ≤ rule.work_min
  pub lead : rule.lead ≤ 288
  pub tail : rule.tail ≤ 288
  pub long_work : rule.long_work ≤ 288
  pub long_rest : rule.long_rest ≤ 48
  pub few_totals : length rule.totals ≤ 16
  pub few_lunches : length rule.lunches ≤ 2
  pub totals : All IsTotal rule.totals
  pub lunches : All IsLunch rule.lunches
