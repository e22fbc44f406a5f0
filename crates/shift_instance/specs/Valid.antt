-- Which numbers make an instance. Source: this project's profile.
use Rattle.std.specs.Prelude.{◌≡◌, ℕ, ◌≤◌, ◌<◌, ◌*◌, List, length, map, All, IsTrue, None, Some, slice_get}
use Rattle.break_rules.specs.Causes.{first_cause}
use Rattle.break_rules.specs.RuleFaults.{rule_causes}
use Rattle.break_graph.specs.declared.Node.{Node}
use Rattle.shift_instance.specs.declared.Shift.{Shift}
use Rattle.shift_instance.specs.Graphs.{AreGraphs}
use Rattle.shift_instance.specs.Kind.{Kind}
use Rattle.shift_instance.specs.Names.{is_name}
use Rattle.shift_instance.specs.Faults.{instance_causes}
use Rattle.shift_instance.specs.Problem.{Problem, slots, day_slots, need_at, need_max_at, shift_list}

-- a shift type whose name, windows and break rule are within the ranges
pub record IsKind (i : Problem) (k : Kind) : Type 0 where
  pub name : IsTrue (is_name k.name)
  pub starts : k.start_min ≤ k.start_max
  pub early : k.start_max < 2 * day_slots i
  pub some_length : 1 ≤ k.len_min
  pub lengths : k.len_min ≤ k.len_max
  pub short : k.len_max ≤ day_slots i
  pub passes : first_cause (rule_causes k.rule) ≡ None

-- a shift within the ranges
pub record IsShift (i : Problem) (s : Shift) : Type 0 where
  pub kind : s.kind < length i.kinds
  pub early : s.start < 2 * day_slots i
  pub some_length : 1 ≤ s.len
  pub short : s.len ≤ day_slots i

-- numbers within the ranges of an instance
pub record IsValid (i : Problem) : Type 0 where
  pub minutes : 0 < i.slot_minutes
  pub some_day_slots : 24 ≤ day_slots i
  pub day_limit : day_slots i ≤ 288
  pub some_slots : 0 < slots i
  pub few_slots : slots i ≤ 2016
  pub days : i.days ≤ 7
  pub some_days : 0 < i.days
  pub need_length : length i.need ≡ slots i
  pub need_limit : All (λ n. n ≤ 10000) i.need
  pub band_length : length i.need_max ≡ slots i
  pub band_limit : All (λ n. n ≤ 10000) i.need_max
  pub bands : (t : ℕ) → t < slots i → need_at i t ≤ need_max_at i t
  pub excess : i.excess ≤ 1000000
  pub shortage : i.shortage ≤ 1000000
  pub shift : i.shift ≤ 1000000
  pub heads : i.heads ≤ 200
  pub some_heads : 1 ≤ i.heads
  pub types : length i.kinds ≤ 16
  pub some_types : 1 ≤ length i.kinds
  pub kinds : All (IsKind i) i.kinds
  pub names : (a b : ℕ) (x y : Kind) → slice_get i.kinds a ≡ Some x → slice_get i.kinds b ≡ Some y → a < b → ¬ (x.name ≡ y.name)
  pub shifts : length (shift_list i) ≤ 1024

-- what an instance keeps: valid numbers without a fault, their shift list, and graphs of the break lists of their types
pub record IsInside (i : Problem) (shifts : List Shift) (graphs : List (List (List Node))) : Type 0 where
  pub valid : IsValid i
  pub faultless : first_cause (instance_causes i) ≡ None
  pub listed : shifts ≡ map (λ x. x.0) (shift_list i)
  pub drawn : AreGraphs i.kinds graphs
