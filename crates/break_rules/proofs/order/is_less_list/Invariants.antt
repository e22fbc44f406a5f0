use Rattle.break_rules.proofs.Common.{◌≡◌, ◌≤◌, drop, length, is_less_list}
use Rattle.break_rules.proofs.order.is_less_list.Given as goal

abbrev pub invariant-loop-i : goal.invariant-loop-i
invariant-loop-i l = record { rest : is_less_list (drop l.i l.a) (drop l.i l.b) ≡ is_less_list l.a l.b; within : l.i ≤ length l.b }
