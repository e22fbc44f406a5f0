use Rattle.greedy.proofs.Common.{◌≡◌, ◌++◌, take, drop, duty_of, with_one_more}
use Rattle.greedy.proofs.rows.place.Given as goal

abbrev pub invariant-loop-at : goal.invariant-loop-at
invariant-loop-at l = with_one_more (duty_of l.new) l.rows ≡ take l.at l.rows ++ with_one_more (duty_of l.new) (drop l.at l.rows)
