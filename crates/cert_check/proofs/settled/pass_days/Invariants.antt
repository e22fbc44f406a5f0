use Rattle.cert_check.proofs.Common.{None, [], flat_map, below, IsWalked, duties_below}
use Rattle.cert_check.proofs.settled.pass_days.Given as goal

abbrev pub invariant-loop-day : goal.invariant-loop-day
invariant-loop-day l = IsWalked l.instance l.cuts (flat_map (λ day. duties_below l.instance l.shift day []) (below l.day)) None l.fn.rows.items l.rows.items
