use Rattle.plan_page.proofs.Common.{◌≡◌, ◌<◌, fold, max, below, need_max_at, cover}
use Rattle.plan_page.proofs.chart.most_employees.Given as goal

abbrev pub invariant-loop-t : goal.invariant-loop-t
invariant-loop-t l = record {
  most : l.most ≡ fold (λ most t. max most (max (need_max_at l.instance t) (cover l.instance l.attendance.duties t))) 1 (below l.t);
  some : 0 < l.most;
}
