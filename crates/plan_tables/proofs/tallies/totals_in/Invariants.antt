use Rattle.plan_tables.proofs.Common.{◌≡◌, ◌*◌, ◌^◌, ◌≤◌, sum_by, range_with_len, need_at, need_max_at, cover, over_at, under_at}
use Rattle.plan_tables.proofs.tallies.totals_in.Given as goal

abbrev pub invariant-loop-k : goal.invariant-loop-k
invariant-loop-k l = record {
  wanted : l.totals.wanted ≡ sum_by (need_at l.instance) (range_with_len l.first l.k);
  wanted_max : l.totals.wanted_max ≡ sum_by (need_max_at l.instance) (range_with_len l.first l.k);
  worked : l.totals.worked ≡ sum_by (cover l.instance l.attendance.duties) (range_with_len l.first l.k);
  over : l.totals.over ≡ sum_by (over_at l.instance l.attendance.duties) (range_with_len l.first l.k);
  under : l.totals.under ≡ sum_by (under_at l.instance l.attendance.duties) (range_with_len l.first l.k);
  few_wanted : l.totals.wanted ≤ l.k * 2 ^ 32;
  few_wanted_max : l.totals.wanted_max ≤ l.k * 2 ^ 32;
  few_worked : l.totals.worked ≤ l.k * 2 ^ 32;
  few_over : l.totals.over ≤ l.k * 2 ^ 32;
  few_under : l.totals.under ≤ l.k * 2 ^ 32;
}
