use Rattle.plan_tables.proofs.Common.{◌≡◌, ◌+◌, ap, ◌∙◌, arith, Problem, need_at, need_max_at, cover, over_at, under_at}
use Rattle.plan_tables.proofs.SlotSums.{sum_range_more}
use Rattle.plan_tables.proofs.tallies.totals_in.Goals as goal

pub overflow_add-first : goal.overflow_add-first
overflow_add-first c = omega arith

pub loop-k-preserved : goal.loop-k-preserved
loop-k-preserved c =
    let i = c.args.instance.now in
    let rota = c.args.attendance.now.duties in
    let first = c.args.first in
    let k = c.loop-k.k in
    let need : c.need-need.result ≡ need_at i (first + k) = c.need-need.ensures.need in
    let most : c.need_max-most.result ≡ need_max_at i (first + k) = c.need_max-most.ensures.need_max in
    let working : c.working-working.result ≡ cover i rota (first + k) = c.working-working.ensures ∙ ap (λ (p : Problem). cover p rota (first + k)) c.requires.instance in
    let over : c.saturating_sub.result ≡ over_at i rota (first + k) = omega arith in
    let under : c.saturating_sub-in-loop-k.result ≡ under_at i rota (first + k) = omega arith in
    record {
      wanted = omega (arith, sum_range_more (need_at i) first k);
      wanted_max = omega (arith, sum_range_more (need_max_at i) first k);
      worked = omega (arith, sum_range_more (cover i rota) first k);
      over = omega (arith, sum_range_more (over_at i rota) first k);
      under = omega (arith, sum_range_more (under_at i rota) first k);
      few_wanted = omega arith;
      few_wanted_max = omega arith;
      few_worked = omega arith;
      few_over = omega arith;
      few_under = omega arith;
    }
