use Rattle.pricing.proofs.Common.{◌+◌, sym, subst, Edge, sum_at, sums_on, reach_of}
use Rattle.pricing.proofs.Most.{IsMostBefore, most_first, most_more, most_all, has_at, has_got}
use Rattle.pricing.proofs.day_values.most_reached_by_day.Goals as goal

pub loop-edge-init : goal.loop-edge-init
loop-edge-init c = record {
  most = λ day less fit.
      let reach = reach_of (sums_on day c.args.sums.now) (sums_on day c.args.values.now) in
      most_first reach c.args.edges.now c.args.first _ c.requires.first (sym (c.reach_by_day-most.ensures day less (fit c.args.first (has_got c.args.edges.now 0 c.args.first c.requires.first))));
}

pub loop-edge-preserved : goal.loop-edge-preserved
loop-edge-preserved c = record {
  most = λ day less fit.
      let reach = reach_of (sums_on day c.args.sums.now) (sums_on day c.args.values.now) in
      let edges = c.args.edges.now in
      let i = c.loop-edge.edge-index in
      let d : Edge = record { stop = record { start = 0; len = 0 }; next = 0 } in
      let is = c.reach_by_day.ensures day less (fit _ (has_at edges i d c.loop-edge-test.true)) in
      subst (IsMostBefore reach edges (i + 1)) (sym (c.raise_lane.ensures day less))
      (most_more reach edges i d (sum_at c.loop-edge.most day) (sum_at c.reach_by_day.result day) c.loop-edge-test.true (sym is) (c.loop-edge.invariant.most day less fit));
}

pub returns : goal.returns
returns c = λ day less fit.
    most_all (reach_of (sums_on day c.args.sums.now) (sums_on day c.args.values.now)) c.args.edges.now c.loop-edge.edge-index (sum_at c.loop-edge.most day) c.loop-edge-test.false (c.loop-edge.invariant.most day less fit)
