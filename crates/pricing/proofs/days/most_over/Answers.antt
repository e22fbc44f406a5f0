use Rattle.pricing.proofs.Common.{rules, ℤ, List, refl, sym, ap, ◌∙◌, arith, slice_get, shift_list, sum_at, sums_on}
use Rattle.pricing.proofs.Daily.{own_graph, most_of_days, no_list, none_below}
use Rattle.pricing.proofs.days.most_over.Goals as goal

pub returns-in_default : goal.returns-in_default
returns-in_default c =
    no_list c.args.instance.now c.args.shift c.args.graph.now c.args.graph.now c.requires.graph refl (sym c.node_count.ensures ∙ none_below c.node_count.result c.in_default.ensures)

pub set_values_by_day-requires-clause-graph : goal.set_values_by_day-requires-clause-graph
set_values_by_day-requires-clause-graph c =
    own_graph (slice_get (shift_list c.args.instance.now) c.args.shift) c.shift-len.result c.rule_of.result.now c.args.graph.now c.args.graph.now c.shift-len.ensures.shift c.rule_of.ensures.rule c.requires.graph refl

pub returns : goal.returns
returns c =
    let i = c.args.instance.now in
    let nodes = c.args.graph.now in
    let values = c.set_values_by_day.new.values.items in
    let graph = own_graph (slice_get (shift_list i) c.args.shift) c.shift-len.result c.rule_of.result.now c.args.graph.now nodes c.shift-len.ensures.shift c.rule_of.ensures.rule c.requires.graph refl in
    let week = c.shift-len.ensures.valid.days in
    most_of_days i c.args.shift c.args.sums.now.prices c.along-sums.result.now values c.shift-len.result c.rule_of.result.now nodes c.in-Some.opening c.lane_at.result.now
    c.shift-len.ensures.shift c.rule_of.ensures.rule graph (search rules) c.shift-len.ensures.valid c.shift-len.ensures.within c.along-sums.ensures c.in_ok-set_values_by_day.ensures
    (omega (arith, week))
    (λ day less. c.lane_at.ensures day ∙ ap (λ (vs : List (List ℤ)). sum_at (sums_on day vs) c.in-Some.opening) c.deref.ensures.value)
