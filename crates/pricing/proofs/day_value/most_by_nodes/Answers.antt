use Rattle.pricing.proofs.Common.{rules, ◌≡◌, ◌+◌, ◌∙◌, ℤ, List, [], length, ap, sym, subst, arith, to_z, of_z, w64, to_z-of_z, sum_at, IsValue}
use Rattle.pricing.proofs.Daily.{no_nodes, none_below, opening_at}
use Rattle.pricing.proofs.day_value.most_by_nodes.Goals as goal

pub returns-in_default : goal.returns-in_default
returns-in_default c = no_nodes c.args.rule.now c.args.len c.args.graph.now c.requires.graph (sym c.node_count.ensures ∙ none_below c.node_count.result c.in_default.ensures)

pub returns : goal.returns
returns c =
    let rule = c.args.rule.now in
    let nodes = c.args.graph.now in
    let k = c.in-Some.opening in
    let values = c.in_ok-values.values.items in
    let last : k + 1 ≡ length nodes = search rules in
    let own : IsValue rule c.args.len c.args.sums.now [] (sum_at values k) = c.in_ok-values.ensures k [] (omega (arith, last)) (opening_at rule c.args.len nodes k c.requires.graph last) in
    let same : to_z w64 (of_z w64 c.sum_before.result) ≡ sum_at values k =
    to_z-of_z w64 c.sum_before.result (record { sfits = c.sum_before.type_inv }) ∙ c.sum_before.ensures ∙ ap (λ (vs : List ℤ). sum_at vs k) c.deref.ensures.value in
    subst (IsValue rule c.args.len c.args.sums.now []) (sym same) own
