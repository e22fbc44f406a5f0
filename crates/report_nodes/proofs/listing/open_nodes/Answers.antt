use Rattle.report_nodes.proofs.Common.{◌≤◌, ◌^◌, ◌∙◌, sym, subst, ℕ, length, List, rules, Node, OpenNode}
use Rattle.std.proofs.lemmas.List.Sorted.{answers_always}
use Rattle.std.specs.List.Sorted.{IsPermutation}
use Rattle.report_nodes.proofs.Grown.{few_nodes, listed_open, made_nodes}
use Rattle.report_nodes.proofs.listing.open_nodes.Goals as goal

pub open_of-requires : goal.open_of-requires
open_of-requires c =
    let good = made_nodes (λ v. v.items) c.args.instance.now c.new-root.result c.args.whole.now.lines c.in_ok-nodes.field-0 c.in-Some.nodes (c.new-root.ensures ∙ c.new.ensures.items) c.in_ok-nodes.ensures c.in-Some.is in
    subst (λ (ns : List Node). length ns ≤ 2 ^ 31) (sym c.as_slice.ensures.value) (few_nodes c.args.instance.now c.args.whole.now.lines c.in-Some.nodes.items good c.requires)

pub returns-clause-first : goal.returns-clause-first
returns-clause-first c =
    let good = made_nodes (λ v. v.items) c.args.instance.now c.new-root.result c.args.whole.now.lines c.in_ok-nodes.field-0 c.in-Some.nodes (c.new-root.ensures ∙ c.new.ensures.items) c.in_ok-nodes.ensures c.in-Some.is in
    let ranked = c.sort_by_key.new.self.items in
    let key : OpenNode → ℕ × ℕ = λ n. (n.floor, n.node) in
    record {
      accepted = c.in-Ok.ensures.accepted;
      sorted = ranked;
      all = subst (λ (xs : List OpenNode). IsPermutation xs ranked) (listed_open c.args.instance.now c.args.whole.now c.top_of.result c.in-Some.nodes.items c.as_slice.result.now c.in_ok-list.list.items c.in_ok-list.ensures c.top_of.ensures c.as_slice.ensures.value good) c.sort_by_key.ensures.permutation;
      ordered = c.in_ok-sort_by_key.ensures.sorted key (answers_always _ _ _ (λ f a r g h. search rules));
      first = c.truncate.ensures.items;
    }
