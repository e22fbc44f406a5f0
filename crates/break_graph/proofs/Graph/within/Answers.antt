use Rattle.break_graph.proofs.Common.{◌≡◌, ℕ, ◌+◌, ◌*◌, ◌<◌, ◌++◌, [], ◌∷◌, List, refl, ap, subst, arith, Option, IsNodeOf, AreDrafted}
use Rattle.break_graph.proofs.Embedding.{edges_in, too_many}
use Rattle.break_graph.proofs.Nodes.{draft_more, whole_graph}
use Rattle.break_graph.proofs.Graph.within.Goals as goal

pub loop-place-preserved : goal.loop-place-preserved
loop-place-preserved c =
    let rule = c.args.rule.now in
    let len = c.args.len in
    let place = c.loop-place.place in
    let nodes = c.loop-place.graph in
    let numbers = c.loop-place.numbers.items in
    let of : IsNodeOf rule len place numbers c.in_ok-found.found = subst (λ (ns : List (Option ℕ)). IsNodeOf rule len place ns c.in_ok-found.found) c.deref-in-loop-place.ensures.value c.in_ok-found.ensures in
    record {
      within = omega arith;
      many = omega (arith, c.in_ok-push.ensures.len, c.loop-place.invariant.many);
      few = omega (arith, c.in_ok-number.ensures.few, c.loop-place.invariant.few);
      drafted = draft_more rule len place nodes c.add_node.new.graph numbers c.push.new.self.items c.in_ok-found.found c.in_ok-number.number c.requires c.loop-place.invariant.drafted c.loop-place.invariant.many of
          c.in_ok-number.ensures.none c.in_ok-number.ensures.some c.in_ok-push.ensures.items;
    }

pub returns-then-most_edges-edges_in_all-clause-more : goal.returns-then-most_edges-edges_in_all-clause-more
returns-then-most_edges-edges_in_all-clause-more c = λ none g is.
    let rule = c.args.rule.now in
    let len = c.args.len in
    let place = c.loop-place.place in
    let nodes = c.loop-place.graph in
    let numbers = c.loop-place.numbers.items in
    let of : IsNodeOf rule len place numbers c.in_ok-found.found = subst (λ (ns : List (Option ℕ)). IsNodeOf rule len place ns c.in_ok-found.found) c.deref-in-loop-place.ensures.value c.in_ok-found.ensures in
    let longer = numbers ++ c.in_ok-number.number ∷ [] in
    let drafted : AreDrafted rule len (place + 1) c.add_node.new.graph longer =
    draft_more rule len place nodes c.add_node.new.graph numbers longer c.in_ok-found.found c.in_ok-number.number c.requires c.loop-place.invariant.drafted c.loop-place.invariant.many of
    c.in_ok-number.ensures.none c.in_ok-number.ensures.some refl in
    let more : c.args.most_edges < edges_in c.add_node.new.graph = omega arith in
    too_many rule len g is (place + 1) c.add_node.new.graph longer drafted c.args.most_edges more

pub returns-clause-graph : goal.returns-clause-graph
returns-clause-graph c =
    let len = c.args.len in
    let last : 256 * c.from.result ≡ 256 * len = ap (λ (k : ℕ). 256 * k) c.from.ensures in
    let end : c.loop-place.place ≡ 256 * len + 1 = omega (arith, c.loop-place-test.false, c.loop-place.auto.place-end, last) in
    whole_graph c.args.rule.now len c.loop-place.place c.loop-place.graph c.loop-place.numbers.items c.loop-place.invariant.drafted end
