use Rattle.break_graph.proofs.Common.{◌≡◌, ◌++◌, ◌∷◌, [], ℕ, List, Some, slice_get, sym, ap, subst, ◌∙◌, rules, Break, Rule, legal_lists, first_start, first_none, IsGraph, StandsAt, node_at}
use Rattle.break_graph.proofs.Leading.{first_on, first_whole, no_nodes, last_node}
use Rattle.break_graph.proofs.Graph.least.Goals as goal

pub returns-in_default : goal.returns-in_default
returns-in_default c = record { first = λ rule len g. sym (first_none rule len (g.none (no_nodes c.args.self.now (search rules)))) }

pub loop-edge-init : goal.loop-edge-init
loop-edge-init c =
    let none : [] ≡ c.new-list.result.items = sym c.new-list.ensures.items in
    let stands : (rule : Rule) (len : ℕ) → IsGraph rule len c.args.self.now → StandsAt rule len c.args.self.now c.in-Some.opening [] =
    λ rule len g. last_node rule len c.args.self.now c.in-Some.opening g (search rules) in
    record {
      within = (stands c.requires.graph.0 c.requires.graph.1 c.requires.graph.2).within;
      stands = λ rule len g. subst (StandsAt rule len c.args.self.now c.in-Some.opening) none (stands rule len g);
      leads = λ rule len g. subst (λ (l : List Break). (tail : List Break) × (slice_get (legal_lists rule len) 0 ≡ Some (l ++ tail))) none (first_start rule len (stands rule len g).live);
    }

pub loop-edge-preserved : goal.loop-edge-preserved
loop-edge-preserved c =
    let nodes = c.args.self.now in
    let list = c.loop-edge.list.items in
    let e = c.in-Some-first_edge.edge in
    let first : Some e ≡ slice_get (node_at nodes c.loop-edge.at).edges 0 = c.in-Some-first_edge.ensures in
    let longer : list ++ e.stop ∷ [] ≡ c.push.new.self.items = sym c.in_ok-push.ensures.items in
    let stands : (rule : Rule) (len : ℕ) → IsGraph rule len nodes → StandsAt rule len nodes e.next (list ++ e.stop ∷ []) =
    λ rule len g. g.behind c.loop-edge.at 0 e list (c.loop-edge.invariant.stands rule len g) (sym first) in
    record {
      within = (stands c.requires.graph.0 c.requires.graph.1 c.requires.graph.2).within;
      stands = λ rule len g. subst (StandsAt rule len nodes e.next) longer (stands rule len g);
      leads = λ rule len g. subst (λ (l : List Break). (tail : List Break) × (slice_get (legal_lists rule len) 0 ≡ Some (l ++ tail))) longer
          (first_on rule len nodes c.loop-edge.at list (c.loop-edge.invariant.leads rule len g).0 g (c.loop-edge.invariant.stands rule len g) (c.loop-edge.invariant.leads rule len g).1 e first);
    }

pub returns : goal.returns
returns c = record {
  first = λ rule len g.
      ap Some c.new.ensures
      ∙ first_whole rule len c.args.self.now c.loop-edge.at c.loop-edge.list.items (c.loop-edge.invariant.leads rule len g).0 g (c.loop-edge.invariant.stands rule len g) (c.loop-edge.invariant.leads rule len g).1 c.in_default-first_edge.ensures;
}
