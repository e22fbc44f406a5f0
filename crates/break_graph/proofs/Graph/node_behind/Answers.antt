use Rattle.break_graph.proofs.Common.{ℕ, [], sym, subst, rules, take_all, Break, Rule, Has, IsGraph, StandsAt}
use Rattle.break_graph.proofs.Leading.{no_nodes, last_node}
use Rattle.break_graph.proofs.Fronts.{stands_on, dead_on, dead_none}
use Rattle.break_graph.proofs.Graph.node_behind.Goals as goal

pub returns-in_default : goal.returns-in_default
returns-in_default c = record { behind = λ rule len g. dead_none rule len c.args.front.now (g.none (no_nodes c.args.self.now (search rules))) }

pub loop-stop-init : goal.loop-stop-init
loop-stop-init c =
    let stands : (rule : Rule) (len : ℕ) → IsGraph rule len c.args.self.now → StandsAt rule len c.args.self.now c.in-Some.opening [] =
    λ rule len g. last_node rule len c.args.self.now c.in-Some.opening g (search rules) in
    record { within = (stands c.requires.graph.0 c.requires.graph.1 c.requires.graph.2).within; stands = stands }

pub returns-in_default-edge_with : goal.returns-in_default-edge_with
returns-in_default-edge_with c =
    let s = c.args.self.now in
    let d : Break = record { start = 0; len = 0 } in
    let i = c.loop-stop.stop-index in
    record {
      behind = λ rule len g. dead_on rule len s g c.loop-stop.at c.args.front.now i d c.loop-stop-test.true (c.loop-stop.invariant.stands rule len g)
          (λ e m t. c.in_default-edge_with.ensures e (subst (λ l. Has l e) (sym c.edges.ensures) m) t);
    }

pub loop-stop-preserved : goal.loop-stop-preserved
loop-stop-preserved c =
    let s = c.args.self.now in
    let d : Break = record { start = 0; len = 0 } in
    let i = c.loop-stop.stop-index in
    let e = c.in-Some-edge_with.edge in
    let stands = λ (rule : Rule) (len : ℕ) (g : IsGraph rule len s). stands_on rule len s g c.loop-stop.at c.args.front.now i d c.loop-stop-test.true (c.loop-stop.invariant.stands rule len g) e
    (subst (λ l. Has l e) c.edges.ensures c.in-Some-edge_with.ensures.0) c.in-Some-edge_with.ensures.1 in
    record { within = (stands c.requires.graph.0 c.requires.graph.1 c.requires.graph.2).within; stands = stands }

pub returns : goal.returns
returns c = record {
  behind = λ rule len g. subst (StandsAt rule len c.args.self.now c.loop-stop.at) (take_all c.loop-stop.stop-index c.args.front.now c.loop-stop-test.false) (c.loop-stop.invariant.stands rule len g);
}
