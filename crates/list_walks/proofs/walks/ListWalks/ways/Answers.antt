use Rattle.std.proofs.Common.{◌≡◌, ◌++◌, ◌∷◌, [], Some, None, IsTrue, map, subst, sym, ap, ◌∙◌}
use Rattle.std.proofs.lemmas.Result.{IfOk-weaker}
use Rattle.break_rules.specs.Ranges.{IsRule}
use Rattle.break_rules.specs.Walk.{is_walk, spot_of}
use Rattle.break_graph.specs.Graph.{IsGraph, live_nexts}
use Rattle.list_walks.specs.declared.walks.Guide.TheVariants.{Layers}
use Rattle.list_walks.specs.Guides.{nodes_of, Guides}
use Rattle.list_walks.specs.Stands.{Walks}
use Rattle.list_walks.specs.Steps.{way_to}
use Rattle.list_walks.proofs.Onward.{ways_on_along, ways_on_by}
use Rattle.list_walks.proofs.walks.ListWalks.ways.Goals as goal

pub returns-in-Graph : goal.returns-in-Graph
returns-in-Graph c =
    let walks = c.args.self.now in
    let nodes : walks.nodes ≡ Some c.in-Graph.graph.now = ap (λ (w : Walks). w.nodes) (sym c.self.view_is) ∙ ap nodes_of c.in-Graph.is in
    let rule : IsRule walks.rule = subst (λ (w : Walks). IsRule w.rule) c.self.view_is c.self.invariant.0 in
    let graph : IsGraph walks.rule walks.len c.in-Graph.graph.now =
    subst (λ (w : Walks). IsGraph w.rule w.len c.in-Graph.graph.now) c.self.view_is (subst (Guides c.self.inside.rule.now c.self.inside.len) c.in-Graph.is c.self.invariant.1) in
    IfOk-weaker c.ways_along.result _ _ (λ ways is list stands. ways_on_along walks c.in-Graph.graph.now nodes rule graph c.args.at list ways.items is stands) c.ways_along.ensures

pub returns-in_ok-found-in-Layers : goal.returns-in_ok-found-in-Layers
returns-in_ok-found-in-Layers c =
    let walks = c.args.self.now in
    let found = c.in_ok-found-in-Layers in
    let nodes : walks.nodes ≡ None = ap (λ (w : Walks). w.nodes) (sym c.self.view_is) ∙ ap nodes_of c.in-Layers.is in
    let rule : IsRule walks.rule = subst (λ (w : Walks). IsRule w.rule) c.self.view_is c.self.invariant.0 in
    let guides : Guides c.self.inside.rule.now c.self.inside.len (Layers c.in-Layers.values) = subst (Guides c.self.inside.rule.now c.self.inside.len) c.in-Layers.is c.self.invariant.1 in
    let own_rule : c.in-Layers.values.rule ≡ walks.rule = guides.0 ∙ ap (λ (w : Walks). w.rule) c.self.view_is in
    let own_len : c.in-Layers.values.len ≡ walks.len = guides.1 ∙ ap (λ (w : Walks). w.len) c.self.view_is in
    let given : found.found.items ≡ c.deref.result.now = sym c.deref.ensures.value in
    IfOk-weaker c.ways_to.result _ _ (λ ways is list stands.
    let spot : c.args.at.spot ≡ spot_of c.in-Layers.values.rule list = stands.spot ∙ ap (λ r. spot_of r list) (sym own_rule) in
    let walk : IsTrue (is_walk c.in-Layers.values.rule c.in-Layers.values.len list) = ap (λ r. is_walk r c.in-Layers.values.len list) own_rule ∙ ap (λ n. is_walk walks.rule n list) own_len ∙ stands.walk in
    ways_on_by walks nodes rule c.args.at list found.found.items ways.items (is ∙ ap (map way_to) (sym given))
    (found.ensures.stops list walk spot ∙ ap (λ r. live_nexts r c.in-Layers.values.len list) own_rule ∙ ap (λ n. live_nexts walks.rule n list) own_len)
    (λ i w m. found.ensures.spots list walk spot i w m ∙ ap (λ r. spot_of r (list ++ w.stop ∷ [])) own_rule)
    stands) c.ways_to.ensures
