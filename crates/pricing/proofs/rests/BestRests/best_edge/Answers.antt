use Rattle.pricing.proofs.Common.{◌≡◌, ◌+◌, ◌++◌, [], ◌∷◌, List, map, take, get_or, sym, ap, subst, ◌∙◌, w64, to_z-of_z, take_more, Break, spot_of, Has, Sorted, Sorted-filter, Sorted-breaks, IsLessBreak, Edge, StandsAt, node_at, IsBestEdge, better_way, is_named, priced_of}
use Rattle.pricing.proofs.Most.{has_at}
use Rattle.pricing.proofs.ByEdges.{behind_node, map-append}
use Rattle.pricing.proofs.Ways.{sorted_before, way_more, way_named}
use Rattle.pricing.proofs.rests.BestRests.best_edge.Goals as goal
use Rattle.pricing.proofs.rests.BestRests.best_edge.Goals.{then-not-has, else-not-has}

pub reach_by-requires : goal.reach_by-requires
reach_by-requires c =
    let p = c.args.self.now in
    let edges = c.edges_at-edge-items.result.now in
    let d : Edge = record { stop = record { start = 0; len = 0 }; next = 0 } in
    let has : Has (node_at p.nodes c.args.at).edges (get_or edges c.loop-edge.edge-index d) = subst (λ l. Has l (get_or edges c.loop-edge.edge-index d)) c.edges_at-edge-items.ensures.edges (has_at edges c.loop-edge.edge-index d c.loop-edge-test.true) in
    (behind_node p.rule p.len p.nodes c.args.at c.args.front.now c.edges_at-edge-items.ensures.graph c.requires (get_or edges c.loop-edge.edge-index d) has).within

pub loop-edge-preserved : goal.loop-edge-preserved
loop-edge-preserved c =
    let p = c.args.self.now in
    let named = c.args.named.now in
    let front = c.args.front.now in
    let edges = c.edges_at-edge-items.result.now in
    let i = c.loop-edge.edge-index in
    let d : Edge = record { stop = record { start = 0; len = 0 }; next = 0 } in
    let e = get_or edges i d in
    let done : List Break = map (λ (e : Edge). e.stop) (take i edges) in
    let more : map (λ (e : Edge). e.stop) (take (i + 1) edges) ≡ done ++ e.stop ∷ [] =
    ap (map (λ (e : Edge). e.stop)) (take_more edges i d c.loop-edge-test.true) ∙ map-append (λ (e : Edge). e.stop) (take i edges) (e ∷ []) in
    let test : c.has.result ≡ is_named named (front ++ e.stop ∷ []) = c.has.ensures ∙ ap (is_named named) (c.deref.ensures.value ∙ c.in_ok-longer.ensures) in
    let has : Has (node_at p.nodes c.args.at).edges e = subst (λ l. Has l e) c.edges_at-edge-items.ensures.edges (has_at edges i d c.loop-edge-test.true) in
    let stands : StandsAt p.rule p.len p.nodes e.next (front ++ e.stop ∷ []) = behind_node p.rule p.len p.nodes c.args.at front c.edges_at-edge-items.ensures.graph c.requires e has in
    let sorted : Sorted IsLessBreak (map (λ (e : Edge). e.stop) edges) =
    subst (Sorted IsLessBreak) (sym (ap (map (λ (e : Edge). e.stop)) c.edges_at-edge-items.ensures.edges ∙ c.edges_at-edge-items.ensures.graph.edges c.args.at front c.requires))
    (Sorted-filter IsLessBreak _ _ (Sorted-filter IsLessBreak _ _ (Sorted-breaks (spot_of p.rule front).offset p.len))) in
    let Fits : Edge → Type 0 = λ e. StandsAt p.rule p.len p.nodes e.next (front ++ e.stop ∷ []) in
    let found : IsBestEdge p named front (done ++ e.stop ∷ []) c.if-not-has.best =
    elim c.if-not-has.branch [
      | then-not-has b ↦
          subst (IsBestEdge p named front (done ++ e.stop ∷ [])) (sym (b.best-is ∙ b.better_way-best.ensures ∙ ap (better_way c.loop-edge.best e) (to_z-of_z w64 b.reach_by.result (record { sfits = b.reach_by.type_inv }))))
          (way_more (λ (e : Edge). e.stop) Fits (priced_of p) named front done e b.reach_by.result c.loop-edge.best (sym test ∙ b.if-not-has.true) (λ x m. sorted_before (λ (e : Edge). e.stop) edges i d sorted c.loop-edge-test.true x m)
          (b.reach_by.ensures front stands) stands c.loop-edge.invariant.best)
      | else-not-has b ↦
          subst (IsBestEdge p named front (done ++ e.stop ∷ [])) (sym b.best-is)
          (way_named (λ (e : Edge). e.stop) Fits (priced_of p) named front done e.stop c.loop-edge.best (sym test ∙ b.if-not-has.false) c.loop-edge.invariant.best)
    ] in
    record { best = subst (λ (bs : List Break). IsBestEdge p named front bs c.if-not-has.best) (sym more) found }
