use Rattle.pricing.proofs.Common.{◌≡◌, ◌+◌, ◌++◌, [], ◌∷◌, List, true, map, take, get_or, sym, ap, subst, ◌∙◌, w64, to_z-of_z, take_more, Break, is_live, nexts_of, spot_of, Has, Sorted, Has-map, from_filter, Sorted-filter, Sorted-breaks, IsLessBreak, Way, live_stops, IsBestWay, better_way, is_named}
use Rattle.pricing.proofs.Most.{has_at}
use Rattle.pricing.proofs.ByEdges.{has_place, map-append}
use Rattle.pricing.proofs.Ways.{sorted_before, way_more, way_named}
use Rattle.pricing.proofs.layer_rests.best_way.Goals as goal
use Rattle.pricing.proofs.layer_rests.best_way.Goals.{then-not-has, else-not-has}

pub loop-way-preserved : goal.loop-way-preserved
loop-way-preserved c =
    let p = c.args.values.now in
    let named = c.args.named.now in
    let front = c.args.front.now in
    let ways = c.args.ways.now in
    let i = c.loop-way.way-index in
    let d : Way = record { stop = record { start = 0; len = 0 }; spot = record { offset = 0; used = 0; lunches = 0 } } in
    let w = get_or ways i d in
    let done : List Break = map (λ (w : Way). w.stop) (take i ways) in
    let more : map (λ (w : Way). w.stop) (take (i + 1) ways) ≡ done ++ w.stop ∷ [] =
    ap (map (λ (w : Way). w.stop)) (take_more ways i d c.loop-way-test.true) ∙ map-append (λ (w : Way). w.stop) (take i ways) (w ∷ []) in
    let test : c.has.result ≡ is_named named (front ++ w.stop ∷ []) = c.has.ensures ∙ ap (is_named named) (c.deref.ensures.value ∙ c.in_ok-longer.ensures) in
    let has : Has (live_stops p.rule p.len front) w.stop = subst (λ l. Has l w.stop) c.requires.ways.stops (Has-map (λ (w : Way). w.stop) ways w (has_at ways i d c.loop-way-test.true)) in
    let live : is_live p.rule p.len (front ++ w.stop ∷ []) ≡ true = (from_filter (λ b. is_live p.rule p.len (front ++ b ∷ [])) (nexts_of p.rule p.len (spot_of p.rule front)) w.stop has).1 in
    let at = has_place ways w (has_at ways i d c.loop-way-test.true) in
    let spot : w.spot ≡ spot_of p.rule (front ++ w.stop ∷ []) = c.requires.ways.spots at.0 w at.1 in
    let sorted : Sorted IsLessBreak (map (λ (w : Way). w.stop) ways) =
    subst (Sorted IsLessBreak) (sym c.requires.ways.stops) (Sorted-filter IsLessBreak _ _ (Sorted-filter IsLessBreak _ _ (Sorted-breaks (spot_of p.rule front).offset p.len))) in
    let Fits : Way → Type 0 = λ w. w.spot ≡ spot_of p.rule (front ++ w.stop ∷ []) in
    let found : IsBestWay p named front (done ++ w.stop ∷ []) c.if-not-has.best =
    elim c.if-not-has.branch [
      | then-not-has b ↦
          subst (IsBestWay p named front (done ++ w.stop ∷ [])) (sym (b.best-is ∙ b.better_way-best.ensures ∙ ap (better_way c.loop-way.best w) (to_z-of_z w64 b.reach_by.result (record { sfits = b.reach_by.type_inv }))))
          (way_more (λ (w : Way). w.stop) Fits p named front done w b.reach_by.result c.loop-way.best (sym test ∙ b.if-not-has.true) (λ x m. sorted_before (λ (w : Way). w.stop) ways i d sorted c.loop-way-test.true x m)
          (b.reach_by.ensures front live spot) spot c.loop-way.invariant.best)
      | else-not-has b ↦
          subst (IsBestWay p named front (done ++ w.stop ∷ [])) (sym b.best-is)
          (way_named (λ (w : Way). w.stop) Fits p named front done w.stop c.loop-way.best (sym test ∙ b.if-not-has.false) c.loop-way.invariant.best)
    ] in
    record { best = subst (λ (bs : List Break). IsBestWay p named front bs c.if-not-has.best) (sym more) found }
