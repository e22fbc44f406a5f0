use Rattle.pricing.proofs.Common.{◌≡◌, ◌++◌, [], ◌∷◌, List, ℤ, true, map, refl, sym, ap, subst, ◌∙◌, Some, slice_get, Break, is_live, nexts_of, spot_of, from_filter, live_walks, Way, live_stops, IsBestWay}
use Rattle.pricing.proofs.Ways.{enough_none, enough_onward}
use Rattle.pricing.proofs.layer_rests.best_onward.Goals as goal

pub best_way-requires-clause-ways : goal.best_way-requires-clause-ways
best_way-requires-clause-ways c =
    let p = c.args.values.now in
    let front = c.args.front.now in
    let walk = live_walks p.rule p.len front c.requires.live in
    record {
      stops = ap (map (λ (w : Way). w.stop)) c.deref.ensures.value ∙ c.in_ok-ways.ensures.stops front walk c.requires.spot;
      spots = λ i w e. c.in_ok-ways.ensures.spots front walk c.requires.spot i w (subst (λ (l : List Way). slice_get l i ≡ Some w) c.deref.ensures.value e);
    }

pub returns-in-None : goal.returns-in-None
returns-in-None c =
    let p = c.args.values.now in
    let front = c.args.front.now in
    let stops = live_stops p.rule p.len front in
    enough_none p c.args.named.now front stops c.requires.unfinished refl c.new-lists.result.items c.new-lists.ensures.items (subst (IsBestWay p c.args.named.now front stops) c.in-None.is c.in_ok-best.ensures)

pub completed-requires-clause-live : goal.completed-requires-clause-live
completed-requires-clause-live c =
    let p = c.args.values.now in
    let front = c.args.front.now in
    let stops = live_stops p.rule p.len front in
    let best : Way × ℤ = c.in-Some.best in
    let found : IsBestWay p c.args.named.now front stops (Some best) = subst (IsBestWay p c.args.named.now front stops) c.in-Some.is c.in_ok-best.ensures in
    subst (λ (l : List Break). is_live p.rule p.len l ≡ true) (sym c.in_ok-list.ensures)
    (from_filter (λ b. is_live p.rule p.len (front ++ b ∷ [])) (nexts_of p.rule p.len (spot_of p.rule front)) best.0.stop found.0.among).1

pub returns : goal.returns
returns c =
    let p = c.args.values.now in
    let front = c.args.front.now in
    let stops = live_stops p.rule p.len front in
    let best : Way × ℤ = c.in-Some.best in
    let found : IsBestWay p c.args.named.now front stops (Some best) = subst (IsBestWay p c.args.named.now front stops) c.in-Some.is c.in_ok-best.ensures in
    let only : c.push.new.self.items ≡ c.in_ok-whole.whole.items ∷ [] =
    c.in_ok-push.ensures.items ∙ ap (λ (l : List (List Break)). l ++ c.new.result ∷ []) c.new-lists.ensures.items ∙ ap (λ (l : List Break). l ∷ []) c.new.ensures in
    enough_onward p c.args.named.now front stops c.requires.unfinished refl best.0.stop best.1 c.in_ok-list.list.items c.in_ok-whole.whole.items c.push.new.self.items c.requires.rule c.in_ok-list.ensures c.in_ok-whole.ensures only found.0
