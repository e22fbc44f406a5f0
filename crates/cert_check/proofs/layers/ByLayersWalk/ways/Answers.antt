use Rattle.cert_check.proofs.Common.{◌≡◌, ◌∙◌, List, ap, map, sym, subst, IfOk-weaker, Break, Spot, Way, AreWays, IsAtSpot}
use Rattle.cert_check.proofs.WaysOn.{spot_ways}
use Rattle.cert_check.proofs.layers.ByLayersWalk.ways.Goals as goal

pub returns : goal.returns
returns c =
    let layers = c.args.self.now.layers in
    let ways = c.in_ok-ways.ways.items in
    IfOk-weaker c.stops_with_spots.result (λ pairs. pairs.items ≡ map (λ (w : Way). (w.stop, w.spot)) c.deref.result.now) _
    (λ pairs are rule len sums list s. subst (λ (ws : List (Break × Spot)). AreWays (IsAtSpot layers rule len sums) rule len list ws)
    (sym (are ∙ ap (map (λ (w : Way). (w.stop, w.spot))) c.deref.ensures.value))
    (spot_ways layers rule len sums c.args.place list ways s (c.in_ok-ways.ensures.stops list) (c.in_ok-ways.ensures.spots list)))
    c.stops_with_spots.ensures
