use Rattle.cert_check.proofs.Common.{◌-◌, None, take, ◌++◌, [], ◌∷◌, flat_map, WalkWay, IsWalked, duties_below}
use Rattle.cert_check.proofs.settled.+pass_class.Given as goal

abbrev pub decreases-pass_class : goal.decreases-pass_class
decreases-pass_class l = l.lists.now.len - l.at.spot.offset

abbrev pub invariant-loop-way : goal.invariant-loop-way
invariant-loop-way l =
    IsWalked l.instance l.cuts (flat_map (λ (w : WalkWay). duties_below l.instance l.class.shift l.class.day (l.class.prefix ++ w.stop ∷ [])) (take l.way-index l.ways)) None l.fn.rows.items l.rows.items
