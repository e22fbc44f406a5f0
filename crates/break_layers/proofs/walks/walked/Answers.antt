use Rattle.break_layers.proofs.Common.{◌≡◌, true, take, get_or, sym, ap, ◌∙◌, take_more, Break, Spot, may_follow, spot_of, walk_broken, walk_longer}
use Rattle.break_layers.proofs.walks.walked.Goals as goal

pub returns-then-not-may_come : goal.returns-then-not-may_come
returns-then-not-may_come c =
    let rule = c.args.rule.now in
    let i = c.loop-stop.stop-index in
    let d : Break = record { start = 0; len = 0 } in
    let b = get_or c.args.front.now i d in
    let at : c.may_come.result ≡ may_follow rule c.args.len (spot_of rule (take i c.args.front.now)).offset (spot_of rule (take i c.args.front.now)).used b =
    c.may_come.ensures ∙ ap (λ (s : Spot). may_follow rule c.args.len s.offset s.used b) c.loop-stop.invariant.spot in
    walk_broken rule c.args.len c.args.front.now i d c.loop-stop-test.true (sym at ∙ c.if-not-may_come.true)

pub loop-stop-preserved : goal.loop-stop-preserved
loop-stop-preserved c =
    let rule = c.args.rule.now in
    let i = c.loop-stop.stop-index in
    let d : Break = record { start = 0; len = 0 } in
    let b = get_or c.args.front.now i d in
    let there : may_follow rule c.args.len c.loop-stop.spot.offset c.loop-stop.spot.used b ≡ true = sym c.may_come.ensures ∙ c.if-not-may_come.false in
    let at : may_follow rule c.args.len (spot_of rule (take i c.args.front.now)).offset (spot_of rule (take i c.args.front.now)).used b ≡ true =
    sym (ap (λ (s : Spot). may_follow rule c.args.len s.offset s.used b) c.loop-stop.invariant.spot) ∙ there in
    record {
      walk = walk_longer rule c.args.len c.args.front.now i d c.loop-stop-test.true c.loop-stop.invariant.walk at;
      spot = c.after-spot.ensures (take i c.args.front.now) c.loop-stop.invariant.spot (c.args.len, c.ranges.len.fits, there) ∙ ap (spot_of rule) (sym (take_more c.args.front.now i d c.loop-stop-test.true));
    }
