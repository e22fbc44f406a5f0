use Rattle.break_rules.proofs.Common.{◌≡◌, true, ◌+◌, take, get_or, sym, ap, ◌∙◌, arith, take_more, Break, Spot, may_follow, spot_of}
use Rattle.break_rules.proofs.Reaching.{walk_broken, walk_longer, walk_small}
use Rattle.break_rules.proofs.living.spot_behind.Goals as goal

pub returns-then-not-follows : goal.returns-then-not-follows
returns-then-not-follows c =
    let rule = c.args.rule.now in
    let i = c.loop-next.next-index in
    let d : Break = record { start = 0; len = 0 } in
    let b = get_or c.args.list.now i d in
    let may : c.follows.result ≡ may_follow rule c.args.len c.from.result c.from-in-loop-next.result b = c.follows.ensures in
    let at : c.follows.result ≡ may_follow rule c.args.len (spot_of rule (take i c.args.list.now)).offset (spot_of rule (take i c.args.list.now)).used b =
    may ∙ ap (λ o. may_follow rule c.args.len o c.from-in-loop-next.result b) c.from.ensures ∙ ap (λ u. may_follow rule c.args.len c.loop-next.spot.offset u b) c.from-in-loop-next.ensures
    ∙ ap (λ (s : Spot). may_follow rule c.args.len s.offset s.used b) c.loop-next.invariant.spot in
    walk_broken rule c.args.len c.args.list.now i d c.loop-next-test.true (sym at ∙ c.if-not-follows.true)

pub loop-next-preserved : goal.loop-next-preserved
loop-next-preserved c =
    let rule = c.args.rule.now in
    let i = c.loop-next.next-index in
    let d : Break = record { start = 0; len = 0 } in
    let b = get_or c.args.list.now i d in
    let may : c.follows.result ≡ may_follow rule c.args.len c.from.result c.from-in-loop-next.result b = c.follows.ensures in
    let at : c.follows.result ≡ may_follow rule c.args.len (spot_of rule (take i c.args.list.now)).offset (spot_of rule (take i c.args.list.now)).used b =
    may ∙ ap (λ o. may_follow rule c.args.len o c.from-in-loop-next.result b) c.from.ensures ∙ ap (λ u. may_follow rule c.args.len c.loop-next.spot.offset u b) c.from-in-loop-next.ensures
    ∙ ap (λ (s : Spot). may_follow rule c.args.len s.offset s.used b) c.loop-next.invariant.spot in
    let there : may_follow rule c.args.len c.loop-next.spot.offset c.loop-next.spot.used b ≡ true =
    ap (λ u. may_follow rule c.args.len c.loop-next.spot.offset u b) (sym c.from-in-loop-next.ensures) ∙ ap (λ o. may_follow rule c.args.len o c.from-in-loop-next.result b) (sym c.from.ensures)
    ∙ sym may ∙ c.if-not-follows.false in
    let walk = walk_longer rule c.args.len c.args.list.now i d c.loop-next-test.true c.loop-next.invariant.walk (sym at ∙ c.if-not-follows.false) in
    let spot : c.after-spot.result ≡ spot_of rule (take (i + 1) c.args.list.now) =
    c.after-spot.ensures (take i c.args.list.now) c.loop-next.invariant.spot (c.args.len, c.ranges.len.fits, there) ∙ ap (spot_of rule) (sym (take_more c.args.list.now i d c.loop-next-test.true)) in
    let small = walk_small rule c.args.len (take (i + 1) c.args.list.now) c.requires walk in
    let used = ap (λ (s : Spot). s.used) spot in
    record { walk = walk; spot = spot; used = omega arith; total = c.loop-next.invariant.total }
