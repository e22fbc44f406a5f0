use Rattle.break_rules.proofs.Common.{◌≡◌, ◌++◌, [], ◌∷◌, List, true, Some, None, slice_get, sym, ap, subst, refl, ◌∙◌, find, Break, Rule, Spot, is_live, legal_lists, nexts_of, spot_of, is_walk, may_follow}
use Rattle.break_rules.proofs.Steps.{from_next}
use Rattle.break_rules.proofs.Reaching.{walk_on}
use Rattle.break_rules.proofs.FirstList.{least_of, first_start, first_none, first_step, first_end, found_at, found_next, nearer}
use Rattle.break_rules.proofs.living.least.Goals as goal

pub returns-then-not-is_live : goal.returns-then-not-is_live
returns-then-not-is_live c =
    let made = c.in_ok-spots.ensures in
    let live : c.is_live.result ≡ is_live c.in_ok-spots.spots.rule c.in_ok-spots.spots.len [] = c.is_live.ensures [] refl (c.opening-spot.ensures c.in_ok-spots.spots.rule) in
    let here : c.is_live.result ≡ is_live c.args.rule.now c.args.len [] = live ∙ ap (λ (r : Rule). is_live r c.in_ok-spots.spots.len []) made.0 ∙ ap (λ n. is_live c.args.rule.now n []) made.1 in
    let first : None ≡ slice_get (legal_lists c.args.rule.now c.args.len) 0 = sym (first_none c.args.rule.now c.args.len (sym here ∙ c.if-not-is_live.true)) in
    record { first = first; least = least_of c.args.rule.now c.args.len None first }

pub loop-next-init : goal.loop-next-init
loop-next-init c =
    let made = c.in_ok-spots.ensures in
    let live : c.is_live.result ≡ is_live c.in_ok-spots.spots.rule c.in_ok-spots.spots.len [] = c.is_live.ensures [] refl (c.opening-spot.ensures c.in_ok-spots.spots.rule) in
    let here : c.is_live.result ≡ is_live c.args.rule.now c.args.len [] = live ∙ ap (λ (r : Rule). is_live r c.in_ok-spots.spots.len []) made.0 ∙ ap (λ n. is_live c.args.rule.now n []) made.1 in
    let none = sym c.new-list.ensures.items in
    record {
      walk = ap (is_walk c.args.rule.now c.args.len) (sym none);
      spot = c.opening-spot.ensures c.args.rule.now ∙ ap (spot_of c.args.rule.now) none;
      leads = subst (λ (list : List Break). (tail : List Break) × (slice_get (legal_lists c.args.rule.now c.args.len) 0 ≡ Some (list ++ tail))) none (first_start c.args.rule.now c.args.len (sym here ∙ c.if-not-is_live.false));
    }

pub loop-next-smaller : goal.loop-next-smaller
loop-next-smaller c =
    let rule = c.args.rule.now in
    let list = c.loop-next.list.items in
    let found : Some c.in-Some.next ≡ find (λ n. is_live rule c.args.len (list ++ n ∷ [])) (nexts_of rule c.args.len (spot_of rule list)) =
    found_at rule c.args.len c.in_ok-spots.spots.len list c.loop-next.spot (Some c.in-Some.next) c.in_ok-spots.ensures.1 c.in-Some.ensures c.loop-next.invariant.walk c.loop-next.invariant.spot in
    let may : may_follow rule c.args.len c.loop-next.spot.offset c.loop-next.spot.used c.in-Some.next ≡ true =
    subst (λ (s : Spot). may_follow rule c.args.len s.offset s.used c.in-Some.next ≡ true) (sym c.loop-next.invariant.spot)
    (from_next rule c.args.len (spot_of rule list) c.in-Some.next (found_next rule c.args.len list c.in-Some.next found)) in
    nearer rule c.args.len list c.loop-next.spot c.after-spot.result c.in-Some.next c.loop-next.invariant.spot (c.after-spot.ensures list c.loop-next.invariant.spot (c.args.len, c.ranges.len.fits, may)) (found_next rule c.args.len list c.in-Some.next found)

pub loop-next-preserved : goal.loop-next-preserved
loop-next-preserved c =
    let rule = c.args.rule.now in
    let list = c.loop-next.list.items in
    let next = c.in-Some.next in
    let found : Some next ≡ find (λ n. is_live rule c.args.len (list ++ n ∷ [])) (nexts_of rule c.args.len (spot_of rule list)) =
    found_at rule c.args.len c.in_ok-spots.spots.len list c.loop-next.spot (Some next) c.in_ok-spots.ensures.1 c.in-Some.ensures c.loop-next.invariant.walk c.loop-next.invariant.spot in
    let may : may_follow rule c.args.len c.loop-next.spot.offset c.loop-next.spot.used c.in-Some.next ≡ true =
    subst (λ (s : Spot). may_follow rule c.args.len s.offset s.used c.in-Some.next ≡ true) (sym c.loop-next.invariant.spot)
    (from_next rule c.args.len (spot_of rule list) c.in-Some.next (found_next rule c.args.len list c.in-Some.next found)) in
    let longer : list ++ next ∷ [] ≡ c.push.new.self.items = sym c.in_ok-push.ensures.items in
    record {
      walk = ap (is_walk rule c.args.len) (sym longer) ∙ walk_on rule c.args.len list next c.loop-next.invariant.walk (found_next rule c.args.len list next found);
      spot = c.after-spot.ensures list c.loop-next.invariant.spot (c.args.len, c.ranges.len.fits, may) ∙ ap (spot_of rule) longer;
      leads = subst (λ (whole : List Break). (tail : List Break) × (slice_get (legal_lists rule c.args.len) 0 ≡ Some (whole ++ tail))) longer
          (first_step rule c.args.len list next c.loop-next.invariant.leads.0 c.loop-next.invariant.leads.1 (sym found));
    }

pub returns : goal.returns
returns c =
    let rule = c.args.rule.now in
    let list = c.loop-next.list.items in
    let found : None ≡ find (λ n. is_live rule c.args.len (list ++ n ∷ [])) (nexts_of rule c.args.len (spot_of rule list)) =
    found_at rule c.args.len c.in_ok-spots.spots.len list c.loop-next.spot None c.in_ok-spots.ensures.1 c.in_default.ensures c.loop-next.invariant.walk c.loop-next.invariant.spot in
    let whole = first_end rule c.args.len list c.loop-next.invariant.leads.0 c.loop-next.invariant.leads.1 (sym found) in
    let first : Some c.new-2.result ≡ slice_get (legal_lists rule c.args.len) 0 = ap Some c.new-2.ensures ∙ sym whole in
    record { first = first; least = least_of rule c.args.len (Some c.new-2.result) first }
