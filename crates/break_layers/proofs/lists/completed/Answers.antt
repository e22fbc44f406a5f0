use Rattle.break_layers.proofs.Common.{◌≡◌, ◌++◌, [], ◌∷◌, List, true, sym, ap, subst, ◌∙◌, append_assoc, append-nil, Break, Spot, is_live, spot_of, may_follow, from_next, LeadsOn, IsBestTail}
use Rattle.break_rules.proofs.FirstList.{nearer}
use Rattle.break_layers.proofs.Following.{best_at_end}
use Rattle.break_layers.proofs.lists.completed.Goals as goal

pub loop-next-init : goal.loop-next-init
loop-next-init c = record { live = c.requires.live; spot = c.requires.spot; leads = ([], sym (append-nil c.args.list.items), λ tail t. t) }

pub loop-next-smaller : goal.loop-next-smaller
loop-next-smaller c =
    let rule = c.args.rule.now in
    let len = c.args.len in
    let list = c.loop-next.whole.items in
    let next = c.in-Some.next in
    let i = c.loop-next.invariant in
    let on : LeadsOn rule len c.args.sums.now list next = c.in-Some.ensures list i.live i.spot in
    let may : may_follow rule len c.loop-next.at.offset c.loop-next.at.used next ≡ true =
    subst (λ (p : Spot). may_follow rule len p.offset p.used next ≡ true) (sym i.spot) (from_next rule len (spot_of rule list) next on.follows) in
    nearer rule len list c.loop-next.at c.after-at.result next i.spot (c.after-at.ensures list i.spot (len, c.ranges.len.fits, may)) on.follows

pub loop-next-preserved : goal.loop-next-preserved
loop-next-preserved c =
    let rule = c.args.rule.now in
    let len = c.args.len in
    let sums = c.args.sums.now in
    let list = c.loop-next.whole.items in
    let next = c.in-Some.next in
    let i = c.loop-next.invariant in
    let on : LeadsOn rule len sums list next = c.in-Some.ensures list i.live i.spot in
    let may : may_follow rule len c.loop-next.at.offset c.loop-next.at.used next ≡ true =
    subst (λ (p : Spot). may_follow rule len p.offset p.used next ≡ true) (sym i.spot) (from_next rule len (spot_of rule list) next on.follows) in
    let longer : list ++ next ∷ [] ≡ c.push.new.self.items = sym c.in_ok-push.ensures.items in
    record {
      live = subst (λ (l : List Break). is_live rule len l ≡ true) longer on.live;
      spot = c.after-at.ensures list i.spot (len, c.ranges.len.fits, may) ∙ ap (spot_of rule) longer;
      leads = (
        i.leads.0 ++ next ∷ [],
        sym longer ∙ ap (λ (l : List Break). l ++ next ∷ []) i.leads.1 ∙ append_assoc c.args.list.items i.leads.0 (next ∷ []),
        λ tail t. subst (IsBestTail rule len sums c.args.list.items) (sym (append_assoc i.leads.0 (next ∷ []) tail))
            (i.leads.2 (next ∷ tail) (on.best tail (subst (λ (l : List Break). IsBestTail rule len sums l tail) (sym longer) t))),
      );
    }

pub returns : goal.returns
returns c =
    let rule = c.args.rule.now in
    let len = c.args.len in
    let sums = c.args.sums.now in
    let list = c.loop-next.whole.items in
    let i = c.loop-next.invariant in
    let legal = c.in_default.ensures list i.live i.spot in
    (i.leads.0, i.leads.1, subst (IsBestTail rule len sums c.args.list.items) (append-nil i.leads.0) (i.leads.2 [] (best_at_end rule len sums list c.requires.rule legal)))
