use Rattle.pricing.proofs.Common.{◌≡◌, ◌++◌, [], ◌∷◌, List, refl, sym, subst, Break, StandsAt, sums_on, LeadsOn, IsBestTail}
use Rattle.pricing.proofs.Walks.{leads_on, leads_end}
use Rattle.pricing.proofs.day_lists.list_on.Goals as goal

pub loop-edge-init : goal.loop-edge-init
loop-edge-init c =
    let rests = c.args.rests.now in
    let sums = sums_on c.args.day rests.sums.now in
    let none : c.new-list.result.items ≡ [] = c.new-list.ensures.items in
    record {
      stands = subst (StandsAt rests.rule.now rests.len rests.graph.now c.args.opening) (sym none) c.requires.opening;
      leads = λ tail t.
          subst (λ (l : List Break). IsBestTail rests.rule.now rests.len sums [] (l ++ tail)) (sym none)
          (subst (λ (l : List Break). IsBestTail rests.rule.now rests.len sums l tail) none t);
    }

pub next_on-requires-clause-at : goal.next_on-requires-clause-at
next_on-requires-clause-at c = c.loop-edge.invariant.stands.within

pub loop-edge-preserved : goal.loop-edge-preserved
loop-edge-preserved c =
    let rests = c.args.rests.now in
    let sums = sums_on c.args.day rests.sums.now in
    let list = c.loop-edge.list.items in
    let e = c.in-Some.edge in
    let i = c.loop-edge.invariant in
    let on : LeadsOn rests.rule.now rests.len sums rests.graph.now list e = c.in-Some.ensures.leads list i.stands in
    let longer : list ++ e.stop ∷ [] ≡ c.push.new.self.items = sym c.in_ok-push.ensures.items in
    record {
      stands = subst (StandsAt rests.rule.now rests.len rests.graph.now e.next) longer on.behind;
      leads = λ tail t.
          subst (λ (l : List Break). IsBestTail rests.rule.now rests.len sums [] (l ++ tail)) longer
          (leads_on rests.rule.now rests.len sums rests.graph.now [] list list e on i.leads tail (subst (λ (l : List Break). IsBestTail rests.rule.now rests.len sums l tail) (sym longer) t));
    }

pub returns : goal.returns
returns c =
    let rests = c.args.rests.now in
    let i = c.loop-edge.invariant in
    let list = c.loop-edge.list.items in
    leads_end rests.rule.now rests.len (sums_on c.args.day rests.sums.now) [] list list c.requires.rests.well_formed (c.in_default.ensures.leads list i.stands) refl i.leads
