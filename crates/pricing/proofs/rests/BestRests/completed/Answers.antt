use Rattle.pricing.proofs.Common.{◌≡◌, ◌++◌, [], ◌∷◌, List, sym, ap, subst, ◌∙◌, append_assoc, append-nil, Break, StandsAt, LeadsOn, IsBestTail}
use Rattle.pricing.proofs.Walks.{leads_on, leads_end}
use Rattle.pricing.proofs.rests.BestRests.completed.Goals as goal

pub loop-edge-init : goal.loop-edge-init
loop-edge-init c = record { stands = c.requires.stands; leads = ([], sym (append-nil c.args.list.items), λ tail t. t) }

pub next_at-requires : goal.next_at-requires
next_at-requires c = c.loop-edge.invariant.stands.within

pub loop-edge-preserved : goal.loop-edge-preserved
loop-edge-preserved c =
    let s = c.args.self.now in
    let list = c.loop-edge.whole.items in
    let e = c.in-Some.edge in
    let i = c.loop-edge.invariant in
    let on : LeadsOn s.rule s.len s.sums s.nodes list e = c.in-Some.ensures.leads list i.stands in
    let longer : list ++ e.stop ∷ [] ≡ c.push.new.self.items = sym c.in_ok-push.ensures.items in
    record {
      stands = subst (StandsAt s.rule s.len s.nodes e.next) longer on.behind;
      leads = (
        i.leads.0 ++ e.stop ∷ [],
        sym longer ∙ ap (λ (l : List Break). l ++ e.stop ∷ []) i.leads.1 ∙ append_assoc c.args.list.items i.leads.0 (e.stop ∷ []),
        λ tail t. leads_on s.rule s.len s.sums s.nodes c.args.list.items list i.leads.0 e on i.leads.2 tail (subst (λ (l : List Break). IsBestTail s.rule s.len s.sums l tail) (sym longer) t),
      );
    }

pub returns : goal.returns
returns c =
    let s = c.args.self.now in
    let i = c.loop-edge.invariant in
    leads_end s.rule s.len s.sums c.args.list.items c.loop-edge.whole.items i.leads.0 c.in_default.ensures.rule (c.in_default.ensures.leads c.loop-edge.whole.items i.stands) i.leads.1 i.leads.2
