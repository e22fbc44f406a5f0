use Rattle.pricing.proofs.Common.{◌≡◌, ◌++◌, [], ◌∷◌, List, ℤ, map, sym, ap, subst, ◌∙◌, Some, Break, Edge, StandsAt, node_at, priced_of, IsBestEdge}
use Rattle.pricing.proofs.Ways.{enough_none, enough_onward}
use Rattle.pricing.proofs.rests.BestRests.onward.Goals as goal

pub returns-in-None : goal.returns-in-None
returns-in-None c =
    let p = c.args.self.now in
    let front = c.args.front.now in
    let stops = map (λ (e : Edge). e.stop) (node_at p.nodes c.args.at).edges in
    enough_none (priced_of p) c.args.named.now front stops c.requires.unfinished (c.requires.graph.edges c.args.at front c.requires.stands) c.new-lists.result.items c.new-lists.ensures.items
    (subst (IsBestEdge p c.args.named.now front stops) c.in-None.is c.in_ok-best.ensures)

pub completed-requires : goal.completed-requires
completed-requires c =
    let p = c.args.self.now in
    let front = c.args.front.now in
    let stops = map (λ (e : Edge). e.stop) (node_at p.nodes c.args.at).edges in
    let best : Edge × ℤ = c.in-Some.best in
    let found : IsBestEdge p c.args.named.now front stops (Some best) = subst (IsBestEdge p c.args.named.now front stops) c.in-Some.is c.in_ok-best.ensures in
    record { stands = subst (StandsAt p.rule p.len p.nodes best.0.next) (sym c.in_ok-list.ensures) found.1 }

pub returns : goal.returns
returns c =
    let p = c.args.self.now in
    let front = c.args.front.now in
    let stops = map (λ (e : Edge). e.stop) (node_at p.nodes c.args.at).edges in
    let best : Edge × ℤ = c.in-Some.best in
    let found : IsBestEdge p c.args.named.now front stops (Some best) = subst (IsBestEdge p c.args.named.now front stops) c.in-Some.is c.in_ok-best.ensures in
    let only : c.push.new.self.items ≡ c.in_ok-whole.whole.items ∷ [] =
    c.in_ok-push.ensures.items ∙ ap (λ (l : List (List Break)). l ++ c.new.result ∷ []) c.new-lists.ensures.items ∙ ap (λ (l : List Break). l ∷ []) c.new.ensures in
    enough_onward (priced_of p) c.args.named.now front stops c.requires.unfinished (c.requires.graph.edges c.args.at front c.requires.stands) best.0.stop best.1 c.in_ok-list.list.items c.in_ok-whole.whole.items c.push.new.self.items
    c.requires.rule c.in_ok-list.ensures c.in_ok-whole.ensures only found.0
