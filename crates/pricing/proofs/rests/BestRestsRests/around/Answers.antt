use Rattle.pricing.proofs.Common.{◌≡◌, ◌==◌, ◌∷◌, [], List, true, length, sym, ap, ◌∙◌, is_legal, Edge, priced_of, AreEnoughAround}
use Rattle.pricing.proofs.Beyond.{ok_map}
use Rattle.pricing.proofs.Onward.{around_dead, around_legal}
use Rattle.pricing.proofs.Ways.{enough_of_all}
use Rattle.pricing.proofs.rests.BestRestsRests.around.Goals as goal

pub returns-in_default : goal.returns-in_default
returns-in_default c =
    enough_of_all (priced_of c.args.self.now) c.args.named.now c.args.front.now c.new.result.items (around_dead (priced_of c.args.self.now) c.args.front.now c.new.result.items c.in_default.ensures.rule c.in_default.ensures.behind c.new.ensures.items)

pub returns-then-is_empty : goal.returns-then-is_empty
returns-then-is_empty c =
    let p = c.args.self.now in
    let front = c.args.front.now in
    let legal : is_legal p.rule p.len front ≡ true =
    sym (c.edges_at.ensures.graph.ends c.in-Some.at front c.in-Some.ensures.behind) ∙ ap (λ (es : List Edge). length es == 0) (sym c.edges_at.ensures.edges) ∙ sym c.is_empty.ensures ∙ c.if-is_empty.true in
    ok_map c.alone.result (λ lists. lists.items ≡ front ∷ []) (λ lists. AreEnoughAround (priced_of p) c.args.named.now front lists.items)
    (λ lists h. enough_of_all (priced_of p) c.args.named.now front lists.items (around_legal (priced_of p) front lists.items c.edges_at.ensures.rule legal h)) c.alone.ensures

pub onward-requires-clause-unfinished : goal.onward-requires-clause-unfinished
onward-requires-clause-unfinished c =
    sym (c.edges_at.ensures.graph.ends c.in-Some.at c.args.front.now c.in-Some.ensures.behind) ∙ ap (λ (es : List Edge). length es == 0) (sym c.edges_at.ensures.edges) ∙ sym c.is_empty.ensures ∙ c.if-is_empty.false
