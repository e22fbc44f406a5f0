use Rattle.pricing.proofs.Common.{ap, subst, Priced, priced_of, IsBestFound}
use Rattle.pricing.proofs.anew.AtPrices.over_graph.Goals as goal

pub returns-clause-best : goal.returns-clause-best
returns-clause-best g c =
    subst (λ (p : Priced). IsBestFound p c.args.subject.now.trie.entries c.in_ok-best.best) (ap priced_of c.with_values-rests.ensures) c.in_ok-best.ensures.best
