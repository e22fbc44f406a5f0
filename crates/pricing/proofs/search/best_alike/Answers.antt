use Rattle.pricing.proofs.Common.{◌≡◌, ℤ, false, List, Option, subst, MatchOption, Break, is_legal, IsBestList}
use Rattle.pricing.proofs.Beyond.{best_where_alike}
use Rattle.pricing.proofs.search.best_alike.Goals as goal

pub returns-in-Some : goal.returns-in-Some
returns-in-Some g c =
    let p = g.R.Rests.priced c.args.rests.now in
    best_where_alike p c.args.trie.now.entries c.better.result c.in-Some.list _ c.requires c.better.ensures.found c.better.ensures.covers
    (subst (λ (o : Option (List Break × ℤ)). MatchOption o ((list : List Break) → is_legal p.rule p.len list ≡ false) (IsBestList p.rule p.len p.sums)) c.in-Some.is c.in_ok-list.ensures)
