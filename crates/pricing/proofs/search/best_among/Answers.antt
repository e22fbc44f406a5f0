use Rattle.pricing.proofs.Common.{◌≡◌, ◌++◌, ◌∷◌, [], inl, refl, sym, subst, Has, Has-append_left, Has-append_right, Covers}
use Rattle.pricing.proofs.Onward.{left_or_covered}
use Rattle.pricing.proofs.search.best_among.Goals as goal

pub better-best-requires-clause-legal : goal.better-best-requires-clause-legal
better-best-requires-clause-legal g c =
    let list = c.in-Some.list in
    let left = c.pop.new.self.items in
    let items : c.loop-list.lists.items ≡ left ++ list ∷ [] = c.in-Some.ensures.items in
    c.loop-list.invariant.legal list (subst (λ l. Has l list) (sym items) (Has-append_right left (list ∷ []) list (inl refl)))

pub loop-list-preserved : goal.loop-list-preserved
loop-list-preserved g c =
    let p = g.R.Rests.priced c.args.rests.now in
    let entries = c.args.trie.now.entries in
    let inv = c.loop-list.invariant in
    let e = c.better-best.ensures in
    let list = c.in-Some.list in
    let left = c.pop.new.self.items in
    let items : c.loop-list.lists.items ≡ left ++ list ∷ [] = c.in-Some.ensures.items in
    record {
      found = e.found;
      keeps = λ other h. e.keeps other (inv.keeps other h);
      legal = λ other m. inv.legal other (subst (λ l. Has l other) (sym items) (Has-append_left left (list ∷ []) other m));
      covers = left_or_covered c.args.lists.items c.loop-list.lists.items left list (Covers p entries c.loop-list.best) (Covers p entries c.better-best.result) items inv.covers e.keeps e.covers;
    }
