use Rattle.pricing.proofs.Common.{◌≡◌, ℤ, ◌+ℤ◌, List, [], ◌∷◌, length, ap, sym, subst, ◌∙◌, refl, arith, eqb-true, IfOk, Break, price_in, earned_from, IsBestFound}
use Rattle.pricing.proofs.Beyond.{ok_map}
use Rattle.pricing.proofs.Covered.{best_same}
use Rattle.pricing.proofs.search.best_list.Goals as goal

none_at : {X : Type 0} (xs : List X) → length xs ≡ 0 → xs ≡ []
none_at [] e = refl
none_at (x ∷ xs) e = absurd (omega arith)

pub returns-then-is_empty : goal.returns-then-is_empty
returns-then-is_empty g c =
    let none : c.args.bonus.now ≡ [] = none_at c.args.bonus.now (eqb-true (length c.args.bonus.now) 0 (sym c.is_empty.ensures ∙ c.if-is_empty.true)) in
    subst (λ (es : List (List Break × ℤ)). IfOk c.best_by_prices.result (IsBestFound (g.R.Rests.priced c.args.rests.now) es)) (sym none) c.best_by_prices.ensures

pub returns : goal.returns
returns g c =
    let p = g.R.Rests.priced c.args.rests.now in
    ok_map c.best_with.result (IsBestFound p c.in_ok-trie.trie.entries) (IsBestFound p c.args.bonus.now)
    (λ x h. best_same p c.in_ok-trie.trie.entries c.args.bonus.now x (λ list. ap (λ (z : ℤ). earned_from (price_in p.sums) p.rule p.len 0 list +ℤ z) (c.in_ok-trie.ensures.sums list)) h)
    c.best_with.ensures

pub best_with-requires-clause-beginnings : goal.best_with-requires-clause-beginnings
best_with-requires-clause-beginnings g c =
    let own = c.in_ok-beginnings.ensures in
    record {
      each = λ list m. let e = own.each list m in (e.0, e.1, e.2, c.in_ok-trie.ensures.kept list e.3);
      all = λ b bs leads. own.all b bs (c.in_ok-trie.ensures.prefixes (b ∷ bs) leads);
      once = own.once;
    }
