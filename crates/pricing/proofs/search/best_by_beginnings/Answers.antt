use Rattle.pricing.proofs.Common.{◌≡◌, inl, inr, ℕ, List, [], length, get_or, sym, ap, subst, ◌∙◌, arith, eqb-true, get_or-map, length-map, Break, CoversFrom}
use Rattle.pricing.proofs.Beyond.{below_or_at, best_of_beginnings}
use Rattle.pricing.proofs.Covered.{keeps_from}
use Rattle.pricing.proofs.Firsts.{alike_without}
use Rattle.pricing.proofs.search.best_by_beginnings.Goals as goal

pub loop-front-preserved : goal.loop-front-preserved
loop-front-preserved g c =
    let p = (g.R.Rests.priced c.args.rests.now) in
    let entries = c.args.trie.now.entries in
    let i = c.loop-front.front-index in
    let inv = c.loop-front.invariant in
    let e = c.in_ok-best-2.ensures in
    let here : c.as_slice.result.now ≡ get_or c.args.beginnings.now i [] =
    c.as_slice.ensures.value ∙ ap (λ v. v.items) c.front-item.is
    ∙ sym (get_or-map (λ v. v.items) c.lists-front-items.result.now i c.front-item.result [] c.loop-front-test.true)
    ∙ ap (λ (l : List (List Break)). get_or l i []) c.lists-front-items.ensures.lists in
    record {
      found = e.found;
      start = keeps_from p entries c.loop-front.best c.in_ok-best-2.best [] e.keeps inv.start;
      along = λ j l. elim (below_or_at j i l) [
        | inl b ↦ keeps_from p entries c.loop-front.best c.in_ok-best-2.best (get_or c.args.beginnings.now j []) e.keeps (inv.along j b)
        | inr s ↦ subst (λ (n : ℕ). CoversFrom p entries c.in_ok-best-2.best (get_or c.args.beginnings.now n [])) (sym s) (subst (CoversFrom p entries c.in_ok-best-2.best) here e.covers)
      ];
      steps = omega (arith, inv.steps, c.tick.ensures);
    }

pub returns-clause-best : goal.returns-clause-best
returns-clause-best g c =
    let inv = c.loop-front.invariant in
    let many : length c.args.beginnings.now ≡ length c.lists-front-items.result.now = ap length (sym c.lists-front-items.ensures.lists) ∙ length-map c.lists-front-items.result.now (λ v. v.items) in
    best_of_beginnings (g.R.Rests.priced c.args.rests.now) c.args.trie.now.entries c.loop-front.best c.args.beginnings.now c.loop-front.front-index (omega (arith, many, c.loop-front-test.false)) c.requires.beginnings inv.found inv.start inv.along

pub best_alike-requires : goal.best_alike-requires
best_alike-requires g c =
    let none : length c.args.beginnings.now ≡ 0 = eqb-true (length c.args.beginnings.now) 0 (sym c.is_empty.ensures ∙ c.if-is_empty.true) in
    alike_without c.args.trie.now.entries c.args.beginnings.now c.requires.beginnings none
