use Rattle.dual_bound.proofs.Common.{◌≡◌, ◌==◌, inl, inr, false, length, sym, ap, subst, ◌∙◌, IfOk, IsTrue, MatchOption, false≢true, lists_of, is_nil, AreKept, AreBests}
use Rattle.dual_bound.proofs.KeptTables.{kept_count}
use Rattle.dual_bound.proofs.pricer.bests_with_prefixes.Goals as goal

pub returns-then-is_empty : goal.returns-then-is_empty
returns-then-is_empty c =
    let i = c.args.instance.now in
    subst (λ n. IfOk c.bests_by_lists.result (λ found. MatchOption found (IsTrue (is_nil (lists_of i c.args.shift))) (AreBests i c.args.cuts.now c.args.prices.now c.args.shift n))) c.days-days.ensures.days
    c.bests_by_lists.ensures

pub bests_by_tables-requires-clause-tables : goal.bests_by_tables-requires-clause-tables
bests_by_tables-requires-clause-tables c =
    let i = c.args.instance.now in
    let s = c.args.shift in
    let tables = c.args.tables.now in
    let kept = c.requires.kept in
    let some : (length tables == 0) ≡ false = sym c.is_empty.ensures ∙ c.if-is_empty.false in
    let days : kept.0 ≡ i.days = elim kept.1 [
      | inl none ↦ absurd (false≢true (sym some ∙ ap (λ n. n == 0) (kept_count i s kept.0 tables kept.2 ∙ none)))
      | inr all ↦ all
    ] in
    record { kept = subst (λ n. AreKept i s n tables) days kept.2; at = c.requires.at }
