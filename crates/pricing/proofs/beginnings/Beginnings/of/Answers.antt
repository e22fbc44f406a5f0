use Rattle.pricing.proofs.Common.{◌≡◌, inl, inr, ◌≤◌, ℕ, ℤ, pos, List, [], length, get_or, sym, ap, subst, ◌∙◌, arith, Break, HaveFirst, IsBeginning}
use Rattle.pricing.proofs.Beyond.{any_default, below_or_at}
use Rattle.pricing.proofs.Firsts.{beginnings_of}
use Rattle.pricing.proofs.beginnings.Beginnings.of.Goals as goal

pub loop-prefix-preserved : goal.loop-prefix-preserved
loop-prefix-preserved c =
    let bonus = c.args.bonus.now in
    let i = c.loop-prefix.prefix-index in
    let inv = c.loop-prefix.invariant in
    let added = c.in_ok-add_along.ensures in
    let item : List Break × ℤ = c.loop-prefix-item.result in
    let here : c.as_slice.result.now ≡ (get_or bonus i ([], pos 0)).0 =
    c.as_slice.ensures ∙ ap (λ (e : List Break × ℤ). e.0) (c.loop-prefix-item.is ∙ any_default bonus i item ([], pos 0) c.loop-prefix-test.true) in
    record {
      each = λ list m. elim (added.only list m) [
        | inl old ↦ let f = inv.each list old in (f.0, omega (arith, f.1), f.2)
        | inr new ↦ (i, omega arith, subst (λ (l : List Break). IsBeginning l list) here new)
      ];
      all = λ j l. elim (below_or_at j i l) [
        | inl b ↦ λ k m. added.keeps _ (inv.all j b k m)
        | inr e ↦ subst (λ (n : ℕ). HaveFirst c.add_along.new.self (get_or bonus n ([], pos 0)).0 (length (get_or bonus n ([], pos 0)).0)) (sym e)
            (subst (λ (l : List Break). HaveFirst c.add_along.new.self l (length l)) here added.has)
      ];
    }

pub returns : goal.returns
returns c =
    let bonus = c.args.bonus.now in
    let i = c.loop-prefix.prefix-index in
    let low : i ≤ length bonus = omega (arith, c.loop-prefix.auto.prefix-index-end) in
    let high : length bonus ≤ i = omega (arith, c.loop-prefix-test.false) in
    let b = beginnings_of bonus i c.loop-prefix.beginnings low high c.loop-prefix.invariant.each c.loop-prefix.invariant.all in
    record { each = b.0; all = b.1; once = c.lists-once.ensures.once }
