use Rattle.instance_warnings.proofs.Common.{◌≡◌, true, ap, sym, ◌∙◌, arith, Rule, Kind, has_lists, with_total}
use Rattle.instance_warnings.proofs.Lists.{some_between}
use Rattle.instance_warnings.proofs.breaks.has_lists_of_total.Goals as goal

pub returns-then-branch : goal.returns-then-branch
returns-then-branch c =
    let k = c.args.kind.now in
    let same : c.kind.inside.rule ≡ k.rule = ap (λ (x : Kind). x.rule) c.kind.view_is in
    let rule : c.in_ok-rule.rule ≡ with_total k.rule c.loop-total.total = c.in_ok-rule.ensures.rule ∙ ap (λ (r : Rule). with_total r c.loop-total.total) same in
    let has : has_lists k (with_total k.rule c.loop-total.total) ≡ true = ap (λ (r : Rule). has_lists k r) (sym rule) ∙ sym c.in_ok-has_lists.ensures ∙ c.if-branch.true in
    sym (some_between (λ total. has_lists k (with_total k.rule total)) 0 49 c.loop-total.total (omega arith) (omega arith) has)
