use Rattle.plan_tables.proofs.Common.{◌≡◌, ◌≤◌, List, length, fold, max, ap, ◌∙◌, take_all, Problem}
use Rattle.shift_instance.specs.Kind.{Kind}
use Rattle.plan_tables.proofs.duty_lines.longest_name.Goals as goal

pub returns : goal.returns
returns c =
    let items = c.deref-kind-items.result.now in
    let far : length items ≤ c.loop-kind.kind-index = c.loop-kind-test.false in
    let same : items ≡ c.args.instance.now.kinds = c.deref-kind-items.ensures.value ∙ ap (λ (i : Problem). i.kinds) (c.parts.view_is ∙ c.parts-parts.ensures.parts) in
    c.loop-kind.invariant ∙ ap (λ (kinds : List Kind). fold (λ most kind. max most (length kind.name)) 0 kinds) (take_all c.loop-kind.kind-index items far ∙ same)
