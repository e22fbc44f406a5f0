use Rattle.search_core.proofs.Common.{◌≡◌, ◌-◌, ◌<◌, Some, ap, arith, rules, sym, subst, ◌∙◌, IsSome, step, OutlineView, StateView, value_of, book_or_opening}
use Rattle.search_core.proofs.Outlines.{appended, spare_less}
use Rattle.search_core.proofs.state.State.append.Goals as goal

pub invariant_of-self : goal.invariant_of-self
invariant_of-self c =
    let b = c.self.inside in
    let kept =
    appended b.instance.value b.posts.items c.push_reserved.new.self.items b.none b.outline c.act.new.self c.args.post c.args.value c.len-at.result c.self.invariant.0
    (subst (λ (v : StateView). IsSome (step v.instance v.book c.args.post)) (sym c.self.view_is) c.requires.allowed)
    (subst (λ (v : StateView). c.args.value ≡ value_of v.instance v.book c.args.post) (sym c.self.view_is) c.requires.value)
    (search rules) c.act.ensures c.push_reserved.ensures.items in
    let less : c.act.new.self.spare ≡ b.outline.spare - 1 = ap (λ (o : OutlineView). o.spare) c.act.ensures ∙ spare_less b.outline c.args.post c.args.value c.len-at.result in
    let some : 0 < b.outline.spare = subst (λ (v : StateView). 0 < v.spare) (sym c.self.view_is) c.requires.room in
    (kept.0, omega (arith, less, some, c.self.invariant.1, c.push_reserved.ensures.len, c.push_reserved.ensures.capacity), c.self.invariant.2)

pub returns-clause-step : goal.returns-clause-step
returns-clause-step c =
    let b = c.self.inside in
    let kept =
    appended b.instance.value b.posts.items c.push_reserved.new.self.items b.none b.outline c.act.new.self c.args.post c.args.value c.len-at.result c.self.invariant.0
    (subst (λ (v : StateView). IsSome (step v.instance v.book c.args.post)) (sym c.self.view_is) c.requires.allowed)
    (subst (λ (v : StateView). c.args.value ≡ value_of v.instance v.book c.args.post) (sym c.self.view_is) c.requires.value)
    (search rules) c.act.ensures c.push_reserved.ensures.items in
    subst (λ (v : StateView). step v.instance v.book c.args.post ≡ Some (book_or_opening b.instance.value c.push_reserved.new.self.items)) c.self.view_is kept.1
