use Rattle.search_core.proofs.Common.{◌≡◌, ◌∙◌, rules, subst, sym, IsValid}
use Rattle.search_core.proofs.Outlines.{opened_view, opening_kept}
use Rattle.search_core.proofs.state.State.new.Goals as goal

pub invariant_of-result : goal.invariant_of-result
invariant_of-result c =
    let is : c.of.result.value ≡ c.args.instance.now = search rules in
    let kept =
    opening_kept c.of.result.value c.new-2.result.items c.new-none.result c.in_ok-outline.outline c.recount.result (subst IsValid (sym is) c.days-days.ensures.valid) (search rules) (search rules) (search rules) (search rules) in
    (kept, search rules, c.new-3.ensures.instance ∙ sym c.of.ensures)

pub returns : goal.returns
returns c = opened_view c.of.result.value c.args.instance.now c.new-2.result.items c.in_ok-outline.outline.spare (search rules) (search rules) (search rules)
