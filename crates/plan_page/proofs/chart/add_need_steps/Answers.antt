use Rattle.plan_page.proofs.Common.{◌≡◌, ℕ, ◌++◌, List, sym, ap, ◌∙◌, arith, string_bytes, flat_map, flat_map_more, below, day_slots, below_next, need_step}
use Rattle.plan_page.proofs.chart.add_need_steps.Goals as goal

pub loop-n-preserved : goal.loop-n-preserved
loop-n-preserved c =
    let i = c.args.instance.now in
    let old = string_bytes c.args.page.now in
    let piece : ℕ → List ℕ = need_step i c.args.most c.args.first c.args.edge in
    c.in_ok-add_need_step.ensures
    ∙ ap (λ (page : List ℕ). page ++ piece c.loop-n.n) c.loop-n.invariant
    ∙ flat_map_more piece old (below c.loop-n.n) c.loop-n.n
    ∙ ap (λ (ns : List ℕ). old ++ flat_map piece ns) (sym (below_next c.loop-n.n))

pub returns : goal.returns
returns c =
    let i = c.args.instance.now in
    let piece : ℕ → List ℕ = need_step i c.args.most c.args.first c.args.edge in
    let last : c.loop-n.n ≡ day_slots i = omega arith in
    c.loop-n.invariant ∙ ap (λ (n : ℕ). string_bytes c.args.page.now ++ flat_map piece (below n)) last
