use Rattle.break_layers.proofs.Common.{◌≡◌, ◌+◌, ◌<◌, ℕ, map, sym, subst, arith, end_of_all, NOTHING, number_in, IsReachOfSizes, longest_work_of}
use Rattle.break_layers.proofs.Reach.{most_of_sizes, none_of_sizes, none_short}
use Rattle.break_layers.proofs.reaching.set_windows.Goals as goal
use Rattle.break_layers.proofs.reaching.set_windows.Goals.{then-sizes-via-then-sizes, then-sizes-via-else-sizes+then-work-rule}

pub returns-then-sizes : goal.returns-then-sizes
returns-then-sizes g c = λ day d s known list walk is.
    let rule = c.args.rule.now in
    let len = c.args.len in
    let sizes = c.args.sizes in
    let sums = map (g.N.Number.on day) c.args.sums.now in
    subst (IsReachOfSizes rule len sums list sizes.from sizes.to) (sym (c.clear.ensures day d (end_of_all list + rule.work_min)))
    (elim c.then-sizes.branch [
      | then-sizes-via-then-sizes w ↦
          subst (λ (n : ℕ). IsReachOfSizes rule len sums list sizes.from n NOTHING) (let e : sizes.from ≡ sizes.to = w.if-sizes.true in e)
          (none_of_sizes rule len sums list c.requires.rule s sizes.from)
      | then-sizes-via-else-sizes+then-work-rule w ↦
          let short : longest_work_of rule sizes.from < rule.work_min = omega (arith, c.longest_work-work.ensures, w.if-work-rule.true) in
          none_short rule len sums list c.requires.rule s c.args.layer sizes c.requires.sizes short
    ])

pub returns : goal.returns
returns g c = λ day d s known list walk is.
    let on = g.N.Number.on day in
    let rule = c.args.rule.now in
    let len = c.args.len in
    let sums = map on c.args.sums.now in
    let sizes = c.args.sizes in
    let row = map on c.set_reaches.new.row in
    let new = map on c.raise_to_windows.new.row in
    let at = end_of_all list + rule.work_min in
    let width = c.from.result + 1 in
    let wide : rule.work_min + width ≡ longest_work_of rule sizes.from + 1 = omega (arith, c.from.ensures, c.longest_work-work.ensures, c.if-work-rule.false) in
    most_of_sizes rule len sums list c.requires.rule s c.args.layer sizes c.requires.sizes width row (number_in new at) wide
    (λ start window. c.set_reaches.ensures day d s known list start walk is window) (c.raise_to_windows.ensures day d at)
