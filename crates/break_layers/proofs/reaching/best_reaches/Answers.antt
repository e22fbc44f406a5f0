use Rattle.break_layers.proofs.Common.{◌≡◌, ◌+◌, ◌≤◌, ℕ, ℤ, length, map, sym, ap, subst, ◌∙◌, arith, int_max, end_of_all, walk_small, NOTHING, number_in, IsReachOfSizes}
use Rattle.break_layers.proofs.Reach.{none_of_sizes, sizes_join, all_sizes}
use Rattle.break_layers.proofs.reaching.best_reaches.Goals as goal

pub returns : goal.returns
returns g c = λ day d s known list walk is.
    let on = g.N.Number.on day in
    let rule = c.args.rule.now in
    let len = c.args.len in
    let sums = map on c.args.sums.now in
    let r = c.requires.rule in
    let short = c.layer_sizes.result.0 in
    let long = c.layer_sizes.result.1 in
    let kinds = c.layer_sizes.ensures in
    let none = map on c.clear.new.row in
    let one = map on c.raise_to_row.new.most in
    let two = map on c.raise_to_row-2.new.most in
    let at = end_of_all list in
    let inside : at ≤ len = (walk_small rule len list r walk).offset in
    let x = number_in (map on c.set_windows.new.row) (at + rule.work_min) in
    let y = number_in (map on c.set_windows-2.new.row) (at + rule.work_min) in
    let many : length c.clear.new.row ≡ len + 1 = omega (arith, c.clear.auto.row, c.requires.most) in
    let low : number_in one at ≡ int_max NOTHING x = c.raise_to_row.ensures day d at (omega (arith, many, inside)) ∙ ap (λ (z : ℤ). int_max z x) (c.clear.ensures day d at) in
    let high : number_in two at ≡ int_max (int_max NOTHING x) y = c.raise_to_row-2.ensures day d at (omega (arith, many, inside, c.raise_to_row.auto.most)) ∙ ap (λ (z : ℤ). int_max z y) low in
    let shorter : IsReachOfSizes rule len sums list short.from short.to x = c.set_windows.ensures day d s known list walk is in
    let longer : IsReachOfSizes rule len sums list short.to long.to y = subst (λ (n : ℕ). IsReachOfSizes rule len sums list n long.to y) kinds.meet (c.set_windows-2.ensures day d s known list walk is) in
    let front : IsReachOfSizes rule len sums list short.from short.to (int_max NOTHING x) =
    sizes_join rule len sums list r s short.from short.from short.to NOTHING x (omega arith) kinds.rise.0 (none_of_sizes rule len sums list r s short.from) shorter in
    let whole : IsReachOfSizes rule len sums list short.from long.to (int_max (int_max NOTHING x) y) = sizes_join rule len sums list r s short.from short.to long.to (int_max NOTHING x) y kinds.rise.0 kinds.rise.1 front longer in
    all_sizes rule len sums list r s c.args.layer long.to _ is (kinds.all list is)
    (subst (λ (z : ℤ). IsReachOfSizes rule len sums list rule.size_min long.to z) (sym high)
    (subst (λ (n : ℕ). IsReachOfSizes rule len sums list n long.to (int_max (int_max NOTHING x) y)) kinds.least whole))
