use Rattle.greedy.proofs.Common.{◌≡◌, ◌≤ℤ◌, ◌∙◌, pos, neg_ℤ, Some, None, to_z, of_z, refl, sym, ap, subst, arith, ints, best_list, day_value, is_wanted, IsWithin}
use Rattle.std.proofs.Common.{w64}
use Rattle.greedy.proofs.DayValues.{missing_is, value_small}
use Rattle.greedy.proofs.Growing.{best_legal}
use Rattle.greedy.proofs.Rounding.{day_added, day_left, not_wanted}
use Rattle.greedy.proofs.plan.add_day.Goals as goal

pub value_on-value-requires-clause-small : goal.value_on-value-requires-clause-small
value_on-value-requires-clause-small c =
    subst (IsWithin 2016000000) (sym (c.requires.values c.args.day c.requires.day)) (value_small c.args.instance.now c.args.prices.now c.args.shift c.args.day c.requires.prices)

pub add-requires-clause-legal : goal.add-requires-clause-legal
add-requires-clause-legal c =
    let i = c.args.instance.now in
    let prices = c.args.prices.now in
    let best : best_list i prices c.args.shift c.args.day ≡ Some c.in-Some.list = sym c.in_ok-list.ensures ∙ c.in-Some.is in
    best_legal i prices c.args.shift c.args.day c.in-Some.list c.requires.day best

pub returns-in_ok-add-clause-duties : goal.returns-in_ok-add-clause-duties
returns-in_ok-add-clause-duties c =
    let i = c.args.instance.now in
    let prices = c.args.prices.now in
    let value = c.value_on-value.result in
    let worth : value ≡ day_value i prices c.args.shift c.args.day = c.value_on-value.ensures ∙ c.requires.values c.args.day c.requires.day in
    let little = subst (IsWithin 2016000000) (sym worth) (value_small i prices c.args.shift c.args.day c.requires.prices) in
    let p : neg_ℤ (pos 2016000000) ≤ℤ value = little.above in
    let q : value ≤ℤ pos 2016000000 = little.below in
    let same : to_z w64 (of_z w64 value) ≡ value = omega (arith, ints) in
    let best : best_list i prices c.args.shift c.args.day ≡ Some c.in-Some.list = sym c.in_ok-list.ensures ∙ c.in-Some.is in
    day_added i prices c.args.shift c.args.day c.heads_on.result value c.is_wanted.result c.in-Some.list c.args.draft.now.cover.duties c.add.new.self.cover.duties
    (c.is_wanted.ensures ∙ ap (is_wanted i c.heads_on.result) same) c.if-not-is_wanted.false c.heads_on.ensures worth best c.in_ok-add.ensures.duties

pub returns-in_default-clause-duties : goal.returns-in_default-clause-duties
returns-in_default-clause-duties c =
    let i = c.args.instance.now in
    let prices = c.args.prices.now in
    let value = c.value_on-value.result in
    let worth : value ≡ day_value i prices c.args.shift c.args.day = c.value_on-value.ensures ∙ c.requires.values c.args.day c.requires.day in
    let little = subst (IsWithin 2016000000) (sym worth) (value_small i prices c.args.shift c.args.day c.requires.prices) in
    let p : neg_ℤ (pos 2016000000) ≤ℤ value = little.above in
    let q : value ≤ℤ pos 2016000000 = little.below in
    let same : to_z w64 (of_z w64 value) ≡ value = omega (arith, ints) in
    let is = c.is_wanted.ensures ∙ ap (is_wanted i c.heads_on.result) same in
    let missing : None ≡ best_list i prices c.args.shift c.args.day = sym c.in_default.is ∙ c.in_ok-list.ensures in
    day_left i prices c.args.shift c.args.day c.heads_on.result value c.is_wanted.result c.args.draft.now.cover.duties c.args.draft.now.cover.duties is
    (not_wanted i prices c.args.shift c.args.day c.heads_on.result value c.is_wanted.result is worth (missing_is i prices c.args.shift c.args.day missing))
    c.heads_on.ensures worth refl
