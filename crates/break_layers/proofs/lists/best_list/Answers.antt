use Rattle.break_layers.proofs.Common.{◌≡◌, ℤ, List, [], true, refl, sym, subst, to_z, of_z, w64, to_z-of_z, Break, is_live, IsMostEarned, IsBestList}
use Rattle.break_layers.proofs.Following.{earned_small, most_live, best_whole, none_legal}
use Rattle.break_layers.proofs.lists.best_list.Goals as goal

pub completed-requires-clause-live : goal.completed-requires-clause-live
completed-requires-clause-live c =
    let rule = c.args.rule.now in
    let len = c.args.len in
    let sums = c.args.sums.now in
    let most : IsMostEarned rule len sums [] c.in-Some.value = c.in-Some.ensures sums [] c.requires.sums c.requires.layers refl (c.opening-opening.ensures rule) in
    subst (λ (l : List Break). is_live rule len l ≡ true) (sym c.new.ensures.items) (most_live rule len sums [] c.in-Some.value most)

pub returns-in_ok-list-in-Some : goal.returns-in_ok-list-in-Some
returns-in_ok-list-in-Some c =
    let rule = c.args.rule.now in
    let len = c.args.len in
    let sums = c.args.sums.now in
    let most : IsMostEarned rule len sums [] c.in-Some.value = c.in-Some.ensures sums [] c.requires.sums c.requires.layers refl (c.opening-opening.ensures rule) in
    let value : to_z w64 (of_z w64 c.in-Some.value) ≡ c.in-Some.value = to_z-of_z w64 c.in-Some.value (earned_small rule len sums [] c.requires.rule c.requires.sums c.in-Some.value most) in
    subst (λ (z : ℤ). IsBestList rule len sums (c.new-in-Some.result, z)) (sym value)
    (subst (λ (l : List Break). IsBestList rule len sums (l, c.in-Some.value)) (sym c.new-in-Some.ensures)
    (best_whole rule len sums c.in-Some.value c.new.result.items c.in_ok-list-in-Some.list.items c.new.ensures.items most c.in_ok-list-in-Some.ensures))

pub returns-in-None : goal.returns-in-None
returns-in-None c =
    let rule = c.args.rule.now in
    none_legal rule c.args.len (c.in-None.ensures c.args.sums.now [] c.requires.sums c.requires.layers refl (c.opening-opening.ensures rule))
