use Rattle.greedy.proofs.Common.{◌≡◌, Some, List, [], sym, ap, ◌∙◌, rules, Break}
use Rattle.greedy.proofs.BestLists.{none_at, found_at, best_found, best_missing}
use Rattle.greedy.proofs.PlainLists.{plain_best}
use Rattle.greedy.proofs.lists.best_list.Goals as goal

pub returns-then-is_plain : goal.returns-then-is_plain
returns-then-is_plain c =
    let empty : c.new-then-is_plain.result ≡ [] = search rules in
    ap (λ (list : List Break). Some list) empty
    ∙ sym (plain_best c.args.instance.now c.args.prices.now c.args.shift c.args.day c.rule_of.result.now c.rule_of.ensures.valid c.requires.shift c.rule_of.ensures.rule (search rules))

pub returns-in-Some : goal.returns-in-Some
returns-in-Some c =
    let i = c.args.instance.now in
    let prices = c.args.prices.now in
    let list = c.in-Some.pattern.list in
    let value = c.in-Some.field-0-1 in
    sym (best_found i prices c.args.shift c.args.day list value (found_at i prices c.args.shift c.args.day c.in_ok-pattern.field-0 c.in-Some.pattern value _ c.in-Some.is c.in_ok-pattern.ensures.best)).0

pub returns-in-None : goal.returns-in-None
returns-in-None c =
    sym (best_missing c.args.instance.now c.args.prices.now c.args.shift c.args.day (none_at c.in_ok-pattern.field-0 _ c.in-None.is c.in_ok-pattern.ensures.best))
