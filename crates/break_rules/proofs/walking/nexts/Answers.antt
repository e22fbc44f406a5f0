use Rattle.break_rules.proofs.Common.{◌≡◌, ◌+◌, max, ap, ◌∙◌, arith, filter, shortest_of, may_follow, breaks_left}
use Rattle.break_rules.proofs.Steps.{first_place}
use Rattle.break_rules.proofs.walking.nexts.Goals as goal

pub returns : goal.returns
returns c =
    let rule = c.args.rule.now in
    let spot = c.args.spot in
    let start = c.max-start.result in
    let from : start ≡ max rule.lead (spot.offset + rule.work_min) = omega arith in
    let size : c.shortest.result ≡ shortest_of rule spot.offset start = c.shortest.ensures ∙ ap (λ o. shortest_of rule o start) c.from-offset.ensures in
    ap (λ z. filter (may_follow rule c.args.len spot.offset spot.used) (breaks_left start z c.args.len)) size ∙ first_place rule c.args.len spot start c.requires from
