use Rattle.plan_page.proofs.Common.{◌≡◌, ◌++◌, take, string_bytes, flat_map, boxes, rest_of}
use Rattle.plan_page.proofs.bars.add_breaks.Given as goal

abbrev pub invariant-loop-rest : goal.invariant-loop-rest
invariant-loop-rest l =
    string_bytes l.page ≡ string_bytes l.fn.page ++ flat_map (λ b. boxes l.instance l.day 4 8 (rest_of l.first b)) (take l.rest-index l.breaks)
