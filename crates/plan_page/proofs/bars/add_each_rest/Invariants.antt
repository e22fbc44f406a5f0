use Rattle.plan_page.proofs.Common.{◌≡◌, ◌++◌, take, string_bytes, flat_map, rest_time}
use Rattle.plan_page.proofs.bars.add_each_rest.Given as goal

abbrev pub invariant-loop-rest : goal.invariant-loop-rest
invariant-loop-rest l = string_bytes l.page ≡ string_bytes l.fn.page ++ flat_map (rest_time l.instance l.start) (take l.rest-index l.breaks)
