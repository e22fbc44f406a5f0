use Rattle.std.proofs.Common.{◌*◌, ◌≤◌, map}
use Rattle.std.specs.List.{range_with_len}
use Rattle.shift_instance.specs.Problem.{need_at, need_max_at}
use Rattle.rule_sentences.specs.Needs.{IsRangeOf}
use Rattle.rule_sentences.proofs.needs.need_on.Given as goal

abbrev pub invariant-loop-offset : goal.invariant-loop-offset
invariant-loop-offset l = record {
  is : IsRangeOf (map (need_at l.instance) (range_with_len l.first l.offset)) l.need;
  few : l.need.wanted ≤ l.offset * 10000;
  is_max : IsRangeOf (map (need_max_at l.instance) (range_with_len l.first l.offset)) l.need_max;
  few_max : l.need_max.wanted ≤ l.offset * 10000;
}
