use Rattle.std.proofs.Common.{◌*◌, ◌/◌}
use Rattle.shift_instance.specs.Problem.{need_at, need_max_at}
use Rattle.rule_sentences.proofs.DayNeeds.{next_need}
use Rattle.rule_sentences.proofs.needs.need_on.Goals as goal

pub loop-offset-preserved : goal.loop-offset-preserved
loop-offset-preserved c =
    let i = c.args.instance.now in
    let first = c.from.result * (1440 / c.from-day_slots.result) in
    let need = next_need (need_at i) first c.loop-offset.offset c.need-in-loop-offset.result c.loop-offset.need c.with-need.result
    c.loop-offset.invariant.is c.loop-offset.invariant.few c.need-in-loop-offset.ensures.need c.need-in-loop-offset.ensures.limit c.with-need.ensures in
    let need_max = next_need (need_max_at i) first c.loop-offset.offset c.need_max-in-loop-offset.result c.loop-offset.need_max c.with-need_max.result
    c.loop-offset.invariant.is_max c.loop-offset.invariant.few_max c.need_max-in-loop-offset.ensures.need_max c.need_max-in-loop-offset.ensures.limit c.with-need_max.ensures in
    record { is = need.is; few = need.few; is_max = need_max.is; few_max = need_max.few }
