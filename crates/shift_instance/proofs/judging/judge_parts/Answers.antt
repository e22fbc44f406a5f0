use Rattle.shift_instance.proofs.Common.{◌∙◌, ◌/◌, ℕ, List, sym, ap, first_cause, Kind, Problem, day_slots, period_causes, wanted_causes, size_causes, types_causes}
use Rattle.shift_instance.proofs.Judged.{need_of_each, causes_of_needs, causes_of_sizes, causes_of_kinds}
use Rattle.shift_instance.proofs.judging.judge_parts.Goals as goal

pub judge_wanted-requires : goal.judge_wanted-requires
judge_wanted-requires c = need_of_each c.args.parts.now (sym c.in-None.ensures)

pub returns-in-Some-judge_wanted : goal.returns-in-Some-judge_wanted
returns-in-Some-judge_wanted c =
    let i = c.args.parts.now in
    sym (causes_of_needs (period_causes i) (wanted_causes i) (size_causes i) (types_causes (day_slots i) i.kinds) c.in-Some-judge_wanted.fault (sym c.in-None.ensures) (sym c.in-Some-judge_wanted.ensures))

pub returns-in-Some-judge_sizes : goal.returns-in-Some-judge_sizes
returns-in-Some-judge_sizes c =
    let i = c.args.parts.now in
    sym (causes_of_sizes (period_causes i) (wanted_causes i) (size_causes i) (types_causes (day_slots i) i.kinds) c.in-Some-judge_sizes.fault (sym c.in-None.ensures) (sym c.in-None-judge_wanted.ensures) (sym c.in-Some-judge_sizes.ensures))

pub returns : goal.returns
returns c =
    let i = c.args.parts.now in
    let kinds = ap (λ (xs : List Kind). first_cause (types_causes (day_slots i) xs)) (c.as_slice.ensures.value ∙ ap (λ (q : Problem). q.kinds) c.parts.view_is) in
    let day = ap (λ (m : ℕ). 1440 / m) (c.from.ensures ∙ ap (λ (q : Problem). q.slot_minutes) c.parts.view_is) in
    c.judge_kinds.ensures ∙ ap (λ (m : ℕ). first_cause (types_causes m c.as_slice.result.now)) day ∙ kinds ∙ sym (causes_of_kinds (period_causes i) (wanted_causes i) (size_causes i) (types_causes (day_slots i) i.kinds) (sym c.in-None.ensures) (sym c.in-None-judge_wanted.ensures) (sym c.in-None-judge_sizes.ensures))
