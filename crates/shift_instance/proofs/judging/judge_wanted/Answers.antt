use Rattle.shift_instance.proofs.Common.{◌∙◌, ℕ, List, sym, ap, map, enumerate_from, first_cause, first_left, first_right, Problem, need_cause, band_causes}
use Rattle.shift_instance.proofs.judging.judge_wanted.Goals as goal

pub returns-in-Some : goal.returns-in-Some
returns-in-Some c =
    let i = c.args.parts.now in
    let need = ap (λ (xs : List ℕ). first_cause (map need_cause (enumerate_from 0 xs))) (c.as_slice.ensures.value ∙ ap (λ (q : Problem). q.need) c.parts.view_is) in
    sym (first_left (map need_cause (enumerate_from 0 i.need)) (band_causes i) c.in-Some.fault (sym (c.in-Some.ensures ∙ need)))

pub returns-in-None : goal.returns-in-None
returns-in-None c =
    let i = c.args.parts.now in
    let need = ap (λ (xs : List ℕ). first_cause (map need_cause (enumerate_from 0 xs))) (c.as_slice.ensures.value ∙ ap (λ (q : Problem). q.need) c.parts.view_is) in
    c.judge_bands.ensures ∙ sym (first_right (map need_cause (enumerate_from 0 i.need)) (band_causes i) (sym (c.in-None.ensures ∙ need)))
