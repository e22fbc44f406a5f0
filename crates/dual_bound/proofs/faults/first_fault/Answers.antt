use Rattle.dual_bound.proofs.Common.{◌≡◌, ℕ, ℤ, List, length, sym, ap, ◌∙◌, ne_eqb, eq-eqb, first_cause, Cut, slot_causes, cut_causes}
use Rattle.dual_bound.proofs.Causes.{of_sizes, of_slots, of_count, of_cuts}
use Rattle.dual_bound.proofs.faults.first_fault.Goals as goal

pub returns-in-Some-clause-fault : goal.returns-in-Some-clause-fault
returns-in-Some-clause-fault c = sym (of_sizes c.args.instance.now c.args.cuts.now c.args.prices.now c.in-Some.fault (sym c.in-Some.ensures.fault))

pub returns-in-Some-judge_slots-clause-fault : goal.returns-in-Some-judge_slots-clause-fault
returns-in-Some-judge_slots-clause-fault c =
    sym (of_slots c.args.instance.now c.args.cuts.now c.args.prices.now c.in-Some-judge_slots.fault (sym c.in-None.ensures.fault)
    (ap (λ (xs : List ℤ). first_cause (slot_causes c.args.instance.now c.args.prices.now.q xs)) (sym c.as_slice.ensures) ∙ sym c.in-Some-judge_slots.ensures))

pub returns-then-as_slice-len-clause-fault : goal.returns-then-as_slice-len-clause-fault
returns-then-as_slice-len-clause-fault c =
    sym (of_count c.args.instance.now c.args.cuts.now c.args.prices.now (sym c.in-None.ensures.fault)
    (ap (λ (xs : List ℤ). first_cause (slot_causes c.args.instance.now c.args.prices.now.q xs)) (sym c.as_slice.ensures) ∙ sym c.in-None-judge_slots.ensures)
    (ne_eqb _ _ (λ (e : length c.args.prices.now.cuts ≡ length c.args.cuts.now). c.if-as_slice-len.true (ap length c.as_slice-2.ensures ∙ e ∙ sym c.len.ensures))))

pub returns-clause-fault : goal.returns-clause-fault
returns-clause-fault c =
    c.judge_cuts.ensures
    ∙ ap (λ (xs : List Cut). first_cause (cut_causes xs c.as_slice-4.result.now)) c.as_slice-3.ensures
    ∙ ap (λ (ys : List ℕ). first_cause (cut_causes c.args.cuts.now ys)) c.as_slice-4.ensures
    ∙ sym (of_cuts c.args.instance.now c.args.cuts.now c.args.prices.now (sym c.in-None.ensures.fault)
    (ap (λ (xs : List ℤ). first_cause (slot_causes c.args.instance.now c.args.prices.now.q xs)) (sym c.as_slice.ensures) ∙ sym c.in-None-judge_slots.ensures)
    (eq-eqb _ _ (sym (ap length c.as_slice-2.ensures) ∙ c.if-as_slice-len.false ∙ c.len.ensures)))
