use Rattle.bound_sums.proofs.Common.{◌≡◌, ◌≤◌, ℕ, ℤ, ◌+ℤ◌, List, get_or, subst, sym, ap, ◌∙◌, zip, int_sum_by, below, slots, Cut, worth_at, slot_worth, cut_worth, unsigned_abs, price_of}
use Rattle.bound_sums.proofs.Sizes.{three_added}
use Rattle.bound_sums.proofs.Priced.{slot_small, cut_small}
use Rattle.bound_sums.proofs.totals.total.Goals as goal

pub slots_worth-slots-requires-clause-small : goal.slots_worth-slots-requires-clause-small
slots_worth-slots-requires-clause-small c t =
    subst (λ (xs : List ℤ). unsigned_abs (price_of xs t) ≤ 10000000000) (sym c.as_slice.ensures) (slot_small c.args.instance.now c.args.cuts.now c.args.prices.now c.requires.valid c.requires.passes t)

pub cuts_worth-cuts-requires-clause-small : goal.cuts_worth-cuts-requires-clause-small
cuts_worth-cuts-requires-clause-small c k =
    subst (λ (xs : List ℕ). get_or xs k 0 ≤ 1000000000000) (sym c.as_slice-3.ensures) (cut_small c.args.instance.now c.args.cuts.now c.args.prices.now c.requires.passes k)

pub returns-clause-total : goal.returns-clause-total
returns-clause-total c =
    let i = c.args.instance.now in
    let x = c.slots_worth-slots.result in
    let y = c.cuts_worth-cuts.result in
    let z = c.args.terms in
    let of_slots : x ≡ int_sum_by (slot_worth i c.args.prices.now) (below (slots i)) =
    c.slots_worth-slots.ensures.worth ∙ ap (λ (xs : List ℤ). int_sum_by (λ (t : ℕ). worth_at i t (price_of xs t)) (below (slots i))) c.as_slice.ensures in
    let of_cuts : y ≡ int_sum_by cut_worth (zip c.args.cuts.now c.args.prices.now.cuts) =
    c.cuts_worth-cuts.ensures.worth ∙ ap (λ (xs : List Cut). int_sum_by cut_worth (zip xs c.as_slice-3.result.now)) c.as_slice-2.ensures
    ∙ ap (λ (ys : List ℕ). int_sum_by cut_worth (zip c.args.cuts.now ys)) c.as_slice-3.ensures in
    three_added x y z c.slots_worth-slots.ensures.small c.cuts_worth-cuts.ensures.small c.requires.small
    ∙ ap (λ (a : ℤ). a +ℤ y +ℤ z) of_slots
    ∙ ap (λ (b : ℤ). int_sum_by (slot_worth i c.args.prices.now) (below (slots i)) +ℤ b +ℤ z) of_cuts
    ∙ ap (λ (d : ℤ). int_sum_by (slot_worth i c.args.prices.now) (below (slots i)) +ℤ int_sum_by cut_worth (zip c.args.cuts.now c.args.prices.now.cuts) +ℤ d) c.requires.terms
