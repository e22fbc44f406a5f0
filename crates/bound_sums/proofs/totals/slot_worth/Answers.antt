use Rattle.bound_sums.proofs.Common.{◌≡◌, ◌≤◌, ◌^◌, ℕ, ℤ, pos, ◌*ℤ◌, to_z, of_z, ap, ◌∙◌, arith, w64, w128, unsigned_abs, to_z-of_z, fits_signed_from_abs, worth_at}
use Rattle.bound_sums.proofs.totals.slot_worth.Goals as goal

pub returns-clause-worth : goal.returns-clause-worth
returns-clause-worth c =
    let price : ℤ = c.args.price in
    let size : unsigned_abs price ≤ 10000000000 = c.requires.price in
    let read : to_z w64 (of_z w64 price) ≡ price = to_z-of_z w64 price (fits_signed_from_abs w64 price (omega arith)) in
    let worth : ℤ = c.worth_of.result in
    let small : unsigned_abs worth ≤ 10 ^ 14 = c.worth_of.ensures.small in
    to_z-of_z w128 worth (fits_signed_from_abs w128 worth (omega arith))
    ∙ c.worth_of.ensures.worth ∙ ap (λ (n : ℕ). to_z w64 (of_z w64 price) *ℤ pos n) c.wanted.ensures.wanted ∙ ap (worth_at c.args.instance.now c.args.t) read
