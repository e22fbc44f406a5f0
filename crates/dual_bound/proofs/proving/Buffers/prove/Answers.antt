use Rattle.dual_bound.proofs.Common.{subst, sym, Problem, Proving, IsProved}
use Rattle.dual_bound.proofs.Causes.{passes}
use Rattle.dual_bound.proofs.proving.Buffers.prove.Goals as goal

pub bound_by_pricing-requires-clause-passes : goal.bound_by_pricing-requires-clause-passes
bound_by_pricing-requires-clause-passes c = passes c.args.instance.now c.args.cuts c.args.prices (sym c.in-None.ensures.fault)

pub invariant_of-result : goal.invariant_of-result
invariant_of-result c =
    let whole : Problem → Proving = λ i. record { instance = i; cuts = c.args.cuts; prices = c.args.prices; bound = c.in-Ok.bound } in
    let proved : IsProved (whole c.args.instance.now) = record {
      passes = passes c.args.instance.now c.args.cuts c.args.prices (sym c.in-None.ensures.fault);
      exact = c.in-Ok.ensures.bound;
    } in
    subst (λ (i : Problem). IsProved (whole i)) (sym c.of.ensures) proved
