use Rattle.bound_sums.proofs.Common.{sym, ◌∙◌, Decides-int_eq, slice_eq-Decides}
use Rattle.bound_sums.proofs.changes.take_prices.Goals as goal

pub returns-then-eq-clause-taken : goal.returns-then-eq-clause-taken
returns-then-eq-clause-taken c = sym c.as_slice.ensures.value ∙ (slice_eq-Decides Decides-int_eq _ _ _ c.eq.ensures).0 c.if-eq.true
