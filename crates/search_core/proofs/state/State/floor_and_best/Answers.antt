use Rattle.search_core.proofs.Common.{subst, IsValid, StateView}
use Rattle.search_core.proofs.state.State.floor_and_best.Goals as goal

pub returns-clause-valid : goal.returns-clause-valid
returns-clause-valid c = subst (λ (v : StateView). IsValid v.instance) c.self.view_is c.self.invariant.0.valid
