use Rattle.graft_runs.proofs.Common.{inl, inr, refl}
use Rattle.graft_runs.proofs.running.tell.Goals as goal

pub returns-in-Err : goal.returns-in-Err
returns-in-Err g c = inr (refl, c.in-Err.ensures.part, c.in-Err.ensures.cause.failed)

pub returns-in-Ok : goal.returns-in-Ok
returns-in-Ok g c = inl (refl, c.in-Ok.ensures.written)
