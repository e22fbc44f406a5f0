use Rattle.instance_warnings.proofs.Common.{◌≡◌, ◌*◌, sum_by, take, need_at}
use Rattle.instance_warnings.proofs.judging.cost_of.Given as goal

abbrev pub invariant-loop-t : goal.invariant-loop-t
invariant-loop-t l = l.sum ≡ sum_by (λ t. l.instance.shortage * need_at l.instance t) (take l.t-index l.slots)
