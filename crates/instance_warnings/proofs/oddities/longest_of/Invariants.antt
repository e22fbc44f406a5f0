use Rattle.instance_warnings.proofs.Common.{◌≡◌, max, fold, take}
use Rattle.instance_warnings.proofs.oddities.longest_of.Given as goal

abbrev pub invariant-loop-kind : goal.invariant-loop-kind
invariant-loop-kind l = l.longest ≡ fold (λ longest k. max longest k.len_max) 0 (take l.kind-index l.kinds)
