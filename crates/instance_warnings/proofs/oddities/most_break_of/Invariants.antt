use Rattle.instance_warnings.proofs.Common.{◌≡◌, max, fold, take, most_break}
use Rattle.instance_warnings.proofs.oddities.most_break_of.Given as goal

abbrev pub invariant-loop-kind : goal.invariant-loop-kind
invariant-loop-kind l = l.most ≡ fold (λ most k. max most (most_break k)) 0 (take l.kind-index l.kinds)
