use Rattle.instance_warnings.proofs.Common.{◌≡◌, ◌≤◌, max, fold, need_at, below}
use Rattle.instance_warnings.proofs.oddities.greatest_need.Given as goal

abbrev pub invariant-loop-t : goal.invariant-loop-t
invariant-loop-t l = record {
  greatest : l.greatest ≡ fold (λ most t. max most (need_at l.instance t)) 0 (below l.t);
  limit : l.greatest ≤ 10000;
}
