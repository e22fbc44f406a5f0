use Rattle.instance_warnings.proofs.Common.{◌≡◌, ◌≤◌, max, fold, need_max_at, below}
use Rattle.instance_warnings.proofs.judging.most_wanted.Given as goal

abbrev pub invariant-loop-t : goal.invariant-loop-t
invariant-loop-t l = record {
  greatest : l.greatest ≡ fold (λ most t. max most (need_max_at l.instance t)) 0 (below l.t);
  limit : l.greatest ≤ 10000;
}
