use Rattle.instance_warnings.proofs.Common.{◌≡◌, ◌-◌, max, fold, range_with_len, total_in}
use Rattle.instance_warnings.proofs.oddities.most_break.Given as goal

abbrev pub invariant-loop-len : goal.invariant-loop-len
invariant-loop-len l = l.most ≡ fold (λ most len. max most (total_in l.totals len)) 0 (range_with_len l.low (l.len - l.low))
