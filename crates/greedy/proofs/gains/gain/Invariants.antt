use Rattle.greedy.proofs.Common.{◌≡◌, ◌*◌, pos, cond, int_sum_by, below, counts, value_on, IsWithin}
use Rattle.greedy.proofs.gains.gain.Given as goal

abbrev pub invariant-loop-day : goal.invariant-loop-day
invariant-loop-day l = record {
  gain : l.gain ≡ int_sum_by (λ day. cond (counts l.instance l.draft.cover.duties l.shift day) (value_on l.instance l.draft.cover.duties l.shift day) (pos 0)) (below l.day);
  small : IsWithin (l.day * 2016000000) l.gain;
}
