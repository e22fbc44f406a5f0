use Rattle.local_moves.proofs.Common.{◌≡◌, ◌+◌, ◌≤◌, Bool, not, vec_capacity, vec_len, Duty, is_legal_duty, IsDraft}
use Rattle.std.proofs.Common.{count_by}
use Rattle.local_moves.proofs.keeping.put_all.Given as goal

abbrev pub invariant-loop-duty : goal.invariant-loop-duty
invariant-loop-duty l = record {
  draft : IsDraft l.instance l.cover l.heads l.rows.items;
  duties : (p : Duty → Bool) → count_by p l.cover.duties + count_by p l.rest.items ≡ count_by p l.fn.cover.duties + count_by p l.fn.made.items;
  legal : count_by (λ d. not (is_legal_duty l.instance d)) l.rest.items ≡ 0;
  room : vec_len l.rows + vec_len l.rest ≤ vec_capacity l.rows;
}

abbrev pub decreases-loop-duty : goal.decreases-loop-duty
decreases-loop-duty l = goal.left-loop-duty l
