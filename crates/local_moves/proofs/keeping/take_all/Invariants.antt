use Rattle.local_moves.proofs.Common.{◌≡◌, ◌≤◌, [], take, vec_capacity, vec_len, IsDraft, IsExchanged}
use Rattle.local_moves.proofs.keeping.take_all.Given as goal

abbrev pub invariant-loop-duty : goal.invariant-loop-duty
invariant-loop-duty l = record {
  draft : IsDraft l.instance l.cover l.heads l.rows.items;
  duties : IsExchanged l.fn.cover.duties (take l.duty-index l.gone) [] l.cover.duties;
  capacity : vec_capacity l.rows ≡ vec_capacity l.fn.rows;
  len : vec_len l.rows ≤ vec_len l.fn.rows;
}
