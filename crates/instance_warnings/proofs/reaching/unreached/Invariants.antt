use Rattle.instance_warnings.proofs.Common.{◌≡◌, ◌≤◌, length, filter, below, is_missed, AreLegal}
use Rattle.instance_warnings.proofs.reaching.unreached.Given as goal

abbrev pub invariant-loop-t : goal.invariant-loop-t
invariant-loop-t l = record {
  instance : l.cover.instance ≡ l.instance;
  few : length l.cover.duties ≤ l.t;
  legal : AreLegal l.instance l.cover.duties;
  found : l.list.items ≡ filter (is_missed l.instance) (below l.t);
}
