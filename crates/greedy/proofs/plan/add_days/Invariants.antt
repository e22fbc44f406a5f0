use Rattle.greedy.proofs.Common.{◌≡◌, ◌++◌, map, filter, below, IsDraft, best_duty, counts}
use Rattle.greedy.proofs.plan.add_days.Given as goal

abbrev pub invariant-loop-day : goal.invariant-loop-day
invariant-loop-day l = record {
  draft : IsDraft l.instance l.draft.cover l.draft.heads.items l.draft.rows.items;
  duties : l.draft.cover.duties ≡ l.initial.draft.cover.duties ++ map (best_duty l.instance l.prices l.shift) (filter (counts l.instance l.initial.draft.cover.duties l.shift) (below l.day));
}
