use Rattle.greedy.proofs.Common.{◌-◌, AreBounds, IsDraft, LeadsToGreedy, IsAfterRounds, AreKept}
use Rattle.greedy.proofs.plan.greedy_draft.Given as goal

abbrev pub invariant-rounds : goal.invariant-rounds
invariant-rounds g l = record {
  draft : IsDraft l.instance l.draft.cover l.draft.heads.items l.draft.rows.items;
  bounds : AreBounds l.instance l.draft.cover.duties l.kept.bounds.items;
  kept : AreKept l.instance l.draft.cover.duties l.kept.prices.items l.kept.sums l.kept.known.items;
  rounds : IsAfterRounds l.instance l.draft.cover.duties;
  leads : LeadsToGreedy l.instance (l.most - l._round) l.draft.cover.duties;
}
