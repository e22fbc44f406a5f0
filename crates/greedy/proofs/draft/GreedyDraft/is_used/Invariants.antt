use Rattle.greedy.proofs.Common.{◌≡◌, ℕ, ◌<◌, heads_on}
use Rattle.greedy.proofs.draft.GreedyDraft.is_used.Given as goal

abbrev pub invariant-loop-day : goal.invariant-loop-day
invariant-loop-day l = (day : ℕ) → day < l.day → heads_on l.self.cover.duties l.shift day ≡ 0
