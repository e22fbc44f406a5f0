use Rattle.std.proofs.Common.{◌≡◌}
use Rattle.moves_tests.proofs.drafts.good_steps.Given as goal

abbrev pub invariant-loop-k : goal.invariant-loop-k
invariant-loop-k l = l.draft.instance ≡ l.instance
