use Rattle.worker_gate.proofs.passing.TurnLockPassingTaking.commit_turn.Goals as goal

pub end_turn-requires-clause-passes : goal.end_turn-requires-clause-passes
end_turn-requires-clause-passes g c = rw (c.begin_turn-value.ensures.known) c.commit-kept.ensures.passes
