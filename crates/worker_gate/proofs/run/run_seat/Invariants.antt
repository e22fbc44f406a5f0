use Rattle.worker_gate.proofs.Common.{◌≡◌, ◌<◌, ◌+◌, ◌^◌, IfSome, MatchOption, Stopped, committed, IsRun}
use Rattle.std.specs.Prelude.{true}
use Rattle.worker_gate.proofs.Runs.{steps_left, IsToldRun}
use Rattle.worker_gate.proofs.run.run_seat.Given as goal

abbrev pub invariant-loop-end : goal.invariant-loop-end
invariant-loop-end g l = record {
  run : IsRun (g.B.Board.seen l.fn.board) (g.B.Board.seen l.board) l.end;
  share : MatchOption l.end (l.seat.share ≡ (g.B.Board.seen l.board).taken) (λ end. l.seat.share ≡ committed end (g.B.Board.seen l.board).taken);
  each : l.seat.told ≡ l.seat.share;
  tells : IsToldRun (g.B.Board.seen l.fn.board) (g.B.Board.seen l.board) l.end
      ((goal.Adviser-dyn g (l.initial.seat.adviser.vtable, l.initial.seat.adviser.value)).last l.initial.seat.adviser.value)
      ((goal.Adviser-dyn g (l.seat.adviser.vtable, l.seat.adviser.value)).last l.seat.adviser.value);
  stopped : IfSome l.end (λ end. end ≡ Stopped → g.S.Stop.can_ask l.stop ≡ true);
  buffers : l.buffers ≡ l.fn.instance;
  told : (goal.Adviser-dyn g (l.initial.seat.adviser.vtable, l.initial.seat.adviser.value)).told l.initial.seat.adviser.value < 2 ^ 63 + l.initial.seat.told
      → (goal.Adviser-dyn g (l.seat.adviser.vtable, l.seat.adviser.value)).told l.seat.adviser.value + l.initial.seat.told
      ≡ (goal.Adviser-dyn g (l.initial.seat.adviser.vtable, l.initial.seat.adviser.value)).told l.initial.seat.adviser.value + l.seat.told;
}

abbrev pub decreases-loop-end : goal.decreases-loop-end
decreases-loop-end g l = steps_left (g.B.Board.seen l.fn.board).budget (g.B.Board.seen l.board).taken l.end
