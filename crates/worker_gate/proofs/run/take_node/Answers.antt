use Rattle.worker_gate.proofs.Rounds.{some_free}
use Rattle.worker_gate.proofs.run.take_node.Goals as goal

pub unreachable-requires-in-Idle : goal.unreachable-requires-in-Idle
unreachable-requires-in-Idle g c = some_free (g.B.Board.seen c.args.board.now) c.in-Idle.ensures.0.unfinished c.in-Idle.ensures.1 c.requires.idle.empty
