use Rattle.board_lock.specs.Turns.AreTurns.{none}
use Rattle.worker_gate.proofs.running.tellings.Goals as goal

pub pair-requires : goal.pair-requires
pair-requires g c = record {
  opened = g.B.Board.seen c.args.board.now;
  first_is = c.requires;
  board = g.B.Board.seen c.args.board.now;
  commits = 0;
  turns = ∣ none ∣₁;
  posts_are = c.posts.ensures;
  cost_is = c.best_cost.ensures;
}
