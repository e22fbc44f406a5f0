use Rattle.board_lock.proofs.Costs.{best_follows}
use Rattle.worker_gate.proofs.News.{news_made}
use Rattle.worker_gate.proofs.turns.commit_in.Goals as goal

pub returns-in-Ok-clause-news : goal.returns-in-Ok-clause-news
returns-in-Ok-clause-news g c =
    let held = c.args.held.now in
    news_made held.workers (g.B.Board.seen held.opened.value) (g.B.Board.seen held.board) (g.B.Board.seen c.commit.new.self.board) held.commits.total c.args.worker c.args.step c.in-Ok.kept held.turns c.in-Ok.ensures.ok

pub returns-in-Ok-clause-best : goal.returns-in-Ok-clause-best
returns-in-Ok-clause-best g c =
    best_follows c.args.worker c.args.step c.in-Ok.kept (g.B.Board.seen c.args.held.now.board) (g.B.Board.seen c.commit.new.self.board) (g.met.B.Board.sound c.commit.new.self.board) c.in-Ok.ensures.ok
