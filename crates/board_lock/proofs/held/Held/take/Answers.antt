use Rattle.board_lock.proofs.Common.{∥∥₁_map, BoardView}
use Rattle.board_lock.proofs.Shutting.{take_halted, take_shut}
use Rattle.board_lock.proofs.Turned.{turn_take}
use Rattle.board_lock.proofs.held.Held.take.Goals as goal

pub invariant_of-self : goal.invariant_of-self
invariant_of-self g c =
    let held = c.args.self.now in
    let opened : BoardView = g.B.Board.seen held.opened.value in
    let before : BoardView = g.B.Board.seen held.board in
    let after : BoardView = g.B.Board.seen c.take.new.self in
    record {
      sixteen = held.sixteen;
      begun = held.begun;
      as_many = held.as_many;
      untaken = held.untaken;
      empty = held.empty;
      closed = take_shut before after held.shut held.halted held.closed held.stopped c.take.result c.args.worker c.take.ensures;
      stopped = take_halted before after held.shut held.halted held.closed held.stopped c.take.result c.args.worker c.take.ensures;
      turns = ∥∥₁_map held.turns (λ turns. turn_take held.workers c.args.worker opened before after held.commits.total held.empty held.sixteen (g.met.B.Board.sound c.take.new.self) turns c.take.result c.requires.worker c.requires.empty c.take.ensures);
    }
