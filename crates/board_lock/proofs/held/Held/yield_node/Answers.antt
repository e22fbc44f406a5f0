use Rattle.board_lock.proofs.Common.{ap, ◌∙◌, ∥∥₁_map, BoardView}
use Rattle.board_lock.proofs.Shutting.{is_same, same_is}
use Rattle.board_lock.proofs.Turned.{turn_yield}
use Rattle.board_lock.proofs.held.Held.yield_node.Goals as goal

pub invariant_of-self : goal.invariant_of-self
invariant_of-self g c =
    let held = c.args.self.now in
    let opened : BoardView = g.B.Board.seen held.opened.value in
    let before : BoardView = g.B.Board.seen held.board in
    let after : BoardView = g.B.Board.seen c.yield_node.new.self in
    record {
      sixteen = held.sixteen;
      begun = held.begun;
      as_many = held.as_many;
      untaken = held.untaken;
      empty = held.empty;
      closed = is_same after.shut held.shut (ap (λ v. v.shut) c.yield_node.ensures ∙ same_is before.shut held.shut held.closed);
      stopped = ap (λ v. v.halted) c.yield_node.ensures;
      turns = ∥∥₁_map held.turns (λ turns. turn_yield held.workers c.args.worker opened before after held.commits.total held.empty held.sixteen (g.met.B.Board.sound c.yield_node.new.self) turns c.requires c.yield_node.ensures);
    }
