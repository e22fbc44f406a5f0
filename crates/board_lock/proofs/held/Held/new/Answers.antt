use Rattle.board_lock.proofs.Common.{ap, sym, ◌∙◌, None, Some}
use Rattle.board_lock.proofs.Shutting.{is_same}
use Rattle.board_lock.proofs.Turned.{no_turns}
use Rattle.board_lock.proofs.held.Held.new.Goals as goal

pub invariant_of-result : goal.invariant_of-result
invariant_of-result g c =
    let same = ap g.B.Board.seen c.of-opened.ensures in
    record {
      sixteen = c.requires.sixteen;
      begun = c.requires.begun ∙ ap (λ v. Some v) (sym same);
      as_many = c.requires.as_many;
      untaken = ap (λ v. v.taken) same ∙ c.requires.untaken;
      empty = ap (λ v. v.hands) same ∙ c.requires.empty;
      closed = is_same (g.B.Board.seen c.args.board).shut None c.requires.running;
      stopped = c.requires.going;
      turns = no_turns c.args.workers (g.B.Board.seen c.of-opened.result.value) (g.B.Board.seen c.args.board) c.args.commits.total same c.requires.none;
    }
