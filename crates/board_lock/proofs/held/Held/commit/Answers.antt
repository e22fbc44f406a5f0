use Rattle.board_lock.proofs.Common.{◌≡◌, ◌+◌, ◌≤◌, ℕ, arith, subst, sym, ◌∙◌, ∥∥₁_map, Problem, BoardView, IsFresh, Fits, AreTurns}
use Rattle.board_lock.proofs.Shutting.{commit_halted, commit_shut, refusal_halted, refusal_shut}
use Rattle.board_lock.proofs.Turned.{few_merely, same_merely, turn_commit, turn_refusal}
use Rattle.board_lock.proofs.held.Held.commit.Goals as goal

pub commit-requires-clause-fits : goal.commit-requires-clause-fits
commit-requires-clause-fits g c =
    let held = c.args.self.now in
    subst (λ (i : Problem). Fits i c.args.step) (sym (same_merely held.workers (g.B.Board.seen held.opened.value) (g.B.Board.seen held.board) held.commits.total held.turns)) c.requires.fits

pub invariant_of-self : goal.invariant_of-self
invariant_of-self g c =
    let held = c.args.self.now in
    let opened : BoardView = g.B.Board.seen held.opened.value in
    let before : BoardView = g.B.Board.seen held.board in
    let after : BoardView = g.B.Board.seen c.commit.new.self in
    record {
      sixteen = held.sixteen;
      begun = held.begun;
      as_many = held.as_many;
      untaken = held.untaken;
      empty = held.empty;
      closed = commit_shut before after held.shut held.halted held.closed held.stopped c.args.worker c.args.step c.in-Ok.kept c.in-Ok.ensures.ok;
      stopped = commit_halted before after held.shut held.halted held.closed held.stopped c.args.worker c.args.step c.in-Ok.kept c.in-Ok.ensures.ok;
      turns = ∥∥₁_map held.turns (λ turns. subst (λ (n : ℕ). AreTurns held.workers opened after n) (sym (c.audit.ensures.total ∙ c.add.ensures.total))
          (turn_commit held.workers c.args.worker opened before after held.commits.total held.empty held.sixteen (g.met.B.Board.sound c.commit.new.self) turns c.args.step c.in-Ok.kept c.in-Ok.ensures.ok));
    }

pub returns-in-Ok-clause-within : goal.returns-in-Ok-clause-within
returns-in-Ok-clause-within g c =
    let held = c.args.self.now in
    let opened : BoardView = g.B.Board.seen held.opened.value in
    let before : BoardView = g.B.Board.seen held.board in
    let after : BoardView = g.B.Board.seen c.commit.new.self in
    let fresh : IsFresh opened = record { sound = g.met.B.Board.sound held.opened.value; none_taken = held.untaken; empty = held.empty } in
    let few : held.commits.total + 1 ≤ opened.budget = few_merely held.workers opened after (held.commits.total + 1) fresh (g.met.B.Board.sound c.commit.new.self)
    (∥∥₁_map held.turns (λ turns. turn_commit held.workers c.args.worker opened before after held.commits.total held.empty held.sixteen (g.met.B.Board.sound c.commit.new.self) turns c.args.step c.in-Ok.kept c.in-Ok.ensures.ok)) in
    let bound = c.audit.ensures.bound in
    let total = c.add.ensures.total in
    let amount = c.audit.ensures.amount in
    omega (arith, bound, total, amount)

pub invariant_of-self-in-Err : goal.invariant_of-self-in-Err
invariant_of-self-in-Err g c =
    let held = c.args.self.now in
    let opened : BoardView = g.B.Board.seen held.opened.value in
    let before : BoardView = g.B.Board.seen held.board in
    let after : BoardView = g.B.Board.seen c.commit.new.self in
    record {
      sixteen = held.sixteen;
      begun = held.begun;
      as_many = held.as_many;
      untaken = held.untaken;
      empty = held.empty;
      closed = refusal_shut before after held.shut held.halted held.closed held.stopped c.args.worker c.args.step c.in-Err.fault c.shut_by.result c.shut_by.ensures c.in-Err.ensures.err;
      stopped = refusal_halted before after held.shut held.halted held.closed held.stopped c.args.worker c.args.step c.in-Err.fault c.in-Err.ensures.err;
      turns = ∥∥₁_map held.turns (λ turns. subst (λ (n : ℕ). AreTurns held.workers opened after n) (sym c.audit-in-Err.ensures.total)
          (turn_refusal held.workers c.args.worker opened before after held.commits.total held.empty held.sixteen (g.met.B.Board.sound c.commit.new.self) turns c.args.step c.in-Err.fault c.in-Err.ensures.err));
    }

pub returns-in-Err-clause-within : goal.returns-in-Err-clause-within
returns-in-Err-clause-within g c =
    let held = c.args.self.now in
    let opened : BoardView = g.B.Board.seen held.opened.value in
    let fresh : IsFresh opened = record { sound = g.met.B.Board.sound held.opened.value; none_taken = held.untaken; empty = held.empty } in
    let few : held.commits.total ≤ opened.budget = few_merely held.workers opened (g.B.Board.seen held.board) held.commits.total fresh (g.met.B.Board.sound held.board) held.turns in
    let bound = c.audit-in-Err.ensures.bound in
    let amount = c.audit-in-Err.ensures.amount in
    omega (arith, bound, amount)
