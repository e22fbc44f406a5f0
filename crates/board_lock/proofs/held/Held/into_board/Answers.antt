use Rattle.board_lock.proofs.Common.{◌≡◌, ℕ, subst, sym, ◌∙◌, ∥∥₁_map, AreTurns}
use Rattle.board_lock.proofs.held.Held.into_board.Goals as goal

pub returns-clause-turns : goal.returns-clause-turns
returns-clause-turns g c =
    let held = c.args.self in
    let all = c.audit.ensures.amount ∙ c.audit.ensures.whole c.requires.whole in
    ∥∥₁_map held.turns (subst (λ (n : ℕ). AreTurns held.workers (g.B.Board.seen held.opened.value) (g.B.Board.seen held.board) n) (sym all))
