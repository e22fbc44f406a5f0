use Rattle.board_lock.proofs.Common.{◌≡◌, ℕ, ap, arith, subst, sym, ◌∙◌, ∥∥₁_map, BoardView, last_of, AreTurns}
use Rattle.board_lock.proofs.Costs.{last_push}
use Rattle.board_lock.proofs.held.Held.tell.Goals as goal

pub tell-requires-clause-follows : goal.tell-requires-clause-follows
tell-requires-clause-follows g c =
    let more = c.requires.0 in
    let less = c.requires.1 in
    let posts = c.posts.ensures in
    let cost = c.best_cost.ensures in
    (omega (arith, more, posts), omega (arith, less, cost))

pub tell-requires-clause-tells : goal.tell-requires-clause-tells
tell-requires-clause-tells g c =
    let held = c.args.self.now in
    let opened : BoardView = g.B.Board.seen held.opened.value in
    let now : BoardView = g.B.Board.seen held.board in
    record {
      opened = opened;
      first_is = held.begun;
      board = now;
      commits = held.commits.total;
      turns = ∥∥₁_map held.turns (subst (λ (n : ℕ). AreTurns n opened now held.commits.total) (sym held.as_many));
      posts_are = c.posts.ensures;
      cost_is = c.best_cost.ensures;
    }

pub returns : goal.returns
returns g c = ap last_of c.tell.ensures ∙ last_push c.args.teller.now (c.posts.result, c.best_cost.result) ∙ (λ j. (c.posts.ensures j, c.best_cost.ensures j))
