-- What the best rota of a run costs, as its workers hear of it without the lock. Source: this project's profile.
use Rattle.std.specs.Prelude.{◌≡◌, ℕ, Option, Some, length}
use Rattle.search_core.specs.Board.{book_at, BoardView}
use Rattle.board_lock.specs.Turns.{AreTurns}

-- a board that turns of so many workers have made of the first one: it has so many posts, and its best rota costs so much
pub record IsBestAt (first : Option BoardView) (workers posts cost : ℕ) : Type 0 where
  pub opened : BoardView
  pub first_is : first ≡ Some opened
  pub board : BoardView
  pub commits : ℕ
  pub turns : ∥ AreTurns workers opened board commits ∥₁
  pub posts_are : posts ≡ length board.history
  pub cost_is : cost ≡ (book_at board).cost

-- the posts of a board, and what its best rota costs
abbrev pub best_of : BoardView → ℕ × ℕ
best_of v = (length v.history, (book_at v).cost)
