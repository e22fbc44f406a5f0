-- Turns of workers at a board: calls that they make one after another, in whatever order they get the board. Source: this project's profile.
use Rattle.std.specs.Prelude.{◌≡◌, ℕ, ◌+◌, ◌≤◌, Bool, true, false, List, Option, None, length, drop, count_by}
use Rattle.post_codec.specs.declared.post.Post.{Post}
use Rattle.post_codec.specs.declared.post.Post.TheVariants.{Plan, Priced, Split, Settled}
use Rattle.search_core.specs.Board.{BoardView, IsSoundBoard}
use Rattle.search_core.specs.Calls.{IsCall}
use Rattle.search_core.specs.Core.{hand}

-- the hand of each worker from that number on is empty
abbrev pub AreEmptyFrom : ℕ → List (Option ℕ) → Type 0
AreEmptyFrom workers hands = (w : ℕ) → workers ≤ w → hand hands w ≡ None

-- Turns of so many workers, and how many of them are commits that answered Ok. Each turn is one call, and leaves a sound board, on
-- which only the first `workers` hands hold a node.
pub data AreTurns (workers : ℕ) (old : BoardView) : BoardView → ℕ → Type 0 where
  none : AreTurns workers old old 0
  one_more : (mid new : BoardView) (before more : ℕ) → AreTurns workers old mid before → IsCall mid new more → IsSoundBoard new → AreEmptyFrom workers new.hands
      → AreTurns workers old new (before + more)

-- whether a post is a plan, or prices
abbrev pub is_plan : Post → Bool
is_plan (Plan worker rows c) = true
is_plan (Priced worker k prices) = false
is_plan (Split worker k class m) = false
is_plan (Settled worker k) = false

abbrev pub is_prices : Post → Bool
is_prices (Plan worker rows c) = false
is_prices (Priced worker k prices) = true
is_prices (Split worker k class m) = false
is_prices (Settled worker k) = false

-- how many of the posts behind the first ones are plans, or prices
abbrev pub plans_since : List Post → List Post → ℕ
plans_since first all = count_by is_plan (drop (length first) all)

abbrev pub prices_since : List Post → List Post → ℕ
prices_since first all = count_by is_prices (drop (length first) all)
