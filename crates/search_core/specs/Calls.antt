-- Calls on a board, one after another, and how many steps they take. Source: this project's profile.
use Rattle.std.specs.Prelude.{◌≡◌, ℕ, ◌+◌, ◌-◌, ◌^◌, ◌<◌, Bool, true, false, [], List, Option, None, count_by}
use Rattle.std.specs.Option.{is_some}
use Rattle.shift_instance.specs.Problem.{Problem}
use Rattle.head_splits.specs.Settled.{span}
use Rattle.search_core.specs.declared.step_posts.StepPosts.{StepPosts}
use Rattle.search_core.specs.declared.board.Taken.{Taken}
use Rattle.search_core.specs.declared.board.Taken.TheVariants.{Closed, Finished, Halted, Spent, Node, Idle}
use Rattle.search_core.specs.declared.board.Kept.{Kept}
use Rattle.search_core.specs.declared.board.CommitFault.{CommitFault}
use Rattle.search_core.specs.Board.{BoardView, yields, Commits, CommitRefuses, IsSoundBoard, TakeMakes}
use Rattle.search_core.specs.Core.{empty_hands, hand}

-- the steps after which each search of an instance is finished
abbrev pub steps_enough : Problem → ℕ
steps_enough i = 2 ^ (span i [] + 1) - 1

-- how many hands hold a node
abbrev pub full_hands : List (Option ℕ) → ℕ
full_hands hands = count_by is_some hands

-- whether a take gives a node
abbrev pub gives_node : Taken → Bool
gives_node Closed = false
gives_node Finished = false
gives_node Halted = false
gives_node Spent = false
gives_node (Node k floor best) = true
gives_node Idle = false

-- what one call of a worker makes of a board, and how many commits it is that answered Ok: one or none
pub data IsCall (old new : BoardView) : ℕ → Type 0 where
  a_take : (w : ℕ) (answer : Taken) → w < 16 → hand old.hands w ≡ None → TakeMakes answer w old new → IsCall old new 0
  a_commit : (w : ℕ) (step : StepPosts) (kept : Kept) → Commits w step old new kept → IsCall old new 1
  a_refusal : (w : ℕ) (step : StepPosts) (fault : CommitFault) → CommitRefuses w step old new fault → IsCall old new 0
  a_yield : (w : ℕ) → w < 16 → new ≡ yields w old → IsCall old new 0

-- calls one after another, of any workers, with so many commits that answered Ok
pub data AreCalls (old : BoardView) : BoardView → ℕ → Type 0 where
  none : AreCalls old old 0
  one_more : (mid new : BoardView) (before more : ℕ) → AreCalls old mid before → IsCall mid new more → IsSoundBoard new → AreCalls old new (before + more)

-- a board as it is opened: no step is taken, and no hand holds a node
pub record IsFresh (v : BoardView) : Type 0 where
  pub sound : IsSoundBoard v
  pub none_taken : v.taken ≡ 0
  pub empty : v.hands ≡ empty_hands
