-- A run of workers over a board, one for each seat, in whatever order they get the board. Source: this project's profile.
use Rattle.std.specs.Prelude.{◌≡◌, ◌⊎◌, ℕ, ◌<◌, ◌^◌, ⊤, true, IsSome, IsTrue, IsFalse, Option, None, Some}
use Rattle.shift_instance.specs.Problem.{Problem}
use Rattle.search_core.specs.declared.board.Shutting.TheVariants.{DiskFault as ShutByDiskFault, Full as ShutByFull}
use Rattle.advice.specs.declared.adviser.Told.{Told}
use Rattle.search_core.specs.declared.board.Kept.{Kept}
use Rattle.search_core.specs.Board.{book_at, yields, BoardView, Commits, HoldsStep, IsPast}
use Rattle.search_core.specs.Book.{is_finished}
use Rattle.search_core.specs.Core.{empty_hands}
use Rattle.search_core.specs.declared.step_posts.StepPosts.{StepPosts}
use Rattle.search_core.specs.declared.step_posts.Close.TheVariants.{ByPrice}
use Rattle.board_lock.specs.declared.roots.BoardRoot.{BoardRoot}
use Rattle.board_lock.specs.Turns.{AreTurns}
use Rattle.worker_gate.specs.declared.run.RunEnd.{RunEnd}
use Rattle.worker_gate.specs.declared.run.RunEnd.TheVariants.{Finished, Spent, Full, DiskFault, NoMemory, Stopped}
use Rattle.worker_gate.specs.declared.turns.Left.{Left}
use Rattle.worker_gate.specs.declared.turns.Left.TheVariants.{Again as LeftAgain, NotClosing as LeftNotClosing, End as LeftEnd}
use Rattle.worker_gate.specs.Runs.{news_of, IsIdle}

-- How a run of workers ends, and how it leaves the board. Without an open node all hands are empty, also where a worker gave up.
-- Without a step left nobody gave up. Shut by the journal's limit, the posts of a step that its book allows would have ended past it;
-- shut by the disk, a call on it failed. On running out of memory a worker gave up, and all hands are empty, or the run never began.
-- Where it was asked to stop nobody gave up, all hands are empty, a node is open, and a step is left.
abbrev pub WorkersEnd : BoardView → BoardView → RunEnd → Type 0
WorkersEnd old new Finished = (new.shut ≡ None) × (new.hands ≡ empty_hands) × IsTrue (is_finished (book_at new))
WorkersEnd old new Spent = IsIdle new × IsFalse (is_finished (book_at new)) × (new.taken ≡ new.budget)
WorkersEnd old new (Full end limit) = (new.shut ≡ Some (ShutByFull end limit)) × IsPast new end limit
WorkersEnd old new DiskFault = new.shut ≡ Some ShutByDiskFault
WorkersEnd old new NoMemory = (new.shut ≡ None) × (new.hands ≡ empty_hands) × ((new.halted ≡ true) ⊎ (new ≡ old))
WorkersEnd old new Stopped = IsIdle new × IsFalse (is_finished (book_at new)) × (new.taken < new.budget)

-- The news of a commit of one worker that answered Ok: turns of so many workers have made of a first board the one on which it was
-- made.
pub record IsNews (workers : ℕ) (first : BoardView) (number : ℕ) (news : Told) : Type 0 where
  pub before : BoardView
  pub commits : ℕ
  pub turns : AreTurns workers first before commits
  pub step : StepPosts
  pub kept : Kept
  pub after : BoardView
  pub makes : Commits number step before after kept
  pub is : news ≡ news_of step.node kept

-- What the adviser of one worker was told last, before and after it was told more often: the same, where it was told nothing more, and
-- else the news of a commit of that worker.
abbrev pub IsToldLast : ℕ → BoardView → ℕ → ℕ → ℕ → Option Told → Option Told → Type 0
IsToldLast workers first number was is before after =
    ((is ≡ was) × (after ≡ before))
    ⊎ ((was < is) × ((news : Told) × (after ≡ Some news) × ∥ IsNews workers first number news ∥₁))

-- what the worker of a number knows of the board from one turn to the next: what it is for, that its budget has fewer than 2^63
-- steps, and that this worker is one of those that take nodes of it
pub record KnowsBoard {B : Type 0} (seen : B → BoardView) (i : Problem) (number : ℕ) (root : BoardRoot B) : Type 0 where
  pub instance : (seen root.opened.value).instance ≡ i
  pub budget : (seen root.opened.value).budget < 2 ^ 63
  pub worker : number < root.workers

-- what becomes of a step that isn't committed: the worker doesn't hold its node, or its prices are for other cuts; by its price alone
-- it would leave its node open; or the board is shut, with the posts that it had; or, on running out of memory, the worker lets go of its node
abbrev pub LeavesStep : ℕ → StepPosts → BoardView → BoardView → Left → Type 0
LeavesStep w step old new LeftAgain = (HoldsStep w step old → ⊥) × (new ≡ old)
LeavesStep w step old new (LeftNotClosing back) = HoldsStep w step old × (step.close ≡ ByPrice) × (back ≡ step) × (new ≡ old)
LeavesStep w step old new LeftEnd = (IsSome new.shut × (new.taken ≡ old.taken) × (new.history ≡ old.history)) ⊎ (new ≡ yields w old)

-- what comes back of a step that wasn't committed: the step itself, where by its price alone it would have left its node open
abbrev pub IsLeft : StepPosts → Left → Type 0
IsLeft step LeftAgain = ⊤
IsLeft step (LeftNotClosing back) = (back ≡ step) × (step.close ≡ ByPrice)
IsLeft step LeftEnd = ⊤
