-- The run of one worker over a board. Source: this project's profile.
use Rattle.std.specs.Prelude.{◌≡◌, ℕ, ◌+◌, ◌-◌, ◌<◌, Bool, true, false, IsTrue, IsFalse, List, Option, Some, None, length, drop, count_by, MatchOption, if◌then◌else◌}
use Rattle.post_codec.specs.declared.post.Post.{Post}
use Rattle.post_codec.specs.declared.post.Post.TheVariants.{Plan, Priced, Split, Settled}
use Rattle.advice.specs.declared.advice.Advice.{Advice}
use Rattle.advice.specs.declared.adviser.Told.{Told}
use Rattle.search_core.specs.declared.board.CommitFault.TheVariants.{DiskFault as CommitsDisk, Full as CommitsFull}
use Rattle.search_core.specs.declared.board.Kept.{Kept}
use Rattle.search_core.specs.declared.board.Shutting.TheVariants.{DiskFault as ShutByDiskFault, Full as ShutByFull}
use Rattle.search_core.specs.declared.board.Taken.TheVariants.{Node as TakenNode}
use Rattle.search_core.specs.declared.step_posts.StepPosts.{StepPosts}
use Rattle.search_core.specs.Board.{BoardView, book_at, yields, Commits, CommitRefuses, IsPast, TakeMakes}
use Rattle.search_core.specs.Book.{Book, book_of, is_finished}
use Rattle.search_core.specs.Core.{empty_hands}
use Rattle.search_core.specs.Kept.{cuts_in}
use Rattle.worker_gate.specs.declared.run.RunEnd.{RunEnd}
use Rattle.worker_gate.specs.declared.run.RunEnd.TheVariants.{Finished, Spent, Full, DiskFault, NoMemory, Stopped}
use Rattle.worker_gate.specs.Decision.{IsDecision}

-- what worker 0 does in a round up to its commit: it takes a node, and makes the step of some advice for it
pub record MakesStep (old held : BoardView) (step : StepPosts) : Type 0 where
  pub node : ℕ
  pub floor : ℕ
  pub best : ℕ
  pub takes : TakeMakes (TakenNode node floor best) 0 old held
  pub advice : Advice
  pub decides : IsDecision old.instance node (cuts_in (book_at old).nodes node) floor best advice step

-- one round of worker 0: it commits the step that it makes for a node
pub record IsRound (old new : BoardView) : Type 0 where
  pub held : BoardView
  pub step : StepPosts
  pub makes : MakesStep old held step
  pub kept : Kept
  pub commits : Commits 0 step held new kept
  -- the posts make a book
  pub book : Book
  pub folds : book_of new.instance new.history ≡ Some book

-- that many rounds, one after another
pub data AreRounds (old : BoardView) : BoardView → ℕ → Type 0 where
  none : AreRounds old old 0
  one_more : (mid new : BoardView) (rounds : ℕ) → AreRounds old mid rounds → IsRound mid new → AreRounds old new (rounds + 1)

-- a board that still runs: nothing shut it, no worker gave up, and each hand is empty
pub record IsIdle (v : BoardView) : Type 0 where
  pub running : v.shut ≡ None
  pub going : v.halted ≡ false
  pub empty : v.hands ≡ empty_hands

-- what a worker tells its adviser of a commit that answered Ok: the node of the step, with that node's floor and the best cost after it
abbrev pub news_of : ℕ → Kept → Told
news_of node kept = record { node = node; floor = kept.floor; best = kept.best }

-- that many rounds, one after another, and what an adviser was told last by their end: the news of the last one, and after none what
-- it was told before
pub data AreToldRounds (old : BoardView) (before : Option Told) : BoardView → ℕ → Option Told → Type 0 where
  untold : AreToldRounds old before old 0 before
  told_more : (mid new : BoardView) (rounds : ℕ) (earlier : Option Told) → AreToldRounds old before mid rounds earlier → (round : IsRound mid new)
      → AreToldRounds old before new (rounds + 1) (Some (news_of round.makes.node round.kept))

-- a board of the same search
pub record IsSameSearch (old new : BoardView) : Type 0 where
  pub instance : new.instance ≡ old.instance
  pub budget : new.budget ≡ old.budget
  pub origin : new.origin ≡ old.origin

-- how a run ends, and how it leaves the board: without an open node, or without a step left; shut by the journal's limit, past
-- which the posts of a step that its book allows would have ended there; shut by the disk; on running out of memory, halted with
-- empty hands; or, where it was asked to stop, with an open node and a step left
abbrev pub RunEnds : BoardView → RunEnd → Type 0
RunEnds v Finished = IsIdle v × IsTrue (is_finished (book_at v))
RunEnds v Spent = IsIdle v × IsFalse (is_finished (book_at v)) × (v.taken ≡ v.budget)
RunEnds v (Full end limit) = (v.shut ≡ Some (ShutByFull end limit)) × IsPast v end limit
RunEnds v DiskFault = v.shut ≡ Some ShutByDiskFault
RunEnds v NoMemory = (v.shut ≡ None) × (v.halted ≡ true) × (v.hands ≡ empty_hands)
RunEnds v Stopped = IsIdle v × IsFalse (is_finished (book_at v)) × (v.taken < v.budget)

-- whether a run came to its end between two rounds
abbrev pub is_whole : RunEnd → Bool
is_whole Finished = true
is_whole Spent = true
is_whole (Full end limit) = false
is_whole DiskFault = false
is_whole NoMemory = false
is_whole Stopped = true

-- how many of the steps that a run took were committed: all, and all but the last where it was cut off
abbrev pub committed : RunEnd → ℕ → ℕ
committed end taken = if is_whole end then taken else taken - 1

-- whether a post is a plan or prices
abbrev pub is_plan_or_prices : Post → Bool
is_plan_or_prices (Plan worker rows c) = true
is_plan_or_prices (Priced worker k prices) = true
is_plan_or_prices (Split worker k class m) = false
is_plan_or_prices (Settled worker k) = false

-- how many of the posts behind the first ones are plans or prices
abbrev pub plans_and_prices_since : List Post → List Post → ℕ
plans_and_prices_since first all = count_by is_plan_or_prices (drop (length first) all)

-- how a run is cut off at the commit of a step: the commit is refused or, on running out of memory, the worker lets go of its node
abbrev pub IsCutOff : StepPosts → BoardView → BoardView → RunEnd → Type 0
IsCutOff step held new DiskFault = CommitRefuses 0 step held new CommitsDisk
IsCutOff step held new (Full end limit) = CommitRefuses 0 step held new (CommitsFull end limit)
IsCutOff step held new NoMemory = new ≡ yields 0 held
IsCutOff step held new Finished = ⊥
IsCutOff step held new Spent = ⊥
IsCutOff step held new Stopped = ⊥

-- what the end of a run makes of the board after its rounds: nothing, where it came to its end between two rounds; else a last step is
-- taken, and its commit is refused; or, on running out of memory, a last node is taken and let go of
abbrev pub EndMakes : BoardView → BoardView → RunEnd → Type 0
EndMakes old new Finished = new ≡ old
EndMakes old new Spent = new ≡ old
EndMakes old new (Full end limit) = (held : BoardView) × (step : StepPosts) × MakesStep old held step × IsCutOff step held new (Full end limit)
EndMakes old new DiskFault = (held : BoardView) × (step : StepPosts) × MakesStep old held step × IsCutOff step held new DiskFault
EndMakes old new Stopped = new ≡ old
EndMakes old new NoMemory = (held : BoardView) × (node : ℕ) × (floor : ℕ) × (best : ℕ) × TakeMakes (TakenNode node floor best) 0 old held × (new ≡ yields 0 held)

-- what a run makes of a board from which no node was taken: a round for each step, up to the last board, and its end
pub record RunMakes (old new : BoardView) (how : RunEnd) : Type 0 where
  pub last : BoardView
  pub rounds : AreRounds old last last.taken
  pub end : EndMakes last new how

-- the same run, and what its adviser was told last, before it and after it
pub record RunTells (old new : BoardView) (how : RunEnd) (before after : Option Told) : Type 0 where
  pub last : BoardView
  pub rounds : AreToldRounds old before last last.taken after
  pub end : EndMakes last new how

-- a board on which a run ended
pub record IsEnded (old new : BoardView) (how : RunEnd) : Type 0 where
  pub same : IsSameSearch old new
  pub ends : RunEnds new how
  pub makes : EndMakes old new how

-- one round or how the run ends in it, and what the adviser was told last, before it and after it
abbrev pub RoundTells : BoardView → BoardView → Option Told → Option Told → Option RunEnd → Type 0
RoundTells old new before after None = (round : IsRound old new) × (after ≡ Some (news_of round.makes.node round.kept))
RoundTells old new before after (Some how) = IsEnded old new how × (after ≡ before)

-- a run so far: rounds, and, if it has come to its end, how
pub record IsRun (old new : BoardView) (how : Option RunEnd) : Type 0 where
  pub same : IsSameSearch old new
  pub last : BoardView
  pub rounds : AreRounds old last last.taken
  pub end : MatchOption how ((new ≡ last) × IsIdle new) (IsEnded last new)
