-- What the workers of a run make of the book that it opened, and how often their advisers are told something.
use Rattle.std.specs.Prelude.{◌≡◌, ℕ, ◌+◌, ◌*◌, ◌<◌, ◌≤◌, ◌^◌, List, [], length, take, count_by, sum, slice_index}
use Rattle.post_codec.specs.Batches.{joined}
use Rattle.shift_instance.specs.Problem.{Problem}
use Rattle.search_core.specs.Board.{BoardView}
use Rattle.search_core.specs.Calls.{IsFresh}
use Rattle.board_lock.specs.Turns.{is_plan, is_prices, AreTurns}
use Rattle.worker_gate.specs.declared.run.RunEnd.{RunEnd}
use Rattle.worker_gate.specs.Runs.{IsIdle}
use Rattle.worker_gate.specs.Workers.{WorkersEnd}
use Rattle.solve_runs.specs.Session.{DiskMet, Session, posts_in}
use Rattle.solve_runs.specs.Steps.{bytes_in}

-- how often each adviser that a run was given, and each that it hands back, had been told something, before the run and after it
pub record ToldMet : Type 0 where
  pub before : List ℕ
  pub after : List ℕ

-- the first so many advisers served, and come back in their order; those that had been told fewer than 2^63 times before count all that
-- they were told in the run, and together they were told as often as a commit answered Ok
pub record AreTold (workers commits : ℕ) (told : ToldMet) : Type 0 where
  pub served : length told.after ≡ workers
  pub grown : List ℕ
  pub all : length grown ≡ workers
  pub each : (k : ℕ) → k < workers → slice_index told.before k < 2 ^ 63 → slice_index told.after k ≡ slice_index told.before k + slice_index grown k
  pub together : sum grown ≡ commits

-- those come back, and none was told anything
abbrev pub AreUntold : ℕ → ToldMet → Type 0
AreUntold workers told = told.after ≡ take workers told.before

-- The workers of a run over the book that it opened, and how their search ended with this board: turns of theirs, in whatever order
-- they got it, each turn a call, made it of the first one, from which no node was taken yet; so many commits answered Ok. The records of
-- the session are those of these commits: one record of all posts of each, in order, and none of a commit without posts. Each commit
-- posted prices or a plan, or another worker's plan had closed its node.
pub record Works (workers commits budget : ℕ) (end : RunEnd) (last : BoardView) {disk : DiskMet} {i : Problem} (session : Session disk i) : Type 0 where
  pub first : BoardView
  pub instance : first.instance ≡ i
  pub steps : first.budget ≡ budget
  pub fresh : IsFresh first
  pub idle : IsIdle first
  pub opening : first.history ≡ session.opening
  pub unrecorded : first.batches ≡ []
  pub turns : ∥ AreTurns workers first last commits ∥₁
  pub ends : WorkersEnd first last end
  pub posts : last.history ≡ posts_in session
  pub records : last.batches ≡ session.batches
  pub used : session.used_after ≡ session.used + bytes_in session.batches
  pub shown : commits ≤ count_by is_prices (joined session.batches) + workers * count_by is_plan (joined session.batches)

-- so they worked, and so often their advisers were told something
abbrev pub Served : ℕ → ℕ → ToldMet → RunEnd → BoardView → {disk : DiskMet} {i : Problem} → Session disk i → Type 0
Served workers budget told end last session = (commits : ℕ) × Works workers commits budget end last session × AreTold workers commits told
