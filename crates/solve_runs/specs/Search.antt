-- What a run does to the book that it opened, step by step.
use Rattle.std.specs.Prelude.{◌≡◌, ⊤, ℕ, ◌+◌, ◌*◌, ◌<◌, ◌≤◌, false, List, Option, None}
use Rattle.search_core.specs.Calls.{full_hands, steps_enough, IsFresh}
use Rattle.search_core.specs.Core.{empty_hands, IsFront}
use Rattle.search_book.specs.Search.{SearchView, board_of}
use Rattle.worker_gate.specs.declared.run.RunEnd.{RunEnd}
use Rattle.worker_gate.specs.declared.run.RunEnd.TheVariants.{Finished, Spent, Full as FullEnd, DiskFault as DiskEnd, NoMemory as MemoryEnd, Stopped}
use Rattle.board_lock.specs.Turns.{plans_since, prices_since, AreTurns}
use Rattle.worker_gate.specs.Runs.{IsSameSearch}
use Rattle.worker_gate.specs.Workers.{WorkersEnd}
use Rattle.solve_runs.specs.Served.{AreTold, ToldMet}

-- a book from which no node was taken yet
pub record IsBegun {D : Type 0} (book : SearchView D) : Type 0 where
  pub running : book.log.shut ≡ None
  pub empty : book.hands ≡ empty_hands
  pub fresh : book.taken ≡ 0
  pub going : book.halted ≡ false

-- a book of the same search, with the same posts first
pub record GoesOn {D : Type 0} (reads : D → Option (List ℕ)) (calls faults : D → ℕ) (old new : SearchView D) : Type 0 where
  pub same : IsSameSearch (board_of reads calls faults old) (board_of reads calls faults new)
  pub begins : IsFront old.log.history new.log.history

-- How a search by workers over a book ended that was just opened: turns of theirs made it of what it was, with so many commits that answered Ok. Each of
-- these posted prices or a plan, or another worker's plan had closed its node. Where no worker gave up, each step was committed whose
-- node is in no hand. A search that took all its steps committed each, and had too few of them for each search of the instance.
pub record Ends {D : Type 0} (reads : D → Option (List ℕ)) (calls faults : D → ℕ) (workers commits : ℕ) (old new : SearchView D) (end : RunEnd) : Type 0 where
  pub fresh : IsFresh (board_of reads calls faults old)
  pub ends : WorkersEnd (board_of reads calls faults old) (board_of reads calls faults new) end
  pub turns : ∥ AreTurns workers (board_of reads calls faults old) (board_of reads calls faults new) commits ∥₁
  pub shown : commits ≤ prices_since old.log.history new.log.history + workers * plans_since old.log.history new.log.history
  pub spent : end ≡ Spent → commits ≡ old.budget
  pub exact : new.halted ≡ false → commits + full_hands new.hands ≡ new.taken
  pub few : end ≡ Spent → old.budget < steps_enough old.log.instance

-- so a search ended, and so often its advisers were told something
abbrev pub Told : {D : Type 0} → (D → Option (List ℕ)) → (D → ℕ) → (D → ℕ) → ℕ → ToldMet → SearchView D → SearchView D → RunEnd → Type 0
Told reads calls faults workers told old new end = (commits : ℕ) × Ends reads calls faults workers commits old new end × AreTold workers commits told

-- a search that neither the disk ended nor a stop: no run asks for one
abbrev pub IsLanded : RunEnd → Type 0
IsLanded Finished = ⊤
IsLanded Spent = ⊤
IsLanded (FullEnd end limit) = ⊤
IsLanded DiskEnd = ⊥
IsLanded MemoryEnd = ⊤
IsLanded Stopped = ⊥
