-- What a seat at the lock of a board knows of it. Source: this project's profile.
use Rattle.std.specs.Prelude.{ℕ}
use Rattle.std.specs.declared.snapshot.Snapshot.{Snapshot}
use Rattle.board_lock.specs.declared.roots.BoardRoot.{BoardRoot}

-- the board as it was opened, and how many workers it has
abbrev pub root_at : {B : Type 0} → Snapshot B → ℕ → BoardRoot B
root_at opened workers = record { opened = opened; workers = workers }
