-- A file on its way to be a journal.
use Rattle.std.specs.Prelude.{◌≡◌, ◌⊎◌, ℕ, List}
use Rattle.gated_journal.specs.Format.{IsUnfinished}

-- an unfinished file, or these bytes
abbrev pub IsUnfinishedOrThis : List ℕ → List ℕ → Type 0
IsUnfinishedOrThis bytes file = IsUnfinished file ⊎ (file ≡ bytes)
