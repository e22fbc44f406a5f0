-- A journal as contracts see it, and what a disk holds for it.
use Rattle.std.specs.Prelude.{ℕ, List, Option, IfSome}
use Rattle.plan_base.specs.Disk.{IsOnlyImage}
use Rattle.gated_journal.specs.Format.{StandsFor}

-- the header, the records in order, the most bytes that the file may have, and the most that a record may have
pub record JournalView : Type 0 where
  pub head : List ℕ
  pub records : List (List ℕ)
  pub limit : ℕ
  pub spare : ℕ

-- the file is the only image, and it stands for the journal
pub record IsStored (journal : JournalView) (images : List ℕ → Type 0) (file : List ℕ) : Type 0 where
  pub only : IsOnlyImage file images
  pub stands : StandsFor journal.limit journal.head journal.records file

-- where the disk tells its content, that is the only image and stands for the journal
abbrev pub IsSettled : JournalView → Option (List ℕ) → (List ℕ → Type 0) → Type 0
IsSettled journal reads images = IfSome reads (IsStored journal images)
