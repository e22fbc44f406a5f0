-- What a log and a book keep.
use Rattle.std.specs.Prelude.{◌≡◌, ◌≢◌, ℕ, ◌+◌, ◌*◌, ◌≤◌, ◌<◌, ◌^◌, List, [], length, Option}
use Rattle.plan_base.specs.Causes.{Rose}
use Rattle.plan_base.specs.Disk.{TellsAlike}
use Rattle.gated_journal.specs.View.{JournalView, IsSettled}
use Rattle.search_book.specs.Records.{LogView, RecordsLast}

-- while no put has ended in a fault, the disk stands for the journal, and each record took four calls
pub record IsRunningInside {D : Type 0} (reads : D → Option (List ℕ)) (images : D → List ℕ → Type 0) (calls : D → ℕ) (journal : JournalView) (disk opened : D) (added : ℕ) : Type 0 where
  pub settled : IsSettled journal (reads disk) (images disk)
  pub time : calls disk ≡ calls opened + 4 * added

pub record IsLogInside {D : Type 0} (reads : D → Option (List ℕ)) (images : D → List ℕ → Type 0) (images_since : D → ℕ → List ℕ → Type 0) (calls faults : D → ℕ) (journal : JournalView) (log : LogView D) : Type 0 where
  pub running : log.in_flight ≡ [] → IsRunningInside reads images calls journal log.disk log.opened log.added
  pub counted : length log.records ≡ log.opening + log.added
  pub early : calls log.opened < 2 ^ 62 + 2 ^ 34
  pub few : log.added ≤ log.limit
  pub small : log.limit ≤ 2 ^ 26
  pub telling : TellsAlike (reads log.opened) (reads log.disk)
  pub later : faults log.opened ≤ faults log.disk
  pub cause : log.in_flight ≢ [] → Rose (faults log.opened) (faults log.disk)
  -- the last of the added records was acknowledged by now
  pub moment : calls log.opened + 4 * log.added ≤ calls log.disk
  -- and since then no more than the calls of one more were made
  pub most : calls log.disk ≤ calls log.opened + 4 * log.added + 4
  pub lasts : RecordsLast reads images_since calls log
