-- What a commit makes of a log of posts, as contracts see it.
use Rattle.search_book.proofs.Common.{◌≡◌, ℕ, ◌+◌, ◌<◌, ◌≤◌, List, [], ◌∷◌, ◌++◌, length, ◌∙◌, ap, subst, Option, Some, Rose, Post, Spells, bytes_of, StateView, Shutting, DiskFault, Full, PostLogView, bytes_used, RecordFails, Records, LogView}
use Rattle.gated_journal.specs.declared.fault.JournalFault.TheVariants.{DiskFault as DiskFails, Full as IsFull}
use Rattle.search_book.proofs.Commits.{view_of}
use Rattle.search_book.proofs.Recording.{used_with}

module _ {D : Type 0} (log : LogView D) (s : StateView) (first : List Post) (batches flight : List (List Post)) (unfit : List Post) (shut : Option Shutting) (old : PostLogView D) (view_is : view_of log s first batches flight unfit shut ≡ old) where
  pub recorded : (calls : D → ℕ) (log2 : LogView D) (s2 : StateView) (bytes : List ℕ) (posts : List Post)
      → log2 ≡ record log { disk = log2.disk; records = log.records ++ bytes ∷ []; added = log.added + 1; spare = log2.spare }
      → s2 ≡ record s { history = s.history ++ posts; book = s2.book; spare = s2.spare }
      → 0 < length posts → Spells bytes posts → bytes_used log.head log.records + bytes_of posts ≤ log.limit → calls log2.disk ≡ calls log.disk + 4
      → Records calls old (view_of log2 s2 first (batches ++ posts ∷ []) flight unfit shut) posts s2.book
  recorded calls log2 s2 bytes posts is states some spells within four =
      let new_is : view_of log2 s2 first (batches ++ posts ∷ []) flight unfit shut ≡ record (view_of log s first batches flight unfit shut) { disk = log2.disk; history = s.history ++ posts; batches = batches ++ posts ∷ []; book = s2.book; used = bytes_used log.head log.records + bytes_of posts } =
      ap (λ (l : LogView D). view_of l s2 first (batches ++ posts ∷ []) flight unfit shut) is
      ∙ ap (λ (t : StateView). view_of (record log { disk = log2.disk; records = log.records ++ bytes ∷ []; added = log.added + 1; spare = log2.spare }) t first (batches ++ posts ∷ []) flight unfit shut) states
      ∙ ap (λ (u : ℕ). record (view_of log s first batches flight unfit shut) { disk = log2.disk; history = s.history ++ posts; batches = batches ++ posts ∷ []; book = s2.book; used = u }) (used_with log.head log.records posts bytes some spells) in
      subst (λ (v : PostLogView D). Records calls v (view_of log2 s2 first (batches ++ posts ∷ []) flight unfit shut) posts s2.book) view_is
      (record { log = new_is; four = four; within = within })

  -- the room alone changes
  room_view : (log2 : LogView D) (s2 : StateView) (unfit2 : List Post) (shut2 : Option Shutting) → log2 ≡ record log { spare = log2.spare } → s2 ≡ record s { spare = s2.spare } → view_of log2 s2 first batches flight unfit2 shut2 ≡ view_of log s first batches flight unfit2 shut2
  room_view log2 s2 unfit2 shut2 is states = ap (λ (l : LogView D). view_of l s2 first batches flight unfit2 shut2) is ∙ ap (λ (t : StateView). view_of (record log { spare = log2.spare }) t first batches flight unfit2 shut2) states

  pub unchanged : (log2 : LogView D) (s2 : StateView) → log2 ≡ record log { spare = log2.spare } → s2 ≡ record s { spare = s2.spare } → view_of log2 s2 first batches flight unfit shut ≡ old
  unchanged log2 s2 is states = room_view log2 s2 unfit shut is states ∙ view_is

  pub filled : (faults : D → ℕ) (log2 : LogView D) (s2 : StateView) (posts : List Post) (end most : ℕ) → log2 ≡ record log { spare = log2.spare } → s2 ≡ record s { spare = s2.spare }
      → end ≡ bytes_used log.head log.records + bytes_of posts → most ≡ log.limit → most < end
      → RecordFails faults old (view_of log2 s2 first batches flight posts (Some (Full end most))) posts (IsFull end most)
  filled faults log2 s2 posts end most is states ends same past =
      subst (λ (v : PostLogView D). RecordFails faults v (view_of log2 s2 first batches flight posts (Some (Full end most))) posts (IsFull end most)) view_is
      (room_view log2 s2 posts (Some (Full end most)) is states, ends, same, past)

  -- the disk failed
  pub stopped : (faults : D → ℕ) (log2 : LogView D) (s2 : StateView) (bytes : List ℕ) (posts : List Post) → log2 ≡ record log { disk = log2.disk; in_flight = bytes ∷ []; spare = log2.spare } → s2 ≡ record s { spare = s2.spare }
      → bytes_used log.head log.records + bytes_of posts ≤ log.limit → Rose (faults log.disk) (faults log2.disk)
      → RecordFails faults old (view_of log2 s2 first batches (posts ∷ []) unfit (Some DiskFault)) posts DiskFails
  stopped faults log2 s2 bytes posts is states within rose =
      let new_is : view_of log2 s2 first batches (posts ∷ []) unfit (Some DiskFault) ≡ record (view_of log s first batches flight unfit shut) { disk = log2.disk; in_flight = posts ∷ []; shut = Some DiskFault } =
      ap (λ (l : LogView D). view_of l s2 first batches (posts ∷ []) unfit (Some DiskFault)) is
      ∙ ap (λ (t : StateView). view_of (record log { disk = log2.disk; in_flight = bytes ∷ []; spare = log2.spare }) t first batches (posts ∷ []) unfit (Some DiskFault)) states in
      subst (λ (v : PostLogView D). RecordFails faults v (view_of log2 s2 first batches (posts ∷ []) unfit (Some DiskFault)) posts DiskFails) view_is
      (new_is, within, rose)
