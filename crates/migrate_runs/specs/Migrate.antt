-- What a migration makes of two files, and why it ends as it does.
use Rattle.std.specs.Prelude.{◌≡◌, ◌⊎◌, ⊤, ℕ, ◌+◌, ◌<◌, ◌≤◌, List, [], ◌∷◌, ◌++◌, length, Option, Some, None, IsSome, IfSome, codes}
use Rattle.std.specs.Fmt.{decimal}
use Rattle.std.specs.Io.KnownBytes.{Appends}
use Rattle.std.specs.List.{AllZip}
use Rattle.plan_base.specs.Causes.{Rose}
use Rattle.plan_base.specs.Streams.{AppendsPart}
use Rattle.break_rules.specs.Causes.{first_cause}
use Rattle.shift_instance.specs.Faults.{instance_causes}
use Rattle.shift_instance.specs.Problem.{Problem}
use Rattle.shift_instance.specs.Valid.{IsValid}
use Rattle.instance_json.specs.Canonical.{canonical_text}
use Rattle.instance_json.specs.declared.ReadRefusal.{ReadRefusal}
use Rattle.instance_json.specs.declared.ReadRefusal.TheVariants.{TooLong, NotJson, Missing, UnknownField, WrongKind, Invalid, NoMemory as ReadsMemory}
use Rattle.post_codec.specs.declared.post.Post.{Post}
use Rattle.post_codec.specs.declared.price_width.PriceWidth.TheVariants.{Eight}
use Rattle.search_core.specs.Book.{Book}
use Rattle.recovery.specs.declared.fault.Why.{Why}
use Rattle.recovery.specs.Migrating.{SpellSame}
use Rattle.recovery.specs.Records.{MakeBook, MakeBookBy}
use Rattle.recovery.specs.Refusals.{IsFirstRejectedBy}
use Rattle.gated_journal.specs.declared.TheConstants.{JOURNAL_MAX}
use Rattle.gated_journal.specs.Cuts.{IsNoneIn}
use Rattle.gated_journal.specs.Faults.{IsDamagedIn}
use Rattle.gated_journal.specs.Format.{spelled, IsUnfinished, StandsFor, StoodFor}
use Rattle.gated_journal.specs.declared.fault.JournalFault.{JournalFault}
use Rattle.gated_journal.specs.declared.fault.JournalFault.TheVariants.{DiskFault as JournalsDisk, NoMemory as JournalsMemory, NotAJournal as NoJournal, Damaged as IsDamaged, Full, OldVersion}
use Rattle.migrate_runs.specs.Words.{files_of}
use Rattle.migrate_runs.specs.declared.status.OldFault.{OldFault}
use Rattle.migrate_runs.specs.declared.status.OldFault.TheVariants.{NotAJournal, Damaged, Rejected, Head}
use Rattle.migrate_runs.specs.declared.status.MigrateStatus.{MigrateStatus}
use Rattle.migrate_runs.specs.declared.status.MigrateStatus.TheVariants.{Migrated, Usage, WriteFault, DiskFault, NoMemory, Old, Target}

-- an instance: valid numbers without a fault
abbrev pub IsInstance : Problem → Type 0
IsInstance i = IsValid i × (first_cause (instance_causes i) ≡ None)

-- a file of the first version stands for these records of an instance, which spell posts that make a book
pub record OldBook (i : Problem) (posts : List Post) (file : List ℕ) : Type 0 where
  pub instance : IsInstance i
  pub records : List (List ℕ)
  pub stood : StoodFor JOURNAL_MAX (canonical_text i) records file
  pub book : Book
  pub make : MakeBookBy Eight i records posts book

-- a file of the present version does
pub record NewBook (i : Problem) (posts : List Post) (file : List ℕ) : Type 0 where
  pub records : List (List ℕ)
  pub stands : StandsFor JOURNAL_MAX (canonical_text i) records file
  pub book : Book
  pub make : MakeBook i records posts book

-- the old file and the new one stand for the same posts of one instance, record by record, by so many records and posts
pub record IsSameBook (before after : List ℕ) (records count : ℕ) : Type 0 where
  pub instance : Problem
  pub posts : List Post
  pub old : OldBook instance posts before
  pub new : NewBook instance posts after
  pub alike : AllZip SpellSame old.records new.records
  pub counted : records ≡ length new.records
  pub posted : count ≡ length posts

-- a file of the first version stands for posts of an instance that make a book
abbrev pub IsOldBook : List ℕ → Type 0
IsOldBook file = (i : Problem) × (posts : List Post) × OldBook i posts file

-- a new file that is unfinished, or stands for all posts for which the old one, if it tells, stands
abbrev pub IsUnfinishedOrSame : Option (List ℕ) → List ℕ → Type 0
IsUnfinishedOrSame before image =
    IsUnfinished image ⊎ ((records : ℕ) × (count : ℕ) × IfSome before (λ file. IsSameBook file image records count))

-- one of those from before, or such a file
abbrev pub IsEarlierOr : (List ℕ → Type 0) → (List ℕ → Type 0) → List ℕ → Type 0
IsEarlierOr images IsSuch image = images image ⊎ IsSuch image

abbrev pub IsEarlierOrSame : (List ℕ → Type 0) → Option (List ℕ) → List ℕ → Type 0
IsEarlierOrSame images before = IsEarlierOr images (IsUnfinishedOrSame before)

-- the line of so many records and posts
abbrev pub migrated_line : ℕ → ℕ → List ℕ
migrated_line records posts = codes "migrated records " ++ (decimal records ++ (codes " posts " ++ (decimal posts ++ (10 ∷ []))))

-- a journal of the first version whose header is no instance's canonical text
pub record HasNoInstance (file : List ℕ) : Type 0 where
  pub head : List ℕ
  pub records : List (List ℕ)
  pub stood : StoodFor JOURNAL_MAX head records file
  pub none : (i : Problem) → IsInstance i → head ≡ canonical_text i → ⊥

-- a journal of the first version one of whose records, by its number, is the first that is rejected, and for that cause
pub record HasRejected (at : ℕ) (why : Why) (file : List ℕ) : Type 0 where
  pub instance : Problem
  pub valid : IsInstance instance
  pub records : List (List ℕ)
  pub stood : StoodFor JOURNAL_MAX (canonical_text instance) records file
  pub first : IsFirstRejectedBy Eight instance records at why

-- why an old file is refused
abbrev pub OldCause : List ℕ → OldFault → Type 0
OldCause file NotAJournal = IsNoneIn 49 file
OldCause file (Damaged at) = (IsNoneIn 49 file → ⊥) × IsDamagedIn 49 JOURNAL_MAX file at
OldCause file Head = HasNoInstance file
OldCause file (Rejected at why) = HasRejected at why file

-- why nothing is carried over from an old file: it is refused, or its disk failed, or no memory is left
abbrev pub OldFails : Option (List ℕ) → ℕ → ℕ → MigrateStatus → Type 0
OldFails reads before now (Old why) = IfSome reads (λ file. OldCause file why)
OldFails reads before now DiskFault = Rose before now
OldFails reads before now NoMemory = ⊤
OldFails reads before now Migrated = ⊥
OldFails reads before now Usage = ⊥
OldFails reads before now WriteFault = ⊥
OldFails reads before now (Target len) = ⊥

-- how a run ends where the old file isn't opened
abbrev pub ended_by : JournalFault → MigrateStatus
ended_by JournalsDisk = DiskFault
ended_by JournalsMemory = NoMemory
ended_by (IsDamaged at) = Old (Damaged at)
ended_by NoJournal = Old NotAJournal
ended_by OldVersion = Old NotAJournal
ended_by (Full end limit) = Old NotAJournal

-- how a run ends where a header isn't read
abbrev pub unread_by : ReadRefusal → MigrateStatus
unread_by TooLong = Old Head
unread_by NotJson = Old Head
unread_by (Missing at field) = Old Head
unread_by (UnknownField at field) = Old Head
unread_by (WrongKind at field) = Old Head
unread_by (Invalid fault) = Old Head
unread_by ReadsMemory = NoMemory

-- why nothing is carried over from a header
abbrev pub HeadFails : List ℕ → MigrateStatus → Type 0
HeadFails head (Old Head) = (i : Problem) → IsInstance i → head ≡ canonical_text i → ⊥
HeadFails head (Old NotAJournal) = ⊥
HeadFails head (Old (Damaged at)) = ⊥
HeadFails head (Old (Rejected at why)) = ⊥
HeadFails head NoMemory = ⊤
HeadFails head DiskFault = ⊥
HeadFails head Migrated = ⊥
HeadFails head Usage = ⊥
HeadFails head WriteFault = ⊥
HeadFails head (Target len) = ⊥

-- What is carried over: a header and records that fit a journal, which spell the posts of the old file, so many.
pub record IsCarried (reads : Option (List ℕ)) (head : List ℕ) (records : List (List ℕ)) (count : ℕ) : Type 0 where
  pub instance : Problem
  pub valid : IsInstance instance
  pub text : head ≡ canonical_text instance
  pub posts : List Post
  pub counted : count ≡ length posts
  pub old : List (List ℕ)
  pub stood : IfSome reads (StoodFor JOURNAL_MAX head old)
  pub before : Book
  pub make : MakeBookBy Eight instance old posts before
  pub now : Book
  pub make_now : MakeBook instance records posts now
  pub alike : AllZip SpellSame old records
  pub room : length (spelled head records) + 1 ≤ JOURNAL_MAX

-- why the new file isn't written
abbrev pub NewFails : Option (List ℕ) → ℕ → ℕ → MigrateStatus → Type 0
NewFails reads before now (Target len) = IfSome reads (λ file. len ≡ length file) × (0 < len)
NewFails reads before now DiskFault = Rose before now
NewFails reads before now NoMemory = ⊤
NewFails reads before now (Old why) = ⊥
NewFails reads before now Migrated = ⊥
NewFails reads before now Usage = ⊥
NewFails reads before now WriteFault = ⊥

-- what shows of a disk: what it reads before and after the run (none where it doesn't tell), and its counts of faults then
pub record DiskMet : Type 0 where
  pub file : Option (List ℕ)
  pub file_after : Option (List ℕ)
  pub faults : ℕ × ℕ

-- what shows of the sink: what it holds before and after the run (none where it doesn't tell), and its counts of faults then
pub record SinkMet : Type 0 where
  pub held : Option (List ℕ)
  pub held_after : Option (List ℕ)
  pub faults : ℕ × ℕ

-- what a run meets: its words, the two disks and the sink
pub record Met : Type 0 where
  pub words : List (List ℕ)
  pub old : DiskMet
  pub new : DiskMet
  pub sink : SinkMet

-- the words name two files
abbrev pub HasFiles : Met → Type 0
HasFiles met = IsSome (files_of met.words)

-- the new file was empty, and it stands for the posts of the old one, by so many records and posts
pub record IsDone (met : Met) (records count : ℕ) : Type 0 where
  pub empty : IfSome met.new.file (λ file. file ≡ [])
  pub same : IfSome met.old.file (λ before. IfSome met.new.file_after (λ after. IsSameBook before after records count))

-- when each status comes, and what it says
abbrev pub Explains : Met → MigrateStatus → Type 0
Explains met Usage = files_of met.words ≡ None
Explains met (Old why) = HasFiles met × IfSome met.old.file (λ file. OldCause file why)
Explains met DiskFault = HasFiles met × (Rose met.old.faults.0 met.old.faults.1 ⊎ Rose met.new.faults.0 met.new.faults.1)
Explains met (Target len) = HasFiles met × IfSome met.old.file IsOldBook × IfSome met.new.file (λ file. len ≡ length file) × (0 < len)
Explains met NoMemory = HasFiles met
Explains met Migrated = HasFiles met × ((records : ℕ) × (count : ℕ) × IsDone met records count × Appends met.sink.held met.sink.held_after (migrated_line records count))
Explains met WriteFault = HasFiles met × ((records : ℕ) × (count : ℕ) × IsDone met records count × AppendsPart met.sink.held met.sink.held_after (migrated_line records count)) × Rose met.sink.faults.0 met.sink.faults.1

-- a run with this end has written nothing of the line
abbrev pub EndsUnwritten : MigrateStatus → Type 0
EndsUnwritten Migrated = ⊥
EndsUnwritten WriteFault = ⊥
EndsUnwritten Usage = ⊤
EndsUnwritten DiskFault = ⊤
EndsUnwritten NoMemory = ⊤
EndsUnwritten (Old why) = ⊤
EndsUnwritten (Target len) = ⊤

-- a run with this end hasn't come to the new file
abbrev pub EndsEarly : MigrateStatus → Type 0
EndsEarly Usage = ⊤
EndsEarly (Old why) = ⊤
EndsEarly Migrated = ⊥
EndsEarly WriteFault = ⊥
EndsEarly DiskFault = ⊥
EndsEarly NoMemory = ⊥
EndsEarly (Target len) = ⊥

-- what keeps a run from its end: a fault of a disk or of the sink
abbrev pub HasFault : Met → Type 0
HasFault met = (Rose met.old.faults.0 met.old.faults.1 ⊎ Rose met.new.faults.0 met.new.faults.1) ⊎ Rose met.sink.faults.0 met.sink.faults.1

-- Where the words name two files, the old one stands for posts of an instance that make a book, the new one is empty, and there is no
-- fault, a run ends well, unless it is out of memory.
pub record CanMigrate (met : Met) : Type 0 where
  pub words : HasFiles met
  pub instance : Problem
  pub posts : List Post
  pub file : List ℕ
  pub told : met.old.file ≡ Some file
  pub holds : OldBook instance posts file
  pub empty : met.new.file ≡ Some []
  pub well : HasFault met → ⊥

-- how a run ends that has a line to write, of so many records and posts: what the sink held and holds, and its counts of faults
abbrev pub SaysPosts : ℕ → ℕ → Option (List ℕ) → Option (List ℕ) → ℕ × ℕ → MigrateStatus → Type 0
SaysPosts records posts held holds faults Migrated = Appends held holds (migrated_line records posts)
SaysPosts records posts held holds faults WriteFault = AppendsPart held holds (migrated_line records posts) × Rose faults.0 faults.1
SaysPosts records posts held holds faults NoMemory = ⊤
SaysPosts records posts held holds faults Usage = ⊥
SaysPosts records posts held holds faults DiskFault = ⊥
SaysPosts records posts held holds faults (Old why) = ⊥
SaysPosts records posts held holds faults (Target len) = ⊥
