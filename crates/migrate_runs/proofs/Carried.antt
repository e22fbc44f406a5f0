-- What is carried over from an old file, and why it isn't.
use Rattle.migrate_runs.proofs.Common.{◌≡◌, ◌⊎◌, inl, inr, ℕ, ◌+◌, ◌≤◌, List, length, refl, sym, ◌∙◌, ap, subst, arith, AllZip, Option, None, Some, Result, Ok, Err, IfOk, IfErr, OnOk, IfSome, canonical_text, Problem, Post, Eight, SpellPosts, SpellSame, JOURNAL_MAX, spelled_in, StoodFor, ended_by, HasNoInstance, HeadFails, IsCarried, IsInstance, OldBook, OldCause, OldFails, unread_by, MigrateStatus, Migrated, Usage, WriteFault, DiskFault, NoMemory, Old, Target}
use Rattle.instance_json.specs.Reading.{reading_of, IsAnswer}
use Rattle.instance_json.specs.declared.ReadRefusal.{ReadRefusal}
use Rattle.instance_json.specs.declared.ReadRefusal.TheVariants.{TooLong, NotJson, Missing, UnknownField, WrongKind, Invalid, NoMemory as ReadsMemory}
use Rattle.instance_json.proofs.Restored.{canonical_read}
use Rattle.recovery.specs.declared.fault.Why.{Why}
use Rattle.search_core.specs.Book.{Book}
use Rattle.recovery.specs.Records.{MakeBook, MakeBookBy}
use Rattle.recovery.specs.Refusals.{IsFirstRejectedBy}
use Rattle.gated_journal.specs.declared.fault.JournalFault.{JournalFault}
use Rattle.gated_journal.specs.declared.fault.JournalFault.TheVariants.{DiskFault as JournalsDisk, NoMemory as JournalsMemory, NotAJournal as NoJournal, Damaged as IsDamaged, Full, OldVersion}
use Rattle.gated_journal.specs.Faults.{OpenV1Fails}
use Rattle.gated_journal.proofs.Once.{stands_once_in, stands_journal_in, stands_whole_in}
use Rattle.migrate_runs.specs.declared.status.OldFault.TheVariants.{NotAJournal, Damaged, Rejected, Head}
use Rattle.migrate_runs.proofs.Shorter.{journal_shorter}

-- a file that isn't opened is refused for its cause
pub unopened : (reads : Option (List ℕ)) (before now : ℕ) (fault : JournalFault) → OpenV1Fails JOURNAL_MAX reads before now fault → OldFails reads before now (ended_by fault)
unopened reads before now JournalsDisk fails = fails
unopened reads before now JournalsMemory fails = tt
unopened reads before now (IsDamaged at) fails = fails
unopened reads before now NoJournal fails = fails
unopened reads before now OldVersion fails = absurd fails
unopened reads before now (Full end limit) fails = absurd fails

-- and one that stands for posts is opened, but for faults and want of memory
pub opens : (i : Problem) (posts : List Post) (file : List ℕ) (before now : ℕ) (fault : JournalFault) → OldBook i posts file → OpenV1Fails JOURNAL_MAX (Some file) before now fault → (ended_by fault ≡ NoMemory) ⊎ (ended_by fault ≡ DiskFault)
opens i posts file before now JournalsDisk book fails = inr refl
opens i posts file before now JournalsMemory book fails = inl refl
opens i posts file before now (IsDamaged at) book fails = absurd (stands_whole_in 49 JOURNAL_MAX (canonical_text i) book.records file at (omega arith) book.stood fails.1)
opens i posts file before now NoJournal book fails = absurd (stands_journal_in 49 JOURNAL_MAX (canonical_text i) book.records file (omega arith) book.stood fails)
opens i posts file before now OldVersion book fails = absurd fails
opens i posts file before now (Full end limit) book fails = absurd fails

-- a text is that of one instance
same_read : (i j : Problem) (r : Result Problem ReadRefusal) → r ≡ Ok i → r ≡ Ok j → i ≡ j
same_read i j r one other =
    let own : IfOk r (λ k. i ≡ k) = subst (λ (x : Result Problem ReadRefusal). IfOk x (λ k. i ≡ k)) (sym one) refl in
    subst (λ (x : Result Problem ReadRefusal). IfOk x (λ k. i ≡ k)) other own

pub one_instance : (i j : Problem) → IsInstance i → IsInstance j → canonical_text i ≡ canonical_text j → i ≡ j
one_instance i j valid other same =
    same_read i j (reading_of (canonical_text i)) (canonical_read i valid.0 valid.1) (ap reading_of same ∙ canonical_read j other.0 other.1)

unread : (head : List ℕ) (e : ReadRefusal) → reading_of head ≡ Err e → (i : Problem) → IsInstance i → head ≡ canonical_text i → ⊥
unread head e answer i valid is =
    let read : reading_of head ≡ Ok i = ap reading_of is ∙ canonical_read i valid.0 valid.1 in
    subst (λ (r : Result Problem ReadRefusal). OnOk r ⊥) (sym answer ∙ read) tt

-- a header that is refused, or read as an instance of another text, is no instance's canonical text
pub not_read : (head : List ℕ) (e : ReadRefusal) → IsAnswer e (reading_of head) → HeadFails head (unread_by e)
not_read head TooLong answer = unread head TooLong answer
not_read head NotJson answer = unread head NotJson answer
not_read head (Missing at field) answer = unread head (Missing at field) answer
not_read head (UnknownField at field) answer = unread head (UnknownField at field) answer
not_read head (WrongKind at field) answer = unread head (WrongKind at field) answer
not_read head (Invalid fault) answer = unread head (Invalid fault) answer
not_read head ReadsMemory answer = tt

pub other_text : (head : List ℕ) (j : Problem) → IsInstance j → (canonical_text j ≡ head → ⊥) → reading_of head ≡ Ok j → (i : Problem) → IsInstance i → head ≡ canonical_text i → ⊥
other_text head j own other read i valid is =
    let same : i ≡ j = same_read i j (reading_of head) (ap reading_of is ∙ canonical_read i valid.0 valid.1) read in
    other (sym (is ∙ ap canonical_text same))

-- an old file that stands for posts of an instance has a header
pub has_head : (i : Problem) (posts : List Post) (file head : List ℕ) (records : List (List ℕ)) (status : MigrateStatus) → OldBook i posts file → StoodFor JOURNAL_MAX head records file → HeadFails head status → (status ≡ NoMemory) ⊎ (status ≡ DiskFault)
has_head i posts file head records (Old Head) book stood fails = absurd (fails i book.instance (stands_once_in 49 JOURNAL_MAX head (canonical_text i) records book.records file (omega arith) stood book.stood).0)
has_head i posts file head records (Old NotAJournal) book stood fails = absurd fails
has_head i posts file head records (Old (Damaged at)) book stood fails = absurd fails
has_head i posts file head records (Old (Rejected at why)) book stood fails = absurd fails
has_head i posts file head records NoMemory book stood fails = inl refl
has_head i posts file head records DiskFault book stood fails = absurd fails
has_head i posts file head records Migrated book stood fails = absurd fails
has_head i posts file head records Usage book stood fails = absurd fails
has_head i posts file head records WriteFault book stood fails = absurd fails
has_head i posts file head records (Target len) book stood fails = absurd fails

-- an old file with a record that is rejected
pub rejected : (reads : Option (List ℕ)) (i : Problem) (head : List ℕ) (records : List (List ℕ)) (at : ℕ) (why : Why) → IsInstance i → head ≡ canonical_text i → IfSome reads (StoodFor JOURNAL_MAX head records) → IsFirstRejectedBy Eight i records at why → IfSome reads (λ file. OldCause file (Rejected at why))
rejected None i head records at why valid text stood first = tt
rejected (Some file) i head records at why valid text stood first =
    record { instance = i; valid = valid; records = records; stood = subst (λ (h : List ℕ). StoodFor JOURNAL_MAX h records file) text stood; first = first }

-- the records of an old file that stands for posts of an instance make their book
pub makes : (i j : Problem) (posts : List Post) (file head : List ℕ) (records : List (List ℕ)) → IsInstance j → head ≡ canonical_text j → (book : OldBook i posts file) → StoodFor JOURNAL_MAX head records file → MakeBookBy Eight j records posts book.book
makes i j posts file head records valid text book stood =
    let once = stands_once_in 49 JOURNAL_MAX head (canonical_text i) records book.records file (omega arith) stood book.stood in
    let same : i ≡ j = one_instance i j book.instance valid (sym once.0 ∙ text) in
    subst (λ (k : Problem). MakeBookBy Eight k records posts book.book) same
    (subst (λ (l : List (List ℕ)). MakeBookBy Eight i l posts book.book) (sym once.1) book.make)

-- what is carried over
pub carried_over : (reads : Option (List ℕ)) (i : Problem) (head : List ℕ) (old new : List (List ℕ)) (count : ℕ) → IsInstance i → head ≡ canonical_text i → IfSome reads (StoodFor JOURNAL_MAX head old) → length (spelled_in 49 head old) + 1 ≤ JOURNAL_MAX
    → AllZip SpellSame old new → ((posts : List Post) × (book : Book) × MakeBookBy Eight i old posts book × MakeBook i new posts book) → ((posts : List Post) → SpellPosts new posts → count ≡ length posts) → IsCarried reads head new count
carried_over reads i head old new count valid text stood fits same made counts = record {
  instance = i;
  valid = valid;
  text = text;
  posts = made.0;
  counted = counts made.0 made.3.spell;
  old = old;
  stood = stood;
  before = made.1;
  make = made.2;
  now = made.1;
  make_now = made.3;
  alike = same;
  room = omega (arith, fits, journal_shorter head old new same);
}

-- ---- the same of what a disk tells
pub only_opened : (reads : Option (List ℕ)) (before now : ℕ) (fault : JournalFault) → OpenV1Fails JOURNAL_MAX reads before now fault
    → (i : Problem) (posts : List Post) (file : List ℕ) → reads ≡ Some file → OldBook i posts file → (ended_by fault ≡ NoMemory) ⊎ (ended_by fault ≡ DiskFault)
only_opened reads before now fault fails i posts file told book =
    opens i posts file before now fault book (subst (λ (o : Option (List ℕ)). OpenV1Fails JOURNAL_MAX o before now fault) told fails)

pub only_headed : (reads : Option (List ℕ)) (head : List ℕ) (records : List (List ℕ)) (status : MigrateStatus) → IfSome reads (StoodFor JOURNAL_MAX head records) → HeadFails head status
    → (i : Problem) (posts : List Post) (file : List ℕ) → reads ≡ Some file → OldBook i posts file → (status ≡ NoMemory) ⊎ (status ≡ DiskFault)
only_headed reads head records status stood fails i posts file told book =
    has_head i posts file head records status book (subst (λ (o : Option (List ℕ)). IfSome o (StoodFor JOURNAL_MAX head records)) told stood) fails

pub only_headed_in : {A : Type 0} (reads : Option (List ℕ)) (head : List ℕ) (records : List (List ℕ)) (r : Result A MigrateStatus) → IfSome reads (StoodFor JOURNAL_MAX head records) → IfErr r (HeadFails head)
    → (i : Problem) (posts : List Post) (file : List ℕ) → reads ≡ Some file → OldBook i posts file → IfErr r (λ status. (status ≡ NoMemory) ⊎ (status ≡ DiskFault))
only_headed_in reads head records (Ok x) stood fails i posts file told book = tt
only_headed_in reads head records (Err status) stood fails i posts file told book = only_headed reads head records status stood fails i posts file told book

pub only_made : (reads : Option (List ℕ)) (j : Problem) (head : List ℕ) (records : List (List ℕ)) (status : MigrateStatus) → IsInstance j → head ≡ canonical_text j → IfSome reads (StoodFor JOURNAL_MAX head records)
    → ((posts : List Post) (book : Book) → MakeBookBy Eight j records posts book → ⊥) → (i : Problem) (posts : List Post) (file : List ℕ) → reads ≡ Some file → OldBook i posts file → (status ≡ NoMemory) ⊎ (status ≡ DiskFault)
only_made reads j head records status valid text stood none i posts file told book =
    absurd (none posts book.book (makes i j posts file head records valid text book (subst (λ (o : Option (List ℕ)). IfSome o (StoodFor JOURNAL_MAX head records)) told stood)))
