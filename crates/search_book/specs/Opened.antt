-- Why a disk's file isn't opened as the posts of an instance.
use Rattle.std.specs.Prelude.{◌≡◌, ◌≢◌, ⊤, ℕ, List, [], Option, Some, IfSome}
use Rattle.plan_base.specs.Causes.{Rose}
use Rattle.gated_journal.specs.Cuts.{IsOldVersion}
use Rattle.gated_journal.specs.Format.{StandsFor}
use Rattle.instance_json.specs.Canonical.{canonical_text}
use Rattle.post_codec.specs.declared.post.Post.{Post}
use Rattle.recovery.specs.declared.fault.Why.{Why}
use Rattle.recovery.specs.declared.fault.RebuildFault.{RebuildFault}
use Rattle.recovery.specs.declared.fault.RebuildFault.TheVariants.{Rejected as IsRejected, NoMemory as RebuildsMemory}
use Rattle.recovery.specs.Refusals.{IsFirstRejected}
use Rattle.search_core.specs.Book.{Book, book_of}
use Rattle.shift_instance.specs.Problem.{Problem}
use Rattle.search_book.specs.declared.open_fault.OpenFault.{OpenFault}
use Rattle.search_book.specs.declared.open_fault.OpenFault.TheVariants.{DiskFault, NotAJournal, OtherInstance, Damaged, Rejected, NoMemory, OldVersion}
use Rattle.search_book.specs.Head.{HasOtherHead, IsDamagedFile, IsNoneFile}
use Rattle.search_book.specs.Posts.{StandsForPosts}

-- a journal of the instance one of whose records, by its number, is the first that is rejected, and for that cause
pub record HasRejected (limit : ℕ) (i : Problem) (at : ℕ) (why : Why) (file : List ℕ) : Type 0 where
  pub records : List (List ℕ)
  pub stands : StandsFor limit (canonical_text i) records file
  pub first : IsFirstRejected i records at why

-- why posts aren't opened: the disk failed, or the file is a journal of the first version, or isn't empty and is no journal, or is a
-- damaged one, or one of another instance, or one with a record that is rejected, or no memory is left
abbrev pub OpenCause : ℕ → Problem → Option (List ℕ) → ℕ → ℕ → OpenFault → Type 0
OpenCause limit i reads before now DiskFault = Rose before now
OpenCause limit i reads before now OldVersion = IfSome reads IsOldVersion
OpenCause limit i reads before now NotAJournal = IfSome reads (λ file. (file ≢ []) × IsNoneFile file)
OpenCause limit i reads before now (Damaged at) = IfSome reads (λ file. (file ≢ []) × IsDamagedFile limit at file)
OpenCause limit i reads before now (OtherInstance at) = IfSome reads (λ file. (file ≢ []) × HasOtherHead limit (canonical_text i) at file)
OpenCause limit i reads before now (Rejected at why) = IfSome reads (λ file. (file ≢ []) × HasRejected limit i at why file)
OpenCause limit i reads before now NoMemory = ⊤

-- a file that stands for posts of the instance which make a book
pub record HoldsBook (limit : ℕ) (i : Problem) (file : List ℕ) : Type 0 where
  pub posts : List Post
  pub stands : StandsForPosts limit i posts file
  pub book : Book
  pub folds : book_of i posts ≡ Some book

-- a rebuilding's fault, as that of an opening
abbrev pub of_rebuild_fault : RebuildFault → OpenFault
of_rebuild_fault (IsRejected at why) = Rejected at why
of_rebuild_fault RebuildsMemory = NoMemory
