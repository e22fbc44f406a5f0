-- What the opening of a log of posts finds, and why none is opened.
use Rattle.search_book.proofs.Common.{◌≡◌, ◌≢◌, ◌⊎◌, inl, inr, ℕ, ◌<◌, ◌^◌, List, [], ◌∷◌, refl, ◌∙◌, ap, subst, IfSome, slice_get, TellsAlike, StandsFor, stands_once, stands_journal, stands_new, stands_whole, canonical_text, Five, Post, EachSpellsOnce, MakeBook, SpellPosts, Refuses, Book, Problem, HasOtherHead, HeadCause, KeepsHead, IsFound, IsOpenedFrom, bytes_used, none_spelled, posts_once}
use Rattle.recovery.specs.declared.fault.RebuildFault.TheVariants.{Rejected as IsRejected, NoMemory as RebuildsMemory}
use Rattle.std.specs.Prelude.{Option, None, Some}
use Rattle.recovery.specs.declared.fault.RebuildFault.{RebuildFault}
use Rattle.search_book.specs.declared.open_fault.OpenFault.{OpenFault}
use Rattle.search_book.specs.declared.open_fault.OpenFault.TheVariants.{DiskFault, NotAJournal, OtherInstance, Damaged, Rejected, NoMemory, OldVersion}
use Rattle.search_book.specs.Opened.{HoldsBook, of_rebuild_fault}
use Rattle.search_book.proofs.Used.{used_fresh}
use Rattle.search_book.proofs.Openings.{found_content, may_be_new, no_posts_left}

-- ---- what an opening gives
pub opened_from : EachSpellsOnce Five → (limit : ℕ) (i : Problem) (records : List (List ℕ)) (posts : List Post) (used : ℕ) (o o' : Option (List ℕ)) → used ≡ bytes_used (canonical_text i) records → SpellPosts records posts → IfSome o (IsFound limit (canonical_text i) records o') → IfSome o (IsOpenedFrom limit i posts used o')
opened_from once limit i records posts used None o' is s found = tt
opened_from once limit i records posts used (Some file) o' is s found = record {
  new = λ e.
      let n = found.new e in (
        posts_once once [] posts [] (subst (λ (l : List (List ℕ)). SpellPosts l posts) n.0 s) none_spelled,
        is ∙ ap (bytes_used (canonical_text i)) n.0 ∙ used_fresh (canonical_text i),
        n.1,
      );
  old = λ some. let f = found.old some in (record { records = records; spells = s; stands = f.0; ends = is }, f.1);
}

none_rejected : (i : Problem) (records : List (List ℕ)) (fault : RebuildFault) → Refuses i records fault → (of_rebuild_fault fault ≡ NoMemory → ⊥) → records ≡ [] → ⊥
none_rejected i records RebuildsMemory refuses some none = some refl
none_rejected i [] (IsRejected at why) refuses some none = absurd (cc (refuses.next))
none_rejected i (r ∷ rs) (IsRejected at why) refuses some none = absurd (cc)

pub rebuild_keeps : (limit : ℕ) (i : Problem) (head : List ℕ) (records : List (List ℕ)) (o o' : Option (List ℕ)) (fault : RebuildFault) → TellsAlike o o' → IfSome o (IsFound limit head records o') → Refuses i records fault → KeepsHead head o o' (of_rebuild_fault fault)
rebuild_keeps limit i head records o o' RebuildsMemory alike found refuses = may_be_new head records o o' (found_content limit head records o o' alike found)
rebuild_keeps limit i head records o o' (IsRejected at why) alike found refuses = no_posts_left limit head records o o' (none_rejected i records (IsRejected at why) refuses (λ e. absurd (cc))) (found_content limit head records o o' alike found)

-- ---- a file that holds a book is not refused
other_head : (limit at : ℕ) (i : Problem) (file : List ℕ) → limit < 2 ^ 32 → HoldsBook limit i file → HasOtherHead limit (canonical_text i) at file → ⊥
other_head limit at i file small h other =
    let s = h.stands.journal.stands in
    let same = (stands_once limit other.head (canonical_text i) other.records h.stands.journal.records file small other.stands s).0 in
    other.differ.1 (ap (λ (l : List ℕ). slice_get l at) same)

spares_head : (limit : ℕ) (i : Problem) (file : List ℕ) (before now : ℕ) (e : OpenFault) → limit < 2 ^ 32 → HeadCause limit (canonical_text i) (Some file) before now e → HoldsBook limit i file → (e ≡ DiskFault) ⊎ (e ≡ NoMemory)
spares_head limit i file before now DiskFault small cause h = inl refl
spares_head limit i file before now NotAJournal small cause h = absurd (stands_journal limit (canonical_text i) h.stands.journal.records file small h.stands.journal.stands cause.1.1)
spares_head limit i file before now OldVersion small cause h = absurd (stands_new limit (canonical_text i) h.stands.journal.records file h.stands.journal.stands cause)
spares_head limit i file before now (Damaged at) small cause h = absurd (stands_whole limit (canonical_text i) h.stands.journal.records file at small h.stands.journal.stands cause.1.1)
spares_head limit i file before now (OtherInstance at) small cause h = absurd (other_head limit at i file small h cause.1)
spares_head limit i file before now (Rejected at why) small cause h = absurd cause
spares_head limit i file before now NoMemory small cause h = inr refl

pub only_head : (limit : ℕ) (i : Problem) (o : Option (List ℕ)) (before now : ℕ) (e : OpenFault) → limit < 2 ^ 32 → HeadCause limit (canonical_text i) o before now e → IfSome o (λ file. HoldsBook limit i file → (e ≡ DiskFault) ⊎ (e ≡ NoMemory))
only_head limit i None before now e small cause = tt
only_head limit i (Some file) before now e small cause = λ h. spares_head limit i file before now e small cause h

stands_some : (limit : ℕ) (head : List ℕ) (records : List (List ℕ)) → StandsFor limit head records [] → ⊥
stands_some limit head records s = absurd (cc (s.spells))

pub only_rebuild : (limit : ℕ) (i : Problem) (records : List (List ℕ)) (o o' : Option (List ℕ)) (fault : RebuildFault) → limit < 2 ^ 32 → IfSome o (IsFound limit (canonical_text i) records o') → ((posts : List Post) (b : Book) → MakeBook i records posts b → fault ≡ RebuildsMemory)
    → IfSome o (λ file. HoldsBook limit i file → (of_rebuild_fault fault ≡ DiskFault) ⊎ (of_rebuild_fault fault ≡ NoMemory))
only_rebuild limit i records None o' fault small found only = tt
only_rebuild limit i records (Some []) o' fault small found only = λ h. absurd (stands_some limit (canonical_text i) h.stands.journal.records h.stands.journal.stands)
only_rebuild limit i records (Some (x ∷ xs)) o' fault small found only = λ h.
    let some : (x ∷ xs) ≢ [] = λ e. absurd (cc) in
    let same = (stands_once limit (canonical_text i) (canonical_text i) h.stands.journal.records records (x ∷ xs) small h.stands.journal.stands (found.old some).0).1 in
    let spells : SpellPosts records h.posts = subst (λ (l : List (List ℕ)). SpellPosts l h.posts) same h.stands.journal.spells in
    inr (ap of_rebuild_fault (only h.posts h.book (record { spell = spells; make = h.folds })))
