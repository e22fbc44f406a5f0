-- How a search over a book ends, and one whose book isn't opened.
use Rattle.solve_runs.proofs.Common.{◌≡◌, ◌≢◌, inl, inr, sym, ap, subst, refl, ℕ, ◌+◌, ◌*◌, ◌<◌, ◌≤◌, false, List, take, arith, Option, Some, None, ◌⊎◌, IfSome, Result, Ok, Err, cases_lt, JOURNAL_MAX, Problem, BoardView, full_hands, steps_enough, IsFresh, SearchView, board_of, RunEnd, plans_since, prices_since, AreTurns, IsSameSearch, SearchEnd, Stopped, TooFewAdvisers, Refused, HasEnded, IsLeft, IsRefusal, Ends, end_of, end_unopened, HasNotSearched, SearchEnds, AreUntold, Served, ToldMet, met_of, DiskMet, IsUncalled, Session, workers_for}
use Rattle.worker_gate.specs.declared.run.RunEnd.TheVariants.{Finished as FinishedEnd, Spent as SpentEnd, Full as FullEnd, DiskFault as DiskEnd, NoMemory as MemoryEnd, Stopped as StoppedEnd}
use Rattle.instance_json.specs.Canonical.{canonical_text}
use Rattle.search_book.specs.declared.open_fault.OpenFault.{OpenFault}
use Rattle.search_book.specs.declared.open_fault.OpenFault.TheVariants.{DiskFault as OpeningsDisk, NotAJournal, OtherInstance, Damaged, Rejected, NoMemory as OpeningsMemory, OldVersion}
use Rattle.search_book.specs.Head.{KeepsHead}
use Rattle.search_book.specs.Opened.{HoldsBook, OpenCause}
use Rattle.worker_gate.specs.Workers.{WorkersEnd}
use Rattle.solve_runs.specs.declared.searched.SearchEnd.TheVariants.{Finished, Spent, Full, DiskFault, NoMemory}
use Rattle.solve_runs.proofs.Telling.{told_of_all, untold_of_all}

-- ---- how a search ends
pub few_steps : (budget enough : ℕ) → (enough ≤ budget → ⊥) → budget < enough
few_steps budget enough more = elim (cases_lt budget enough) [ inl less ↦ less | inr le ↦ absurd (more le) ]

module _ {D : Type 0} (reads : D → Option (List ℕ)) (calls faults : D → ℕ) where
  pub run_ends : (workers commits : ℕ) (old new : SearchView D) (end : RunEnd) → IsSameSearch (board_of reads calls faults old) (board_of reads calls faults new) → IsFresh (board_of reads calls faults old)
      → WorkersEnd (board_of reads calls faults old) (board_of reads calls faults new) end → ∥ AreTurns workers (board_of reads calls faults old) (board_of reads calls faults new) commits ∥₁
      → commits ≤ prices_since old.log.history new.log.history + workers * plans_since old.log.history new.log.history → (new.halted ≡ false → commits + full_hands new.hands ≡ new.taken)
      → (steps_enough old.log.instance ≤ old.budget → end ≢ SpentEnd) → Ends reads calls faults workers commits old new end
  run_ends workers commits old new end same fresh ends turns shown exact enough = record {
    fresh = fresh;
    ends = ends;
    turns = turns;
    shown = shown;
    spent = λ e.
        let s : WorkersEnd (board_of reads calls faults old) (board_of reads calls faults new) SpentEnd = subst (WorkersEnd (board_of reads calls faults old) (board_of reads calls faults new)) e ends in
        let none : full_hands new.hands ≡ 0 = ap full_hands s.0.empty in
        let each : commits + full_hands new.hands ≡ new.taken = exact s.0.going in
        let all : new.taken ≡ new.budget = s.2 in
        let budget : new.budget ≡ old.budget = same.budget in
        omega (arith, none, each, all, budget);
    exact = exact;
    few = λ e. few_steps old.budget (steps_enough old.log.instance) (λ le. enough le e);
  }

-- ---- a book that isn't opened
none_held : (fault : OpenFault) → IsRefusal fault → (fault ≡ OpeningsDisk) ⊎ (fault ≡ OpeningsMemory) → ⊥
none_held fault refusal (inl e) = subst IsRefusal e refusal
none_held fault refusal (inr e) = subst IsRefusal e refusal

no_book : (file : Option (List ℕ)) (i : Problem) (fault : OpenFault) → IsRefusal fault
    → IfSome file (λ f. HoldsBook JOURNAL_MAX i f → (fault ≡ OpeningsDisk) ⊎ (fault ≡ OpeningsMemory)) → IfSome file (λ f. HoldsBook JOURNAL_MAX i f → ⊥)
no_book None i fault refusal only = tt
no_book (Some file) i fault refusal only = λ holds. none_held fault refusal (only holds)

pub not_opened : (disk : DiskMet) (i : Problem) (workers : ℕ) (told : ToldMet) (fault : OpenFault) → AreUntold workers told
    → KeepsHead (canonical_text i) disk.file disk.file_after fault → OpenCause JOURNAL_MAX i disk.file disk.faults.0 disk.faults.1 fault
    → IfSome disk.file (λ f. HoldsBook JOURNAL_MAX i f → (fault ≡ OpeningsDisk) ⊎ (fault ≡ OpeningsMemory)) → IsLeft disk i
    → HasNotSearched disk i workers told (end_unopened fault)
not_opened disk i workers told OpeningsDisk untold keeps cause only left = (cause, left, untold)
not_opened disk i workers told OldVersion untold keeps cause only left =
    (record { refusal = tt; cause = cause; none = no_book disk.file i OldVersion tt only; same = keeps }, left, untold)
not_opened disk i workers told NotAJournal untold keeps cause only left =
    (record { refusal = tt; cause = cause; none = no_book disk.file i NotAJournal tt only; same = keeps }, left, untold)
not_opened disk i workers told (OtherInstance at) untold keeps cause only left =
    (record { refusal = tt; cause = cause; none = no_book disk.file i (OtherInstance at) tt only; same = keeps }, left, untold)
not_opened disk i workers told (Damaged at) untold keeps cause only left =
    (record { refusal = tt; cause = cause; none = no_book disk.file i (Damaged at) tt only; same = keeps }, left, untold)
not_opened disk i workers told (Rejected at why) untold keeps cause only left =
    (record { refusal = tt; cause = cause; none = no_book disk.file i (Rejected at why) tt only; same = keeps }, left, untold)
not_opened disk i workers told OpeningsMemory untold keeps cause only left = (left, untold, keeps)

-- a disk that is handed back as it was
pub uncalled : {D : Type 0} (reads : D → Option (List ℕ)) (images : D → List ℕ → Type 0) (images_since : D → ℕ → List ℕ → Type 0) (calls faults : D → ℕ) (disk : D) → IsUncalled (met_of reads images images_since calls faults disk disk)
uncalled reads images images_since calls faults disk = record { file = refl; images = λ image. (λ before. before, λ after. after); calls = refl; faults = refl }

-- the answer of a search, by what it hands back
pub same_answer : {D : Type 0} (reads : D → Option (List ℕ)) (images : D → List ℕ → Type 0) (images_since : D → ℕ → List ℕ → Type 0) (calls faults : D → ℕ) (disk : D) (i : Problem) (workers budget : ℕ) (before after told : List ℕ)
    (book kept : Result (SearchView D) D) (end ends : SearchEnd) → book ≡ kept → after ≡ told → end ≡ ends
    → SearchEnds reads images images_since calls faults disk i workers budget (record { before = before; after = told }) kept ends
    → SearchEnds reads images images_since calls faults disk i workers budget (record { before = before; after = after }) book end
same_answer {D} reads images images_since calls faults disk i workers budget before after told book kept end ends same_book same_told same_end holds =
    subst (λ (e : SearchEnd). SearchEnds reads images images_since calls faults disk i workers budget (record { before = before; after = after }) book e) (sym same_end)
    (subst (λ (l : List ℕ). SearchEnds reads images images_since calls faults disk i workers budget (record { before = before; after = l }) book ends) (sym same_told)
    (subst (λ (b : Result (SearchView D) D). SearchEnds reads images images_since calls faults disk i workers budget (record { before = before; after = told }) b ends) (sym same_book) holds))

-- ---- the advisers that serve are the first of all

module _ (disk : DiskMet) (i : Problem) (budget workers : ℕ) (before after : List ℕ) where
  served_all : (end : RunEnd) (last : BoardView) (s : Session disk i) → Served workers budget (record { before = take workers before; after = after }) end last s → Served workers budget (record { before = before; after = after }) end last s
  served_all end last s served = (served.0, served.1, told_of_all workers served.0 before after served.2)

  ended_all : (end : RunEnd) (last : BoardView) (s : Session disk i) → HasEnded disk i workers budget (record { before = take workers before; after = after }) end last s → HasEnded disk i workers budget (record { before = before; after = after }) end last s
  unfolding served_all
  ended_all FinishedEnd last s e = (e.0, e.1, served_all FinishedEnd last s e.2)
  ended_all SpentEnd last s e = (e.0, e.1, told_of_all workers budget before after e.2)
  ended_all (FullEnd end limit) last s e = (served_all (FullEnd end limit) last s e.0, e.1)
  ended_all DiskEnd last s e = (e.0, served_all DiskEnd last s e.1)
  ended_all StoppedEnd last s e = (e.0, served_all StoppedEnd last s e.1)
  ended_all MemoryEnd last s e = (e.0, served_all MemoryEnd last s e.1)

  -- where no book was opened, and the advisers were enough
  unsearched_all : (end : SearchEnd) → workers ≤ workers_for (take workers before) → HasNotSearched disk i workers (record { before = take workers before; after = after }) end → HasNotSearched disk i workers (record { before = before; after = after }) end
  unsearched_all (TooFewAdvisers asked have) enough e =
      let as_many = e.2 in let all = e.3 in let fewer = e.4 in absurd (omega (arith, enough, as_many, all, fewer))
  unsearched_all (Refused why) enough e = (e.0, e.1, untold_of_all workers before after e.2)
  unsearched_all DiskFault enough e = (e.0, e.1, untold_of_all workers before after e.2)
  unsearched_all NoMemory enough e = (e.0, untold_of_all workers before after e.1, e.2)
  unsearched_all Finished enough e = absurd e
  unsearched_all Spent enough e = absurd e
  unsearched_all (Full end limit) enough e = absurd e
  unsearched_all Stopped enough e = absurd e

module _ {D : Type 0} (reads : D → Option (List ℕ)) (images : D → List ℕ → Type 0) (images_since : D → ℕ → List ℕ → Type 0) (calls faults : D → ℕ) (disk : D) (i : Problem) (budget workers : ℕ) (before after : List ℕ) (end : SearchEnd) where
  of_all : (book : Result (SearchView D) D) → workers ≤ workers_for (take workers before)
      → SearchEnds reads images images_since calls faults disk i workers budget (record { before = take workers before; after = after }) book end
      → SearchEnds reads images images_since calls faults disk i workers budget (record { before = before; after = after }) book end
  of_all (Ok book) enough s = record {
    how = s.how;
    is = s.is;
    session = s.session;
    own = s.own;
    ended = ended_all (met_of reads images images_since calls faults disk book.log.disk) i budget workers before after s.how (board_of reads calls faults book) s.session s.ended;
  }
  of_all (Err left) enough s = unsearched_all (met_of reads images images_since calls faults disk left) i budget workers before after end enough s

-- the answer of a search by the advisers that serve, as one by all
pub search_of_all : {D : Type 0} (reads : D → Option (List ℕ)) (images : D → List ℕ → Type 0) (images_since : D → ℕ → List ℕ → Type 0) (calls faults : D → ℕ) (disk : D) (i : Problem) (budget served workers : ℕ) (before first after : List ℕ) (book : Result (SearchView D) D) (end : SearchEnd)
    → served ≡ workers → first ≡ take workers before → workers ≤ workers_for (take workers before)
    → SearchEnds reads images images_since calls faults disk i served budget (record { before = first; after = after }) book end
    → SearchEnds reads images images_since calls faults disk i workers budget (record { before = before; after = after }) book end
search_of_all reads images images_since calls faults disk i budget served workers before first after book end as_many first_is enough ends =
    of_all reads images images_since calls faults disk i budget workers before after end book enough
    (subst (λ (l : List ℕ). SearchEnds reads images images_since calls faults disk i workers budget (record { before = l; after = after }) book end) first_is
    (subst (λ (n : ℕ). SearchEnds reads images images_since calls faults disk i n budget (record { before = first; after = after }) book end) as_many ends))

-- ---- a search that was stopped

pub never_stopped : (fault : OpenFault) → end_unopened fault ≢ Stopped
never_stopped OpeningsDisk e = absurd (cc (e))
never_stopped OldVersion e = absurd (cc (e))
never_stopped NotAJournal e = absurd (cc (e))
never_stopped (OtherInstance at) e = absurd (cc (e))
never_stopped (Damaged at) e = absurd (cc (e))
never_stopped (Rejected at why) e = absurd (cc (e))
never_stopped OpeningsMemory e = absurd (cc (e))

pub stopped_run : (how : RunEnd) → end_of how ≡ Stopped → how ≡ StoppedEnd
stopped_run FinishedEnd e = absurd (cc (e))
stopped_run SpentEnd e = absurd (cc (e))
stopped_run (FullEnd end limit) e = absurd (cc (e))
stopped_run DiskEnd e = absurd (cc (e))
stopped_run MemoryEnd e = absurd (cc (e))
stopped_run StoppedEnd e = refl
