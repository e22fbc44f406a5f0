-- From a search over a new journal in memory to what is said of a demonstration.
use Rattle.solve_runs.proofs.Common.{◌≡◌, ◌∙◌, sym, ap, subst, refl, ℕ, ◌+◌, ◌-◌, ◌^◌, ◌≤◌, ◌<◌, Bool, true, false, List, [], ◌∷◌, length, take, get_or, arith, Option, None, Some, option_and_then, IfSome, IsSome, Appends, false≢true, Rose, AppendsPart, JOURNAL_MAX, Problem, Origin, book_at, BoardView, floor_of, is_finished, Book, IsSound, steps_enough, empty_hands, finished_best, book_is, fold_sound, IsKeptPosts, IsRunningPosts, ShutOf, IsBegun, IsOpenedFrom, IsJournalOf, board_of, SearchView, RunEnd, Finished, Spent, committed, plans_and_prices_since, IsSameSearch, RunEnds, RunMakes, demo_text, line_of, AreCommitted, Demonstration, DemoMet, IsNew, IsShown, IsTold, OverMemory, Searches, IsUnbeaten, end_of, is_reported, AreTold, ToldMet, SinkMet, status_at, Status, Optimal, Budget, Full, Usage, Input, Workers, ReadFault, WriteFault, DiskFault, NoMemory, Journal}
use Rattle.worker_gate.specs.declared.run.RunEnd.TheVariants.{Full as FullEnd, DiskFault as DiskEnd, NoMemory as MemoryEnd}
use Rattle.std.specs.Prelude.{◌≢◌}
use Rattle.instance_json.specs.Generated.{generated}
use Rattle.worker_gate.specs.declared.run.RunEnd.TheVariants.{Stopped}
use Rattle.solve_runs.proofs.Ending.{few_steps}
use Rattle.solve_runs.proofs.Telling.{told_of_all}

-- a run over a board, as a search
pub searches_of : (first last : BoardView) (end : RunEnd) → IsSameSearch first last → RunMakes first last end → RunEnds last end
    → committed end last.taken ≤ plans_and_prices_since first.history last.history → (steps_enough first.instance ≤ first.budget → end ≢ Spent) → Searches first last end
searches_of first last end same makes ends shown enough =
    record { same = same; makes = makes; ends = ends; shown = shown; few = λ spent. few_steps first.budget (steps_enough first.instance) (λ le. enough le spent) }

-- each step was committed, or all but the one for whose posts there was no room
pub are_committed : (first last : BoardView) (end : RunEnd) → end ≢ Stopped → is_reported (end_of end) ≡ true → RunMakes first last end → AreCommitted end (committed end last.taken) last.taken
are_committed first last Finished going some makes = refl
are_committed first last Spent going some makes = refl
are_committed first last (FullEnd most limit) going some makes =
    let held : BoardView = makes.end.0 in
    let cut : last.taken ≡ held.taken = ap (λ (v : BoardView). v.taken) makes.end.3.4 in
    let more : held.taken ≡ makes.last.taken + 1 = ap (λ (v : BoardView). v.taken) makes.end.2.takes.4 in
    let all : last.taken ≡ (last.taken - 1) + 1 = omega (arith, cut, more) in all
are_committed first last DiskEnd going some makes = absurd (false≢true some)
are_committed first last MemoryEnd going some makes = absurd (false≢true some)
are_committed first last Stopped going some makes = absurd (going refl)

-- the one adviser was told so often
pub one_told : (before after : List ℕ) (was is grown commits : ℕ) → before ≡ was ∷ [] → after ≡ is ∷ [] → (was < 2 ^ 63 → is ≡ was + grown) → grown ≡ commits → AreTold 1 commits (record { before = before; after = after })
one_told before after was is grown commits before_is after_is grew all = record {
  served = ap length after_is;
  grown = grown ∷ [];
  all = refl;
  each = λ k low small.
      let here : k ≡ 0 = omega (arith, low) in
      let first : get_or before k 0 ≡ was = ap (λ (n : ℕ). get_or before n 0) here ∙ ap (λ (l : List ℕ). get_or l 0 0) before_is in
      let last : get_or after k 0 ≡ is = ap (λ (n : ℕ). get_or after n 0) here ∙ ap (λ (l : List ℕ). get_or l 0 0) after_is in
      let more : get_or (grown ∷ []) k 0 ≡ grown = ap (λ (n : ℕ). get_or (grown ∷ []) n 0) here in
      let grows : is ≡ was + grown = grew (subst (λ (n : ℕ). n < 2 ^ 63) first small) in
      omega (arith, first, last, more, grows);
  together = (let one : 0 + grown ≡ commits = omega (arith, all) in one);
}

-- an adviser that nobody asked
pub one_untold : (told : List ℕ) → length told ≡ 1 → AreTold 1 0 (record { before = told; after = told })
one_untold [] one = absurd (omega (arith, one))
one_untold (was ∷ []) one = one_told (was ∷ []) (was ∷ []) was was 0 0 refl refl (λ small. omega arith) refl
one_untold (was ∷ next ∷ more) one = absurd (omega (arith, one))

-- the end without memory, by what it hands back
pub forgotten : {D : Type 0} (reads : D → Option (List ℕ)) (number budget commits : ℕ) (before told after : List ℕ) (sink : SinkMet) (disk : Option D) (status : Status) → status ≡ NoMemory → disk ≡ None → after ≡ told
    → AreTold 1 commits (record { before = before; after = told })
    → OverMemory (record { number = number; budget = budget; told = record { before = before; after = after }; sink = sink; file = option_and_then reads disk }) status
forgotten reads number budget commits before told after sink disk status is none back counted =
    subst (λ (s : Status). OverMemory (record { number = number; budget = budget; told = record { before = before; after = after }; sink = sink; file = option_and_then reads disk }) s) (sym is)
    (ap (option_and_then reads) none, commits, subst (λ (l : List ℕ). AreTold 1 commits (record { before = before; after = l })) (sym back) counted)

module _ {D : Type 0} (reads : D → Option (List ℕ)) (calls faults : D → ℕ) where
  -- a book that was opened over an empty file
  pub new_of : (i : Problem) (budget : ℕ) (book : SearchView D) → IsBegun i JOURNAL_MAX book.log → IsOpenedFrom JOURNAL_MAX i book.log.history book.log.used (reads book.log.disk) []
      → book.hands ≡ empty_hands → book.taken ≡ 0 → book.budget ≡ budget → book.halted ≡ false → IsNew i budget (board_of reads calls faults book)
  new_of i budget book begun found hands taken most going =
      let new = found.new refl in
      record {
        instance = begun.instance;
        budget_is = most;
        limit = begun.limit_is;
        history = new.0;
        used = new.1;
        idle = record { running = begun.shut; going = going; empty = hands };
        taken = taken;
      }

  -- the line of a book says what its board says
  pub same_book : (book : SearchView D) → book_at (board_of reads calls faults book) ≡ book.log.book
  same_book book = book_is book.log.instance book.log.history book.log.book book.keeps.folds

  pub same_line : (number : ℕ) (book : SearchView D) (optimal : Bool) (cost bound steps : ℕ) → optimal ≡ is_finished book.log.book → cost ≡ book.log.book.cost → bound ≡ floor_of book.log.book → steps ≡ book.taken
      → demo_text number optimal cost bound steps ≡ line_of number (board_of reads calls faults book)
  same_line number book optimal cost bound steps is_optimal is_cost is_bound are_steps =
      ap (λ (x : Bool). demo_text number x cost bound steps) is_optimal
      ∙ ap (λ (x : ℕ). demo_text number (is_finished book.log.book) x bound steps) is_cost
      ∙ ap (λ (x : ℕ). demo_text number (is_finished book.log.book) book.log.book.cost x steps) is_bound
      ∙ ap (λ (x : ℕ). demo_text number (is_finished book.log.book) book.log.book.cost (floor_of book.log.book) x) are_steps
      ∙ ap (λ (b : Book). demo_text number (is_finished b) b.cost (floor_of b) book.taken) (sym (same_book book))

module _ {D : Type 0} (reads : D → Option (List ℕ)) (images : D → List ℕ → Type 0) (calls faults : D → ℕ) (number budget : ℕ) (old new : SearchView D) (end : RunEnd) where
  -- what is known of a demonstration's book after its search
  pub record Known : Type 0 where
    pub reported : is_reported (end_of end) ≡ true
    pub fresh : IsNew (generated number) budget (board_of reads calls faults old)
    pub searches : Searches (board_of reads calls faults old) (board_of reads calls faults new) end
    pub running : new.log.in_flight ≡ [] → IsRunningPosts reads images calls new.log
    pub fault : ShutOf new.log.limit (faults new.log.opened) (faults new.log.disk) new.log.in_flight new.log.shut

  instance_of : Known → new.log.instance ≡ generated number
  instance_of k = k.searches.same.instance ∙ k.fresh.instance

  limit_of : Known → new.log.limit ≡ JOURNAL_MAX
  limit_of k = ap (λ (o : Origin). o.limit) k.searches.same.origin ∙ k.fresh.limit

  -- no posts are in flight after a search that came to such an end
  landed : (how : RunEnd) → is_reported (end_of how) ≡ true → RunEnds (board_of reads calls faults new) how → ShutOf new.log.limit (faults new.log.opened) (faults new.log.disk) new.log.in_flight new.log.shut
      → new.log.in_flight ≡ []
  landed Finished some ends fault = subst (ShutOf new.log.limit (faults new.log.opened) (faults new.log.disk) new.log.in_flight) ends.0.running fault
  landed Spent some ends fault = subst (ShutOf new.log.limit (faults new.log.opened) (faults new.log.disk) new.log.in_flight) ends.0.running fault
  landed (FullEnd most limit) some ends fault = (subst (ShutOf new.log.limit (faults new.log.opened) (faults new.log.disk) new.log.in_flight) ends.0 fault).0
  landed DiskEnd some ends fault = absurd (false≢true some)
  landed MemoryEnd some ends fault = absurd (false≢true some)
  landed Stopped some ends fault = subst (ShutOf new.log.limit (faults new.log.opened) (faults new.log.disk) new.log.in_flight) ends.0.running fault

  sound_of : Known → IsSound (generated number) (book_at (board_of reads calls faults new))
  sound_of k =
      subst (λ (b : Book). IsSound (generated number) b) (sym (same_book reads calls faults new))
      (subst (λ (j : Problem). IsSound j new.log.book) (instance_of k) (fold_sound new.log.instance new.log.history new.log.book new.keeps.folds))

  pub demo_of : Known → (file : List ℕ) → reads new.log.disk ≡ Some file → Demonstration (generated number) budget end file
  demo_of k file told =
      let none = landed end k.reported k.searches.ends k.fault in
      let kept : IsKeptPosts images new.log file = subst (λ (o : Option (List ℕ)). IfSome o (IsKeptPosts images new.log)) told (k.running none).kept in
      record {
        first = board_of reads calls faults old;
        last = board_of reads calls faults new;
        new = k.fresh;
        searches = k.searches;
        sound = sound_of k;
        journal =
            subst (λ (j : Problem). IsJournalOf JOURNAL_MAX j new.log.history new.log.used file) (instance_of k)
            (subst (λ (n : ℕ). IsJournalOf n new.log.instance new.log.history new.log.used file) (limit_of k) kept.journal);
      }

-- a finished search leaves no cheaper rota
unbeaten : {i : Problem} {budget : ℕ} {file : List ℕ} (d : Demonstration i budget Finished file) → IsUnbeaten i (book_at d.last).cost
unbeaten {i} d = λ rota legal. finished_best i (book_at d.last) rota d.sound d.searches.ends.1 legal

-- the line was written
pub shown_ends : (met : DemoMet) (end : RunEnd) → is_reported (end_of end) ≡ true → IsShown met end → OverMemory met (status_at (end_of end))
shown_ends met Finished some shown = (shown, unbeaten shown.demo)
shown_ends met Spent some shown = shown
shown_ends met (FullEnd most limit) some shown = shown
shown_ends met DiskEnd some shown = absurd (false≢true some)
shown_ends met MemoryEnd some shown = absurd (false≢true some)
shown_ends met Stopped some shown = absurd shown.told.2

-- a content that is told
some_of : (o : Option (List ℕ)) → IsSome o → (file : List ℕ) × (o ≡ Some file)
some_of None told = absurd (false≢true told)
some_of (Some file) told = (file, refl)

module _ {D : Type 0} (reads : D → Option (List ℕ)) (images : D → List ℕ → Type 0) (calls faults : D → ℕ) (number budget : ℕ) (old new : SearchView D) (end : RunEnd) (k : Known reads images calls faults number budget old new end) (told : IsSome (reads new.log.disk)) (sink : SinkMet) (advisers : ToldMet) (counted : IsTold advisers end new.taken) where
  -- what shows of the demonstration
  abbrev pub met : DemoMet
  met = record { number = number; budget = budget; told = advisers; sink = sink; file = reads new.log.disk }

  pub line_written : Appends sink.held sink.held_after (line_of number (board_of reads calls faults new)) → OverMemory met (status_at (end_of end))
  unfolding demo_of
  line_written written =
      let t = some_of (reads new.log.disk) told in
      shown_ends met end k.reported (record { file = t.0; kept = t.1; demo = demo_of reads images calls faults number budget old new end k t.0 t.1; told = counted; written = written })

  pub line_cut_short : AppendsPart sink.held sink.held_after (line_of number (board_of reads calls faults new)) → Rose sink.faults.0 sink.faults.1 → OverMemory met WriteFault
  unfolding demo_of
  line_cut_short part rose =
      let t = some_of (reads new.log.disk) told in
      record { end = end; reported = k.reported; file = t.0; kept = t.1; demo = demo_of reads images calls faults number budget old new end k t.0 t.1; told = counted; written = part; cause = rose }

module _ {D : Type 0} (reads : D → Option (List ℕ)) (images : D → List ℕ → Type 0) (calls faults : D → ℕ) (number budget : ℕ) (i : Problem) (old new : SearchView D) (end : RunEnd) (made : i ≡ generated number) (some : is_reported (end_of end) ≡ true)
    (fresh : IsNew i budget (board_of reads calls faults old)) (searches : Searches (board_of reads calls faults old) (board_of reads calls faults new) end) (running : new.log.in_flight ≡ [] → IsRunningPosts reads images calls new.log)
    (fault : ShutOf new.log.limit (faults new.log.opened) (faults new.log.disk) new.log.in_flight new.log.shut) (told : IsSome (reads new.log.disk)) (sink : SinkMet) (advisers : ToldMet) (counted : IsTold advisers end new.taken) (after : List ℕ) (back : after ≡ advisers.after) (status : Status) (disk : Option D) where
  all_known : Known reads images calls faults number budget old new end
  all_known = record { reported = some; fresh = subst (λ (j : Problem). IsNew j budget (board_of reads calls faults old)) made fresh; searches = searches; running = running; fault = fault }

  -- what shows of it, with the disk that it hands back and the advisers that come back
  abbrev pub shows : Option D → List ℕ → DemoMet
  shows kept told_after = record { number = number; budget = budget; told = record { before = advisers.before; after = told_after }; sink = sink; file = option_and_then reads kept }

  handed_back : (s : Status) → OverMemory (shows (Some new.log.disk) advisers.after) s → status ≡ s → disk ≡ Some new.log.disk → OverMemory (shows disk after) status
  handed_back s ends is same =
      subst (λ (o : Option D). OverMemory (shows o after) status) (sym same)
      (subst (λ (l : List ℕ). OverMemory (shows (Some new.log.disk) l) status) (sym back)
      (subst (λ (x : Status). OverMemory (shows (Some new.log.disk) advisers.after) x) (sym is) ends))

  -- the end of a demonstration whose line was written
  pub demonstrated : status ≡ status_at (end_of end) → disk ≡ Some new.log.disk → Appends sink.held sink.held_after (line_of number (board_of reads calls faults new)) → OverMemory (shows disk after) status
  demonstrated is same written = handed_back (status_at (end_of end)) (line_written reads images calls faults number budget old new end all_known told sink advisers counted written) is same

  -- and of one whose line was written in part
  pub demonstrated_in_part : status ≡ WriteFault → disk ≡ Some new.log.disk → AppendsPart sink.held sink.held_after (line_of number (board_of reads calls faults new)) → Rose sink.faults.0 sink.faults.1
      → OverMemory (shows disk after) status
  demonstrated_in_part is same part rose = handed_back WriteFault (line_cut_short reads images calls faults number budget old new end all_known told sink advisers counted part rose) is same

-- ---- the one adviser is the first of all

module _ (met : DemoMet) (before : List ℕ) (first : met.told.before ≡ take 1 before) where
  abbrev pub over_all : DemoMet
  over_all = record met { told = record { before = before; after = met.told.after } }

  told_all : (end : RunEnd) (taken : ℕ) → IsTold met.told end taken → IsTold over_all.told end taken
  told_all end taken t = (
    t.0,
    told_of_all 1 t.0 before met.told.after (subst (λ (l : List ℕ). AreTold 1 t.0 (record { before = l; after = met.told.after })) first t.1),
    t.2,
  )

  shown_all : (end : RunEnd) → IsShown met end → IsShown over_all end
  shown_all end s = record { file = s.file; kept = s.kept; demo = s.demo; told = told_all end s.demo.last.taken s.told; written = s.written }

  pub demo_of_all : (status : Status) → OverMemory met status → OverMemory over_all status
  unfolding shown_all
  demo_of_all Optimal ends = (shown_all Finished ends.0, ends.1)
  demo_of_all Budget ends = shown_all Spent ends
  demo_of_all (Full end limit) ends = shown_all (FullEnd end limit) ends
  demo_of_all WriteFault ends = record {
    end = ends.end;
    reported = ends.reported;
    file = ends.file;
    kept = ends.kept;
    demo = ends.demo;
    told = told_all ends.end ends.demo.last.taken ends.told;
    written = ends.written;
    cause = ends.cause;
  }
  demo_of_all NoMemory ends = (ends.0, ends.1, told_of_all 1 ends.1 before met.told.after (subst (λ (l : List ℕ). AreTold 1 ends.1 (record { before = l; after = met.told.after })) first ends.2))
  demo_of_all Usage ends = absurd ends
  demo_of_all (Workers asked have) ends = absurd ends
  demo_of_all (Input why) ends = absurd ends
  demo_of_all ReadFault ends = absurd ends
  demo_of_all DiskFault ends = absurd ends
  demo_of_all (Journal why) ends = absurd ends
