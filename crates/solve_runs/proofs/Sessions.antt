-- From a search over a book to what is said of it.
use Rattle.solve_runs.proofs.Common.{◌≡◌, ◌∙◌, sym, ap, subst, refl, ℕ, ◌+◌, ◌*◌, ◌<◌, ◌≤◌, List, [], ◌∷◌, ◌++◌, length, drop, arith, OnSome, IfSome, IsSome, IsFalse, IsTrue, count_by, false≢true, Rose, JOURNAL_MAX, Post, Problem, Origin, book_at, leaves_open, Book, book_of, is_finished, steps_enough, empty_hands, cuts_in, posts_of, finished_best, book_is, fold_sound, HoldsBatches, PostsLast, IsRunningPosts, ShutOf, IsBegun, IsOpenedFrom, SearchView, board_of, IsJournalOf, joined, RunEnd, Finished, Spent, is_prices, AreTurns, IsUnbeaten, HasEnded, IsFinished, IsFull, IsSpent, IsStopped, Ends, GoesOn, IsLanded, Told, end_of, HasSearched, AreTold, Served, ToldMet, Works, met_of, Session, IsOnlyJournal}
use Rattle.worker_gate.specs.declared.run.RunEnd.TheVariants.{Full as FullEnd, DiskFault as DiskEnd, NoMemory as MemoryEnd, Stopped as StoppedEnd}
use Rattle.std.specs.Prelude.{Option, Some, None, true, false}
use Rattle.std.proofs.Math.Logic.{∥∥₁_elim}
use Rattle.std.proofs.Props.{props}
use Rattle.plan_base.specs.Disk.{TellsAlike}
use Rattle.std.proofs.Math.Seq.{drop-append_seam}
use Rattle.search_book.specs.Origins.{tells}
use Rattle.board_lock.specs.Turns.{is_plan}
use Rattle.solve_runs.proofs.Unfit.{unfit_open}
use Rattle.solve_runs.proofs.Walked.{turned, OfStep, Turned}

-- a fact of what there is implies another
map_some : {A : Type 0} {P Q : A → Type 0} (o : Option A) → ((a : A) → P a → Q a) → IfSome o P → IfSome o Q
map_some None f told = tt
map_some (Some a) f told = f a told

-- a count of faults that rose in the search rose in the run
rose_before : (first before now : ℕ) → first ≤ before → Rose before now → Rose first now
rose_before first before now le rose = omega (arith, le, rose)

-- a fact of what is told implies another
pub on_some : {P Q : Type 0} (o : Option (List ℕ)) → (P → Q) → OnSome o P → OnSome o Q
on_some None f told = tt
on_some (Some file) f told = f told

-- and one that holds anyway holds of it
pub whatever : {P : Type 0} (o : Option (List ℕ)) → P → OnSome o P
whatever None holds = tt
whatever (Some file) holds = holds

-- an opened disk tells its content where it did before
opened_tells : (limit : ℕ) (i : Problem) (posts : List Post) (used : ℕ) (after : Option (List ℕ)) (file : List ℕ) → IsOpenedFrom limit i posts used after file → IsSome after
opened_tells limit i posts used after [] found = subst IsSome (sym (found.new refl).2) refl
opened_tells limit i posts used after (byte ∷ bytes) found = subst IsSome (sym (found.old (λ empty. absurd (omega (arith, ap length empty)))).1) refl

-- one that tells as another does
alike : (one other : Option (List ℕ)) → tells one ≡ tells other → IsSome other → IsSome one
alike None None same told = told
alike None (Some file) same told = absurd (false≢true same)
alike (Some file) other same told = refl

-- and so does one that tells like it
tells_after : (before opened now : Option (List ℕ)) → IfSome before (λ file. IsSome opened) → TellsAlike opened now → OnSome before (IsSome now)
tells_after None opened now told alike = tt
tells_after (Some file) (Some first) (Some later) told alike = refl
tells_after (Some file) (Some first) None told alike = absurd alike
tells_after (Some file) None now told alike = absurd (false≢true told)

module _ {D : Type 0} (reads : D → Option (List ℕ)) (images : D → List ℕ → Type 0) (images_since : D → ℕ → List ℕ → Type 0) (calls faults : D → ℕ) (entry : D) (i : Problem) (old new : SearchView D) where
  -- what is known of a book as it was opened on a disk, and as it is after a search
  pub record Known : Type 0 where
    pub begins : IsBegun i JOURNAL_MAX old.log
    pub opens : book_of i old.log.history ≡ Some old.log.book
    pub empty : old.hands ≡ empty_hands
    pub going : old.halted ≡ false
    pub found : IfSome (reads entry) (IsOpenedFrom JOURNAL_MAX i old.log.history old.log.used (reads old.log.disk))
    pub begun : calls entry ≤ calls old.log.disk
    pub four : reads entry ≡ Some [] → calls old.log.disk ≡ calls entry + 4
    pub later : faults entry ≤ faults old.log.disk
    pub on : GoesOn reads calls faults old new
    pub lasts : PostsLast reads images_since calls new.log
    pub running : new.log.in_flight ≡ [] → IsRunningPosts reads images calls new.log
    pub all : new.log.history ≡ new.log.opening ++ joined new.log.batches
    pub single : length new.log.in_flight ≤ 1
    pub moment : calls new.log.opened + 4 * length new.log.batches ≤ calls new.log.disk
    pub most : calls new.log.disk ≤ calls new.log.opened + 4 * length new.log.batches + 4
    pub telling : TellsAlike (reads new.log.opened) (reads new.log.disk)
    pub fault : ShutOf new.log.limit (faults new.log.opened) (faults new.log.disk) new.log.in_flight new.log.shut
    pub now_counts : (disk : D) (moment : ℕ) (image : List ℕ) → moment ≤ calls disk → images disk image → images_since disk moment image

  is_of : Known → new.log.instance ≡ i
  is_of k = k.on.same.instance ∙ k.begins.instance

  limit_of : Known → new.log.limit ≡ JOURNAL_MAX
  limit_of k = ap (λ (o : Origin). o.limit) k.on.same.origin ∙ k.begins.limit_is

  since_of : Known → calls new.log.opened ≡ calls old.log.disk
  since_of k = ap (λ (o : Origin). o.moment) k.on.same.origin ∙ ap calls k.begins.opened

  faults_of : Known → faults new.log.opened ≡ faults old.log.disk
  faults_of k = ap (λ (o : Origin). o.faults) k.on.same.origin ∙ ap faults k.begins.opened

  tells_of : Known → tells (reads new.log.opened) ≡ tells (reads old.log.disk)
  tells_of k = ap (λ (o : Origin). o.tells) k.on.same.origin ∙ ap (λ d. tells (reads d)) k.begins.opened

  -- the posts of the opening
  opening_of : Known → old.log.history ≡ new.log.opening
  opening_of k = k.begins.history ∙ sym (ap (λ (o : Origin). o.history) k.on.same.origin)

  pub ends_of : Known → book_of i (new.log.opening ++ joined new.log.batches) ≡ Some new.log.book
  ends_of k = subst (λ (h : List Post). book_of i h ≡ Some new.log.book) k.all (subst (λ (j : Problem). book_of j new.log.history ≡ Some new.log.book) (is_of k) new.keeps.folds)

  -- each image since a record was acknowledged
  Lasts : ℕ → Problem → Type 0
  Lasts limit j = OnSome (reads new.log.disk) ((b : ℕ) (image : List ℕ) → b ≤ length new.log.batches → images_since new.log.disk (calls new.log.opened + 4 * b) image → HoldsBatches limit j new.log.opening (new.log.batches ++ new.log.in_flight) b image)

  lasts_of : Known → Lasts JOURNAL_MAX i
  unfolding Lasts
  lasts_of k = subst (λ (j : Problem). Lasts JOURNAL_MAX j) (is_of k) (subst (λ (n : ℕ). Lasts n new.log.instance) (limit_of k) k.lasts)

  -- the disk's content is the journal of the posts, and the only image
  kept_of : Known → new.log.in_flight ≡ [] → IfSome (reads new.log.disk) (IsOnlyJournal (met_of reads images images_since calls faults entry new.log.disk) i (new.log.opening ++ joined new.log.batches) new.log.used)
  kept_of k none = map_some (reads new.log.disk) (λ file kept. record {
    only = kept.only;
    journal =
        subst (λ (h : List Post). IsJournalOf JOURNAL_MAX i h new.log.used file) k.all
        (subst (λ (j : Problem). IsJournalOf JOURNAL_MAX j new.log.history new.log.used file) (is_of k)
        (subst (λ (n : ℕ). IsJournalOf n new.log.instance new.log.history new.log.used file) (limit_of k) kept.journal));
  }) (k.running none).kept

  -- the session of a book that went on
  pub session_of : Known → Session (met_of reads images images_since calls faults entry new.log.disk) i
  unfolding Lasts
  session_of k =
      let since = since_of k in
      record {
        opening = new.log.opening;
        first = old.log.book;
        opens = subst (λ (h : List Post). book_of i h ≡ Some old.log.book) (opening_of k) k.opens;
        used = old.log.used;
        opened_as = reads old.log.disk;
        found = subst (λ (h : List Post). IfSome (reads entry) (IsOpenedFrom JOURNAL_MAX i h old.log.used (reads old.log.disk))) (opening_of k) k.found;
        batches = new.log.batches;
        in_flight = new.log.in_flight;
        single = k.single;
        last = new.log.book;
        ends = ends_of k;
        since = calls new.log.opened;
        begun = omega (arith, since, k.begun);
        anew = λ empty. since ∙ k.four empty;
        moment = k.moment;
        most = k.most;
        tells = tells_after (reads entry) (reads new.log.opened) (reads new.log.disk)
            (map_some (reads entry) (λ file found. alike (reads new.log.opened) (reads old.log.disk) (tells_of k) (opened_tells JOURNAL_MAX i old.log.history old.log.used (reads old.log.disk) file found)) k.found)
            k.telling;
        lasts = lasts_of k;
        after = on_some (reads new.log.disk) (λ lasts image now. lasts (length new.log.batches) image (omega arith) (k.now_counts new.log.disk (calls new.log.opened + 4 * length new.log.batches) image k.moment now)) (lasts_of k);
        used_after = new.log.used;
        kept = kept_of k;
        time = λ none. (k.running none).time;
      }

  -- ---- how a search ends

  -- the book of a board is its own
  book_same : Known → book_at (board_of reads calls faults new) ≡ new.log.book
  book_same k = book_is new.log.instance new.log.history new.log.book new.keeps.folds

  added_of : (k : Known) → drop (length old.log.history) new.log.history ≡ joined new.log.batches
  added_of k =
      ap (λ (h : List Post). drop (length h) new.log.history) (opening_of k) ∙ ap (drop (length new.log.opening)) k.all ∙ drop-append_seam new.log.opening (joined new.log.batches)

  module _ (workers : ℕ) (told : ToldMet) where
    landed_of : (commits : ℕ) → Known → (end : RunEnd) → Ends reads calls faults workers commits old new end → IsLanded end → new.log.in_flight ≡ []
    landed_of commits k Finished e landed = subst (ShutOf new.log.limit (faults new.log.opened) (faults new.log.disk) new.log.in_flight) e.ends.0 k.fault
    landed_of commits k Spent e landed = subst (ShutOf new.log.limit (faults new.log.opened) (faults new.log.disk) new.log.in_flight) e.ends.0.running k.fault
    landed_of commits k (FullEnd end limit) e landed = (subst (ShutOf new.log.limit (faults new.log.opened) (faults new.log.disk) new.log.in_flight) e.ends.0 k.fault).0
    landed_of commits k DiskEnd e landed = absurd landed
    landed_of commits k StoppedEnd e landed = absurd landed
    landed_of commits k MemoryEnd e landed = subst (ShutOf new.log.limit (faults new.log.opened) (faults new.log.disk) new.log.in_flight) e.ends.0 k.fault

    finished_of : (commits : ℕ) (k : Known) → Ends reads calls faults workers commits old new Finished → IsFinished (session_of k)
    unfolding session_of
    finished_of commits k e = record { landed = landed_of commits k Finished e tt; finished = subst (λ (b : Book). IsTrue (is_finished b)) (book_same k) e.ends.2 }

    spent_of : (commits : ℕ) (k : Known) → Ends reads calls faults workers commits old new Spent → IsSpent old.budget (session_of k)
    unfolding session_of
    spent_of commits k e = record {
      landed = landed_of commits k Spent e tt;
      unfinished = subst (λ (b : Book). is_finished b ≡ false) (book_same k) e.ends.1;
      few = subst (λ (j : Problem). old.budget < steps_enough j) k.begins.instance (e.few refl);
    }

    walked_of : (commits : ℕ) (k : Known) (end : RunEnd) → Ends reads calls faults workers commits old new end → AreTurns workers (board_of reads calls faults old) (board_of reads calls faults new) commits
        → Turned workers (board_of reads calls faults old) (board_of reads calls faults new) commits
    walked_of commits k end e turns = turned workers (board_of reads calls faults old) (board_of reads calls faults new) commits e.fresh k.begins.shut k.begins.batches turns

    stopped_of : (commits : ℕ) (k : Known) → Ends reads calls faults workers commits old new StoppedEnd → IsStopped (session_of k)
    unfolding session_of
    stopped_of commits k e = record {
      landed = subst (ShutOf new.log.limit (faults new.log.opened) (faults new.log.disk) new.log.in_flight) e.ends.0.running k.fault;
      unfinished = subst (λ (b : Book). is_finished b ≡ false) (book_same k) e.ends.1;
    }

    works_of : (commits : ℕ) (k : Known) (end : RunEnd) → Ends reads calls faults workers commits old new end → Works workers commits old.budget end (board_of reads calls faults new) (session_of k)
    unfolding session_of
    works_of commits k end e = record {
      first = board_of reads calls faults old;
      instance = k.begins.instance;
      steps = refl;
      fresh = e.fresh;
      idle = record { running = k.begins.shut; going = k.going; empty = k.empty };
      opening = opening_of k;
      unrecorded = k.begins.batches;
      turns = e.turns;
      ends = e.ends;
      posts = k.all;
      records = refl;
      used = ∥∥₁_elim e.turns (hlevel props) (λ turns. (walked_of commits k end e turns).used);
      shown = subst (λ (l : List Post). commits ≤ count_by is_prices l + workers * count_by is_plan l) (added_of k) e.shown;
    }

    -- a step of a worker for whose posts there was no room, over the book of the session
    stepped_of : Known → OfStep workers (board_of reads calls faults new) → (s : OfStep workers (board_of reads calls faults new)) × (new.log.unfit ≡ posts_of i new.log.book s.worker s.step)
        × IsFalse (leaves_open i new.log.book s.worker s.step) × (s.step.proved.cuts ≡ cuts_in new.log.book.nodes s.step.node)
    stepped_of k s = (
      s,
      s.posts_are ∙ ap (λ (j : Problem). posts_of j (book_at (board_of reads calls faults new)) s.worker s.step) (is_of k) ∙ ap (λ (b : Book). posts_of i b s.worker s.step) (book_same k),
      subst (λ (b : Book). IsFalse (leaves_open i b s.worker s.step)) (book_same k) (subst (λ (j : Problem). IsFalse (leaves_open j (book_at (board_of reads calls faults new)) s.worker s.step)) (is_of k) s.closes),
      s.cuts ∙ ap (λ (b : Book). cuts_in b.nodes s.step.node) (book_same k),
    )

    full_of : (commits : ℕ) (k : Known) (end limit : ℕ) → Ends reads calls faults workers commits old new (FullEnd end limit) → IsFull workers commits old.budget end limit (board_of reads calls faults new) (session_of k)
    unfolding session_of
    full_of commits k end limit e =
        let past = e.ends.1 in
        let allowed : IsSome (book_of i ((new.log.opening ++ joined new.log.batches) ++ new.log.unfit)) =
        subst (λ (h : List Post). IsSome (book_of i (h ++ new.log.unfit))) k.all (subst (λ (j : Problem). IsSome (book_of j (new.log.history ++ new.log.unfit))) (is_of k) past.allowed) in
        let refused : AreTurns workers (board_of reads calls faults old) (board_of reads calls faults new) commits → OfStep workers (board_of reads calls faults new) × (commits < old.budget) =
        λ turns. (walked_of commits k (FullEnd end limit) e turns).full end limit e.ends.0 in
        record {
          landed = landed_of commits k (FullEnd end limit) e tt;
          unfinished = ∥∥₁_elim e.turns (hlevel props) (λ turns.
              let s = stepped_of k (refused turns).0 in
              unfit_open i (new.log.opening ++ joined new.log.batches) new.log.unfit new.log.book s.0.worker s.0.step (ends_of k) s.1 past.some allowed);
          left = ∥∥₁_elim e.turns (hlevel props) (λ turns. (refused turns).1);
          refused = e.ends.0;
          unfit = ∥∥₁_elim e.turns (hlevel props) (λ turns.
              let s = stepped_of k (refused turns).0 in
              ∣ record { worker = s.0.worker; below = s.0.below; step = s.0.step; cuts = s.3; closes = s.2; posts_are = s.1 } ∣₁);
          some = past.some;
          at_most = past.few;
          allowed = allowed;
          ends = past.ends;
          most = past.limit ∙ limit_of k;
          over = past.past;
        }

    rose_of : (commits : ℕ) (k : Known) → Ends reads calls faults workers commits old new DiskEnd → Rose (faults entry) (faults new.log.disk)
    rose_of commits k e = rose_before (faults entry) (faults new.log.opened) (faults new.log.disk) (let same = faults_of k in omega (arith, same, k.later)) (subst (ShutOf new.log.limit (faults new.log.opened) (faults new.log.disk) new.log.in_flight) e.ends k.fault)

    served_of : (k : Known) (end : RunEnd) → Told reads calls faults workers told old new end → Served workers old.budget told end (board_of reads calls faults new) (session_of k)
    served_of k end t = (t.0, works_of t.0 k end t.1, t.2)

    -- a search that took all steps of its budget committed each
    each_of : (k : Known) → Told reads calls faults workers told old new Spent → Works workers old.budget old.budget Spent (board_of reads calls faults new) (session_of k) × AreTold workers old.budget told
    each_of k t = (
      subst (λ (n : ℕ). Works workers n old.budget Spent (board_of reads calls faults new) (session_of k)) (t.1.spent refl) (works_of t.0 k Spent t.1),
      subst (λ (n : ℕ). AreTold workers n told) (t.1.spent refl) t.2,
    )

    unbeaten_of : (commits : ℕ) (k : Known) → Ends reads calls faults workers commits old new Finished → IsUnbeaten i new.log.book.cost
    unbeaten_of commits k e = λ rota legal. finished_best i new.log.book rota (fold_sound i (new.log.opening ++ joined new.log.batches) new.log.book (ends_of k)) (subst (λ (b : Book). is_finished b ≡ true) (book_same k) e.ends.2) legal

    -- how the search ended
    ended_of : (k : Known) (end : RunEnd) → Told reads calls faults workers told old new end → HasEnded (met_of reads images images_since calls faults entry new.log.disk) i workers old.budget told end (board_of reads calls faults new) (session_of k)
    unfolding session_of served_of works_of
    ended_of k Finished t = (finished_of t.0 k t.1, unbeaten_of t.0 k t.1, served_of k Finished t)
    ended_of k Spent t = let each = each_of k t in (spent_of t.0 k t.1, each.0, each.1)
    ended_of k (FullEnd end limit) t = (served_of k (FullEnd end limit) t, full_of t.0 k end limit t.1)
    ended_of k StoppedEnd t = (stopped_of t.0 k t.1, served_of k StoppedEnd t)
    ended_of k DiskEnd t = (rose_of t.0 k t.1, served_of k DiskEnd t)
    ended_of k MemoryEnd t = (landed_of t.0 k MemoryEnd t.1 tt, served_of k MemoryEnd t)

    -- what a search over a book answers
    pub has_searched : (k : Known) (end : RunEnd) → Told reads calls faults workers told old new end → HasSearched reads images images_since calls faults entry i workers old.budget told new (end_of end)
    unfolding session_of
    has_searched k end t = record {
      how = end;
      is = refl;
      session = session_of k;
      own = record { instance = is_of k; opening = refl; batches = refl; in_flight = refl; last = refl; since = refl; used = refl };
      ended = ended_of k end t;
    }
