-- What a commit makes of a book, and why it is refused.
use Rattle.search_book.proofs.Common.{◌≡◌, ℕ, zero, suc, ◌==◌, ◌<◌, ◌≤◌, ◌+◌, List, [], ◌∷◌, ◌++◌, length, Option, None, Some, Bool, false, refl, sym, ◌∙◌, ap, subst, arith, length-set, is_some, IsSome, slice_set, option_map_or, append-nil, false≢true, JournalFault, OldVersion, DifferAt, Post, Problem, StepPosts, ByPrice, batches_of, book_at, bytes_of, floor_of_node, leaves_open, posts_at, records_of, BoardView, CommitRefuses, Commits, HasPosts, HoldsStep, Book, book_after, book_of, is_node_and, is_open, HoldsApart, Drafts, LeavesOpen, Makes, cuts_in, after_step, book_then, is_cheaper, posts_of, makes_fold, book_is, front_folds, commit_fault_of, step_posts, MayCommit, MayNot, RecordsStep, StepFails, Follows, PostLogView, joined, RecordFails, Records, board_at, KeepsSearch}
use Rattle.gated_journal.specs.declared.fault.JournalFault.TheVariants.{DiskFault as DiskFails, NoMemory as JournalsMemory, NotAJournal as IsNone, Damaged as IsDamaged, Full as IsFull}
use Rattle.search_core.specs.declared.board.Shutting.TheVariants.{Full as ByLimit}
use Rattle.search_core.specs.declared.board.CommitFault.{CommitFault}
use Rattle.search_core.specs.declared.board.CommitFault.TheVariants.{DiskFault, Full, NotHeld, Shut, NotClosing, OtherCuts, NoMemory}
use Rattle.search_core.specs.declared.board.Kept.{Kept}
use Rattle.search_core.specs.declared.drafting.StepDraft.{StepDraft}
use Rattle.search_core.proofs.Boards.{others_held_after}
use Rattle.search_book.proofs.Commits.{fold_more}
use Rattle.search_book.proofs.Following.{step_follows}
use Rattle.search_book.proofs.Handing.{emptied_counted}

-- the book of a history with a step's posts
pub book_behind : (i : Problem) (history posts : List Post) (b c : Book) → book_of i history ≡ Some b → book_of i (history ++ posts) ≡ Some c → book_after i b posts ≡ Some c
book_behind i history posts b c folds all =
    let f = front_folds i history posts c all in
    let same : f.0 ≡ b = cc (f.1, folds) in
    subst (λ (x : Book). book_after i x posts ≡ Some c) same f.2

pub book_made : (i : Problem) (history posts : List Post) (b c : Book) → book_of i history ≡ Some b → book_of i (history ++ posts) ≡ Some c → book_then i b posts ≡ c
book_made i history posts b c folds all = ap (λ (o : Option Book). option_map_or (λ (x : Book). x) o b) (book_behind i history posts b c folds all)

module _ {D : Type 0} (reads : D → Option (List ℕ)) (calls faults : D → ℕ) (old new : PostLogView D) (hands : List (Option ℕ)) (taken budget : ℕ) (halted : Bool) (w : ℕ) (step : StepPosts) (folds : book_of old.instance old.history ≡ Some old.book) where
  abbrev seen_of : PostLogView D → List (Option ℕ) → BoardView
  seen_of log hs = board_at reads calls faults log hs taken budget halted

  abbrev before : BoardView
  before = seen_of old hands

  here : book_at before ≡ old.book
  here = book_is old.instance old.history old.book folds

  posts_are : posts_at before w step ≡ step_posts w step old
  posts_are = ap (λ (b : Book). posts_of old.instance b w step) here

  holds_of : MayCommit old hands w step → HoldsStep w step before
  holds_of may = record { running = may.running; held = may.held; cuts = may.cuts ∙ ap (λ (b : Book). cuts_in b.nodes step.node) (sym here) }

  closes_of : leaves_open old.instance old.book w step ≡ false → leaves_open old.instance (book_at before) w step ≡ false
  closes_of closed = ap (λ (b : Book). leaves_open old.instance b w step) here ∙ closed

  made_of : (kept : Kept) → RecordsStep calls w step old new kept → book_of new.instance new.history ≡ Some new.book → after_step old.instance old.book w step ≡ new.book
  made_of kept r now =
      let same : new.instance ≡ old.instance = ap (λ (v : PostLogView D). v.instance) r.log in
      let history : new.history ≡ old.history ++ step_posts w step old = ap (λ (v : PostLogView D). v.history) r.log in
      let there : book_of old.instance new.history ≡ Some new.book = subst (λ (i : Problem). book_of i new.history ≡ Some new.book) same now in
      book_made old.instance old.history (step_posts w step old) old.book new.book folds (subst (λ (l : List Post). book_of old.instance l ≡ Some new.book) history there)

  pub commits : MayCommit old hands w step → leaves_open old.instance old.book w step ≡ false → (kept : Kept) → RecordsStep calls w step old new kept → book_of new.instance new.history ≡ Some new.book
      → Commits w step before (seen_of new (slice_set hands w None)) kept
  commits may closed kept r now =
      let made = made_of kept r now in
      let after : book_at (seen_of new (slice_set hands w None)) ≡ new.book = book_is new.instance new.history new.book now in
      record {
        holds = holds_of may;
        makes = ap (λ (v : PostLogView D). seen_of v (slice_set hands w None)) r.log
            ∙ ap (λ (l : List Post). record before { history = old.history ++ l; batches = old.batches ++ batches_of l; used = old.used + bytes_of l; hands = slice_set hands w None }) (sym posts_are);
        closed = ap (λ (b : Book). is_node_and b step.node (is_open b)) (after ∙ sym made) ∙ closed;
        plan = r.plan ∙ ap (is_cheaper step.plan) (sym here);
        records = r.count ∙ ap records_of (sym posts_are);
        best = r.best ∙ ap (λ (b : Book). b.cost) (sym after);
        floor = r.floor ∙ ap (λ (b : Book). floor_of_node b step.node) (sym after);
      }

  -- what the book keeps after a commit
  pub commit_keeps : MayCommit old hands w step → (kept : Kept) → RecordsStep calls w step old new kept → book_of new.instance new.history ≡ Some new.book → new.history ≡ new.opening ++ joined new.batches
      → KeepsSearch old hands taken budget → KeepsSearch new (slice_set hands w None) taken budget
  commit_keeps may kept r now all k =
      let apart = subst (λ (b : Book). HoldsApart b (slice_set hands w None)) (made_of kept r now) (others_held_after old.instance old.book hands w step (record { distinct = k.apart; unsplit = k.unsplit }) may.held) in
      let shut : new.shut ≡ None = ap (λ (v : PostLogView D). v.shut) r.log ∙ may.running in
      record {
        all = all;
        folds = now;
        apart = apart.distinct;
        unsplit = apart.unsplit;
        counted = emptied_counted taken hands w k.counted;
        sixteen = length-set hands w None ∙ k.sixteen;
        within = k.within;
        fresh = λ none. let more : 0 < taken = k.counted w step.node may.held in absurd (omega arith);
        past = λ end most is. absurd (cc (shut, is));
      }

  -- ---- refusals
  pub may_refuses : (fault : CommitFault) → MayNot old hands w step fault → CommitRefuses w step before before fault
  may_refuses Shut h = (h, refl)
  may_refuses (NotHeld held) h = (h.0, h.1, h.2, refl)
  may_refuses (OtherCuts at) h = (h.0, h.1, subst (λ (b : Book). DifferAt step.proved.cuts (cuts_in b.nodes step.node) at) (sym here) h.2, refl)
  may_refuses NoMemory h = refl
  may_refuses DiskFault h = absurd h
  may_refuses (Full end most) h = absurd h
  may_refuses (NotClosing floor best back) h = absurd h

  pub open_refuses : (floor best : ℕ) → MayCommit old hands w step → step.close ≡ ByPrice → LeavesOpen old.instance old.book w step floor best → CommitRefuses w step before before (NotClosing floor best step)
  open_refuses floor best may by h = (
    holds_of may,
    by,
    ap (λ (b : Book). leaves_open old.instance b w step) here ∙ h.0,
    h.1 ∙ ap (λ (b : Book). floor_of_node (after_step old.instance b w step) step.node) (sym here),
    h.2 ∙ ap (λ (b : Book). (after_step old.instance b w step).cost) (sym here),
    refl,
    refl,
  )

  has_posts : MayCommit old hands w step → leaves_open old.instance old.book w step ≡ false → 0 < length (step_posts w step old) → HasPosts w step before
  has_posts may closed some = record {
    holds = holds_of may;
    closes = closes_of closed;
    some = subst (λ (l : List Post). 0 < length l) (sym posts_are) some;
  }

  pub record_refuses : MayCommit old hands w step → leaves_open old.instance old.book w step ≡ false → (fault : CommitFault) → StepFails faults w step old new fault → CommitRefuses w step before (seen_of new hands) fault
  record_refuses may closed DiskFault h = (has_posts may closed h.0, ap (λ (v : PostLogView D). seen_of v hands) h.1.0)
  record_refuses may closed (Full end most) h = (
    has_posts may closed h.0,
    h.3.1 ∙ ap (λ (l : List Post). old.used + bytes_of l) (sym posts_are),
    h.3.2,
    h.3.3,
    ap (λ (v : PostLogView D). seen_of v hands) h.3.0 ∙ ap (λ (l : List Post). record before { shut = Some (ByLimit end most); unfit = l }) (sym posts_are),
  )
  record_refuses may closed NoMemory h = ap (λ (v : PostLogView D). seen_of v hands) h
  record_refuses may closed (NotHeld held) h = absurd h
  record_refuses may closed Shut h = absurd h
  record_refuses may closed (NotClosing f c back) h = absurd h
  record_refuses may closed (OtherCuts at) h = absurd h

  -- what the book keeps after a refusal
  pub refusal_keeps : (fault : CommitFault) → StepFails faults w step old new fault → KeepsSearch old hands taken budget → KeepsSearch new hands taken budget
  refusal_keeps DiskFault h k = subst (λ (v : PostLogView D). KeepsSearch v hands taken budget) (sym h.1.0) (record {
    all = k.all;
    folds = k.folds;
    apart = k.apart;
    unsplit = k.unsplit;
    counted = k.counted;
    sixteen = k.sixteen;
    within = k.within;
    fresh = k.fresh;
    past = λ end most is. absurd (cc (is));
  })
  refusal_keeps (Full e m) h k = subst (λ (v : PostLogView D). KeepsSearch v hands taken budget) (sym h.3.0) (record {
    all = k.all;
    folds = k.folds;
    apart = k.apart;
    unsplit = k.unsplit;
    counted = k.counted;
    sixteen = k.sixteen;
    within = k.within;
    fresh = k.fresh;
    past = λ end most is.
        let ends : e ≡ end = cc (is) in
        let mosts : m ≡ most = cc (is) in
        (h.0, h.1, h.2, sym ends ∙ h.3.1, sym mosts ∙ h.3.2, let past = h.3.3 in omega (arith, past));
  })
  refusal_keeps NoMemory h k = subst (λ (v : PostLogView D). KeepsSearch v hands taken budget) (sym h) k
  refusal_keeps (NotHeld held) h k = absurd h
  refusal_keeps Shut h k = absurd h
  refusal_keeps (NotClosing f c back) h k = absurd h
  refusal_keeps (OtherCuts at) h k = absurd h

  -- a refusal leaves the posts' book
  pub refusal_book : (fault : CommitFault) → StepFails faults w step old new fault → new.book ≡ old.book
  refusal_book DiskFault h = ap (λ (v : PostLogView D). v.book) h.1.0
  refusal_book (Full end most) h = ap (λ (v : PostLogView D). v.book) h.3.0
  refusal_book NoMemory h = ap (λ (v : PostLogView D). v.book) h
  refusal_book (NotHeld held) h = absurd h
  refusal_book Shut h = absurd h
  refusal_book (NotClosing f c back) h = absurd h
  refusal_book (OtherCuts at) h = absurd h

  -- what a recorded step leaves beside its node
  pub recorded_follows : (kept : Kept) → RecordsStep calls w step old new kept → book_of new.instance new.history ≡ Some new.book → Follows step.node 2 old.book new.book
  recorded_follows kept r now =
      let same : new.instance ≡ old.instance = ap (λ (v : PostLogView D). v.instance) r.log in
      let history : new.history ≡ old.history ++ step_posts w step old = ap (λ (v : PostLogView D). v.history) r.log in
      let there : book_of old.instance new.history ≡ Some new.book = subst (λ (i : Problem). book_of i new.history ≡ Some new.book) same now in
      let all : book_of old.instance (old.history ++ step_posts w step old) ≡ Some new.book = subst (λ (l : List Post). book_of old.instance l ≡ Some new.book) history there in
      step_follows old.instance old.book new.book w step (book_behind old.instance old.history (step_posts w step old) old.book new.book folds all)

  -- its node isn't open then
  pub recorded_closed : (kept : Kept) → RecordsStep calls w step old new kept → book_of new.instance new.history ≡ Some new.book → leaves_open old.instance old.book w step ≡ false → is_node_and new.book step.node (is_open new.book) ≡ false
  recorded_closed kept r now closed = ap (λ (b : Book). is_node_and b step.node (is_open b)) (sym (made_of kept r now)) ∙ closed

-- ---- what a draft that is recorded says
pub some_there : (n : ℕ) → (n == 0) ≡ false → 0 < n
some_there zero e = absurd (false≢true (sym e))
some_there (suc n) e = omega arith

one_batch : (posts : List Post) → 0 < length posts → (batches_of posts ≡ posts ∷ []) × (records_of posts ≡ 1)
one_batch [] some = absurd (omega arith)
one_batch (p ∷ posts) some = (refl, refl)

no_batch : (posts : List Post) → length posts ≡ 0 → posts ≡ []
no_batch [] e = refl
no_batch (p ∷ posts) e = absurd (omega arith)

module _ {D : Type 0} (calls : D → ℕ) (old new : PostLogView D) (w : ℕ) (step : StepPosts) (d : StepDraft) (drafts : Drafts old.instance old.book w step d) where
  pub step_recorded : (kept : Kept) → Records calls old new d.posts.items new.book → Makes old.instance old.book d.posts.items d.values.items new.book → 0 < length d.posts.items
      → kept.records ≡ 1 → kept.plan ≡ is_cheaper step.plan old.book → kept.best ≡ d.best → kept.floor ≡ d.floor → RecordsStep calls w step old new kept
  step_recorded kept records makes some count plan best floor =
      let posts = step_posts w step old in
      let r : Records calls old new posts new.book = subst (λ (l : List Post). Records calls old new l new.book) drafts.posts records in
      let more : 0 < length posts = subst (λ (l : List Post). 0 < length l) drafts.posts some in
      let one = one_batch posts more in
      let folds : book_after old.instance old.book posts ≡ Some new.book = subst (λ (l : List Post). book_after old.instance old.book l ≡ Some new.book) drafts.posts (makes_fold old.instance old.book d.posts.items d.values.items new.book makes) in
      let made : after_step old.instance old.book w step ≡ new.book = ap (λ (o : Option Book). option_map_or (λ (x : Book). x) o old.book) folds in
      record {
        log = r.log ∙ ap (λ (l : List (List Post)). record old { disk = new.disk; history = old.history ++ posts; batches = old.batches ++ l; book = new.book; used = old.used + bytes_of posts }) (sym one.0);
        four = omega (arith, r.four, one.1);
        within = λ _. r.within;
        idle = λ none. let n : length posts ≡ 0 = ap length none in absurd (omega arith);
        count = count ∙ sym one.1;
        plan = plan;
        best = best ∙ drafts.best ∙ ap (λ (b : Book). b.cost) made;
        floor = floor ∙ drafts.floor ∙ ap (λ (b : Book). floor_of_node b step.node) made;
      }

  pub step_allowed : (c : Book) → Makes old.instance old.book d.posts.items d.values.items c → book_of old.instance old.history ≡ Some old.book → IsSome (book_of old.instance (old.history ++ step_posts w step old))
  step_allowed c makes folds =
      let after : book_after old.instance old.book (step_posts w step old) ≡ Some c = subst (λ (l : List Post). book_after old.instance old.book l ≡ Some c) drafts.posts (makes_fold old.instance old.book d.posts.items d.values.items c makes) in
      subst IsSome (sym (fold_more old.instance old.history (step_posts w step old) old.book c folds after)) refl

  pub step_fails : (faults : D → ℕ) (fault : JournalFault) → 0 < length d.posts.items → IsSome (book_of old.instance (old.history ++ step_posts w step old)) → RecordFails faults old new d.posts.items fault → StepFails faults w step old new (commit_fault_of fault)
  step_fails faults fault some allowed fails =
      failed fault (subst (λ (l : List Post). RecordFails faults old new l fault) drafts.posts fails)
    where
      there : 0 < length (step_posts w step old)
      there = subst (λ (l : List Post). 0 < length l) drafts.posts some

      failed : (e : JournalFault) → RecordFails faults old new (step_posts w step old) e → StepFails faults w step old new (commit_fault_of e)
      failed DiskFails h = (there, h)
      failed JournalsMemory h = h
      failed IsNone h = absurd h
      failed OldVersion h = absurd h
      failed (IsDamaged at) h = absurd h
      failed (IsFull end most) h = (there, subst (λ (l : List Post). length l ≤ 4) drafts.posts drafts.few, allowed, h)

-- where there are no posts
pub step_idle : {D : Type 0} (calls : D → ℕ) (old : PostLogView D) (w : ℕ) (step : StepPosts) (d : StepDraft) (kept : Kept) → Drafts old.instance old.book w step d → length d.posts.items ≡ 0 → kept.records ≡ 0 → kept.plan ≡ is_cheaper step.plan old.book → kept.best ≡ d.best → kept.floor ≡ d.floor → RecordsStep calls w step old old kept
step_idle calls old w step d kept drafts none count plan best floor =
    let posts = step_posts w step old in
    let empty : posts ≡ [] = sym drafts.posts ∙ no_batch d.posts.items none in
    let made : after_step old.instance old.book w step ≡ old.book = ap (book_then old.instance old.book) empty in
    let number : records_of posts ≡ 0 = ap records_of empty in
    record {
      log = subst (λ (l : List Post). old ≡ record old { history = old.history ++ l; batches = old.batches ++ batches_of l; used = old.used + bytes_of l }) (sym empty) (nothing old);
      four = omega (arith, number);
      within = λ more. let n : length posts ≡ 0 = ap length empty in absurd (omega arith);
      idle = λ e. refl;
      count = omega (arith, number);
      plan = plan;
      best = best ∙ drafts.best ∙ ap (λ (b : Book). b.cost) made;
      floor = floor ∙ drafts.floor ∙ ap (λ (b : Book). floor_of_node b step.node) made;
    }
  where
    nothing : {D : Type 0} (old : PostLogView D) → old ≡ record old { history = old.history ++ []; batches = old.batches ++ []; used = old.used + 0 }
    nothing old =
        let used : old.used ≡ old.used + 0 = omega arith in
        ap (λ (l : List Post). record old { history = l }) (sym (append-nil old.history))
        ∙ ap (λ (l : List (List Post)). record old { history = old.history ++ []; batches = l }) (sym (append-nil old.batches))
        ∙ ap (λ (n : ℕ). record old { history = old.history ++ []; batches = old.batches ++ []; used = n }) used

-- ---- of the log of posts, and of the hands
none_of : {X : Type 0} (o : Option X) → is_some o ≡ false → o ≡ None
none_of None e = refl
none_of (Some x) e = absurd (cc)

pub none_told : {X : Type 0} (o told : Option X) (b : Bool) → told ≡ o → b ≡ is_some told → b ≡ false → o ≡ None
none_told o told b same is absent = none_of o (ap is_some (sym same) ∙ sym is ∙ absent)
