-- A log of posts after a commit.
use Rattle.search_book.proofs.Common.{◌≡◌, ℕ, ◌+◌, ◌<◌, ◌≤◌, ◌^◌, List, [], ◌∷◌, ◌++◌, length, refl, sym, ◌∙◌, ap, subst, arith, Option, None, Some, IsSome, option_and_then, append-nil, append_assoc, Post, Spells, Problem, canonical_text, end_after, bytes_of, Book, book_after, book_of, opening, Makes, StateView, Shutting, DiskFault, Full, book_after-append, PostLogView, bytes_used, joined, SpellPosts, IsPostLogInside, ShutIn, LogView, zip_right}
use Rattle.shift_instance.specs.Valid.{IsValid}
use Rattle.search_book.proofs.Few.{few_nodes, few_posts}
use Rattle.search_book.proofs.Used.{end_is}
use Rattle.search_book.proofs.Recording.{bytes_are, joined_more, recorded_first, recorded_more, recorded_spells, used_with}

-- the view of a log of posts with these parts
abbrev pub view_of : {D : Type 0} → LogView D → StateView → List Post → List (List Post) → List (List Post) → List Post → Option Shutting → PostLogView D
view_of log s first batches flight unfit shut = record { instance = s.instance; opening = first; batches = batches; history = s.history; book = s.book; disk = log.disk; limit = log.limit; opened = log.opened; used = bytes_used log.head log.records; in_flight = flight; unfit = unfit; shut = shut }

pub fold_more : (i : Problem) (history posts : List Post) (b c : Book) → book_of i history ≡ Some b → book_after i b posts ≡ Some c → book_of i (history ++ posts) ≡ Some c
fold_more i history posts b c one two = book_after-append i (opening i) history posts ∙ ap (λ (o : Option Book). option_and_then (λ x. book_after i x posts) o) one ∙ two

some_is : {X : Type 0} (o : Option X) (x : X) → o ≡ Some x → IsSome o
some_is o x e = subst IsSome (sym e) refl

-- ---- what a log keeps after a commit
module _ {D : Type 0} (log : LogView D) (s : StateView) (first : List Post) (batches flight : List (List Post)) (unfit : List Post) (shut : Option Shutting) (inside : IsPostLogInside log (view_of log s first batches flight unfit shut)) (opens : shut ≡ None) where
  pub none_flies : log.in_flight ≡ []
  none_flies = subst (ShutIn log.limit log.in_flight) opens inside.shut

  none_left : flight ≡ []
  none_left = zip_right Spells log.in_flight flight inside.flight none_flies

  spells_more : (bytes : List ℕ) (posts : List Post) → Spells bytes posts → SpellPosts (log.records ++ bytes ∷ []) (s.history ++ posts)
  spells_more bytes posts spells =
      let all : first ++ joined (batches ++ posts ∷ []) ≡ s.history ++ posts =
      ap (λ (l : List Post). first ++ l) (joined_more batches posts) ∙ sym (append_assoc first (joined batches) posts) ∙ ap (λ (l : List Post). l ++ posts) (sym inside.all) in
      subst (SpellPosts (log.records ++ bytes ∷ [])) all
      (recorded_spells log.opening first (log.records ++ bytes ∷ []) (batches ++ posts ∷ []) (recorded_more log.opening first log.records (bytes ∷ []) batches (posts ∷ []) inside.recorded (spells, tt)))

  -- the record was added
  added_inside : (disk : D) (spare room : ℕ) (bytes : List ℕ) (posts : List Post) (after : Book) → 0 < length posts → Spells bytes posts → book_after s.instance s.book posts ≡ Some after → bytes_used log.head log.records + bytes_of posts ≤ log.limit
      → IsPostLogInside (record log { disk = disk; records = log.records ++ bytes ∷ []; added = log.added + 1; spare = spare })
      (view_of (record log { disk = disk; records = log.records ++ bytes ∷ []; added = log.added + 1; spare = spare }) (record s { history = s.history ++ posts; book = after; spare = room }) first (batches ++ posts ∷ []) flight unfit shut)
  added_inside disk spare room bytes posts after some spells makes within =
      let folds : book_of s.instance (s.history ++ posts) ≡ Some after = fold_more s.instance s.history posts s.book after inside.folds makes in
      let used = used_with log.head log.records posts bytes some spells in
      let quiet : (s.history ++ posts) ++ joined flight ≡ s.history ++ posts = ap (λ (l : List (List Post)). (s.history ++ posts) ++ joined l) none_left ∙ append-nil (s.history ++ posts) in
      record {
        head = inside.head;
        small = inside.small;
        valid = inside.valid;
        recorded = recorded_more log.opening first log.records (bytes ∷ []) batches (posts ∷ []) inside.recorded (spells, tt);
        flight = inside.flight;
        single = inside.single;
        all = ap (λ (l : List Post). l ++ posts) inside.all ∙ append_assoc first (joined batches) posts ∙ ap (λ (l : List Post). first ++ l) (sym (joined_more batches posts));
        folds = folds;
        next = some_is _ after (ap (book_of s.instance) quiet ∙ folds);
        few = omega (arith, few_posts log.head (log.records ++ bytes ∷ []) (s.history ++ posts) (spells_more bytes posts spells), used, within, inside.small);
        nodes = omega (arith, few_nodes s.instance log.head (log.records ++ bytes ∷ []) (s.history ++ posts) after (spells_more bytes posts spells) folds, used, within, inside.small);
        shut = inside.shut;
      }

  pub ok_inside : (log2 : LogView D) (s2 : StateView) (bytes : List ℕ) (posts : List Post)
      → log2 ≡ record log { disk = log2.disk; records = log.records ++ bytes ∷ []; added = log.added + 1; spare = log2.spare }
      → s2 ≡ record s { history = s.history ++ posts; book = s2.book; spare = s2.spare }
      → 0 < length posts → Spells bytes posts → book_after s.instance s.book posts ≡ Some s2.book → bytes_used log.head log.records + bytes_of posts ≤ log.limit
      → IsPostLogInside log2 (view_of log2 s2 first (batches ++ posts ∷ []) flight unfit shut)
  ok_inside log2 s2 bytes posts is states some spells makes within =
      subst (λ (l : LogView D). IsPostLogInside l (view_of l s2 first (batches ++ posts ∷ []) flight unfit shut)) (sym is)
      (subst (λ (t : StateView). IsPostLogInside (record log { disk = log2.disk; records = log.records ++ bytes ∷ []; added = log.added + 1; spare = log2.spare }) (view_of (record log { disk = log2.disk; records = log.records ++ bytes ∷ []; added = log.added + 1; spare = log2.spare }) t first (batches ++ posts ∷ []) flight unfit shut)) (sym states)
      (added_inside log2.disk log2.spare s2.spare bytes posts s2.book some spells makes within))

  -- the disk failed
  failed_inside : (disk : D) (spare room : ℕ) (bytes : List ℕ) (posts : List Post) (after : Book) → Spells bytes posts → book_after s.instance s.book posts ≡ Some after
      → IsPostLogInside (record log { disk = disk; in_flight = bytes ∷ []; spare = spare })
      (view_of (record log { disk = disk; in_flight = bytes ∷ []; spare = spare }) (record s { spare = room }) first batches (posts ∷ []) unfit (Some DiskFault))
  failed_inside disk spare room bytes posts after spells makes = record {
    head = inside.head;
    small = inside.small;
    valid = inside.valid;
    recorded = inside.recorded;
    flight = (spells, tt);
    single = omega arith;
    all = inside.all;
    folds = inside.folds;
    next = some_is _ after (ap (λ (l : List Post). book_of s.instance (s.history ++ l)) (append-nil posts) ∙ fold_more s.instance s.history posts s.book after inside.folds makes);
    few = inside.few;
    nodes = inside.nodes;
    shut = λ e. absurd (cc);
  }

  pub fault_inside : (log2 : LogView D) (s2 : StateView) (bytes : List ℕ) (posts : List Post) (after : Book) → log2 ≡ record log { disk = log2.disk; in_flight = bytes ∷ []; spare = log2.spare } → s2 ≡ record s { spare = s2.spare }
      → Spells bytes posts → book_after s.instance s.book posts ≡ Some after → IsPostLogInside log2 (view_of log2 s2 first batches (posts ∷ []) unfit (Some DiskFault))
  fault_inside log2 s2 bytes posts after is states spells makes =
      subst (λ (l : LogView D). IsPostLogInside l (view_of l s2 first batches (posts ∷ []) unfit (Some DiskFault))) (sym is)
      (subst (λ (t : StateView). IsPostLogInside (record log { disk = log2.disk; in_flight = bytes ∷ []; spare = log2.spare }) (view_of (record log { disk = log2.disk; in_flight = bytes ∷ []; spare = log2.spare }) t first batches (posts ∷ []) unfit (Some DiskFault))) (sym states)
      (failed_inside log2.disk log2.spare s2.spare bytes posts after spells makes))

  -- the room alone changes
  room_inside : (spare room : ℕ) (unfit2 : List Post) (shut2 : Option Shutting) → ShutIn log.limit log.in_flight shut2 → IsPostLogInside (record log { spare = spare }) (view_of (record log { spare = spare }) (record s { spare = room }) first batches flight unfit2 shut2)
  room_inside spare room unfit2 shut2 by = record {
    head = inside.head;
    small = inside.small;
    valid = inside.valid;
    recorded = inside.recorded;
    flight = inside.flight;
    single = inside.single;
    all = inside.all;
    folds = inside.folds;
    next = inside.next;
    few = inside.few;
    nodes = inside.nodes;
    shut = by;
  }

  moved_inside : (log2 : LogView D) (s2 : StateView) (unfit2 : List Post) (shut2 : Option Shutting) → log2 ≡ record log { spare = log2.spare } → s2 ≡ record s { spare = s2.spare } → ShutIn log.limit log.in_flight shut2
      → IsPostLogInside log2 (view_of log2 s2 first batches flight unfit2 shut2)
  moved_inside log2 s2 unfit2 shut2 is states by =
      subst (λ (l : LogView D). IsPostLogInside l (view_of l s2 first batches flight unfit2 shut2)) (sym is)
      (subst (λ (t : StateView). IsPostLogInside (record log { spare = log2.spare }) (view_of (record log { spare = log2.spare }) t first batches flight unfit2 shut2)) (sym states)
      (room_inside log2.spare s2.spare unfit2 shut2 by))

  pub same_inside : (log2 : LogView D) (s2 : StateView) → log2 ≡ record log { spare = log2.spare } → s2 ≡ record s { spare = s2.spare } → IsPostLogInside log2 (view_of log2 s2 first batches flight unfit shut)
  same_inside log2 s2 is states = moved_inside log2 s2 unfit shut is states inside.shut

  pub full_inside : (log2 : LogView D) (s2 : StateView) (posts : List Post) (end most : ℕ) → log2 ≡ record log { spare = log2.spare } → s2 ≡ record s { spare = s2.spare } → most ≡ log.limit → most < end → IsPostLogInside log2 (view_of log2 s2 first batches flight posts (Some (Full end most)))
  full_inside log2 s2 posts end most is states same past = moved_inside log2 s2 posts (Some (Full end most)) is states (none_flies, let far : log.limit < end = omega arith in far, same)

-- what is said of posts and batches is said of those that are equal to them
pub as_told : {D : Type 0} (P : PostLogView D → Type 0) (log : LogView D) (s : StateView) (first first2 : List Post) (batches batches2 flight : List (List Post)) (unfit : List Post) (shut : Option Shutting)
    → first2 ≡ first → batches2 ≡ batches → P (view_of log s first batches flight unfit shut) → P (view_of log s first2 batches2 flight unfit shut)
as_told P log s first first2 batches batches2 flight unfit shut same more p =
    subst (λ (l : List Post). P (view_of log s l batches2 flight unfit shut)) (sym same) (subst (λ (l : List (List Post)). P (view_of log s first l flight unfit shut)) (sym more) p)

-- ---- an opened log
pub opened_inside : {D : Type 0} (log : LogView D) (s : StateView) (posts : List Post) (batches : List (List Post)) (records : ℕ) (head : List ℕ) (rs : List (List ℕ)) (disk : D) (spare most : ℕ)
    → log ≡ record { disk = disk; head = head; limit = most; records = rs; in_flight = []; opening = records; opened = disk; added = 0; spare = spare }
    → posts ≡ s.history → batches ≡ [] → head ≡ canonical_text s.instance → most ≤ 2 ^ 26 → IsValid s.instance → records ≡ length rs → SpellPosts rs s.history → book_of s.instance s.history ≡ Some s.book
    → bytes_used head rs ≤ most → IsPostLogInside log (view_of log s posts batches [] [] None)
opened_inside {D} log s posts batches records head rs disk spare most is told empty text small valid counted spells folds within =
    let fresh : LogView D = record { disk = disk; head = head; limit = most; records = rs; in_flight = []; opening = records; opened = disk; added = 0; spare = spare } in
    subst (λ (l : LogView D). IsPostLogInside l (view_of l s posts batches [] [] None)) (sym is)
    (subst (λ (ps : List Post). IsPostLogInside fresh (view_of fresh s ps batches [] [] None)) (sym told)
    (subst (λ (bs : List (List Post)). IsPostLogInside fresh (view_of fresh s s.history bs [] [] None)) (sym empty) (record {
      head = text;
      small = small;
      valid = valid;
      recorded = recorded_first records s.history rs (sym counted) spells;
      flight = tt;
      single = omega arith;
      all = sym (append-nil s.history);
      folds = folds;
      next = some_is _ s.book (ap (book_of s.instance) (append-nil s.history) ∙ folds);
      few = omega (arith, few_posts head rs s.history spells, within, small);
      nodes = omega (arith, few_nodes s.instance head rs s.history s.book spells folds, within, small);
      shut = refl;
    })))

-- ---- logs and states, one call after another
pub log_added : {D : Type 0} (log mid log2 : LogView D) (bytes : List ℕ) → mid ≡ record log { spare = mid.spare } → log2 ≡ record mid { disk = log2.disk; records = mid.records ++ bytes ∷ []; added = mid.added + 1 }
    → log2 ≡ record log { disk = log2.disk; records = log.records ++ bytes ∷ []; added = log.added + 1; spare = log2.spare }
log_added {D} log mid log2 bytes same is =
    let spare : log2.spare ≡ mid.spare = ap (λ (l : LogView D). l.spare) is in
    is
    ∙ ap (λ (l : LogView D). record l { disk = log2.disk; records = l.records ++ bytes ∷ []; added = l.added + 1 }) same
    ∙ ap (λ (n : ℕ). record log { disk = log2.disk; records = log.records ++ bytes ∷ []; added = log.added + 1; spare = n }) (sym spare)

pub log_failed : {D : Type 0} (log mid log2 : LogView D) (bytes : List ℕ) → mid ≡ record log { spare = mid.spare } → log2 ≡ record mid { disk = log2.disk; in_flight = bytes ∷ [] }
    → log2 ≡ record log { disk = log2.disk; in_flight = bytes ∷ []; spare = log2.spare }
log_failed {D} log mid log2 bytes same is =
    let spare : log2.spare ≡ mid.spare = ap (λ (l : LogView D). l.spare) is in
    is
    ∙ ap (λ (l : LogView D). record l { disk = log2.disk; in_flight = bytes ∷ [] }) same
    ∙ ap (λ (n : ℕ). record log { disk = log2.disk; in_flight = bytes ∷ []; spare = n }) (sym spare)

pub log_same : {D : Type 0} (log mid log2 : LogView D) → mid ≡ record log { spare = mid.spare } → log2 ≡ mid → log2 ≡ record log { spare = log2.spare }
log_same {D} log mid log2 same is = is ∙ same ∙ ap (λ (l : LogView D). record log { spare = l.spare }) (sym is)

pub state_added : (s mid s2 : StateView) (posts : List Post) (rest : ℕ) → mid ≡ record s { spare = mid.spare } → s2 ≡ record mid { history = mid.history ++ posts; book = s2.book; spare = rest }
    → s2 ≡ record s { history = s.history ++ posts; book = s2.book; spare = s2.spare }
state_added s mid s2 posts rest same is =
    let spare : s2.spare ≡ rest = ap (λ (t : StateView). t.spare) is in
    is
    ∙ ap (λ (t : StateView). record t { history = t.history ++ posts; book = s2.book; spare = rest }) same
    ∙ ap (λ (n : ℕ). record s { history = s.history ++ posts; book = s2.book; spare = n }) (sym spare)

-- posts that a book allows are allowed by the state with it
pub makes_in : {D : Type 0} (log : LogView D) (s : StateView) (first : List Post) (batches flight : List (List Post)) (unfit : List Post) (shut : Option Shutting) (old : PostLogView D) (posts : List Post) (values : List ℕ) (c : Book)
    → view_of log s first batches flight unfit shut ≡ old → Makes old.instance old.book posts values c → Makes s.instance s.book posts values c
makes_in {D} log s first batches flight unfit shut old posts values c is m = subst (λ (v : PostLogView D). Makes v.instance v.book posts values c) (sym is) m

pub makes_back : (s mid : StateView) (posts : List Post) (values : List ℕ) (c : Book) → mid ≡ record s { spare = mid.spare } → Makes mid.instance mid.book posts values c → Makes s.instance s.book posts values c
makes_back s mid posts values c is m = subst (λ (t : StateView). Makes t.instance t.book posts values c) is m

pub makes_forth : (s mid : StateView) (posts : List Post) (values : List ℕ) (c : Book) → mid ≡ record s { spare = mid.spare } → Makes s.instance s.book posts values c → Makes mid.instance mid.book posts values c
makes_forth s mid posts values c is m = subst (λ (t : StateView). Makes t.instance t.book posts values c) (sym is) m

-- where a record ends, in posts
pub ends_at : {D : Type 0} (log mid : LogView D) (posts : List Post) (bytes : List ℕ) → mid ≡ record log { spare = mid.spare } → 0 < length posts → Spells bytes posts → end_after mid.head mid.records (length bytes) ≡ bytes_used log.head log.records + bytes_of posts
ends_at {D} log mid posts bytes same some spells =
    let size : 5 + length bytes ≡ bytes_of posts = bytes_are posts bytes some spells in
    let used : bytes_used mid.head mid.records ≡ bytes_used log.head log.records = ap (λ (l : LogView D). bytes_used l.head l.records) same in
    omega (arith, end_is mid.head mid.records (length bytes))
