-- How many steps the calls on a board take: each closes a node of its own, or has one in a hand.
use Rattle.search_core.proofs.Common.{◌≡◌, ◌⊎◌, inl, inr, ℕ, zero, suc, ◌+◌, ◌-◌, ◌*◌, ◌^◌, ◌<◌, ◌≤◌, Bool, true, false, cond, ◌||◌, not, List, [], ◌∷◌, ◌++◌, length, get_or, set, refl, sym, ap, ◌∙◌, subst, arith, Option, Some, None, eq-eqb, slice_get, is_some, option_and_then, list_any, and_parts, eqb-true, false≢true, not-true, or_cases, or_from, or_left, or_right, slice_get-get_or, slice_get_within, pow-suc, Problem, Node, span, Post, StepPosts, Kept, Taken, Closed, Finished, Halted, Spent, Idle, CommitFault, DiskFault, Full, NotHeld, Shut, NotClosing, OtherCuts, BoardView, batches_of, book_at, bytes_of, posts_at, yields, Commits, CommitRefuses, IsSoundBoard, TakeMakes, Book, book_after, book_of, is_node_and, is_open, full_hands, steps_enough, AreCalls, IsCall, IsFresh, hand, is_node}
use Rattle.search_core.specs.declared.board.Taken.TheVariants.{Node as TakenNode}
use Rattle.search_core.specs.declared.board.Shutting.TheVariants.{DiskFault as ShutByDiskFault, Full as ShutByFull}
use Rattle.search_core.specs.declared.board.CommitFault.TheVariants.{NoMemory}
use Rattle.search_core.specs.Calls.AreCalls.{none, one_more}
use Rattle.search_core.specs.Calls.IsCall.{a_commit, a_refusal, a_take, a_yield}
use Rattle.search_core.proofs.Closed.{closed_now, is_closed, is_there, node_is, node_not, some_node, step_keeps}
use Rattle.search_core.proofs.Counts.{passing, passing_grows, passing_more, passing_most}
use Rattle.search_core.proofs.FewNodes.{few_nodes, sum_set}
use Rattle.search_core.proofs.Outlines.{book_is}
use Rattle.search_core.proofs.Runs.{front_folds, hand_some}

-- ---- hands that hold a node

abbrev fill : Option ℕ → ℕ
fill h = cond (is_some h) 1 0

set_fills : (hands : List (Option ℕ)) (w : ℕ) (old new : Option ℕ) → slice_get hands w ≡ Some old → full_hands (set hands w new) + fill old ≡ full_hands hands + fill new
set_fills hands w old new at = sum_set fill hands w old new at

empty_at : (hands : List (Option ℕ)) (w : ℕ) → w < length hands → hand hands w ≡ None → slice_get hands w ≡ Some None
empty_at hands w low empty =
    let at : slice_get hands w ≡ Some (get_or hands w None) = slice_get-get_or hands w None low in
    let is : hand hands w ≡ get_or hands w None = ap (option_and_then (λ (h : Option ℕ). h)) at in
    at ∙ ap Some (sym is ∙ empty)

take_fills : (hands : List (Option ℕ)) (w k : ℕ) → w < length hands → hand hands w ≡ None → full_hands (set hands w (Some k)) ≡ full_hands hands + 1
take_fills hands w k low empty =
    let e : full_hands (set hands w (Some k)) + 0 ≡ full_hands hands + 1 = set_fills hands w None (Some k) (empty_at hands w low empty) in
    omega arith

commit_fills : (hands : List (Option ℕ)) (w x : ℕ) → hand hands w ≡ Some x → full_hands (set hands w None) + 1 ≡ full_hands hands
commit_fills hands w x held =
    let e : full_hands (set hands w None) + 1 ≡ full_hands hands + 0 = set_fills hands w (Some x) None (hand_some hands w x held) in
    omega arith

yield_fills : (hands : List (Option ℕ)) (w : ℕ) → w < length hands → full_hands (set hands w None) ≤ full_hands hands
yield_fills hands w low =
    let h : Option ℕ = get_or hands w None in
    let e : full_hands (set hands w None) + fill h ≡ full_hands hands + 0 = set_fills hands w h None (slice_get-get_or hands w None low) in
    omega arith

-- ---- nodes that are in a hand

is_the_node : (j : ℕ) (h : Option ℕ) → is_node j h ≡ true → h ≡ Some j
is_the_node j None e = absurd (false≢true e)
is_the_node j (Some x) e = ap Some (eqb-true x j e)

any_set_other : (hands : List (Option ℕ)) (w j : ℕ) (h : Option ℕ) → list_any (is_node j) hands ≡ true → (hand hands w ≡ Some j) ⊎ (list_any (is_node j) (set hands w h) ≡ true)
any_set_other [] w j h e = absurd (false≢true e)
any_set_other (z ∷ hands) zero j h e =
    elim (or_cases (is_node j z) (list_any (is_node j) hands) e) [
      | inl here ↦ inl (is_the_node j z here)
      | inr rest ↦ inr (or_right (is_node j h) (list_any (is_node j) hands) rest)
    ]
any_set_other (z ∷ hands) (suc w) j h e =
    elim (or_cases (is_node j z) (list_any (is_node j) hands) e) [
      | inl here ↦ inr (or_left (is_node j z) (list_any (is_node j) (set hands w h)) here)
      | inr rest ↦ elim (any_set_other hands w j h rest) [ inl a ↦ inl a | inr b ↦ inr (or_right (is_node j z) (list_any (is_node j) (set hands w h)) b) ]
    ]

any_set_here : (hands : List (Option ℕ)) (w k : ℕ) → w < length hands → list_any (is_node k) (set hands w (Some k)) ≡ true
any_set_here [] w k low = absurd (omega arith)
any_set_here (z ∷ hands) zero k low = or_left (is_node k (Some k)) (list_any (is_node k) hands) (eq-eqb k k refl)
any_set_here (z ∷ hands) (suc w) k low = or_right (is_node k z) (list_any (is_node k) (set hands w (Some k))) (any_set_here hands w k (let l : w < length hands = omega arith in l))

-- ---- nodes that steps have used

-- whether a node is there and not open, or in a hand
abbrev pub is_used : Book → List (Option ℕ) → ℕ → Bool
is_used b hands j = is_closed b j || list_any (is_node j) hands

-- a node of a book is one of those that are enough
pub nodes_within : (i : Problem) (posts : List Post) (b : Book) (k : ℕ) (n : Node) → book_of i posts ≡ Some b → slice_get b.nodes k ≡ Some n → k < steps_enough i
nodes_within i posts b k n folds at =
    let few : length b.nodes + 1 ≤ 2 * 2 ^ span i [] = few_nodes i posts b folds in
    let low : k < length b.nodes = slice_get_within b.nodes k n at in
    let twice : 2 ^ (span i [] + 1) ≡ 2 ^ span i [] * 2 = ap (λ m. 2 ^ m) (let e : span i [] + 1 ≡ suc (span i []) = omega arith in e) ∙ pow-suc 2 (span i []) in
    let e : k < 2 ^ (span i [] + 1) - 1 = omega arith in e

-- what calls leave: the steps taken are few, each used a node while the board isn't halted, and they are the commits and the
-- full hands
pub record Counts (i : Problem) (v : BoardView) (commits : ℕ) : Type 0 where
  pub root : v.instance ≡ i
  pub most : v.taken ≤ steps_enough i
  pub used : v.halted ≡ false → v.taken ≤ passing (is_used (book_at v) v.hands) (steps_enough i)
  pub within : commits + full_hands v.hands ≤ v.taken
  pub exact : v.halted ≡ false → commits + full_hands v.hands ≡ v.taken

-- ---- a take of a node

module _ (i : Problem) (v : BoardView) (commits w k floor best : ℕ) (c : Counts i v commits) (s : IsSoundBoard v) (low : w < 16) (empty : hand v.hands w ≡ None) (new : BoardView) (m : TakeMakes (TakenNode k floor best) w v new) where
  abbrev hands : List (Option ℕ)
  hands = set v.hands w (Some k)

  below : w < length v.hands
  below = let e = s.sixteen in omega arith

  at : book_at v ≡ s.book
  at = book_is v.instance v.history s.book s.folds

  take_grows : (j : ℕ) → is_used (book_at v) v.hands j ≡ true → is_used (book_at v) hands j ≡ true
  take_grows j e =
      elim (or_cases (is_closed (book_at v) j) (list_any (is_node j) v.hands) e) [
        | inl shut ↦ or_left (is_closed (book_at v) j) (list_any (is_node j) hands) shut
        | inr held ↦ elim (any_set_other v.hands w j (Some k) held) [
          | inl here ↦ let e : Some j ≡ None = sym here ∙ empty in absurd (cc (e))
          | inr more ↦ or_right (is_closed (book_at v) j) (list_any (is_node j) hands) more
        ]
      ]

  take_uses : passing (is_used (book_at v) v.hands) (steps_enough i) + 1 ≤ passing (is_used (book_at v) hands) (steps_enough i)
  take_uses =
      let free = and_parts (is_node_and (book_at v) k (is_open (book_at v))) (not (list_any (is_node k) v.hands)) m.1.free in
      let found = some_node (is_open (book_at v)) (slice_get (book_at v).nodes k) free.0 in
      let folds : book_of i v.history ≡ Some (book_at v) = ap (λ (p : Problem). book_of p v.history) (sym c.root) ∙ s.folds ∙ ap Some (sym at) in
      let there : k < steps_enough i = nodes_within i v.history (book_at v) k found.0 folds found.1 in
      let opened : is_closed (book_at v) k ≡ false = node_not (λ (n : Node). not (is_open (book_at v) n)) (slice_get (book_at v).nodes k) found.0 found.1 (ap not found.2) in
      let before : is_used (book_at v) v.hands k ≡ false = or_from (is_closed (book_at v) k) (list_any (is_node k) v.hands) opened (not-true (list_any (is_node k) v.hands) free.1) in
      let after : is_used (book_at v) hands k ≡ true = or_right (is_closed (book_at v) k) (list_any (is_node k) hands) (any_set_here v.hands w k below) in
      passing_more (is_used (book_at v) v.hands) (is_used (book_at v) hands) (steps_enough i) k take_grows there before after

  take_counts : Counts i new commits
  take_counts =
      let going : v.halted ≡ false = m.0.going in
      let old : v.taken ≤ passing (is_used (book_at v) v.hands) (steps_enough i) = c.used going in
      let most : passing (is_used (book_at v) hands) (steps_enough i) ≤ steps_enough i = passing_most (is_used (book_at v) hands) (steps_enough i) in
      let uses = take_uses in
      let full : full_hands hands ≡ full_hands v.hands + 1 = take_fills v.hands w k below empty in
      let all : commits + full_hands v.hands ≡ v.taken = c.exact going in
      let next : BoardView = record v { hands = hands; taken = v.taken + 1 } in
      let counts : Counts i next commits = record {
        root = c.root;
        most = let e : v.taken + 1 ≤ steps_enough i = omega arith in e;
        used = λ same. let e : v.taken + 1 ≤ passing (is_used (book_at v) hands) (steps_enough i) = omega arith in e;
        within = let e : commits + full_hands hands ≤ v.taken + 1 = omega arith in e;
        exact = λ same. let e : commits + full_hands hands ≡ v.taken + 1 = omega arith in e;
      } in
      subst (λ (u : BoardView). Counts i u commits) (sym m.4) counts

any_take : (i : Problem) (v new : BoardView) (commits w : ℕ) (answer : Taken) → Counts i v commits → IsSoundBoard v → w < 16 → hand v.hands w ≡ None → TakeMakes answer w v new → Counts i new commits
any_take i v new commits w Closed c s low empty m = subst (λ (u : BoardView). Counts i u commits) (sym m.1) c
any_take i v new commits w Finished c s low empty m = subst (λ (u : BoardView). Counts i u commits) (sym m.2) c
any_take i v new commits w Halted c s low empty m = subst (λ (u : BoardView). Counts i u commits) (sym m.3) c
any_take i v new commits w Spent c s low empty m = subst (λ (u : BoardView). Counts i u commits) (sym m.4) c
any_take i v new commits w (TakenNode k floor best) c s low empty m = take_counts i v commits w k floor best c s low empty new m
any_take i v new commits w Idle c s low empty m = subst (λ (u : BoardView). Counts i u commits) (sym m.2) c

-- ---- a commit

module _ (i : Problem) (v new : BoardView) (commits w : ℕ) (step : StepPosts) (kept : Kept) (c : Counts i v commits) (s : IsSoundBoard v) (t : IsSoundBoard new) (m : Commits w step v new kept) where
  abbrev posts : List Post
  posts = posts_at v w step

  abbrev emptied : List (Option ℕ)
  emptied = set v.hands w None

  folds_after : book_of v.instance (v.history ++ posts) ≡ Some t.book
  folds_after =
      subst (λ (l : List Post). book_of v.instance l ≡ Some t.book) (ap (λ (u : BoardView). u.history) m.makes)
      (subst (λ (j : Problem). book_of j new.history ≡ Some t.book) (ap (λ (u : BoardView). u.instance) m.makes) t.folds)

  after : book_after v.instance (book_at v) posts ≡ Some t.book
  after =
      let front = front_folds v.instance v.history posts t.book folds_after in
      subst (λ (b : Book). book_after v.instance b posts ≡ Some t.book) (sym (book_is v.instance v.history front.0 front.1)) front.2

  still : is_closed t.book step.node ≡ true
  still =
      let before : book_at v ≡ s.book = book_is v.instance v.history s.book s.folds in
      let held : is_node_and (book_at v) step.node (λ n. not n.split) ≡ true = subst (λ (b : Book). is_node_and b step.node (λ n. not n.split) ≡ true) (sym before) (s.hands.unsplit w step.node m.holds.held) in
      let found = some_node (λ (n : Node). not n.split) (slice_get (book_at v).nodes step.node) held in
      let there : is_there (book_at v) step.node ≡ true = node_is (λ (n : Node). true) (slice_get (book_at v).nodes step.node) found.0 found.1 refl in
      let keeps = step_keeps v.instance (book_at v) t.book w step after step.node in
      let new_at : book_at new ≡ t.book = book_is new.instance new.history t.book t.folds in
      let shut : is_node_and t.book step.node (is_open t.book) ≡ false = subst (λ (b : Book). is_node_and b step.node (is_open b) ≡ false) new_at m.closed in
      closed_now t.book step.node shut (keeps.1 there)

  commit_grows : (j : ℕ) → is_used (book_at v) v.hands j ≡ true → is_used t.book emptied j ≡ true
  commit_grows j e =
      elim (or_cases (is_closed (book_at v) j) (list_any (is_node j) v.hands) e) [
        | inl shut ↦ or_left (is_closed t.book j) (list_any (is_node j) emptied) ((step_keeps v.instance (book_at v) t.book w step after j).0 shut)
        | inr held ↦ elim (any_set_other v.hands w j None held) [
          | inl here ↦
              let both : Some step.node ≡ Some j = sym m.holds.held ∙ here in
              let same : step.node ≡ j = cc (both) in
              or_left (is_closed t.book j) (list_any (is_node j) emptied) (subst (λ x. is_closed t.book x ≡ true) same still)
          | inr more ↦ or_right (is_closed t.book j) (list_any (is_node j) emptied) more
        ]
      ]

  commit_counts : Counts i new (commits + 1)
  commit_counts =
      let grows : passing (is_used (book_at v) v.hands) (steps_enough i) ≤ passing (is_used t.book emptied) (steps_enough i) = passing_grows (is_used (book_at v) v.hands) (is_used t.book emptied) (steps_enough i) commit_grows in
      let full : full_hands emptied + 1 ≡ full_hands v.hands = commit_fills v.hands w step.node m.holds.held in
      let all : commits + full_hands v.hands ≤ v.taken = c.within in
      let next : BoardView = record v { history = v.history ++ posts; batches = v.batches ++ batches_of posts; used = v.used + bytes_of posts; hands = emptied } in
      let next_at : book_at next ≡ t.book = book_is v.instance (v.history ++ posts) t.book folds_after in
      let counts : Counts i next (commits + 1) = record {
        root = c.root;
        most = c.most;
        used = λ going.
            let old : v.taken ≤ passing (is_used (book_at v) v.hands) (steps_enough i) = c.used going in
            let e : v.taken ≤ passing (is_used t.book emptied) (steps_enough i) = omega arith in
            subst (λ (b : Book). v.taken ≤ passing (is_used b emptied) (steps_enough i)) (sym next_at) e;
        within = let e : commits + 1 + full_hands emptied ≤ v.taken = omega arith in e;
        exact = λ going.
            let each : commits + full_hands v.hands ≡ v.taken = c.exact going in
            let e : commits + 1 + full_hands emptied ≡ v.taken = omega arith in e;
      } in
      subst (λ (u : BoardView). Counts i u (commits + 1)) (sym m.makes) counts

-- ---- the other calls

shut_counts : (i : Problem) (v new : BoardView) (commits : ℕ) (step : StepPosts) (w : ℕ) (fault : CommitFault) → Counts i v commits → CommitRefuses w step v new fault → Counts i new commits
shut_counts i v new commits step w DiskFault c m =
    let next : BoardView = record v { shut = Some ShutByDiskFault } in
    let counts : Counts i next commits = record { root = c.root; most = c.most; used = c.used; within = c.within; exact = c.exact } in
    subst (λ (u : BoardView). Counts i u commits) (sym m.1) counts
shut_counts i v new commits step w (Full end limit) c m =
    let next : BoardView = record v { shut = Some (ShutByFull end limit); unfit = posts_at v w step } in
    let counts : Counts i next commits = record { root = c.root; most = c.most; used = c.used; within = c.within; exact = c.exact } in
    subst (λ (u : BoardView). Counts i u commits) (sym m.4) counts
shut_counts i v new commits step w (NotHeld held) c m = subst (λ (u : BoardView). Counts i u commits) (sym m.3) c
shut_counts i v new commits step w Shut c m = subst (λ (u : BoardView). Counts i u commits) (sym m.1) c
shut_counts i v new commits step w (NotClosing floor best back) c m = subst (λ (u : BoardView). Counts i u commits) (sym m.6) c
shut_counts i v new commits step w (OtherCuts place) c m = subst (λ (u : BoardView). Counts i u commits) (sym m.3) c
shut_counts i v new commits step w NoMemory c m = subst (λ (u : BoardView). Counts i u commits) (sym m) c

yield_counts : (i : Problem) (v new : BoardView) (commits w : ℕ) → Counts i v commits → IsSoundBoard v → w < 16 → new ≡ yields w v → Counts i new commits
yield_counts i v new commits w c s low m =
    let below : w < length v.hands = let e = s.sixteen in omega arith in
    let fewer : full_hands (set v.hands w None) ≤ full_hands v.hands = yield_fills v.hands w below in
    let all : commits + full_hands v.hands ≤ v.taken = c.within in
    let counts : Counts i (yields w v) commits = record {
      root = c.root;
      most = c.most;
      used = λ going. absurd (false≢true (sym going));
      within = let e : commits + full_hands (set v.hands w None) ≤ v.taken = omega arith in e;
      exact = λ going. absurd (false≢true (sym going));
    } in
    subst (λ (u : BoardView). Counts i u commits) (sym m) counts

as_many : (i : Problem) (v : BoardView) (commits : ℕ) → Counts i v commits → Counts i v (commits + 0)
as_many i v commits c = subst (λ (n : ℕ). Counts i v n) (let e : commits ≡ commits + 0 = omega arith in e) c

call_counts : (i : Problem) (v new : BoardView) (before more : ℕ) → Counts i v before → IsSoundBoard v → IsSoundBoard new → IsCall v new more → Counts i new (before + more)
call_counts i v new before more c s t (a_take w answer low empty m) = as_many i new before (any_take i v new before w answer c s low empty m)
call_counts i v new before more c s t (a_commit w step kept m) = commit_counts i v new before w step kept c s t m
call_counts i v new before more c s t (a_refusal w step fault m) = as_many i new before (shut_counts i v new before step w fault c m)
call_counts i v new before more c s t (a_yield w low m) = as_many i new before (yield_counts i v new before w c s low m)

-- ---- calls one after another

fresh_counts : (v : BoardView) → IsFresh v → Counts v.instance v 0
fresh_counts v f =
    let nothing : full_hands v.hands ≡ 0 = ap full_hands f.empty in
    let start = f.none_taken in
    record {
      root = refl;
      most = let e : v.taken ≤ steps_enough v.instance = omega arith in e;
      used = λ going. let e : v.taken ≤ passing (is_used (book_at v) v.hands) (steps_enough v.instance) = omega arith in e;
      within = omega arith;
      exact = λ going. omega arith;
    }

pub calls_count : (old new : BoardView) (commits : ℕ) → IsFresh old → AreCalls old new commits → Counts old.instance new commits × IsSoundBoard new
calls_count old new commits f none = (fresh_counts old f, f.sound)
calls_count old new commits f (one_more mid next before more calls call sound) =
    let r = calls_count old mid before f calls in
    (call_counts old.instance mid new before more r.0 r.1 sound call, sound)

pub calls_within : (old new : BoardView) (commits : ℕ) → IsFresh old → AreCalls old new commits → commits + full_hands new.hands ≤ new.taken
calls_within old new commits f calls = (calls_count old new commits f calls).0.within

pub calls_exact : (old new : BoardView) (commits : ℕ) → IsFresh old → AreCalls old new commits → new.halted ≡ false → commits + full_hands new.hands ≡ new.taken
calls_exact old new commits f calls going = (calls_count old new commits f calls).0.exact going

pub calls_enough : (old new : BoardView) (commits : ℕ) → IsFresh old → AreCalls old new commits → new.taken ≤ steps_enough old.instance
calls_enough old new commits f calls = (calls_count old new commits f calls).0.most
