-- A board's takes, commits and yields are events of its core; what else it answers leaves the core.
use Rattle.search_core.proofs.Common.{◌≡◌, inl, inr, ℕ, ◌<◌, Bool, true, false, cond, ◌&&◌, ◌==◌, not, List, [], ◌∷◌, ◌++◌, length, set, refl, sym, ap, ◌∙◌, subst, nat_lt, Option, Some, None, eq-eqb, is_none, option_map_or, list_all, list_any, and_parts, and_from, lt-ltb, Problem, Costing, Post, Plan, Priced, Split, Settled, Kept, Taken, Closed, Finished, Halted, Spent, Idle, CommitFault, DiskFault, Full, NotHeld, Shut, NotClosing, OtherCuts, Take, Commit, Yield, StepPosts, Close, ByPrice, BoardView, book_at, core_of, is_free, posts_at, yields, Commits, CommitRefuses, IsSoundBoard, TakeMakes, Book, book_after, book_of, is_node_and, is_open, opening, gives_node, hand, happens, is_node, is_of, may_commit, may_take, HoldsApart, book_or_opening, after_step, book_then, close_posts, plan_of, plan_posts, posts_of, where_open}
use Rattle.search_core.specs.declared.step_posts.Close.TheVariants.{Split as CloseBySplit, Settled as CloseAsSettled}
use Rattle.std.proofs.lemmas.List.Folds.{list_all-append}
use Rattle.search_core.specs.declared.board.Taken.TheVariants.{Node}
use Rattle.search_core.specs.declared.board.CommitFault.TheVariants.{NoMemory}
use Rattle.search_core.proofs.Runs.{dropped, hand_set, posts_keep}

-- ---- the posts of a step are its worker's, for its node

abbrev are_of : ℕ → ℕ → List Post → Bool
are_of w x posts = list_all (is_of w x) posts

both_of : (w x : ℕ) (xs ys : List Post) → are_of w x xs ≡ true → are_of w x ys ≡ true → are_of w x (xs ++ ys) ≡ true
both_of w x xs ys h k = list_all-append (is_of w x) xs ys ∙ and_from (are_of w x xs) (are_of w x ys) h k

one_of : (w x : ℕ) (post : Post) (t : Bool) → is_of w x post ≡ true → are_of w x (cond t (post ∷ []) []) ≡ true
one_of w x post true h = and_from (is_of w x post) true h refl
one_of w x post false h = refl

own_node : (w x : ℕ) → ((w == w) && (x == x)) ≡ true
own_node w x = and_from (w == w) (x == x) (eq-eqb w w refl) (eq-eqb x x refl)

plan_of_worker : (w x : ℕ) (plan : Option Costing) (b : Book) → are_of w x (plan_posts w plan b) ≡ true
plan_of_worker w x None b = refl
plan_of_worker w x (Some p) b = one_of w x (Plan w p.rows p.cost) (nat_lt p.cost b.cost) (eq-eqb w w refl)

close_of_worker : (w x : ℕ) (close : Close) (b : Book) → are_of w x (close_posts w x close b) ≡ true
close_of_worker w x ByPrice b = refl
close_of_worker w x (CloseBySplit class m) b = one_of w x (Split w x class m) (is_node_and b x (is_open b)) (own_node w x)
close_of_worker w x (CloseAsSettled node) b = one_of w x (Settled w x) (is_node_and b x (is_open b)) (own_node w x)

pub step_of_worker : (i : Problem) (b : Book) (w : ℕ) (step : StepPosts) → are_of w step.node (posts_of i b w step) ≡ true
step_of_worker i b w step =
    let x = step.node in
    let first : List Post = plan_posts w step.plan b in
    let second : List Post = plan_posts w (plan_of step.close) (book_then i b first) in
    let plans : List Post = first ++ second in
    let after : Book = book_then i b plans in
    let third : List Post = where_open x (Priced w x step.proved.prices) after in
    let open_posts : List Post = plans ++ third in
    let last : Book = book_then i b open_posts in
    let h = both_of w x first second (plan_of_worker w x step.plan b) (plan_of_worker w x (plan_of step.close) (book_then i b first)) in
    let k = both_of w x plans third h (one_of w x (Priced w x step.proved.prices) (is_node_and after x (is_open after)) (own_node w x)) in
    both_of w x open_posts (close_posts w x step.close last) k (close_of_worker w x step.close last)

-- ---- events

folded : (v : BoardView) (b : Book) → book_of v.instance v.history ≡ Some b → book_at v ≡ b
unfolding book_or_opening
folded v b e = ap (λ (o : Option Book). option_map_or (λ (b : Book). b) o (opening v.instance)) e

pub take_happens : (old new : BoardView) (acked w k floor best : ℕ) → IsSoundBoard old → w < 16 → hand old.hands w ≡ None → TakeMakes (Node k floor best) w old new
    → happens old.instance (core_of acked old) (Take w k) ≡ Some (core_of (length old.history) new)
take_happens old new acked w k floor best s low empty m =
    let i = old.instance in
    let free : is_free s.book old.hands k ≡ true = subst (λ (b : Book). is_free b old.hands k ≡ true) (folded old s.book s.folds) m.1.free in
    let p = and_parts (is_node_and s.book k (is_open s.book)) (not (list_any (is_node k) old.hands)) free in
    let idle : nat_lt w 16 && is_none (hand old.hands w) ≡ true = and_from (nat_lt w 16) (is_none (hand old.hands w)) (lt-ltb w 16 low) (ap is_none empty) in
    let opens : Option Book → Bool = λ o. option_map_or (λ (b : Book). is_node_and b k (is_open b)) o false in
    let there : opens (book_of i old.history) ≡ true = ap opens s.folds ∙ p.0 in
    let may : may_take i (core_of acked old) w k ≡ true = and_from _ _ (and_from _ _ idle there) p.1 in
    ap (λ (t : Bool). cond t (Some (record { history = old.history; acked = length old.history; hands = set old.hands w (Some k) })) None) may
    ∙ ap (λ (v : BoardView). Some (core_of (length old.history) v)) (sym m.4)

pub commit_happens : (old new : BoardView) (acked w : ℕ) (step : StepPosts) (kept : Kept) → IsSoundBoard new → Commits w step old new kept
    → happens old.instance (core_of acked old) (Commit w (posts_at old w step)) ≡ Some (core_of (length old.history) new)
commit_happens old new acked w step kept s m =
    let i = old.instance in
    let posts = posts_at old w step in
    let same : new.instance ≡ i = ap (λ (v : BoardView). v.instance) m.makes in
    let history : new.history ≡ old.history ++ posts = ap (λ (v : BoardView). v.history) m.makes in
    let folds : book_of i (old.history ++ posts) ≡ Some s.book = subst (λ (l : List Post). book_of i l ≡ Some s.book) history (subst (λ (j : Problem). book_of j new.history ≡ Some s.book) same s.folds) in
    let closed : is_node_and s.book step.node (is_open s.book) ≡ false = subst (λ (b : Book). is_node_and b step.node (is_open b) ≡ false) (folded new s.book s.folds) m.closed in
    let closes : Option Book → Bool = λ o. option_map_or (λ (b : Book). not (is_node_and b step.node (is_open b))) o false in
    let shut : closes (book_of i (old.history ++ posts)) ≡ true = ap closes folds ∙ ap not closed in
    let may : may_commit i (core_of acked old) w posts step.node ≡ true = and_from (are_of w step.node posts) (closes (book_of i (old.history ++ posts))) (step_of_worker i (book_at old) w step) shut in
    let held : option_map_or (may_commit i (core_of acked old) w posts) (hand old.hands w) false ≡ true = ap (λ (h : Option ℕ). option_map_or (may_commit i (core_of acked old) w posts) h false) m.holds.held ∙ may in
    ap (λ (t : Bool). cond t (Some (record { history = old.history ++ posts; acked = length old.history; hands = set old.hands w None })) None) held
    ∙ ap (λ (v : BoardView). Some (core_of (length old.history) v)) (sym m.makes)

pub yield_happens : (old new : BoardView) (acked w : ℕ) → w < 16 → new ≡ yields w old → happens old.instance (core_of acked old) (Yield w) ≡ Some (core_of (length old.history) new)
yield_happens old new acked w low is =
    ap (λ (t : Bool). cond t (Some (record { history = old.history; acked = length old.history; hands = set old.hands w None })) None) (lt-ltb w 16 low)
    ∙ ap (λ (v : BoardView). Some (core_of (length old.history) v)) (sym is)

-- ---- answers that leave posts and hands

pub take_leaves : (old new : BoardView) (acked w : ℕ) (answer : Taken) → gives_node answer ≡ false → TakeMakes answer w old new → core_of acked new ≡ core_of acked old
take_leaves old new acked w Closed less m = ap (λ (v : BoardView). core_of acked v) m.1
take_leaves old new acked w Finished less m = ap (λ (v : BoardView). core_of acked v) m.2
take_leaves old new acked w Halted less m = ap (λ (v : BoardView). core_of acked v) m.3
take_leaves old new acked w Spent less m = ap (λ (v : BoardView). core_of acked v) m.4
take_leaves old new acked w (Node k floor best) less m = absurd (cc (less))
take_leaves old new acked w Idle less m = ap (λ (v : BoardView). core_of acked v) m.2

pub refusal_leaves : (old new : BoardView) (acked w : ℕ) (step : StepPosts) (fault : CommitFault) → CommitRefuses w step old new fault → core_of acked new ≡ core_of acked old
refusal_leaves old new acked w step DiskFault m = ap (λ (v : BoardView). core_of acked v) m.1
refusal_leaves old new acked w step (Full end limit) m = ap (λ (v : BoardView). core_of acked v) m.4
refusal_leaves old new acked w step (NotHeld held) m = ap (λ (v : BoardView). core_of acked v) m.3
refusal_leaves old new acked w step Shut m = ap (λ (v : BoardView). core_of acked v) m.1
refusal_leaves old new acked w step (NotClosing floor best back) m = ap (λ (v : BoardView). core_of acked v) m.6
refusal_leaves old new acked w step (OtherCuts at) m = ap (λ (v : BoardView). core_of acked v) m.3
refusal_leaves old new acked w step NoMemory m = ap (λ (v : BoardView). core_of acked v) m

-- ---- the posts of a commit

pub commit_of_worker : (old new : BoardView) (w : ℕ) (step : StepPosts) (kept : Kept) → Commits w step old new kept → (posts : List Post) × (new.history ≡ old.history ++ posts) × (list_all (is_of w step.node) posts ≡ true)
commit_of_worker old new w step kept m = (posts_at old w step, ap (λ (v : BoardView). v.history) m.makes, step_of_worker old.instance (book_at old) w step)

-- ---- what the other hands hold after posts

pub others_held : (i : Problem) (b c : Book) (hands : List (Option ℕ)) (w x : ℕ) (posts : List Post) → HoldsApart b hands → hand hands w ≡ Some x → list_all (is_of w x) posts ≡ true → book_after i b posts ≡ Some c
    → HoldsApart c (set hands w None)
others_held i b c hands w x posts h held own e =
    let left = dropped b hands w h in
    record {
      distinct = left.distinct;
      unsplit = λ v y q.
          elim (hand_set hands w v None y q) [
            | inl a ↦ absurd (cc (a.1))
            | inr a ↦ posts_keep i b c posts w x y own (λ z. a.0 (h.distinct v w x (subst (λ n. hand hands v ≡ Some n) z a.1) held)) e (h.unsplit v y a.1)
          ];
    }

pub others_held_after : (i : Problem) (b : Book) (hands : List (Option ℕ)) (w : ℕ) (step : StepPosts) → HoldsApart b hands → hand hands w ≡ Some step.node → HoldsApart (after_step i b w step) (set hands w None)
others_held_after i b hands w step h held = at (book_after i b (posts_of i b w step)) refl
  where
    at : (o : Option Book) → book_after i b (posts_of i b w step) ≡ o → HoldsApart (option_map_or (λ (c : Book). c) o b) (set hands w None)
    at None e = dropped b hands w h
    at (Some c) e = others_held i b c hands w step.node (posts_of i b w step) h held (step_of_worker i b w step) e
