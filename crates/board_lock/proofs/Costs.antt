-- What the best rota costs, before and after a call.
use Rattle.board_lock.proofs.Common.{◌≡◌, ℕ, ◌+◌, ◌<◌, ◌≤◌, ◌&&◌, ◌==◌, List, [], ◌∷◌, ◌++◌, length, ap, ◌∙◌, refl, subst, arith, nat_lt, Option, Some, and_parts, ltb-true, length-append, Problem, Post, Plan, Priced, Split, Settled, StepPosts, Kept, Taken, Closed, Finished, Halted, Spent, Node, Idle, CommitFault, DiskFault, Full, NotHeld, Shut, NotClosing, OtherCuts, NoMemory, book_at, posts_at, BoardView, Commits, CommitRefuses, IsSoundBoard, TakeMakes, book_after, book_of, divided, is_better, priced, settled, step, Book, book_is, front_folds, at_node_some, bind_some, cond_some, last_behind, last_of, Follows}
use Rattle.shift_instance.specs.Rota.{are_legal_rows, cost, rota_of}
use Rattle.board_lock.specs.Best.{best_of}

-- no post raises the cost of the best rota
step_cost : (i : Problem) (b c : Book) (post : Post) → step i b post ≡ Some c → c.cost ≤ b.cost
step_cost i b c (Plan worker rows n) e =
    let r = cond_some (is_better i b rows n) (record b { best = rows; cost = n }) c e in
    let p = and_parts (are_legal_rows i rows && (cost i (rota_of rows) == n)) (nat_lt n b.cost) r.0 in
    let less : n < b.cost = ltb-true n b.cost p.1 in
    let low : n ≤ b.cost = omega arith in
    subst (λ (d : Book). d.cost ≤ b.cost) r.1 low
step_cost i b c (Priced worker k prices) e = let same : b.cost ≡ c.cost = ap (λ (d : Book). d.cost) (at_node_some b c k (priced i b k prices) e).4 in omega arith
step_cost i b c (Split worker k class m) e = let same : b.cost ≡ c.cost = ap (λ (d : Book). d.cost) (at_node_some b c k (divided i b k class m) e).4 in omega arith
step_cost i b c (Settled worker k) e = let same : b.cost ≡ c.cost = ap (λ (d : Book). d.cost) (at_node_some b c k (settled i b k) e).4 in omega arith

after_cost : (i : Problem) (b c : Book) (posts : List Post) → book_after i b posts ≡ Some c → c.cost ≤ b.cost
after_cost i b c [] e = let same : b ≡ c = cc (e) in let cost : b.cost ≡ c.cost = ap (λ (d : Book). d.cost) same in omega arith
after_cost i b c (post ∷ posts) e =
    let r = bind_some (λ (next : Book). book_after i next posts) (step i b post) c e in
    let one : r.0.cost ≤ b.cost = step_cost i b r.0 post r.1 in
    let rest : c.cost ≤ r.0.cost = after_cost i r.0 c posts r.2 in
    omega arith

-- after a commit there are no fewer posts, and the best rota costs no more
pub best_follows : (w : ℕ) (step : StepPosts) (kept : Kept) (old new : BoardView) → IsSoundBoard new → Commits w step old new kept → Follows (best_of old) (best_of new)
best_follows w step kept old new s m =
    let i : Problem = old.instance in
    let posts : List Post = posts_at old w step in
    let history : new.history ≡ old.history ++ posts = ap (λ (v : BoardView). v.history) m.makes in
    let same : new.instance ≡ i = ap (λ (v : BoardView). v.instance) m.makes in
    let folds : book_of i (old.history ++ posts) ≡ Some s.book = subst (λ (h : List Post). book_of i h ≡ Some s.book) history (subst (λ (j : Problem). book_of j new.history ≡ Some s.book) same s.folds) in
    let f = front_folds i old.history posts s.book folds in
    let before : (book_at old).cost ≡ f.0.cost = ap (λ (b : Book). b.cost) (book_is i old.history f.0 f.1) in
    let after : (book_at new).cost ≡ s.book.cost = ap (λ (b : Book). b.cost) (book_is new.instance new.history s.book s.folds) in
    let less : s.book.cost ≤ f.0.cost = after_cost i f.0 s.book posts f.2 in
    let long : length new.history ≡ length old.history + length posts = ap (λ (h : List Post). length h) history ∙ length-append old.history posts in
    (omega arith, omega arith)

-- ---- the pair that was told last

last_behind_push : (p : ℕ × ℕ) (xs : List (ℕ × ℕ)) (q : ℕ × ℕ) → last_behind p (xs ++ q ∷ []) ≡ q
last_behind_push p [] q = refl
last_behind_push p (x ∷ xs) q = last_behind_push x xs q

pub last_push : (xs : List (ℕ × ℕ)) (q : ℕ × ℕ) → last_of (xs ++ q ∷ []) ≡ q
last_push [] q = refl
last_push (x ∷ xs) q = last_behind_push x xs q
