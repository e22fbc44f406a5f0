-- What rounds leave: the posts of the board begin with the old ones, each round has posted a plan or prices, and each has closed a node.
use Rattle.worker_gate.proofs.Common.{◌≡◌, ℕ, suc, ◌+◌, ◌<◌, ◌≤◌, Bool, true, false, ◌&&◌, not, List, [], ◌∷◌, ◌++◌, length, drop, refl, sym, ap, ◌∙◌, subst, arith, Option, Some, inl, inr, slice_get, count_by, list_all, list_any, and_parts, and_from, cases_Bool, false≢true, Problem, Node, Post, BoardView, book_at, posts_at, NoneIsFree, Book, book_after, book_of, is_finished, is_node_and, is_open, steps_enough, empty_hands, is_node, IsFront, posts_of, closed_now, is_closed, is_there, node_is, node_not, some_node, step_keeps, nodes_within, passing, passing_less, passing_more, passing_most, book_is, front_folds, is_plan_or_prices, plans_and_prices_since, AreRounds, IsRound, none, one_more}
use Rattle.std.proofs.lemmas.List.{append-nil, append_assoc}
use Rattle.worker_gate.proofs.Counted.{counted_append, step_counts}

-- what that many rounds have made
pub record Made (i : Problem) (old new : BoardView) (rounds : ℕ) : Type 0 where
  root : new.instance ≡ i
  book : Book
  folds : book_of i new.history ≡ Some book
  rest : List Post
  posts : old.history ++ rest ≡ new.history
  counted : rounds ≤ count_by is_plan_or_prices rest
  closed : rounds ≤ passing (is_closed book) (steps_enough i)

one_book : {X : Type 0} {x y : X} → Some x ≡ Some y → x ≡ y
one_book e = cc (e)

round_made : (i : Problem) (old mid new : BoardView) (rounds : ℕ) → Made i old mid rounds → IsRound mid new → Made i old new (rounds + 1)
round_made i old mid new rounds m r =
    let b : Book = m.book in
    let held_root : r.held.instance ≡ i = ap (λ (v : BoardView). v.instance) r.makes.takes.4 ∙ m.root in
    let new_root : new.instance ≡ i = ap (λ (v : BoardView). v.instance) r.commits.makes ∙ held_root in
    let at : book_at mid ≡ b = book_is mid.instance mid.history b (ap (λ (j : Problem). book_of j mid.history) m.root ∙ m.folds) in
    let k : ℕ = r.makes.node in
    let posts : List Post = posts_at r.held 0 r.step in
    let held_history : r.held.history ≡ mid.history = ap (λ (v : BoardView). v.history) r.makes.takes.4 in
    let held_at : book_at r.held ≡ b = book_is r.held.instance r.held.history b (ap (λ (j : Problem). book_of j r.held.history) held_root ∙ ap (book_of i) held_history ∙ m.folds) in
    let history : new.history ≡ mid.history ++ posts_of i b 0 r.step =
    ap (λ (v : BoardView). v.history) r.commits.makes ∙ ap (λ (l : List Post). l ++ posts) held_history
    ∙ ap (λ (j : Problem). mid.history ++ posts_of j (book_at r.held) 0 r.step) held_root ∙ ap (λ (c : Book). mid.history ++ posts_of i c 0 r.step) held_at in
    let folds : book_of i new.history ≡ Some r.book = ap (λ (j : Problem). book_of j new.history) (sym new_root) ∙ r.folds in
    let front = front_folds i mid.history (posts_of i b 0 r.step) r.book (ap (book_of i) (sym history) ∙ folds) in
    let same_book : front.0 ≡ b = one_book (sym front.1 ∙ m.folds) in
    let after : book_after i b (posts_of i b 0 r.step) ≡ Some r.book = subst (λ (c : Book). book_after i c (posts_of i b 0 r.step) ≡ Some r.book) same_book front.2 in
    let free = (and_parts _ _ r.makes.takes.1.free).0 in
    let opened_k : is_node_and b k (is_open b) ≡ true = subst (λ (c : Book). is_node_and c k (is_open c) ≡ true) at free in
    let node : r.step.node ≡ k = r.makes.decides.node in
    let opened : is_node_and b r.step.node (is_open b) ≡ true = subst (λ j. is_node_and b j (is_open b) ≡ true) (sym node) opened_k in
    let found = some_node (is_open b) (slice_get b.nodes r.step.node) opened in
    let new_at : book_at new ≡ r.book = book_is new.instance new.history r.book r.folds in
    let not_open : is_node_and r.book r.step.node (is_open r.book) ≡ false = subst (λ (c : Book). is_node_and c r.step.node (is_open c) ≡ false) new_at r.commits.closed in
    let keeps = step_keeps i b r.book 0 r.step after in
    let there : is_there b r.step.node ≡ true = node_is (λ (n : Node). true) (slice_get b.nodes r.step.node) found.0 found.1 refl in
    let before : is_closed b r.step.node ≡ false = node_not (λ (n : Node). not (is_open b n)) (slice_get b.nodes r.step.node) found.0 found.1 (ap not found.2) in
    let still : is_closed r.book r.step.node ≡ true = closed_now r.book r.step.node not_open ((keeps r.step.node).1 there) in
    let more : passing (is_closed b) (steps_enough i) + 1 ≤ passing (is_closed r.book) (steps_enough i) =
    passing_more (is_closed b) (is_closed r.book) (steps_enough i) r.step.node (λ j. (keeps j).0) (nodes_within i mid.history b r.step.node found.0 m.folds found.1) before still in
    let one : 1 ≤ count_by is_plan_or_prices (posts_of i b 0 r.step) = step_counts i b 0 r.step opened in
    let a = m.counted in
    let c = m.closed in
    let sums : count_by is_plan_or_prices (m.rest ++ posts_of i b 0 r.step) ≡ count_by is_plan_or_prices m.rest + count_by is_plan_or_prices (posts_of i b 0 r.step) = counted_append m.rest (posts_of i b 0 r.step) in
    record {
      root = new_root;
      book = r.book;
      folds = folds;
      rest = m.rest ++ posts_of i b 0 r.step;
      posts = sym (append_assoc old.history m.rest (posts_of i b 0 r.step)) ∙ ap (λ (l : List Post). l ++ posts_of i b 0 r.step) m.posts ∙ sym history;
      counted = omega arith;
      closed = omega arith;
    }

pub rounds_made : (i : Problem) (old new : BoardView) (rounds : ℕ) (b : Book) → old.instance ≡ i → book_of i old.history ≡ Some b → AreRounds old new rounds → Made i old new rounds
rounds_made i old new rounds b root folds none = record { root = root; book = b; folds = folds; rest = []; posts = append-nil old.history; counted = omega arith; closed = omega arith }
rounds_made i old new rounds b root folds (one_more mid next n before r) = round_made i old mid new n (rounds_made i old mid n b root folds before) r

-- ---- what follows

pub begins : (i : Problem) (old new : BoardView) (rounds : ℕ) (history : List Post) → Made i old new rounds → history ≡ new.history → IsFront old.history history
begins i old new rounds history m same = (m.rest, m.posts ∙ sym same)

drop_front : {X : Type 0} (xs ys : List X) → drop (length xs) (xs ++ ys) ≡ ys
drop_front [] ys = refl
drop_front (x ∷ xs) ys = drop_front xs ys

pub counts : (i : Problem) (old new : BoardView) (rounds : ℕ) → Made i old new rounds → rounds ≤ plans_and_prices_since old.history new.history
counts i old new rounds m =
    let rest : m.rest ≡ drop (length old.history) new.history = sym (drop_front old.history m.rest) ∙ ap (drop (length old.history)) m.posts in
    subst (λ (l : List Post). rounds ≤ count_by is_plan_or_prices l) rest m.counted

some_open : (b : Book) (nodes : List Node) → list_all (λ n. not (is_open b n)) nodes ≡ false → (k : ℕ) × (n : Node) × (slice_get nodes k ≡ Some n) × (is_open b n ≡ true)
some_open b [] h = absurd (false≢true (sym h))
some_open b (n ∷ nodes) h =
    elim (cases_Bool (is_open b n)) [
      | inl hit ↦ (0, n, refl, hit)
      | inr miss ↦
          let rest : list_all (λ m. not (is_open b m)) nodes ≡ false = sym (ap (λ (t : Bool). not t && list_all (λ m. not (is_open b m)) nodes) miss) ∙ h in
          let r = some_open b nodes rest in
          (suc r.0, r.1, r.2, r.3)
    ]

-- an unfinished book has an open node
pub open_of : (b : Book) → is_finished b ≡ false → (k : ℕ) × (is_node_and b k (is_open b) ≡ true)
open_of b unfinished =
    let found = some_open b b.nodes unfinished in
    (found.0, node_is (is_open b) (slice_get b.nodes found.0) found.1 found.2 found.3)

-- where no hand holds a node, an open node may be taken
pub some_free : (v : BoardView) → is_finished (book_at v) ≡ false → NoneIsFree (book_at v) v.hands → v.hands ≡ empty_hands → ⊥
some_free v unfinished nothing empty =
    let b : Book = book_at v in
    let found = open_of b unfinished in
    let apart : not (list_any (is_node found.0) v.hands) ≡ true = ap (λ (l : List (Option ℕ)). not (list_any (is_node found.0) l)) empty in
    false≢true (sym (nothing found.0) ∙ and_from (is_node_and b found.0 (is_open b)) (not (list_any (is_node found.0) v.hands)) found.1 apart)

-- there are no more rounds than steps that are enough
pub few_rounds : (i : Problem) (old new : BoardView) (rounds : ℕ) → Made i old new rounds → rounds ≤ steps_enough i
few_rounds i old new rounds m =
    let c = m.closed in
    let most : passing (is_closed m.book) (steps_enough i) ≤ steps_enough i = passing_most (is_closed m.book) (steps_enough i) in
    omega arith

-- and fewer where a node is open
pub fewer_rounds : (i : Problem) (old new : BoardView) (rounds k : ℕ) → Made i old new rounds → is_node_and (book_at new) k (is_open (book_at new)) ≡ true → rounds + 1 ≤ steps_enough i
fewer_rounds i old new rounds k m opened =
    let b : Book = m.book in
    let at : book_at new ≡ b = book_is new.instance new.history b (ap (λ (j : Problem). book_of j new.history) m.root ∙ m.folds) in
    let found = some_node (is_open b) (slice_get b.nodes k) (subst (λ (c : Book). is_node_and c k (is_open c) ≡ true) at opened) in
    let low : k < steps_enough i = nodes_within i new.history b k found.0 m.folds found.1 in
    let no : is_closed b k ≡ false = node_not (λ (n : Node). not (is_open b n)) (slice_get b.nodes k) found.0 found.1 (ap not found.2) in
    let less : passing (is_closed b) (steps_enough i) < steps_enough i = passing_less (is_closed b) (steps_enough i) k low no in
    let c = m.closed in
    omega arith

-- with that many steps a board is finished
pub not_spent : (i : Problem) (old new : BoardView) (rounds budget : ℕ) → Made i old new rounds → is_finished (book_at new) ≡ false → rounds ≡ budget → steps_enough i ≤ budget → ⊥
not_spent i old new rounds budget m unfinished all enough =
    let found = open_of (book_at new) unfinished in
    let fewer : rounds + 1 ≤ steps_enough i = fewer_rounds i old new rounds found.0 m found.1 in
    absurd (omega arith)
