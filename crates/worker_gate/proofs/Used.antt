-- While no worker gave up, each step taken used a node: it is closed, or in a hand. So with an open node left and empty hands, fewer
-- steps were taken than are enough.
use Rattle.worker_gate.proofs.Common.{◌≡◌, ℕ, ◌<◌, ◌≤◌, false, not, List, sym, ap, ◌∙◌, arith, Option, Some, slice_get, list_any, or_from, Problem, Node, BoardView, book_at, IsSoundBoard, Book, book_of, is_finished, is_open, steps_enough, IsFresh, empty_hands, is_node, is_closed, node_not, some_node, is_used, nodes_within, calls_count, Counts, passing, passing_less, book_is, AreTurns, turns_are_calls}
use Rattle.worker_gate.proofs.Rounds.{open_of}

-- with an open node left and empty hands, fewer steps were taken than are enough
fewer_used : (i : Problem) (v : BoardView) (commits : ℕ) → Counts i v commits → IsSoundBoard v → v.halted ≡ false → v.hands ≡ empty_hands → is_finished (book_at v) ≡ false → v.taken < steps_enough i
fewer_used i v commits u s going empty unfinished =
    let b : Book = book_at v in
    let found = open_of b unfinished in
    let at : b ≡ s.book = book_is v.instance v.history s.book s.folds in
    let folds : book_of i v.history ≡ Some b = ap (λ (p : Problem). book_of p v.history) (sym u.root) ∙ s.folds ∙ ap Some (sym at) in
    let there = some_node (is_open b) (slice_get b.nodes found.0) found.1 in
    let low : found.0 < steps_enough i = nodes_within i v.history b found.0 there.0 folds there.1 in
    let opened : is_closed b found.0 ≡ false = node_not (λ (n : Node). not (is_open b n)) (slice_get b.nodes found.0) there.0 there.1 (ap not there.2) in
    let apart : list_any (is_node found.0) v.hands ≡ false = ap (λ (l : List (Option ℕ)). list_any (is_node found.0) l) empty in
    let unused : is_used b v.hands found.0 ≡ false = or_from (is_closed b found.0) (list_any (is_node found.0) v.hands) opened apart in
    let less : passing (is_used b v.hands) (steps_enough i) < steps_enough i = passing_less (is_used b v.hands) (steps_enough i) found.0 low unused in
    let used : v.taken ≤ passing (is_used b v.hands) (steps_enough i) = u.used going in
    omega arith

pub fewer_taken : (workers : ℕ) (old new : BoardView) (commits : ℕ) → IsFresh old → AreTurns workers old new commits → new.halted ≡ false → new.hands ≡ empty_hands → is_finished (book_at new) ≡ false → new.taken < steps_enough old.instance
fewer_taken workers old new commits f turns going empty unfinished =
    let r = calls_count old new commits f (turns_are_calls workers old new commits turns) in
    fewer_used old.instance new commits r.0 r.1 going empty unfinished
