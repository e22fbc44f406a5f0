-- What a commit appends is of its worker.
use Rattle.worker_gate.proofs.Common.{◌≡◌, inl, inr, ℕ, zero, suc, true, List, [], ◌∷◌, All, sym, ap, ◌∙◌, arith, append-nil, Closed, Halted, Idle, Result, Ok, Err, IfErr, IfOk, list_all, and_parts, Post, Plan, Priced, Split, Settled, Kept, StepPosts, BoardView, Commits, TakeMakes, is_of, worker_of, AppendsOf, LeavesStep}
use Rattle.search_core.specs.declared.board.Taken.{Taken}
use Rattle.search_core.specs.declared.board.Taken.TheVariants.{Finished, Spent, Node}
use Rattle.search_core.proofs.Boards.{commit_of_worker}
use Rattle.worker_gate.specs.declared.turns.Left.{Left}
use Rattle.worker_gate.specs.declared.turns.Left.TheVariants.{Again, End, NotClosing}

one_of : (w x : ℕ) (post : Post) → is_of w x post ≡ true → worker_of post ≡ w
one_of w x (Plan worker rows c) is = grind arith
one_of w x (Priced worker k prices) is = grind arith
one_of w x (Split worker k class m) is = grind arith
one_of w x (Settled worker k) is = grind arith

all_of : (w x : ℕ) (posts : List Post) → list_all (is_of w x) posts ≡ true → All (λ post. worker_of post ≡ w) posts
all_of w x [] is k d low = absurd (omega arith)
all_of w x (post ∷ posts) is zero d low = one_of w x post (and_parts (is_of w x post) (list_all (is_of w x) posts) is).0
all_of w x (post ∷ posts) is (suc k) d low = all_of w x posts (and_parts (is_of w x post) (list_all (is_of w x) posts) is).1 k d (omega arith)

module _ (w : ℕ) (step : StepPosts) (old new : BoardView) where
  pub appends_commit : (kept : Kept) → Commits w step old new kept → AppendsOf w old.history new.history
  appends_commit kept makes =
      let r = commit_of_worker old new w step kept makes in
      (r.0, r.1, all_of w step.node r.0 r.2)

  -- nothing is appended where the posts are the same
  pub appends_none : new.history ≡ old.history → AppendsOf w old.history new.history
  appends_none same = ([], same ∙ sym (append-nil old.history), λ k d low. absurd (omega arith))

  -- whatever became of a step, what was appended is of its worker
  pub appends_of : (result : Result Kept Left) → IfOk result (Commits w step old new) → IfErr result (LeavesStep w step old new) → AppendsOf w old.history new.history
  appends_of (Ok kept) made left = appends_commit kept made
  appends_of (Err Again) made left = appends_none (ap (λ (v : BoardView). v.history) left.1)
  appends_of (Err (NotClosing back)) made left = appends_none (ap (λ (v : BoardView). v.history) left.3)
  appends_of (Err End) made (inl shut) = appends_none shut.2
  appends_of (Err End) made (inr let_go) = appends_none (ap (λ (v : BoardView). v.history) let_go)

-- a take appends nothing
pub take_posts : (taken : Taken) (w : ℕ) (old new : BoardView) → TakeMakes taken w old new → new.history ≡ old.history
take_posts Closed w old new m = ap (λ (v : BoardView). v.history) m.1
take_posts Finished w old new m = ap (λ (v : BoardView). v.history) m.2
take_posts Halted w old new m = ap (λ (v : BoardView). v.history) m.3
take_posts Spent w old new m = ap (λ (v : BoardView). v.history) m.4
take_posts (Node k floor best) w old new m = ap (λ (v : BoardView). v.history) m.4
take_posts Idle w old new m = ap (λ (v : BoardView). v.history) m.2
