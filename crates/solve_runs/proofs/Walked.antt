-- The steps of a run, from the turns of its workers.
use Rattle.solve_runs.proofs.Common.{◌≡◌, inl, inr, ℕ, zero, suc, ◌+◌, ◌<◌, ◌≤◌, Bool, cond, List, [], ◌∷◌, ◌++◌, refl, sym, ap, ◌∙◌, subst, arith, Option, Some, None, IsFalse, is_some, cases_lt, sum_by-cons, Post, StepPosts, batches_of, book_at, bytes_of, leaves_open, posts_at, BoardView, Commits, CommitRefuses, HoldsStep, TakeMakes, full_hands, IsCall, IsFresh, hand, cuts_in, AreEmptyFrom, AreTurns}
use Rattle.search_core.specs.declared.board.Kept.{Kept}
use Rattle.search_core.specs.declared.board.Shutting.TheVariants.{DiskFault as ShutByDiskFault, Full as ShutByFull}
use Rattle.search_core.specs.declared.board.Taken.{Taken}
use Rattle.search_core.specs.declared.board.Taken.TheVariants.{Closed, Finished, Halted, Spent, Node as TakenNode, Idle}
use Rattle.search_core.specs.declared.board.CommitFault.{CommitFault}
use Rattle.search_core.specs.declared.board.CommitFault.TheVariants.{DiskFault, Full, NotHeld, Shut, NotClosing, OtherCuts, NoMemory}
use Rattle.search_core.specs.Calls.IsCall.{a_commit, a_refusal, a_take, a_yield}
use Rattle.search_core.proofs.Counted.{calls_count}
use Rattle.board_lock.specs.Turns.AreTurns.{none, one_more}
use Rattle.board_lock.proofs.Turned.{clear_of, turns_are_calls, turns_keep}
use Rattle.solve_runs.specs.Steps.{bytes_in}

-- ---- one commit more
bytes_more : (batches : List (List Post)) (posts : List Post) → bytes_in (batches ++ batches_of posts) ≡ bytes_in batches + bytes_of posts
bytes_more [] [] = omega arith
bytes_more [] (post ∷ posts) = omega arith
bytes_more (first ∷ batches) posts = omega (arith, bytes_more batches posts)

-- ---- hands

-- where a hand holds a node, some hand is full
some_full : (hands : List (Option ℕ)) (w x : ℕ) → hand hands w ≡ Some x → 0 < full_hands hands
some_full [] w x held = absurd (cc (held))
some_full (None ∷ hands) zero x held = absurd (cc (held))
some_full (Some y ∷ hands) zero x held = let full : full_hands (Some y ∷ hands) ≡ 1 + full_hands hands = sum_by-cons (λ (h : Option ℕ). cond (is_some h) 1 0) (Some y) hands in omega (arith, full)
some_full (h ∷ hands) (suc w) x held =
    let full : full_hands (h ∷ hands) ≡ cond (is_some h) 1 0 + full_hands hands = sum_by-cons (λ (h : Option ℕ). cond (is_some h) 1 0) h hands in
    let rest : 0 < full_hands hands = some_full hands w x held in
    omega (arith, full, rest)

-- ---- turns

-- the posts for which a board's journal had no room are those of a step of one of the workers, over the board's book
pub record OfStep (workers : ℕ) (v : BoardView) : Type 0 where
  pub worker : ℕ
  pub below : worker < workers
  pub step : StepPosts
  pub cuts : step.proved.cuts ≡ cuts_in (book_at v).nodes step.node
  pub closes : IsFalse (leaves_open v.instance (book_at v) worker step)
  pub posts_are : v.unfit ≡ posts_at v worker step

-- what turns have made of a board without records: the bytes of the records that they made, and, where they shut the board by its
-- journal's limit, a step without room, behind fewer than the budget has
pub record Turned (workers : ℕ) (old new : BoardView) (commits : ℕ) : Type 0 where
  pub used : new.used ≡ old.used + bytes_in new.batches
  pub full : (end most : ℕ) → new.shut ≡ Some (ShutByFull end most) → OfStep workers new × (commits < old.budget)

module _ (workers : ℕ) (old mid new : BoardView) (commits : ℕ) (t : Turned workers old mid commits) where
  -- a turn that changes nothing
  turn_same : new ≡ mid → Turned workers old new commits
  turn_same same = subst (λ (v : BoardView). Turned workers old v commits) (sym same) t

  -- a turn that changes hands, the count of steps, or whether a worker gave up
  turn_hands : (hands : List (Option ℕ)) (taken : ℕ) (halted : Bool) → new ≡ record mid { hands = hands; taken = taken; halted = halted } → Turned workers old new commits
  turn_hands hands taken halted makes = subst (λ (v : BoardView). Turned workers old v commits) (sym makes) (record {
    used = t.used;
    full = λ end most shut.
        let f = t.full end most shut in (record { worker = f.0.worker; below = f.0.below; step = f.0.step; cuts = f.0.cuts; closes = f.0.closes; posts_are = f.0.posts_are }, f.1);
  })

  turn_take : (w : ℕ) (answer : Taken) → TakeMakes answer w mid new → Turned workers old new commits
  turn_take w Closed m = turn_same m.1
  turn_take w Finished m = turn_same m.2
  turn_take w Halted m = turn_same m.3
  turn_take w Spent m = turn_same m.4
  turn_take w (TakenNode k floor best) m = turn_hands _ _ mid.halted m.4
  turn_take w Idle m = turn_same m.2

  turn_commit : (w : ℕ) (step : StepPosts) (kept : Kept) → Commits w step mid new kept → Turned workers old new (commits + 1)
  turn_commit w step kept m =
      let posts : List Post = posts_at mid w step in
      let batches : new.batches ≡ mid.batches ++ batches_of posts = ap (λ (v : BoardView). v.batches) m.makes in
      let bytes : bytes_in new.batches ≡ bytes_in mid.batches + bytes_of posts = ap bytes_in batches ∙ bytes_more mid.batches posts in
      let used : new.used ≡ mid.used + bytes_of posts = ap (λ (v : BoardView). v.used) m.makes in
      let shut : new.shut ≡ None = ap (λ (v : BoardView). v.shut) m.makes ∙ m.holds.running in
      record {
        used = let before = t.used in omega (arith, used, before, bytes);
        full = λ end most full. let e : None ≡ Some (ShutByFull end most) = sym shut ∙ full in absurd (cc (e));
      }

  -- the worker whose step has no room is one of those that hold nodes
  holder : AreEmptyFrom workers mid.hands → (w : ℕ) (step : StepPosts) → HoldsStep w step mid → w < workers
  holder clear w step h = elim (cases_lt w workers) [ inl low ↦ low | inr far ↦ let e : None ≡ Some step.node = sym (clear w far) ∙ h.held in absurd (cc (e)) ]

  -- where a hand holds a node, fewer steps were committed than the budget has
  module _ (clear : AreEmptyFrom workers mid.hands) (room : (w k : ℕ) → hand mid.hands w ≡ Some k → commits < old.budget) where
    turn_refusal : (w : ℕ) (step : StepPosts) (fault : CommitFault) → CommitRefuses w step mid new fault → Turned workers old new commits
    turn_refusal w step DiskFault m = subst (λ (v : BoardView). Turned workers old v commits) (sym m.1) (record {
      used = t.used;
      full = λ end most full. let e : Some ShutByDiskFault ≡ Some (ShutByFull end most) = full in absurd (cc (e));
    })
    turn_refusal w step (Full end most) m = subst (λ (v : BoardView). Turned workers old v commits) (sym m.4) (record {
      used = t.used;
      full = λ e l full. (record { worker = w; below = holder clear w step m.0.holds; step = step; cuts = m.0.holds.cuts; closes = m.0.closes; posts_are = refl }, room w step.node m.0.holds.held);
    })
    turn_refusal w step (NotHeld held) m = turn_same m.3
    turn_refusal w step Shut m = turn_same m.1
    turn_refusal w step (NotClosing floor best back) m = turn_same m.6
    turn_refusal w step (OtherCuts at) m = turn_same m.3
    turn_refusal w step NoMemory m = turn_same m

    -- a turn that commits nothing
    no_more : Turned workers old new commits → Turned workers old new (commits + 0)
    no_more same = subst (λ (n : ℕ). Turned workers old new n) (let e : commits ≡ commits + 0 = omega arith in e) same

    turn_call : (more : ℕ) → IsCall mid new more → Turned workers old new (commits + more)
    turn_call more (a_take w answer low empty m) = no_more (turn_take w answer m)
    turn_call more (a_commit w step kept m) = turn_commit w step kept m
    turn_call more (a_refusal w step fault m) = no_more (turn_refusal w step fault m)
    turn_call more (a_yield w low m) = no_more (turn_hands _ mid.taken _ m)

-- after turns of which a hand still holds a node
room_left : (workers : ℕ) (old mid : BoardView) (commits : ℕ) → IsFresh old → AreTurns workers old mid commits → (w k : ℕ) → hand mid.hands w ≡ Some k → commits < old.budget
room_left workers old mid commits fresh turns w k held =
    let count = calls_count old mid commits fresh (turns_are_calls workers old mid commits turns) in
    let within : commits + full_hands mid.hands ≤ mid.taken = count.0.within in
    let most : mid.taken ≤ mid.budget = count.1.within in
    let some : 0 < full_hands mid.hands = some_full mid.hands w k held in
    let same : mid.budget ≡ old.budget = (turns_keep workers old mid commits turns).budget in
    omega (arith, within, most, some, same)

pub turned : (workers : ℕ) (old new : BoardView) (commits : ℕ) → IsFresh old → old.shut ≡ None → old.batches ≡ [] → AreTurns workers old new commits → Turned workers old new commits
turned workers old new commits fresh running unrecorded none = record {
  used = let nothing : bytes_in old.batches ≡ 0 = ap bytes_in unrecorded in omega (arith, nothing);
  full = λ end most full. let e : None ≡ Some (ShutByFull end most) = sym running ∙ full in absurd (cc (e));
}
turned workers old new commits fresh running unrecorded (one_more mid next before more turns call sound clear) =
    turn_call workers old mid next before (turned workers old mid before fresh running unrecorded turns) (clear_of workers old mid before fresh.empty turns) (room_left workers old mid before fresh turns) more call
