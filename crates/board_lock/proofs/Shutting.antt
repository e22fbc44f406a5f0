-- What shut a board, and whether a worker gave up, before and after a call.
use Rattle.board_lock.proofs.Common.{◌≡◌, ℕ, Bool, true, false, ◌&&◌, ◌==◌, refl, sym, ap, ◌∙◌, subst, Option, Some, None, eq-eqb, and_from, and_parts, eqb-true, false≢true, StepPosts, Kept, Taken, Closed, Finished, Halted, Spent, Node, Idle, CommitFault, DiskFault, Full, NotHeld, Shut, NotClosing, OtherCuts, NoMemory, BoardView, Commits, CommitRefuses, TakeMakes}
use Rattle.search_core.specs.declared.board.Shutting.{Shutting}
use Rattle.search_core.specs.declared.board.Shutting.TheVariants.{DiskFault as ByDiskFault, Full as ByFull}
use Rattle.board_lock.specs.Shut.{is_same_shut, shut_by}

pub same_is : (o p : Option Shutting) → is_same_shut o p ≡ true → o ≡ p
same_is None None e = refl
same_is None (Some x) e = absurd (false≢true e)
same_is (Some ByDiskFault) None e = absurd (false≢true e)
same_is (Some ByDiskFault) (Some ByDiskFault) e = refl
same_is (Some ByDiskFault) (Some (ByFull end limit)) e = absurd (false≢true e)
same_is (Some (ByFull end limit)) None e = absurd (false≢true e)
same_is (Some (ByFull end limit)) (Some ByDiskFault) e = absurd (false≢true e)
same_is (Some (ByFull end limit)) (Some (ByFull other most)) e =
    let both = and_parts (end == other) (limit == most) e in
    ap (λ (n : ℕ). Some (ByFull n limit)) (eqb-true end other both.0) ∙ ap (λ (n : ℕ). Some (ByFull other n)) (eqb-true limit most both.1)

itself : (o : Option Shutting) → is_same_shut o o ≡ true
itself None = refl
itself (Some ByDiskFault) = refl
itself (Some (ByFull end limit)) = and_from (end == end) (limit == limit) (eq-eqb end end refl) (eq-eqb limit limit refl)

pub is_same : (o p : Option Shutting) → o ≡ p → is_same_shut o p ≡ true
is_same o p e = subst (λ (q : Option Shutting). is_same_shut o q ≡ true) e (itself o)

-- what a call leaves of both
pub record Left (old new : BoardView) (shut : Option Shutting) : Type 0 where
  pub shut_is : new.shut ≡ shut
  pub halted : new.halted ≡ old.halted

take_leaves : (answer : Taken) (w : ℕ) (old new : BoardView) → TakeMakes answer w old new → Left old new old.shut
take_leaves Closed w old new m = subst (λ (v : BoardView). Left old v old.shut) (sym m.1) (record { shut_is = refl; halted = refl })
take_leaves Finished w old new m = subst (λ (v : BoardView). Left old v old.shut) (sym m.2) (record { shut_is = refl; halted = refl })
take_leaves Halted w old new m = subst (λ (v : BoardView). Left old v old.shut) (sym m.3) (record { shut_is = refl; halted = refl })
take_leaves Spent w old new m = subst (λ (v : BoardView). Left old v old.shut) (sym m.4) (record { shut_is = refl; halted = refl })
take_leaves (Node k floor best) w old new m = subst (λ (v : BoardView). Left old v old.shut) (sym m.4) (record { shut_is = refl; halted = refl })
take_leaves Idle w old new m = subst (λ (v : BoardView). Left old v old.shut) (sym m.2) (record { shut_is = refl; halted = refl })

commit_leaves : (w : ℕ) (step : StepPosts) (old new : BoardView) (kept : Kept) → Commits w step old new kept → Left old new old.shut
commit_leaves w step old new kept m = subst (λ (v : BoardView). Left old v old.shut) (sym m.makes) (record { shut_is = refl; halted = refl })

refusal_leaves : (fault : CommitFault) (w : ℕ) (step : StepPosts) (old new : BoardView) → CommitRefuses w step old new fault → Left old new (shut_by fault old.shut)
refusal_leaves DiskFault w step old new m = subst (λ (v : BoardView). Left old v (Some ByDiskFault)) (sym m.1) (record { shut_is = refl; halted = refl })
refusal_leaves (Full end limit) w step old new m = subst (λ (v : BoardView). Left old v (Some (ByFull end limit))) (sym m.4) (record { shut_is = refl; halted = refl })
refusal_leaves (NotHeld held) w step old new m = subst (λ (v : BoardView). Left old v old.shut) (sym m.3) (record { shut_is = refl; halted = refl })
refusal_leaves Shut w step old new m = subst (λ (v : BoardView). Left old v old.shut) (sym m.1) (record { shut_is = refl; halted = refl })
refusal_leaves (NotClosing floor best back) w step old new m = subst (λ (v : BoardView). Left old v old.shut) (sym m.6) (record { shut_is = refl; halted = refl })
refusal_leaves (OtherCuts place) w step old new m = subst (λ (v : BoardView). Left old v old.shut) (sym m.3) (record { shut_is = refl; halted = refl })
refusal_leaves NoMemory w step old new m = subst (λ (v : BoardView). Left old v old.shut) (sym m) (record { shut_is = refl; halted = refl })

-- the facts that stay with the board behind the lock
module _ (old new : BoardView) (shut : Option Shutting) (halted : Bool) (same : is_same_shut old.shut shut ≡ true) (stops : old.halted ≡ halted) where
  pub take_shut : (answer : Taken) (w : ℕ) → TakeMakes answer w old new → is_same_shut new.shut shut ≡ true
  take_shut answer w m = is_same new.shut shut ((take_leaves answer w old new m).shut_is ∙ same_is old.shut shut same)

  pub take_halted : (answer : Taken) (w : ℕ) → TakeMakes answer w old new → new.halted ≡ halted
  take_halted answer w m = (take_leaves answer w old new m).halted ∙ stops

  pub commit_shut : (w : ℕ) (step : StepPosts) (kept : Kept) → Commits w step old new kept → is_same_shut new.shut shut ≡ true
  commit_shut w step kept m = is_same new.shut shut ((commit_leaves w step old new kept m).shut_is ∙ same_is old.shut shut same)

  pub commit_halted : (w : ℕ) (step : StepPosts) (kept : Kept) → Commits w step old new kept → new.halted ≡ halted
  commit_halted w step kept m = (commit_leaves w step old new kept m).halted ∙ stops

  pub refusal_shut : (w : ℕ) (step : StepPosts) (fault : CommitFault) (after : Option Shutting) → after ≡ shut_by fault shut → CommitRefuses w step old new fault → is_same_shut new.shut after ≡ true
  refusal_shut w step fault after told m = is_same new.shut after ((refusal_leaves fault w step old new m).shut_is ∙ ap (shut_by fault) (same_is old.shut shut same) ∙ sym told)

  pub refusal_halted : (w : ℕ) (step : StepPosts) (fault : CommitFault) → CommitRefuses w step old new fault → new.halted ≡ halted
  refusal_halted w step fault m = (refusal_leaves fault w step old new m).halted ∙ stops
