-- What turns leave: only the hands of the workers hold a node, and instance, budget, origin and the first posts stay.
use Rattle.board_lock.proofs.Common.{◌≡◌, ◌⊎◌, inl, inr, ℕ, ◌+◌, ◌<◌, ◌≤◌, List, [], ◌++◌, set, refl, sym, ap, ◌∙◌, subst, arith, Option, Some, None, ∥∥₁_elim, append-nil, append_assoc, Post, StepPosts, Kept, Taken, Closed, Finished, Halted, Spent, Node, Idle, CommitFault, DiskFault, Full, NotHeld, Shut, NotClosing, OtherCuts, NoMemory, BoardView, posts_at, yields, Commits, CommitRefuses, IsSoundBoard, TakeMakes, full_hands, AreCalls, IsCall, IsFresh, a_commit, a_refusal, a_take, a_yield, empty_hands, hand, IsFront, hand_set, no_hand, AreEmptyFrom, AreTurns, none, one_more}
use Rattle.std.proofs.Props.{props}
use Rattle.search_core.specs.Calls.AreCalls.{none as no_calls, one_more as call_more}
use Rattle.search_core.proofs.Counted.{calls_within}

-- ---- hands from a number on

none_some : (x : ℕ) → None ≡ Some x → ⊥
none_some x e = cc (e)

no_node : (h : Option ℕ) → ((x : ℕ) → h ≡ Some x → ⊥) → h ≡ None
no_node None never = refl
no_node (Some x) never = absurd (never x refl)

filled_empty : (hands : List (Option ℕ)) (workers w k : ℕ) → w < workers → AreEmptyFrom workers hands → AreEmptyFrom workers (set hands w (Some k))
filled_empty hands workers w k low clear v far = no_node (hand (set hands w (Some k)) v) (λ x e.
    elim (hand_set hands w v (Some k) x e) [
      | inl p ↦ let same : v ≡ w = p.0 in absurd (omega arith)
      | inr p ↦ none_some x (sym (clear v far) ∙ p.1)
    ])

emptied_empty : (hands : List (Option ℕ)) (workers w : ℕ) → AreEmptyFrom workers hands → AreEmptyFrom workers (set hands w None)
emptied_empty hands workers w clear v far = no_node (hand (set hands w None) v) (λ x e.
    elim (hand_set hands w v None x e) [
      | inl p ↦ none_some x p.1
      | inr p ↦ none_some x (sym (clear v far) ∙ p.1)
    ])

take_clears : (answer : Taken) (workers w : ℕ) (mid new : BoardView) → w < workers → TakeMakes answer w mid new → AreEmptyFrom workers mid.hands → AreEmptyFrom workers new.hands
take_clears Closed workers w mid new low m clear = subst (λ (v : BoardView). AreEmptyFrom workers v.hands) (sym m.1) clear
take_clears Finished workers w mid new low m clear = subst (λ (v : BoardView). AreEmptyFrom workers v.hands) (sym m.2) clear
take_clears Halted workers w mid new low m clear = subst (λ (v : BoardView). AreEmptyFrom workers v.hands) (sym m.3) clear
take_clears Spent workers w mid new low m clear = subst (λ (v : BoardView). AreEmptyFrom workers v.hands) (sym m.4) clear
take_clears (Node k floor best) workers w mid new low m clear = subst (λ (v : BoardView). AreEmptyFrom workers v.hands) (sym m.4) (filled_empty mid.hands workers w k low clear)
take_clears Idle workers w mid new low m clear = subst (λ (v : BoardView). AreEmptyFrom workers v.hands) (sym m.2) clear

refusal_clears : (fault : CommitFault) (workers w : ℕ) (step : StepPosts) (mid new : BoardView) → CommitRefuses w step mid new fault → AreEmptyFrom workers mid.hands → AreEmptyFrom workers new.hands
refusal_clears DiskFault workers w step mid new m clear = subst (λ (v : BoardView). AreEmptyFrom workers v.hands) (sym m.1) clear
refusal_clears (Full end limit) workers w step mid new m clear = subst (λ (v : BoardView). AreEmptyFrom workers v.hands) (sym m.4) clear
refusal_clears (NotHeld held) workers w step mid new m clear = subst (λ (v : BoardView). AreEmptyFrom workers v.hands) (sym m.3) clear
refusal_clears Shut workers w step mid new m clear = subst (λ (v : BoardView). AreEmptyFrom workers v.hands) (sym m.1) clear
refusal_clears (NotClosing floor best back) workers w step mid new m clear = subst (λ (v : BoardView). AreEmptyFrom workers v.hands) (sym m.6) clear
refusal_clears (OtherCuts place) workers w step mid new m clear = subst (λ (v : BoardView). AreEmptyFrom workers v.hands) (sym m.3) clear
refusal_clears NoMemory workers w step mid new m clear = subst (λ (v : BoardView). AreEmptyFrom workers v.hands) (sym m) clear

pub clear_of : (workers : ℕ) (old new : BoardView) (commits : ℕ) → old.hands ≡ empty_hands → AreTurns workers old new commits → AreEmptyFrom workers new.hands
clear_of workers old new commits empty none = λ w far. subst (λ (hands : List (Option ℕ)). hand hands w ≡ None) (sym empty) (no_node (hand empty_hands w) (λ x e. no_hand 16 w x e))
clear_of workers old new commits empty (one_more mid next before more turns call sound clear) = clear

-- ---- one more turn

as_many : (workers : ℕ) (old new : BoardView) (commits : ℕ) → AreTurns workers old new (commits + 0) → AreTurns workers old new commits
as_many workers old new commits turns = subst (λ (n : ℕ). AreTurns workers old new n) (let e : commits + 0 ≡ commits = omega arith in e) turns

module _ (workers w : ℕ) (old mid new : BoardView) (commits : ℕ) (empty : old.hands ≡ empty_hands) (sixteen : workers ≤ 16) (sound : IsSoundBoard new) (turns : AreTurns workers old mid commits) where
  pub turn_take : (answer : Taken) → w < workers → hand mid.hands w ≡ None → TakeMakes answer w mid new → AreTurns workers old new commits
  turn_take answer low free m =
      let within : w < 16 = omega arith in
      as_many workers old new commits (one_more mid new commits 0 turns (a_take w answer within free m) sound (take_clears answer workers w mid new low m (clear_of workers old mid commits empty turns)))

  pub turn_commit : (step : StepPosts) (kept : Kept) → Commits w step mid new kept → AreTurns workers old new (commits + 1)
  turn_commit step kept m =
      one_more mid new commits 1 turns (a_commit w step kept m) sound
      (subst (λ (v : BoardView). AreEmptyFrom workers v.hands) (sym m.makes) (emptied_empty mid.hands workers w (clear_of workers old mid commits empty turns)))

  pub turn_refusal : (step : StepPosts) (fault : CommitFault) → CommitRefuses w step mid new fault → AreTurns workers old new commits
  turn_refusal step fault m =
      as_many workers old new commits (one_more mid new commits 0 turns (a_refusal w step fault m) sound (refusal_clears fault workers w step mid new m (clear_of workers old mid commits empty turns)))

  pub turn_yield : w < 16 → new ≡ yields w mid → AreTurns workers old new commits
  turn_yield low m =
      as_many workers old new commits (one_more mid new commits 0 turns (a_yield w low m) sound
      (subst (λ (v : BoardView). AreEmptyFrom workers v.hands) (sym m) (emptied_empty mid.hands workers w (clear_of workers old mid commits empty turns))))

-- ---- what no call changes

pub record Keeps (old new : BoardView) : Type 0 where
  pub instance : new.instance ≡ old.instance
  pub budget : new.budget ≡ old.budget
  pub origin : new.origin ≡ old.origin
  pub begins : IsFront old.history new.history

all_kept : (v : BoardView) → Keeps v v
all_kept v = record { instance = refl; budget = refl; origin = refl; begins = ([], append-nil v.history) }

kept_after : (old mid new : BoardView) → Keeps old mid → Keeps mid new → Keeps old new
kept_after old mid new a b = record {
  instance = b.instance ∙ a.instance;
  budget = b.budget ∙ a.budget;
  origin = b.origin ∙ a.origin;
  begins = (a.begins.0 ++ b.begins.0, sym (append_assoc old.history a.begins.0 b.begins.0) ∙ ap (λ (posts : List Post). posts ++ b.begins.0) a.begins.1 ∙ b.begins.1);
}

take_keeps : (answer : Taken) (w : ℕ) (old new : BoardView) → TakeMakes answer w old new → Keeps old new
take_keeps Closed w old new m = subst (λ (v : BoardView). Keeps old v) (sym m.1) (all_kept old)
take_keeps Finished w old new m = subst (λ (v : BoardView). Keeps old v) (sym m.2) (all_kept old)
take_keeps Halted w old new m = subst (λ (v : BoardView). Keeps old v) (sym m.3) (all_kept old)
take_keeps Spent w old new m = subst (λ (v : BoardView). Keeps old v) (sym m.4) (all_kept old)
take_keeps (Node k floor best) w old new m = subst (λ (v : BoardView). Keeps old v) (sym m.4) (record { instance = refl; budget = refl; origin = refl; begins = ([], append-nil old.history) })
take_keeps Idle w old new m = subst (λ (v : BoardView). Keeps old v) (sym m.2) (all_kept old)

refusal_keeps : (fault : CommitFault) (w : ℕ) (step : StepPosts) (old new : BoardView) → CommitRefuses w step old new fault → Keeps old new
refusal_keeps DiskFault w step old new m = subst (λ (v : BoardView). Keeps old v) (sym m.1) (record { instance = refl; budget = refl; origin = refl; begins = ([], append-nil old.history) })
refusal_keeps (Full end limit) w step old new m = subst (λ (v : BoardView). Keeps old v) (sym m.4) (record { instance = refl; budget = refl; origin = refl; begins = ([], append-nil old.history) })
refusal_keeps (NotHeld held) w step old new m = subst (λ (v : BoardView). Keeps old v) (sym m.3) (all_kept old)
refusal_keeps Shut w step old new m = subst (λ (v : BoardView). Keeps old v) (sym m.1) (all_kept old)
refusal_keeps (NotClosing floor best back) w step old new m = subst (λ (v : BoardView). Keeps old v) (sym m.6) (all_kept old)
refusal_keeps (OtherCuts place) w step old new m = subst (λ (v : BoardView). Keeps old v) (sym m.3) (all_kept old)
refusal_keeps NoMemory w step old new m = subst (λ (v : BoardView). Keeps old v) (sym m) (all_kept old)

call_keeps : (old new : BoardView) (more : ℕ) → IsCall old new more → Keeps old new
call_keeps old new more (a_take w answer low free m) = take_keeps answer w old new m
call_keeps old new more (a_commit w step kept m) =
    subst (λ (v : BoardView). Keeps old v) (sym m.makes) (record { instance = refl; budget = refl; origin = refl; begins = (posts_at old w step, refl) })
call_keeps old new more (a_refusal w step fault m) = refusal_keeps fault w step old new m
call_keeps old new more (a_yield w low m) = subst (λ (v : BoardView). Keeps old v) (sym m) (record { instance = refl; budget = refl; origin = refl; begins = ([], append-nil old.history) })

pub turns_keep : (workers : ℕ) (old new : BoardView) (commits : ℕ) → AreTurns workers old new commits → Keeps old new
turns_keep workers old new commits none = all_kept old
turns_keep workers old new commits (one_more mid next before more turns call sound clear) = kept_after old mid new (turns_keep workers old mid before turns) (call_keeps mid new more call)

-- ---- turns are calls

pub turns_are_calls : (workers : ℕ) (old new : BoardView) (commits : ℕ) → AreTurns workers old new commits → AreCalls old new commits
turns_are_calls workers old new commits none = no_calls
turns_are_calls workers old new commits (one_more mid next before more turns call sound clear) = call_more mid new before more (turns_are_calls workers old mid before turns) call sound

-- there are no more commits than the budget has steps
pub few_commits : (workers : ℕ) (old new : BoardView) (commits : ℕ) → IsFresh old → IsSoundBoard new → AreTurns workers old new commits → commits ≤ old.budget
few_commits workers old new commits fresh sound turns =
    let counted : commits + full_hands new.hands ≤ new.taken = calls_within old new commits fresh (turns_are_calls workers old new commits turns) in
    let within = sound.within in
    let same : new.budget ≡ old.budget = (turns_keep workers old new commits turns).budget in
    omega arith

-- ---- where it is only known that there are turns

pub few_merely : (workers : ℕ) (old new : BoardView) (commits : ℕ) → IsFresh old → IsSoundBoard new → ∥ AreTurns workers old new commits ∥₁ → commits ≤ old.budget
few_merely workers old new commits fresh sound turns = ∥∥₁_elim turns (hlevel props) (few_commits workers old new commits fresh sound)

pub same_merely : (workers : ℕ) (old new : BoardView) (commits : ℕ) → ∥ AreTurns workers old new commits ∥₁ → new.instance ≡ old.instance
same_merely workers old new commits turns = ∥∥₁_elim turns (hlevel props) (λ there. (turns_keep workers old new commits there).instance)

-- a board as it is opened has had no turns
pub no_turns : (workers : ℕ) (old new : BoardView) (commits : ℕ) → old ≡ new → commits ≡ 0 → ∥ AreTurns workers old new commits ∥₁
no_turns workers old new commits same zero = ∣ subst (λ (n : ℕ). AreTurns workers old new n) (sym zero) (subst (λ (v : BoardView). AreTurns workers old v 0) same none) ∣₁
