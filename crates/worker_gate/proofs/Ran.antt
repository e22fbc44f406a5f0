-- What a run of workers leaves of a board that was opened, where it is only known that turns have made it.
use Rattle.worker_gate.proofs.Common.{◌≡◌, ℕ, ◌+◌, ◌*◌, ◌<◌, ◌≤◌, false, List, sym, ap, ◌∙◌, subst, arith, ∥∥₁_elim, props, Post, BoardView, IsSoundBoard, full_hands, steps_enough, IsFresh, IsFront, calls_enough, calls_exact, calls_within, plans_since, prices_since, AreTurns, same_merely, turns_are_calls, turns_keep, RunEnd, Spent, IsSameSearch, WorkersEnd}
use Rattle.search_core.specs.declared.board.Origin.{Origin}
use Rattle.board_lock.proofs.Bounded.{commits_few}
use Rattle.worker_gate.proofs.Used.{fewer_taken}

module _ (workers : ℕ) (old new : BoardView) (commits : ℕ) (turns : ∥ AreTurns workers old new commits ∥₁) where
  pub ran_same : IsSameSearch old new
  ran_same = record {
    instance = same_merely workers old new commits turns;
    budget = ∥∥₁_elim turns (hlevel props) (λ there. (turns_keep workers old new commits there).budget);
    origin = ∥∥₁_elim turns (hlevel props) (λ there. (turns_keep workers old new commits there).origin);
  }

  module _ (fresh : IsFresh old) where
    -- the posts begin with those of the origin, which are those that the board had before
    pub ran_begins : IsSoundBoard new → IsFront old.history new.history
    ran_begins sound =
        let same : old.history ≡ new.origin.history = fresh.sound.fresh fresh.none_taken ∙ ap (λ (o : Origin). o.history) (sym ran_same.origin) in
        subst (λ (first : List Post). IsFront first new.history) (sym same) sound.begins

    pub ran_within : commits + full_hands new.hands ≤ new.taken
    ran_within = ∥∥₁_elim turns (hlevel props) (λ there. calls_within old new commits fresh (turns_are_calls workers old new commits there))

    pub ran_exact : new.halted ≡ false → commits + full_hands new.hands ≡ new.taken
    ran_exact going = ∥∥₁_elim turns (hlevel props) (λ there. calls_exact old new commits fresh (turns_are_calls workers old new commits there) going)

    pub ran_posts : commits ≤ prices_since old.history new.history + workers * plans_since old.history new.history
    ran_posts = ∥∥₁_elim turns (hlevel props) (λ there. commits_few workers old new commits fresh there)

    pub ran_few : new.taken ≤ steps_enough old.instance
    ran_few = ∥∥₁_elim turns (hlevel props) (λ there. calls_enough old new commits fresh (turns_are_calls workers old new commits there))

    -- a run with enough steps isn't spent
    pub ran_enough : steps_enough old.instance ≤ old.budget → (how : RunEnd) → WorkersEnd old new how → how ≡ Spent → ⊥
    ran_enough enough how end spent =
        let ends : WorkersEnd old new Spent = subst (WorkersEnd old new) spent end in
        let fewer : new.taken < steps_enough old.instance =
        ∥∥₁_elim turns (hlevel props) (λ there. fewer_taken workers old new commits fresh there ends.0.going ends.0.empty ends.1) in
        let all : new.taken ≡ new.budget = ends.2 in
        let same : new.budget ≡ old.budget = ran_same.budget in
        absurd (omega arith)
