-- How a round follows from its calls, and a run from its rounds.
use Rattle.worker_gate.proofs.Common.{◌≡◌, ℕ, ◌+◌, ◌-◌, ◌<◌, ◌≤◌, Bool, true, false, cond, List, set, refl, sym, ap, ◌∙◌, subst, arith, max, Option, Some, None, inl, inr, MatchOption, and_parts, Problem, Post, Kept, StepPosts, ByPrice, BoardView, book_at, floor_of_node, leaves_open, yields, Commits, HoldsStep, IsSoundBoard, TakeMakes, Book, book_of, is_finished, is_node_and, is_open, steps_enough, empty_hands, hand, IsFront, cuts_in, Fits, RunEnd, Finished, Spent, Full, DiskFault, NoMemory, Stopped, cost_to_reach, IsDecision, committed, is_whole, plans_and_prices_since, AreRounds, EndMakes, IsCutOff, IsEnded, IsIdle, IsRound, IsRun, IsSameSearch, MakesStep, RunEnds, RunMakes, RunTells, news_of, AreToldRounds, RoundTells, Told, none, one_more}
use Rattle.search_core.specs.declared.board.Taken.TheVariants.{Node as TakenNode}
use Rattle.std.specs.Prelude.{◌⊎◌}
use Rattle.advice.specs.declared.advice.Advice.{Advice}
use Rattle.search_core.specs.declared.board.Shutting.TheVariants.{Full as ShutByFull}
use Rattle.worker_gate.specs.Runs.AreToldRounds.{untold, told_more}
use Rattle.worker_gate.proofs.Closing.{closes}
use Rattle.worker_gate.proofs.Rounds.{begins, counts, few_rounds, fewer_rounds, not_spent, rounds_made, Made}

module _ (old held : BoardView) (k floor best : ℕ) (idle : IsIdle old) (t : TakeMakes (TakenNode k floor best) 0 old held) where
  held_same : IsSameSearch old held
  held_same = record { instance = ap (λ (v : BoardView). v.instance) t.4; budget = ap (λ (v : BoardView). v.budget) t.4; origin = ap (λ (v : BoardView). v.origin) t.4 }

  held_history : held.history ≡ old.history
  held_history = ap (λ (v : BoardView). v.history) t.4

  held_hands : held.hands ≡ set empty_hands 0 (Some k)
  held_hands = ap (λ (v : BoardView). v.hands) t.4 ∙ ap (λ (l : List (Option ℕ)). set l 0 (Some k)) idle.empty

  held_shut : held.shut ≡ None
  held_shut = ap (λ (v : BoardView). v.shut) t.4 ∙ idle.running

  held_halted : held.halted ≡ false
  held_halted = ap (λ (v : BoardView). v.halted) t.4 ∙ idle.going

  pub held_book : book_at held ≡ book_at old
  held_book = ap (λ (v : BoardView). book_at v) t.4

  pub in_hand : hand held.hands 0 ≡ Some k
  in_hand = ap (λ (l : List (Option ℕ)). hand l 0) held_hands

  -- a decision for the node in the hand is one for the node that was taken
  pub decides_before : (i : Problem) (advice : Advice) (step : StepPosts) → old.instance ≡ i → IsDecision i k (cuts_in (book_at held).nodes k) floor best advice step → IsDecision old.instance k (cuts_in (book_at old).nodes k) floor best advice step
  decides_before i advice step same d =
      let here : IsDecision i k (cuts_in (book_at old).nodes k) floor best advice step = subst (λ (b : Book). IsDecision i k (cuts_in b.nodes k) floor best advice step) held_book d in
      subst (λ (j : Problem). IsDecision j k (cuts_in (book_at old).nodes k) floor best advice step) (sym same) here

  pub holds_step : (advice : Advice) (step : StepPosts) → IsDecision old.instance k (cuts_in (book_at old).nodes k) floor best advice step → HoldsStep 0 step held
  holds_step advice step d = record {
    running = held_shut;
    held = in_hand ∙ ap Some (sym d.node);
    cuts = d.for_cuts ∙ ap (λ n. cuts_in (book_at old).nodes n) (sym d.node) ∙ ap (λ (b : Book). cuts_in b.nodes step.node) (sym held_book);
  }

  pub closes_step : (advice : Advice) (step : StepPosts) → IsDecision old.instance k (cuts_in (book_at old).nodes k) floor best advice step → Fits old.instance step → step.close ≡ ByPrice → leaves_open held.instance (book_at held) 0 step ≡ false
  closes_step advice step d fits is =
      let b : Book = book_at old in
      let opened : is_node_and b k (is_open b) ≡ true = (and_parts _ _ t.1.free).0 in
      let reach : cost_to_reach best step.plan ≤ max floor step.proved.bound = d.by_price.0 is in
      let reach_cost : cost_to_reach b.cost step.plan ≤ max floor step.proved.bound = subst (λ n. cost_to_reach n step.plan ≤ max floor step.proved.bound) t.3 reach in
      let reach_floor : cost_to_reach b.cost step.plan ≤ max (floor_of_node b k) step.proved.bound = subst (λ n. cost_to_reach b.cost step.plan ≤ max n step.proved.bound) t.2 reach_cost in
      let at_node : cost_to_reach b.cost step.plan ≤ max (floor_of_node b step.node) step.proved.bound = subst (λ n. cost_to_reach b.cost step.plan ≤ max (floor_of_node b n) step.proved.bound) (sym d.node) reach_floor in
      let cuts : step.proved.cuts ≡ cuts_in b.nodes step.node = d.for_cuts ∙ ap (λ n. cuts_in b.nodes n) (sym d.node) in
      ap (λ (j : Problem). leaves_open j (book_at held) 0 step) held_same.instance
      ∙ ap (λ (c : Book). leaves_open old.instance c 0 step) held_book
      ∙ closes old.instance b 0 step is fits d.cost d.bound cuts (subst (λ n. is_node_and b n (is_open b) ≡ true) (sym d.node) opened) at_node

  search_after : (new : BoardView) → new.instance ≡ held.instance → new.budget ≡ held.budget → new.origin ≡ held.origin → IsSameSearch old new
  search_after new i b o = record { instance = i ∙ held_same.instance; budget = b ∙ held_same.budget; origin = o ∙ held_same.origin }

  pub gave_up : (new : BoardView) → new ≡ yields 0 held → IsEnded old new NoMemory
  gave_up new c = record {
    same = search_after new (ap (λ (v : BoardView). v.instance) c) (ap (λ (v : BoardView). v.budget) c) (ap (λ (v : BoardView). v.origin) c);
    ends = (
      ap (λ (v : BoardView). v.shut) c ∙ held_shut,
      ap (λ (v : BoardView). v.halted) c,
      ap (λ (v : BoardView). v.hands) c ∙ ap (λ (l : List (Option ℕ)). set l 0 None) held_hands,
    );
    makes = (held, k, floor, best, t, c);
  }

  module _ (advice : Advice) (step : StepPosts) (decides : IsDecision old.instance k (cuts_in (book_at old).nodes k) floor best advice step) where
    step_made : MakesStep old held step
    step_made = record { node = k; floor = floor; best = best; takes = t; advice = advice; decides = decides }

    pub cut_off : (new : BoardView) (how : RunEnd) → IsSoundBoard new → IsCutOff step held new how → IsEnded old new how
    cut_off new Finished sound c = absurd c
    cut_off new Spent sound c = absurd c
    cut_off new Stopped sound c = absurd c
    cut_off new (Full end limit) sound c =
        let shut : new.shut ≡ Some (ShutByFull end limit) = ap (λ (v : BoardView). v.shut) c.4 in
        record {
          same = search_after new (ap (λ (v : BoardView). v.instance) c.4) (ap (λ (v : BoardView). v.budget) c.4) (ap (λ (v : BoardView). v.origin) c.4);
          ends = (shut, sound.past end limit shut);
          makes = (held, step, step_made, c);
        }
    cut_off new DiskFault sound c = record {
      same = search_after new (ap (λ (v : BoardView). v.instance) c.1) (ap (λ (v : BoardView). v.budget) c.1) (ap (λ (v : BoardView). v.origin) c.1);
      ends = ap (λ (v : BoardView). v.shut) c.1;
      makes = (held, step, step_made, c);
    }
    cut_off new NoMemory sound c = gave_up new c

    pub round_made : (new : BoardView) (kept : Kept) → IsSoundBoard new → Commits 0 step held new kept → IsRound old new
    round_made new kept sound m = record { held = held; step = step; makes = step_made; kept = kept; commits = m; book = sound.book; folds = sound.folds }

    -- the round, and the news of its commit
    pub round_tells : (new : BoardView) (kept : Kept) (after : Option Told) → IsSoundBoard new → Commits 0 step held new kept → after ≡ Some (news_of k kept)
        → (round : IsRound old new) × (after ≡ Some (news_of round.makes.node round.kept))
    round_tells new kept after sound m told =
        (record { held = held; step = step; makes = record { node = k; floor = floor; best = best; takes = t; advice = advice; decides = decides }; kept = kept; commits = m; book = sound.book; folds = sound.folds }, told)

-- a board after a round
round_idle : (old new : BoardView) → IsIdle old → IsRound old new → IsIdle new
round_idle old new idle r = record {
  running = ap (λ (v : BoardView). v.shut) r.commits.makes ∙ held_shut old r.held r.makes.node r.makes.floor r.makes.best idle r.makes.takes;
  going = ap (λ (v : BoardView). v.halted) r.commits.makes ∙ held_halted old r.held r.makes.node r.makes.floor r.makes.best idle r.makes.takes;
  empty = ap (λ (v : BoardView). v.hands) r.commits.makes ∙ ap (λ (l : List (Option ℕ)). set l 0 None) (held_hands old r.held r.makes.node r.makes.floor r.makes.best idle r.makes.takes);
}

round_taken : (old new : BoardView) → IsRound old new → new.taken ≡ old.taken + 1
round_taken old new r = ap (λ (v : BoardView). v.taken) r.commits.makes ∙ ap (λ (v : BoardView). v.taken) r.makes.takes.4

round_same : (old new : BoardView) → IsRound old new → IsSameSearch old new
round_same old new r = record {
  instance = ap (λ (v : BoardView). v.instance) r.commits.makes ∙ ap (λ (v : BoardView). v.instance) r.makes.takes.4;
  budget = ap (λ (v : BoardView). v.budget) r.commits.makes ∙ ap (λ (v : BoardView). v.budget) r.makes.takes.4;
  origin = ap (λ (v : BoardView). v.origin) r.commits.makes ∙ ap (λ (v : BoardView). v.origin) r.makes.takes.4;
}

same_on : (old mid new : BoardView) → IsSameSearch old mid → IsSameSearch mid new → IsSameSearch old new
same_on old mid new one two = record { instance = two.instance ∙ one.instance; budget = two.budget ∙ one.budget; origin = two.origin ∙ one.origin }

pub start_run : (v : BoardView) → v.taken ≡ 0 → IsIdle v → IsRun v v None
start_run v fresh idle = record { same = record { instance = refl; budget = refl; origin = refl }; last = v; rounds = subst (AreRounds v v) (sym fresh) none; end = (refl, idle) }

pub next_run : (old mid new : BoardView) (how : Option RunEnd) → IsRun old mid None → MatchOption how (IsRound mid new) (IsEnded mid new) → IsRun old new how
next_run old mid new None run r =
    let rounds : AreRounds old mid mid.taken = subst (λ (v : BoardView). AreRounds old v v.taken) (sym run.end.0) run.rounds in
    record {
      same = same_on old mid new run.same (round_same mid new r);
      last = new;
      rounds = subst (AreRounds old new) (sym (round_taken mid new r)) (one_more mid new mid.taken rounds r);
      end = (refl, round_idle mid new run.end.1 r);
    }
next_run old mid new (Some how) run e =
    record { same = same_on old mid new run.same e.same; last = mid; rounds = subst (λ (v : BoardView). AreRounds old v v.taken) (sym run.end.0) run.rounds; end = e }

-- ---- what the adviser was told last

-- a run so far, with what its adviser was told last, before it and by now
pub record IsToldRun (old new : BoardView) (how : Option RunEnd) (before after : Option Told) : Type 0 where
  pub last : BoardView
  pub rounds : AreToldRounds old before last last.taken after
  pub end : MatchOption how (new ≡ last) (EndMakes last new)

pub start_told : (v : BoardView) (before : Option Told) → v.taken ≡ 0 → IsToldRun v v None before before
start_told v before fresh = record { last = v; rounds = subst (λ (n : ℕ). AreToldRounds v before v n before) (sym fresh) untold; end = refl }

pub next_told : (old mid new : BoardView) (how : Option RunEnd) (before earlier after : Option Told) → IsToldRun old mid None before earlier → RoundTells mid new earlier after how → IsToldRun old new how before after
next_told old mid new None before earlier after run r =
    let rounds : AreToldRounds old before mid mid.taken earlier = subst (λ (v : BoardView). AreToldRounds old before v v.taken earlier) (sym run.end) run.rounds in
    let more : AreToldRounds old before new (mid.taken + 1) (Some (news_of r.0.makes.node r.0.kept)) = told_more mid new mid.taken earlier rounds r.0 in
    let counted : AreToldRounds old before new new.taken (Some (news_of r.0.makes.node r.0.kept)) =
    subst (λ (n : ℕ). AreToldRounds old before new n (Some (news_of r.0.makes.node r.0.kept))) (sym (round_taken mid new r.0)) more in
    record { last = new; rounds = subst (AreToldRounds old before new new.taken) (sym r.1) counted; end = refl }
next_told old mid new (Some how) before earlier after run e =
    record {
      last = mid;
      rounds = subst (AreToldRounds old before mid mid.taken) (sym e.1) (subst (λ (v : BoardView). AreToldRounds old before v v.taken earlier) (sym run.end) run.rounds);
      end = e.0.makes;
    }

pub run_tells : (old new : BoardView) (how : RunEnd) (before after : Option Told) → IsToldRun old new (Some how) before after → RunTells old new how before after
run_tells old new how before after run = record { last = run.last; rounds = run.rounds; end = run.end }

-- ---- the measure

abbrev pub steps_left : ℕ → ℕ → Option RunEnd → ℕ
steps_left budget taken None = 1 + budget - taken
steps_left budget taken (Some how) = 0

-- ---- how many steps a run committed

-- ---- what the end of a run leaves

end_history : (old new : BoardView) (how : RunEnd) → EndMakes old new how → new.history ≡ old.history
end_history old new Finished e = ap (λ (v : BoardView). v.history) e
end_history old new Spent e = ap (λ (v : BoardView). v.history) e
end_history old new Stopped e = ap (λ (v : BoardView). v.history) e
end_history old new (Full end limit) e = let c = e.3 in ap (λ (v : BoardView). v.history) c.4 ∙ ap (λ (v : BoardView). v.history) e.2.takes.4
end_history old new DiskFault e = let c = e.3 in ap (λ (v : BoardView). v.history) c.1 ∙ ap (λ (v : BoardView). v.history) e.2.takes.4
end_history old new NoMemory e = let t = e.4 in ap (λ (v : BoardView). v.history) e.5 ∙ ap (λ (v : BoardView). v.history) t.4

-- a run that was cut off has taken a step more than it committed, for a node that was open
record IsCut (old new : BoardView) : Type 0 where
  more : new.taken ≡ old.taken + 1
  node : ℕ
  opened : is_node_and (book_at old) node (is_open (book_at old)) ≡ true

cut_of : (old held new : BoardView) (k floor best : ℕ) → TakeMakes (TakenNode k floor best) 0 old held → new.taken ≡ held.taken → IsCut old new
cut_of old held new k floor best t same = record { more = same ∙ ap (λ (v : BoardView). v.taken) t.4; node = k; opened = (and_parts _ _ t.1.free).0 }

end_cut : (old new : BoardView) (how : RunEnd) → EndMakes old new how → (new ≡ old) × (is_whole how ≡ true) ⊎ IsCut old new × (is_whole how ≡ false)
end_cut old new Finished e = inl (e, refl)
end_cut old new Spent e = inl (e, refl)
end_cut old new Stopped e = inl (e, refl)
end_cut old new (Full end limit) e = let m = e.2 in let c = e.3 in inr (cut_of old e.0 new m.node m.floor m.best m.takes (ap (λ (v : BoardView). v.taken) c.4), refl)
end_cut old new DiskFault e = let m = e.2 in let c = e.3 in inr (cut_of old e.0 new m.node m.floor m.best m.takes (ap (λ (v : BoardView). v.taken) c.1), refl)
end_cut old new NoMemory e = inr (cut_of old e.0 new e.1 e.2 e.3 e.4 (ap (λ (v : BoardView). v.taken) e.5), refl)

-- ---- what a run that ended has made

module _ (old new : BoardView) (how : RunEnd) (b : Book) (folds : book_of old.instance old.history ≡ Some b) (run : IsRun old new (Some how)) where
  last_made : Made old.instance old run.last run.last.taken
  last_made = rounds_made old.instance old run.last run.last.taken b refl folds run.rounds

  last_history : new.history ≡ run.last.history
  last_history = end_history run.last new how run.end.makes

  pub run_begins : IsFront old.history new.history
  run_begins = begins old.instance old run.last run.last.taken new.history last_made last_history

  pub run_makes : RunMakes old new how
  run_makes = record { last = run.last; rounds = run.rounds; end = run.end.makes }

  committed_before : committed how new.taken ≡ run.last.taken
  committed_before =
      elim (end_cut run.last new how run.end.makes) [
        | inl e ↦ ap (λ (t : Bool). cond t new.taken (new.taken - 1)) e.1 ∙ ap (λ (v : BoardView). v.taken) e.0
        | inr e ↦
            let more : new.taken ≡ run.last.taken + 1 = e.0.more in
            let less : new.taken - 1 ≡ run.last.taken = omega arith in
            ap (λ (t : Bool). cond t new.taken (new.taken - 1)) e.1 ∙ less
      ]

  pub run_posts : committed how new.taken ≤ plans_and_prices_since old.history new.history
  run_posts =
      subst (λ n. n ≤ plans_and_prices_since old.history new.history) (sym committed_before)
      (subst (λ (l : List Post). run.last.taken ≤ plans_and_prices_since old.history l) (sym last_history) (counts old.instance old run.last run.last.taken last_made))

  pub run_few : new.taken ≤ steps_enough old.instance
  run_few =
      elim (end_cut run.last new how run.end.makes) [
        | inl e ↦ subst (λ (v : BoardView). v.taken ≤ steps_enough old.instance) (sym e.0) (few_rounds old.instance old run.last run.last.taken last_made)
        | inr e ↦ subst (λ n. n ≤ steps_enough old.instance) (sym e.0.more) (fewer_rounds old.instance old run.last run.last.taken e.0.node last_made e.0.opened)
      ]

  pub run_enough : steps_enough old.instance ≤ old.budget → how ≡ Spent → ⊥
  run_enough enough spent =
      let ends : RunEnds new Spent = subst (RunEnds new) spent run.end.ends in
      let same : new ≡ run.last = subst (EndMakes run.last new) spent run.end.makes in
      not_spent old.instance old run.last run.last.taken old.budget last_made
      (sym (ap (λ (v : BoardView). is_finished (book_at v)) same) ∙ ends.1)
      (sym (ap (λ (v : BoardView). v.taken) same) ∙ ends.2 ∙ run.same.budget)
      enough
