use Rattle.solve_runs.proofs.Common.{◌∙◌, ℕ, List, ap, inl, refl, subst, sym, map, vec_len, end_of, end_unopened, HasSearched, ToldMet, met_of}
use Rattle.solve_runs.proofs.Ending.{never_stopped, not_opened, same_answer, stopped_run}
use Rattle.solve_runs.proofs.Sessions.{has_searched, Known, on_some, whatever}
use Rattle.solve_runs.proofs.Telling.{map_through, untold_of, Element}
use Rattle.solve_runs.proofs.search.search_with.Goals as goal

pub returns-in_default-clause-ended : goal.returns-in_default-clause-ended
returns-in_default-clause-ended g c =
    let K = g.D.Disk in
    let e = c.unopened.ensures in
    let heard : Element c.args.advisers.items → ℕ = λ a. (goal.Adviser-dyn g (a.vtable, a.value)).told a.value in
    same_answer K.reads K.images K.images_since K.calls K.faults c.args.disk c.args.instance.now (vec_len c.args.advisers) c.args.steps (map heard c.args.advisers.items) _ (map heard c.args.advisers.items)
    _ _ _ _ e.1 (ap (λ v. map heard v.items) e.2) e.0
    (whatever (K.reads c.args.disk) (λ image since. inl ((g.met.D.Disk g.world.𝓛 g.world.𝓜 g.world.𝓡 ((λ s x. x), (λ x. x), (λ x. x), λ x. x)).only_now c.args.disk image since)), untold_of heard (vec_len c.args.advisers) c.args.advisers.items c.args.advisers.ok.0, inl refl)

pub returns-in-Err-clause-ended : goal.returns-in-Err-clause-ended
returns-in-Err-clause-ended g c =
    let K = g.D.Disk in
    let e = c.in-Err.ensures in
    let left = c.in-Err.left in
    let end = c.unopened-in-Err.ensures in
    let heard : Element c.args.advisers.items → ℕ = λ a. (goal.Adviser-dyn g (a.vtable, a.value)).told a.value in
    let before : List ℕ = map heard c.args.advisers.items in
    let told : ToldMet = record { before = before; after = before } in
    same_answer K.reads K.images K.images_since K.calls K.faults c.args.disk c.args.instance.now (vec_len c.args.advisers) c.args.steps before _ before
    _ _ _ (end_unopened left.fault) end.1 (ap (λ v. map heard v.items) end.2) (end.0 ∙ c.end_unopened.ensures)
    (not_opened (met_of K.reads K.images K.images_since K.calls K.faults c.args.disk left.disk) c.args.instance.now (vec_len c.args.advisers) told left.fault
    (untold_of heard (vec_len c.args.advisers) c.args.advisers.items c.args.advisers.ok.0) e.content e.cause e.only (on_some (K.reads c.args.disk) (λ held. held.between) e.any_moment))

pub returns-in-Err-clause-stopped : goal.returns-in-Err-clause-stopped
returns-in-Err-clause-stopped g c = λ is. absurd (never_stopped c.in-Err.left.fault (sym c.end_unopened.ensures ∙ sym c.unopened-in-Err.ensures.0 ∙ is))

pub returns-in-Ok-open-clause-ended : goal.returns-in-Ok-open-clause-ended
returns-in-Ok-open-clause-ended g c =
    let K = g.D.Disk in
    let i = c.args.instance.now in
    let old = c.in-Ok-open.book in
    let new = c.search_by-book.result.0 in
    let e = c.in-Ok-open.ensures in
    let b = c.batches-made.ensures in
    let law = g.met.D.Disk g.world.𝓛 g.world.𝓜 g.world.𝓡 ((λ s x. x), (λ x. x), (λ x. x), λ x. x) in
    let known : Known K.reads K.images K.images_since K.calls K.faults c.args.disk i old new = record {
      begins = e.begins;
      opens = e.folds;
      empty = e.idle.0;
      going = e.idle.3;
      found = e.found;
      begun = e.least;
      four = e.four;
      later = e.faults;
      on = c.search_by-book.ensures.goes_on;
      lasts = b.lasts;
      running = b.running;
      all = b.all;
      single = b.single;
      moment = b.moment;
      most = b.most;
      telling = b.telling;
      fault = b.fault;
      now_counts = law.now_counts;
    } in
    let heard : Element c.args.advisers.items → ℕ = λ a. (goal.Adviser-dyn g (a.vtable, a.value)).told a.value in
    let seats = c.seats_of.new.seats in
    let left = c.search_by-book.result.1 in
    let how = c.search_by-book.result.2 in
    let first : List ℕ = map (λ s. heard s.adviser) seats.items in
    let last : List ℕ = map (λ s. heard s.adviser) left.items in
    let before : List ℕ = map heard c.args.advisers.items in
    let after : List ℕ = map heard c.advisers_of.new.advisers.items in
    let searched = has_searched K.reads K.images K.images_since K.calls K.faults c.args.disk i old new (vec_len seats) (record { before = first; after = last }) known how c.search_by-book.ensures.ends in
    let by_budget = subst (λ (n : ℕ). HasSearched K.reads K.images K.images_since K.calls K.faults c.args.disk i (vec_len seats) n (record { before = first; after = last }) new (end_of how)) e.idle.2 searched in
    let by_workers = subst (λ (n : ℕ). HasSearched K.reads K.images K.images_since K.calls K.faults c.args.disk i n c.args.steps (record { before = first; after = last }) new (end_of how)) c.seats_of.ensures.len by_budget in
    let by_first = subst (λ (l : List ℕ). HasSearched K.reads K.images K.images_since K.calls K.faults c.args.disk i (vec_len c.args.advisers) c.args.steps (record { before = l; after = last }) new (end_of how)) (map_through (λ s. s.adviser) heard seats.items c.args.advisers.items c.seats_of.ensures.seats) by_workers in
    let by_last = subst (λ (l : List ℕ). HasSearched K.reads K.images K.images_since K.calls K.faults c.args.disk i (vec_len c.args.advisers) c.args.steps (record { before = before; after = l }) new (end_of how)) (map_through (λ s. s.adviser) heard left.items c.advisers_of.new.advisers.items (sym c.advisers_of.ensures)) by_first in
    subst (λ end. HasSearched K.reads K.images K.images_since K.calls K.faults c.args.disk i (vec_len c.args.advisers) c.args.steps (record { before = before; after = after }) new end) (sym c.end_of.ensures) by_last

pub returns-in-Ok-open-clause-stopped : goal.returns-in-Ok-open-clause-stopped
returns-in-Ok-open-clause-stopped g c = λ is. c.search_by-book.ensures.stopped (stopped_run c.search_by-book.result.2 (sym c.end_of.ensures ∙ is))
