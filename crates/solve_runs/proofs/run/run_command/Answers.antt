use Rattle.solve_runs.proofs.Common.{◌≡◌, ◌∙◌, ap, inl, inr, refl, sym, ℕ, map, List, arith, vec_len, unwrap_or, length-map, asked, workers_unsaid, Command}
use Rattle.solve_runs.proofs.Explaining.{demo_of_first, ends_turned, no_demonstration, none_in, not_unread, search_explains, some_workers, too_many}
use Rattle.solve_runs.proofs.Limits.{served_are, still_within}
use Rattle.solve_runs.proofs.Telling.{have_same, map_take, Element}
use Rattle.solve_runs.proofs.run.run_command.Goals as goal

pub returns-then-have-asked-clause-status : goal.returns-then-have-asked-clause-status
returns-then-have-asked-clause-status g c =
    let s = c.in-Search in
    let heard : Element c.args.advisers.items → ℕ = λ a. (goal.Adviser-dyn g (a.vtable, a.value)).told a.value in
    let all = have_same heard c.as_slice.result.now c.args.advisers.items c.workers_for-have.result c.workers_for-have.ensures c.as_slice.ensures.value in
    let e = c.early.ensures in
    let command : Command = record { journal = s.journal.now; workers = unwrap_or s.workers workers_unsaid; steps = s.steps; table = s.table } in
    too_many _ c.unwrap_or-workers.result c.workers_for-have.result _ e.0 e.3 (none_in _ _ e.4) (ap (map heard) e.1)
    (inl (command, record { workers = s.workers; method = s.method; turns = s.turns; is = sym (ap asked s.is); all = refl }, sym c.unwrap_or-workers.ensures)) all c.if-have-asked.true

pub run_over-requires-clause-some : goal.run_over-requires-clause-some
run_over-requires-clause-some g c =
    let s = c.in-Search in
    let some = some_workers s.workers (still_within _ _ s.is c.requires.within).0 in
    omega (arith, some, c.unwrap_or-workers.ensures)

pub run_over-requires-clause-steps : goal.run_over-requires-clause-steps
run_over-requires-clause-steps g c =
    let s = c.in-Search in
    let few = (still_within _ _ s.is c.requires.within).1 in
    omega (arith, few)

pub run_over-requires-clause-enough : goal.run_over-requires-clause-enough
run_over-requires-clause-enough g c =
    let heard : Element c.args.advisers.items → ℕ = λ a. (goal.Adviser-dyn g (a.vtable, a.value)).told a.value in
    let all = have_same heard c.as_slice.result.now c.args.advisers.items c.workers_for-have.result c.workers_for-have.ensures c.as_slice.ensures.value in
    omega (arith, all, c.if-have-asked.false)

pub returns-else-have-asked-clause-status : goal.returns-else-have-asked-clause-status
returns-else-have-asked-clause-status g c =
    let s = c.in-Search in
    let heard : Element c.args.advisers.items → ℕ = λ a. (goal.Adviser-dyn g (a.vtable, a.value)).told a.value in
    let all = have_same heard c.as_slice.result.now c.args.advisers.items c.workers_for-have.result c.workers_for-have.ensures c.as_slice.ensures.value in
    let command : Command = record { journal = s.journal.now; workers = c.unwrap_or-workers.result; steps = s.steps; table = s.table } in
    search_explains _ command _
    (record { workers = s.workers; method = s.method; turns = s.turns; is = sym (ap asked s.is); all = c.unwrap_or-workers.ensures }) (omega (arith, all, c.if-have-asked.false))
    (ends_turned _ (λ a. a ≡ asked c.args.command) command _ (c.run_over.ensures.status s.journal.now))

pub returns-else-have-asked-clause-unread : goal.returns-else-have-asked-clause-unread
returns-else-have-asked-clause-unread g c = λ unread.
    let s = c.in-Search in
    let command : Command = record { journal = s.journal.now; workers = c.unwrap_or-workers.result; steps = s.steps; table = s.table } in
    absurd (not_unread _ command _ (ends_turned _ (λ a. a ≡ asked c.args.command) command _ (c.run_over.ensures.status s.journal.now))
    (λ number steps is. no_demonstration (asked c.args.command) s.journal.now s.workers s.steps s.table s.method s.turns number steps (sym (ap asked s.is)) is) unread)

pub returns-else-have-asked-clause-beside : goal.returns-else-have-asked-clause-beside
returns-else-have-asked-clause-beside g c = λ number steps is.
    let s = c.in-Search in
    absurd (no_demonstration (asked c.args.command) s.journal.now s.workers s.steps s.table s.method s.turns number steps (sym (ap asked s.is)) (sym is))

pub returns-then-have-lt1-clause-status : goal.returns-then-have-lt1-clause-status
returns-then-have-lt1-clause-status g c =
    let s = c.in-Demo in
    let heard : Element c.args.advisers.items → ℕ = λ a. (goal.Adviser-dyn g (a.vtable, a.value)).told a.value in
    let all = have_same heard c.as_slice.result.now c.args.advisers.items c.workers_for-have.result c.workers_for-have.ensures c.as_slice.ensures.value in
    let e = c.early-then-have-lt1.ensures in
    too_many _ 1 c.workers_for-have.result _ e.0 e.3 (none_in _ _ e.4) (ap (map heard) e.1) (inr (s.number, s.steps, sym (ap asked s.is), refl)) all c.if-have-lt1.true

pub run_beside-requires-clause-steps : goal.run_beside-requires-clause-steps
run_beside-requires-clause-steps g c =
    let s = c.in-Demo in
    let few = (still_within _ _ s.is c.requires.within).1 in
    omega (arith, few)

pub run_beside-requires-clause-one : goal.run_beside-requires-clause-one
run_beside-requires-clause-one g c =
    let heard : Element c.args.advisers.items → ℕ = λ a. (goal.Adviser-dyn g (a.vtable, a.value)).told a.value in
    let before : List ℕ = map heard c.args.advisers.items in
    let all = have_same heard c.as_slice.result.now c.args.advisers.items c.workers_for-have.result c.workers_for-have.ensures c.as_slice.ensures.value in
    let served = served_are 1 c.workers_for-have.result (vec_len c.args.advisers) (vec_len c.truncate.new.self) before all (omega (arith, length-map c.args.advisers.items heard, c.args.advisers.ok)) (omega (arith, c.if-have-lt1.false)) c.truncate.ensures.len in
    λ κs outlives. served.0

pub returns-else-have-lt1-clause-status : goal.returns-else-have-lt1-clause-status
returns-else-have-lt1-clause-status g c =
    let s = c.in-Demo in
    let heard : Element c.args.advisers.items → ℕ = λ a. (goal.Adviser-dyn g (a.vtable, a.value)).told a.value in
    let before : List ℕ = map heard c.args.advisers.items in
    let all = have_same heard c.as_slice.result.now c.args.advisers.items c.workers_for-have.result c.workers_for-have.ensures c.as_slice.ensures.value in
    demo_of_first _ s.number s.steps c.workers_for-have.result before _ (sym (ap asked s.is)) c.run_beside.ensures.unopened all (omega (arith, c.if-have-lt1.false))
    (ap (map heard) c.truncate.ensures.items ∙ map_take heard 1 c.args.advisers.items) c.run_beside.ensures.status
