use Rattle.solve_runs.proofs.Common.{◌∙◌, ap, sym, subst, ℕ, map, met_of}
use Rattle.solve_runs.proofs.Ending.{uncalled}
use Rattle.solve_runs.proofs.Explaining.{none_in, not_early, over_ends, unread_ends}
use Rattle.solve_runs.proofs.Telling.{map_take, Element}
use Rattle.solve_runs.proofs.run.run_over.Goals as goal

pub returns-in-Ok-clause-status : goal.returns-in-Ok-clause-status
returns-in-Ok-clause-status g c = λ journal.
    let heard : Element c.args.advisers.items → ℕ = λ a. (goal.Adviser-dyn g (a.vtable, a.value)).told a.value in
    over_ends _ (record { journal = journal; workers = c.args.request.workers; steps = c.args.request.steps; table = c.args.table }) c.in-Ok.instance _ c.in-Ok.ensures.ok (none_in _ _ c.end_search.ensures.demo)
    (c.end_search.ensures.status c.args.disk c.args.request.workers c.args.request.steps (map heard c.args.advisers.items) c.run_search-searched.ensures.ended c.requires.enough)

pub returns-in-Ok-clause-untouched : goal.returns-in-Ok-clause-untouched
returns-in-Ok-clause-untouched g c = λ early.
    let heard : Element c.args.advisers.items → ℕ = λ a. (goal.Adviser-dyn g (a.vtable, a.value)).told a.value in
    absurd (not_early _ _ c.in-Ok.instance c.args.table c.args.request.steps c.args.request.workers _ c.end_search.result.opened c.end_search.result.status
    (c.end_search.ensures.status c.args.disk c.args.request.workers c.args.request.steps (map heard c.args.advisers.items) c.run_search-searched.ensures.ended c.requires.enough) early)

pub returns-in-Err-clause-status : goal.returns-in-Err-clause-status
returns-in-Err-clause-status g c = λ journal.
    let K = g.D.Disk in
    let heard : Element c.args.advisers.items → ℕ = λ a. (goal.Adviser-dyn g (a.vtable, a.value)).told a.value in
    let e = c.unopened.ensures in
    unread_ends _ (record { journal = journal; workers = c.args.request.workers; steps = c.args.request.steps; table = c.args.table }) c.in-Err.why _ (e.0 ∙ c.status_unread.ensures) e.3 (none_in _ _ e.4)
    (ap (λ v. map heard v.items) e.1 ∙ ap (map heard) c.truncate.ensures.items ∙ map_take heard c.args.request.workers c.args.advisers.items)
    (subst (λ d. Rattle.solve_runs.specs.Session.IsUncalled (met_of K.reads K.images K.images_since K.calls K.faults c.args.disk d)) (sym e.2) (uncalled K.reads K.images K.images_since K.calls K.faults c.args.disk)) c.in-Err.ensures.err
