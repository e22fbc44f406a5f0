use Rattle.solve_runs.proofs.Common.{◌∙◌, ap, sym, subst, ℕ, List, map, Result, SearchView, OverDisk, SearchEnds, met_of, SinkMet}
use Rattle.std.specs.Prelude.{true}
use Rattle.solve_runs.proofs.Telling.{Element}
use Rattle.solve_runs.proofs.Written.{over_book, same_end, without_book}
use Rattle.solve_runs.proofs.run.end_search.Goals as goal

pub returns-in-Ok-clause-status : goal.returns-in-Ok-clause-status
returns-in-Ok-clause-status g c = λ disk workers budget before ends enough.
    let K = g.D.Disk in
    let heard : Element c.args.searched.advisers.items → ℕ = λ a. (goal.Adviser-dyn g (a.vtable, a.value)).told a.value in
    let after : List ℕ = map heard c.args.searched.advisers.items in
    let book = c.in-Ok.book in
    let found = subst (λ (b : Result (SearchView _) _). SearchEnds K.reads K.images K.images_since K.calls K.faults disk c.args.instance.now workers budget (record { before = before; after = after }) b c.args.searched.end) c.in-Ok.is ends in
    let sink : SinkMet = record { held = g.K.Sink.held c.args.out.now; held_after = g.K.Sink.held c.write_end-status.new.out; faults = (g.K.Sink.faults c.args.out.now, g.K.Sink.faults c.write_end-status.new.out) } in
    subst (λ d. OverDisk (met_of K.reads K.images K.images_since K.calls K.faults disk d) sink c.args.instance.now c.args.table budget workers (record { before = before; after = after }) true c.write_end-status.result) (sym c.into_disk.ensures)
    (over_book K.reads K.images K.images_since K.calls K.faults disk c.args.instance.now workers budget (record { before = before; after = after }) sink c.args.table book c.args.searched.end c.write_end-status.result found c.requires.going c.write_end-status.ensures.status)

pub returns-in-Err-clause-status : goal.returns-in-Err-clause-status
returns-in-Err-clause-status g c = λ disk workers budget before ends enough.
    let K = g.D.Disk in
    let heard : Element c.args.searched.advisers.items → ℕ = λ a. (goal.Adviser-dyn g (a.vtable, a.value)).told a.value in
    let after : List ℕ = map heard c.args.searched.advisers.items in
    let e = c.unopened.ensures in
    let found = subst (λ (b : Result (SearchView _) _). SearchEnds K.reads K.images K.images_since K.calls K.faults disk c.args.instance.now workers budget (record { before = before; after = after }) b c.args.searched.end) c.in-Err.is ends in
    let sink : SinkMet = record { held = g.K.Sink.held c.args.out.now; held_after = g.K.Sink.held c.args.out.now; faults = (g.K.Sink.faults c.args.out.now, g.K.Sink.faults c.args.out.now) } in
    same_end K.reads K.images K.images_since K.calls K.faults disk sink c.args.instance.now c.args.table budget workers before
    _ c.in-Err.disk _ after _ _ _ _ e.2 (ap (λ v. map heard v.items) e.1) e.3 (e.0 ∙ c.status_at.ensures)
    (without_book K.reads K.images K.images_since K.calls K.faults disk c.args.instance.now workers budget (record { before = before; after = after }) sink c.args.table c.in-Err.disk c.args.searched.end enough found)
