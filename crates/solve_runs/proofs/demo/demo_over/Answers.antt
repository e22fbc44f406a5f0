use Rattle.solve_runs.proofs.Common.{◌∙◌, ℕ, sym, ap, map, arith, length-map, is_reported, ToldMet, SinkMet, status_at}
use Rattle.plan_base.specs.contracts.mem_disk.MemDiskDisk.TheImpl.{ghosts}
use Rattle.solve_runs.proofs.Ending.{stopped_run}
use Rattle.solve_runs.proofs.Telling.{Element}
use Rattle.solve_runs.proofs.Demos.{demonstrated, demonstrated_in_part, forgotten, one_untold}
use Rattle.solve_runs.proofs.demo.demo_over.Goals as goal

pub status_at-requires : goal.status_at-requires
status_at-requires g c = λ is. c.search_all-how.ensures.going (stopped_run c.search_all-how.result (sym c.end_of-end.ensures ∙ is))

pub returns-in-Ok-Ok-clause-status : goal.returns-in-Ok-Ok-clause-status
returns-in-Ok-Ok-clause-status g c =
    let sink : SinkMet = record { held = g.K.Sink.held c.args.out.now; held_after = g.K.Sink.held c.write_line.new.out; faults = (g.K.Sink.faults c.args.out.now, g.K.Sink.faults c.write_line.new.out) } in
    let heard : Element c.args.advisers.items → ℕ = λ a. (goal.Adviser-dyn g (a.vtable, a.value)).told a.value in
    let advisers : ToldMet = record { before = map heard c.args.advisers.items; after = map heard c.search_all-how.new.advisers.items } in
    let e = c.with_book.ensures in
    let some = ap is_reported (sym c.end_of-end.ensures) ∙ sym c.is_reported.ensures ∙ c.if-not-is_reported.false in
    demonstrated _ _ _ ghosts.faults c.args.number c.args.steps c.args.instance.now c.in-Ok.book c.search_all-how.new.book c.search_all-how.result c.requires.generated some
    c.in-Ok.ensures.new c.search_all-how.ensures.searches e.running e.fault e.told sink advisers (_, c.search_all-how.ensures.told, c.search_all-how.ensures.committed some) (map heard c.with_book.result.advisers.items) (ap (λ v. map heard v.items) e.advisers)
    _ _ (e.status ∙ c.status_at.ensures ∙ ap status_at c.end_of-end.ensures) e.disk (rw c.in-Ok-Ok.field-0-is at c.in-Ok-Ok.ensures.ok)

pub returns-in-Ok-Err-clause-status : goal.returns-in-Ok-Err-clause-status
returns-in-Ok-Err-clause-status g c =
    let sink : SinkMet = record { held = g.K.Sink.held c.args.out.now; held_after = g.K.Sink.held c.write_line.new.out; faults = (g.K.Sink.faults c.args.out.now, g.K.Sink.faults c.write_line.new.out) } in
    let heard : Element c.args.advisers.items → ℕ = λ a. (goal.Adviser-dyn g (a.vtable, a.value)).told a.value in
    let advisers : ToldMet = record { before = map heard c.args.advisers.items; after = map heard c.search_all-how.new.advisers.items } in
    let e = c.with_book-in-Ok-Err.ensures in
    let some = ap is_reported (sym c.end_of-end.ensures) ∙ sym c.is_reported.ensures ∙ c.if-not-is_reported.false in
    let part = rw c.in-Ok-Err.field-0-is at c.in-Ok-Err.ensures.part in
    demonstrated_in_part _ _ _ ghosts.faults c.args.number c.args.steps c.args.instance.now c.in-Ok.book c.search_all-how.new.book c.search_all-how.result c.requires.generated some
    c.in-Ok.ensures.new c.search_all-how.ensures.searches e.running e.fault e.told sink advisers (_, c.search_all-how.ensures.told, c.search_all-how.ensures.committed some) (map heard c.with_book-in-Ok-Err.result.advisers.items) (ap (λ v. map heard v.items) e.advisers)
    _ _ e.status e.disk part.0 part.1

pub returns-in_default-clause-status : goal.returns-in_default-clause-status
returns-in_default-clause-status g c =
    let heard : Element c.args.advisers.items → ℕ = λ a. (goal.Adviser-dyn g (a.vtable, a.value)).told a.value in
    let e = c.no_memory.ensures in
    let first = map heard c.args.advisers.items in
    forgotten _ _ _ 0 first first (map heard c.no_memory.result.advisers.items) _ c.no_memory.result.disk c.no_memory.result.status e.0 e.2 (ap (λ v. map heard v.items) e.1)
    (one_untold first (length-map c.args.advisers.items heard ∙ omega (arith, c.args.advisers.ok, c.requires.one)))

pub returns-then-not-is_reported-clause-status : goal.returns-then-not-is_reported-clause-status
returns-then-not-is_reported-clause-status g c =
    let heard : Element c.args.advisers.items → ℕ = λ a. (goal.Adviser-dyn g (a.vtable, a.value)).told a.value in
    let e = c.no_memory-then-not-is_reported.ensures in
    let back = c.no_memory-then-not-is_reported.result in
    forgotten _ _ _ _ (map heard c.args.advisers.items) (map heard c.search_all-how.new.advisers.items) (map heard back.advisers.items) _ back.disk back.status e.0 e.2 (ap (λ v. map heard v.items) e.1)
    c.search_all-how.ensures.told

pub returns-in-Err : goal.returns-in-Err
returns-in-Err g c =
    let heard : Element c.args.advisers.items → ℕ = λ a. (goal.Adviser-dyn g (a.vtable, a.value)).told a.value in
    let e = c.no_memory-in-Err.ensures in
    let back = c.no_memory-in-Err.result in
    record {
      status =
          forgotten _ _ _ _ (map heard c.args.advisers.items) (map heard c.search_all-how.new.advisers.items) (map heard back.advisers.items) _ back.disk back.status e.0 e.2 (ap (λ v. map heard v.items) e.1)
          c.search_all-how.ensures.told;
      unwritten = λ early. c.in-Err.ensures.unwritten;
    }
