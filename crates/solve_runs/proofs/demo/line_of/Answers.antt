use Rattle.solve_runs.proofs.Common.{◌≡◌, ℕ, subst, List}
use Rattle.std.specs.Prelude.{IfOk}
use Rattle.solve_runs.proofs.Demos.{same_line}
use Rattle.solve_runs.proofs.demo.line_of.Goals as goal

pub returns : goal.returns
returns g c =
    let K = g.D.Disk in
    subst (λ (text : List ℕ). IfOk c.demo_line.result (λ bytes. bytes.items ≡ text))
    (same_line K.reads K.calls K.faults c.args.number c.args.book.now c.finished.result c.best_cost.result c.floor.result c.taken.result c.finished.ensures c.best_cost.ensures c.floor.ensures.floor c.taken.ensures)
    c.demo_line.ensures
