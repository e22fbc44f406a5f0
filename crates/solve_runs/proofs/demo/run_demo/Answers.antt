use Rattle.solve_runs.proofs.Common.{◌∙◌, ℕ, ap, map, arith, length-map}
use Rattle.solve_runs.proofs.Telling.{Element}
use Rattle.solve_runs.proofs.Demos.{forgotten, one_untold}
use Rattle.solve_runs.proofs.demo.run_demo.Goals as goal

pub returns-in-Err-clause-status : goal.returns-in-Err-clause-status
returns-in-Err-clause-status g c =
    let heard : Element c.args.advisers.items → ℕ = λ a. (goal.Adviser-dyn g (a.vtable, a.value)).told a.value in
    let e = c.no_memory.ensures in
    let first = map heard c.args.advisers.items in
    forgotten _ _ _ 0 first first (map heard c.no_memory.result.advisers.items) _ c.no_memory.result.disk c.no_memory.result.status e.0 e.2 (ap (λ v. map heard v.items) e.1)
    (one_untold first (length-map c.args.advisers.items heard ∙ omega (arith, c.args.advisers.ok, c.requires.one)))
