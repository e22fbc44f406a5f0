use Rattle.solve_runs.proofs.Common.{◌∙◌, sym, ap, min, length-map}
use Rattle.solve_runs.proofs.search.workers_for.Goals as goal

pub returns : goal.returns
returns g c = c.min.ensures ∙ ap (min 16) (sym (length-map c.args.advisers.now (λ a. (goal.Adviser-dyn g (a.vtable, a.value)).told a.value)))
