use Rattle.solve_runs.proofs.Common.{◌≡◌, subst, sym, IfOk, string_bytes, status_text, Status}
use Rattle.solve_runs.proofs.status.status_line.Goals as goal

pub returns-in-Workers : goal.returns-in-Workers
returns-in-Workers c =
    subst (λ (s : Status). IfOk c.format-in-Workers.result (λ line. string_bytes line ≡ status_text s)) (sym c.in-Workers.is) c.format-in-Workers.ensures.ok
