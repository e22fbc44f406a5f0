use Rattle.carried_rows.proofs.Common.{List, ◌∷◌, ◌++◌, ap, filter, Row, goes_to}
use Rattle.carried_rows.proofs.Steps.{fit_none}
use Rattle.carried_rows.proofs.carrying.carry_row.Goals as goal

pub returns-then-room-eq0 : goal.returns-then-room-eq0
returns-then-room-eq0 c =
    let goes = goes_to c.args.new.now c.args.before c.args.shift c.args.day in
    λ rest. ap (λ (ys : List Row). c.args.list.now.items ++ ys) (fit_none c.args.shift c.args.room (filter goes rest) (filter goes (c.args.row.now ∷ rest)) c.if-room-eq0.true)
