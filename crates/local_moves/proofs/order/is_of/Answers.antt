use Rattle.local_moves.proofs.Common.{◌≡◌, ◌∙◌, sym, rules, row_of, alike_is}
use Rattle.std.proofs.lemmas.Bool.{eqb-true}
use Rattle.local_moves.proofs.order.is_of.Goals as goal
use Rattle.local_moves.proofs.order.is_of.Goals.{then-row-duty, else-row-duty}

pub returns-then-row-duty-2 : goal.returns-then-row-duty-2
returns-then-row-duty-2 c =
    elim c.if-row-duty.branch [
      | then-row-duty w ↦
          let shift : c.args.row.now.shift ≡ c.args.duty.now.shift = search rules in
          let day : c.args.row.now.day ≡ c.args.duty.now.day = search rules in
          alike_is c.args.row.now (row_of c.args.duty.now 1) c.is_same.result c.is_same.ensures shift day
      | else-row-duty w ↦ absurd (w.if-row-duty.false (eqb-true c.args.row.now.shift c.args.duty.now.shift (sym w.value-is ∙ c.if-row-duty-2.true)))
    ]
