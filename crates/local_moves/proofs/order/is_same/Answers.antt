use Rattle.local_moves.proofs.Common.{◌≡◌, ◌∙◌, sym, rules, row_of, alike_is}
use Rattle.std.proofs.lemmas.Bool.{eqb-true}
use Rattle.local_moves.proofs.order.is_same.Goals as goal
use Rattle.local_moves.proofs.order.is_same.Goals.{then-a-b, else-a-b}

pub returns-then-a-b-2 : goal.returns-then-a-b-2
returns-then-a-b-2 c =
    elim c.if-a-b.branch [
      | then-a-b w ↦
          let shift : c.args.a.now.shift ≡ c.args.b.now.shift = search rules in
          let day : c.args.a.now.day ≡ c.args.b.now.day = search rules in
          alike_is (row_of c.args.a.now 1) (row_of c.args.b.now 1) c.is_same.result c.is_same.ensures shift day
      | else-a-b w ↦ absurd (w.if-a-b.false (eqb-true c.args.a.now.shift c.args.b.now.shift (sym w.value-is ∙ c.if-a-b-2.true)))
    ]
