use Rattle.greedy.proofs.Common.{◌≡◌, ◌∙◌, sym, rules, eqb-true}
use Rattle.greedy.proofs.RowSteps.{alike_is}
use Rattle.greedy.proofs.rows.is_alike.Goals as goal
use Rattle.greedy.proofs.rows.is_alike.Goals.{then-a-b, else-a-b}

pub returns-then-a-b-2 : goal.returns-then-a-b-2
returns-then-a-b-2 c =
    elim c.if-a-b.branch [
      | then-a-b w ↦
          let shift : c.args.a.now.shift ≡ c.args.b.now.shift = search rules in
          let day : c.args.a.now.day ≡ c.args.b.now.day = search rules in
          alike_is c.args.a.now c.args.b.now c.is_same.result c.is_same.ensures shift day
      | else-a-b w ↦ absurd (w.if-a-b.false (eqb-true c.args.a.now.shift c.args.b.now.shift (sym w.value-is ∙ c.if-a-b-2.true)))
    ]
