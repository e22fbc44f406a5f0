use Rattle.break_rules.proofs.Common.{◌∙◌, sym}
use Rattle.break_rules.proofs.Lesser.{less_stop, less_out, less_end}
use Rattle.break_rules.proofs.order.is_less_list.Goals as goal
use Rattle.break_rules.proofs.order.is_less_list.Goals.{then-b-i-via-then-b-i, then-b-i-via-else-b-i+then-is_less_break}

pub returns-then-b-i : goal.returns-then-b-i
returns-then-b-i c =
    let a = c.args.a.now in
    let b = c.args.b.now in
    let l = c.loop-i in
    elim c.then-b-i.branch [
      | then-b-i-via-then-b-i w ↦ less_out a b l.i (record { start = 0; len = 0 }) c.loop-i-test.true w.if-b-i.true l.invariant.rest
      | then-b-i-via-else-b-i+then-is_less_break w ↦ less_stop a b l.i (record { start = 0; len = 0 }) (record { start = 0; len = 0 }) c.loop-i-test.true w.if-b-i.false l.invariant.rest (sym w.is_less_break.ensures ∙ w.if-is_less_break.true)
    ]

pub returns : goal.returns
returns c = less_end c.args.a.now c.args.b.now c.loop-i.i c.loop-i-test.false c.loop-i.auto.i-end c.loop-i.invariant.rest
