use Rattle.local_moves.proofs.Common.{◌≡◌, ◌++◌, replicate, rules, duty_of}
use Rattle.local_moves.proofs.Reshifts.{own_next, own_other}
use Rattle.local_moves.proofs.reshifting.duties_with.Goals as goal
use Rattle.local_moves.proofs.reshifting.duties_with.Goals.{then-row-shift+in_ok-add_copies, else-row-shift}

pub loop-row-preserved : goal.loop-row-preserved
loop-row-preserved c =
    let rows = c.args.rows.now in
    let r = c.row-item.result in
    elim c.if-row-shift.branch [
      | then-row-shift+in_ok-add_copies w ↦
          let more : c.if-row-shift.duties.items ≡ c.loop-row.duties.items ++ replicate r.count (duty_of r) = search rules in
          own_next c.args.shift rows c.loop-row.row-index r c.loop-row.duties.items c.if-row-shift.duties.items c.loop-row.invariant c.loop-row-test.true c.row-item.is w.if-row-shift.true more
      | else-row-shift w ↦
          let same : c.if-row-shift.duties.items ≡ c.loop-row.duties.items = search rules in
          rw same (own_other c.args.shift rows c.loop-row.row-index r c.loop-row.duties.items c.loop-row.invariant c.loop-row-test.true c.row-item.is w.if-row-shift.false)
    ]
